-- The definitions at numbers and bytes that were worked out by hand.
use Rattle.std.proofs.Common.{◌≡◌, [], ◌∷◌, sum, refl}
use Rattle.page_store.specs.declared.pages.Sizes.{Sizes}
use Rattle.page_store.specs.Format.{behind_gate, empty_catalogue, head_bytes, head_rest, slot_bytes, slot_front}
use Rattle.page_store.specs.PageOrder.{job_part, parts, start_of}

worked : Sizes
worked = record { table = 8; index = 4; out = 4; image = 8; spill = 8 }

pages : sum (parts worked) ≡ 453
unfolding parts worked
pages = refl

first_slot : start_of (parts worked) (job_part 0 0) ≡ 197
unfolding parts worked
first_slot = refl

last_slot : start_of (parts worked) (job_part 7 1) ≡ 422
unfolding parts worked
last_slot = refl

last_spill : start_of (parts worked) (job_part 7 7) ≡ 445
unfolding parts worked
last_spill = refl

head : head_bytes 165 worked
    ≡ 165 ∷ 81 ∷ 83 ∷ 82 ∷ 83 ∷ 84 ∷ 79 ∷ 82 ∷ 49 ∷ 1 ∷ 0 ∷ 8 ∷ 0 ∷ 0 ∷ 0 ∷ 4 ∷ 0 ∷ 0 ∷ 0 ∷ 4 ∷ 0 ∷ 0 ∷ 0 ∷ 8 ∷ 0 ∷ 0 ∷ 0 ∷ 8 ∷ 0 ∷ 0 ∷ 0 ∷ []
unfolding head_bytes head_rest worked
head = refl

catalogue : slot_bytes 165 0 empty_catalogue ≡ 165 ∷ 0 ∷ 2 ∷ 0 ∷ 0 ∷ 0 ∷ 0 ∷ 0 ∷ 0 ∷ 0 ∷ []
unfolding slot_front behind_gate
catalogue = refl
