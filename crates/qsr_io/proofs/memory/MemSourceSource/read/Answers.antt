use Rattle.std.proofs.Common.{◌≡◌, ℕ, ◌+◌, ◌-◌, ◌<◌, List, [], ◌++◌, length, take, drop, min, arith, sym, ap, ◌∙◌}
use Rattle.std.proofs.lemmas.Grind.{common_steps}
use Rattle.std.proofs.lemmas.List.{take-append-drop}
use Rattle.qsr_value.proofs.Lists.{slice_to_end}
use Rattle.qsr_io.proofs.memory.MemSourceSource.read.Goals as goal

drop_more : (at n : ℕ) (xs : List ℕ) → drop n (drop at xs) ≡ drop (at + n) xs
drop_more at n xs = grind (arith, common_steps)

-- what is left begins with what was moved
front_and_rest : (at n : ℕ) (xs out : List ℕ) → take n out ≡ take n (take (length xs - at) (drop at xs)) → drop at xs ≡ take n out ++ drop (at + n) xs
front_and_rest at n xs out same =
    rw same (rw (slice_to_end xs at) (sym (take-append-drop n (drop at xs)) ∙ ap (λ rest. take n (drop at xs) ++ rest) (drop_more at n xs)))

-- where nothing was moved nothing is left
none_left : (at n : ℕ) (xs old new : List ℕ) → length new ≡ length old → n ≡ min (length (take (length xs - at) (drop at xs))) (length old) → n ≡ 0 → 0 < length new → drop (at + n) xs ≡ []
none_left at n xs old new long count none some = grind (arith, common_steps)

pub returns-clause-bytes : goal.returns-clause-bytes
returns-clause-bytes c =
    let copied = rw c.as_slice-2.ensures at c.copy_front-count.ensures.copied in
    let count = rw c.as_slice-2.ensures at c.copy_front-count.ensures.count in
    rw (← c.self.view_is) (front_and_rest _ _ c.self.inside.bytes _ copied, none_left _ _ c.self.inside.bytes _ _ c.copy_front-count.auto.out count)
