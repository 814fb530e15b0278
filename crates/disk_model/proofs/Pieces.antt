-- How the pieces of one write are put together.
use Rattle.std.proofs.Common.{◌≡◌, ℕ, ◌+◌, ◌-◌, ◌<◌, ◌≤◌, List, ◌++◌, length, take, drop, get_or, arith, ◌∙◌, ap, sym, inl, inr}
use Rattle.std.proofs.Math.Seq.{take-add}
use Rattle.std.proofs.lemmas.Grind.{common_steps}
use Rattle.std.proofs.lemmas.Bool.Decides.{leb_tells}
use Rattle.disk_model.specs.Image.{Image, Holds, SameOutside}

-- what is written behind some bytes leaves them
holds_before : (c d : Image) (at n : ℕ) (xs : List ℕ) → Holds c at xs → SameOutside (at + length xs) n c d → Holds d at xs
holds_before c d at n xs holds same i less = same.below (at + i) (omega (arith, less)) ∙ holds i less

get_first : (xs ys : List ℕ) (i : ℕ) → i < length xs → get_or (xs ++ ys) i 0 ≡ get_or xs i 0
get_first xs ys i less = grind (arith, common_steps)

get_second : (xs ys : List ℕ) (i : ℕ) → length xs ≤ i → get_or (xs ++ ys) i 0 ≡ get_or ys (i - length xs) 0
get_second xs ys i above = grind (arith, common_steps)

length_both : (xs ys : List ℕ) → length (xs ++ ys) ≡ length xs + length ys
length_both xs ys = grind (arith, common_steps)

pub holds_both : (c : Image) (at : ℕ) (xs ys : List ℕ) → Holds c at xs → Holds c (at + length xs) ys → Holds c at (xs ++ ys)
holds_both c at xs ys first second i less = elim (leb_tells (length xs) i) [
  | inl above ↦
      let place : at + length xs + (i - length xs) ≡ at + i = omega (arith, above.1) in
      ap c (sym place) ∙ second (i - length xs) (omega (arith, less, above.1, length_both xs ys)) ∙ sym (get_second xs ys i above.1)
  | inr before ↦ first i before.1 ∙ sym (get_first xs ys i before.1)
]

length_front : (done : ℕ) (xs : List ℕ) → done ≤ length xs → length (take done xs) ≡ done
length_front done xs within = grind (arith, common_steps)

-- a piece more
pub holds_more : (c d : Image) (at done count : ℕ) (xs : List ℕ) → done ≤ length xs → Holds c at (take done xs) → SameOutside (at + done) count c d
    → Holds d (at + done) (take count (drop done xs)) → Holds d at (take (done + count) xs)
holds_more c d at done count xs within held same more =
    let front = length_front done xs within in
    rw (take-add done count xs) (holds_both d at (take done xs) (take count (drop done xs)) (holds_before c d at count (take done xs) held (rw front same)) (rw front more))

-- no piece more, whatever became of the places behind
pub holds_still : (c d : Image) (at done count : ℕ) (xs : List ℕ) → done ≤ length xs → Holds c at (take done xs) → SameOutside (at + done) count c d → Holds d at (take done xs)
holds_still c d at done count xs within held same = holds_before c d at count (take done xs) held (rw (length_front done xs within) same)

pub outside_both : (a b c : Image) (at n done m : ℕ) → SameOutside at n a b → SameOutside (at + done) m b c → done + m ≤ n → SameOutside at n a c
outside_both a b c at n done m first second within = record {
  below = λ i less. second.below i (omega (arith, less)) ∙ first.below i less;
  above = λ i above. second.above i (omega (arith, above, within)) ∙ first.above i above;
}
