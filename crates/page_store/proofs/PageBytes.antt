-- Bytes of a page that others were put over.
use Rattle.std.proofs.Common.{◌≡◌, ℕ, ◌<◌, ◌≤◌, List, length, get_or, arith}
use Rattle.std.proofs.lemmas.Grind.{common_steps}
use borrow.Rule.Slice.PartMut.{put_mid}

pub get_within : (xs ys : List ℕ) (n i : ℕ) → length ys ≡ n → n ≤ length xs → i < n → get_or (put_mid 0 n xs ys) i 0 ≡ get_or ys i 0
get_within xs ys n i count within inside = grind (arith, common_steps)
