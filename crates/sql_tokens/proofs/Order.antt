-- The order of the tokens of any text.
use Rattle.std.proofs.Common.{◌≡◌, refl, ℕ, zero, suc, ◌+◌, ◌-◌, ◌≤◌, Bool, true, false, ◌&&◌, if◌then◌else◌, List, [], ◌∷◌, arith}
use Rattle.sql_tokens.specs.declared.token.Token.{Token}
use Rattle.sql_tokens.specs.Tokens.{tokens_from, token_at, is_last, is_number, PlacesRise, EndsOnce}
use Rattle.sql_tokens.specs.Words.{is_blank, begins_name}

-- what holds of both
pub choose : {X : Type 0} (P : X → Type 0) (x : Bool) (a b : X) → P a → P b → P (if x then a else b)
choose P true a b pa pb = pa
choose P false a b pa pb = pb

-- ---- places

pub rises : (bytes : List ℕ) (passed : ℕ) (numbered : Bool) (at least : ℕ) → least ≤ at → PlacesRise least (tokens_from bytes passed numbered at)
unfolding tokens_from
rises [] passed numbered at least h = (h, tt)
rises (b ∷ rest) (suc passed) numbered at least h = rises rest passed numbered (at + 1) least (omega (arith, h))
rises (b ∷ rest) zero numbered at least h =
    choose (PlacesRise least) (numbered && begins_name b) _ _ (h, tt)
    (choose (PlacesRise least) (is_blank b) _ _ (rises rest 0 false (at + 1) least (omega (arith, h))) (
      h,
      choose (PlacesRise (at + 1)) (is_last (token_at b rest).0) _ _ tt
          (rises rest ((token_at b rest).1 - 1) (is_number (token_at b rest).0) (at + 1) (at + 1) (omega arith)),
    ))

-- ---- the last token

ends_behind : (token : Token) (more : List Token) → is_last token.what ≡ false → EndsOnce more → EndsOnce (token ∷ more)
ends_behind token [] e h = absurd h
ends_behind token (next ∷ rest) e h = (e, h)

ends_after : (token : Token) (x : Bool) (more : List Token) → is_last token.what ≡ x → EndsOnce more → EndsOnce (token ∷ (if x then [] else more))
ends_after token true more e h = e
ends_after token false more e h = ends_behind token more e h

pub ends : (bytes : List ℕ) (passed : ℕ) (numbered : Bool) (at : ℕ) → EndsOnce (tokens_from bytes passed numbered at)
unfolding tokens_from
ends [] passed numbered at = refl
ends (b ∷ rest) (suc passed) numbered at = ends rest passed numbered (at + 1)
ends (b ∷ rest) zero numbered at =
    choose EndsOnce (numbered && begins_name b) _ _ refl
    (choose EndsOnce (is_blank b) _ _ (ends rest 0 false (at + 1))
    (ends_after (record { what = (token_at b rest).0; at = at }) (is_last (token_at b rest).0) _ refl
    (ends rest ((token_at b rest).1 - 1) (is_number (token_at b rest).0) (at + 1))))
