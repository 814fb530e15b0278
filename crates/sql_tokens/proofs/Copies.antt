-- One turn of the loop that copies the bytes of a text with one mark for two.
use Rattle.std.proofs.Common.{◌≡◌, refl, sym, ap, ◌∙◌, subst, ℕ, ◌+◌, ◌<◌, ◌==◌, Bool, true, false, cond, not, ◌&&◌, ◌||◌, List, [], ◌∷◌, ◌++◌, length, drop, slice_index, append_assoc}
use Rattle.std.specs.List.{list_any}
use Rattle.std.proofs.lemmas.List.{at_drop_more}
use Rattle.sql_tokens.specs.Text.{undoubled}

here : (marked : Bool) (bytes : List ℕ) (at : ℕ) → at < length bytes → undoubled marked (drop at bytes) ≡ undoubled marked (slice_index bytes at ∷ drop (at + 1) bytes)
here marked bytes at h = at_drop_more (undoubled marked) bytes at 0 h

-- a byte that is kept
kept_turn : (marked : Bool) (b : ℕ) (rest : List ℕ) → (marked && b == 39) ≡ false → undoubled marked (b ∷ rest) ≡ b ∷ undoubled (b == 39 && not marked) rest
kept_turn true b rest e = rw e refl
kept_turn false b rest e = ap (λ x. b ∷ undoubled x rest) (by (b == 39))
  where
    by : (x : Bool) → x ≡ (x && true)
    by true = refl
    by false = refl

-- a mark's second is left out
left_turn : (marked : Bool) (b : ℕ) (rest : List ℕ) → (marked && b == 39) ≡ true → undoubled marked (b ∷ rest) ≡ undoubled (b == 39 && not marked) rest
left_turn true b rest e = rw e refl
left_turn false b rest e = absurd (subst (λ x. cond x ⊥ (Unit {0})) e tt)

pub kept : (said : List ℕ) (marked : Bool) (bytes : List ℕ) (at : ℕ) → at < length bytes → (marked && slice_index bytes at == 39) ≡ false
    → said ++ undoubled marked (drop at bytes) ≡ (said ++ slice_index bytes at ∷ []) ++ undoubled (slice_index bytes at == 39 && not marked) (drop (at + 1) bytes)
kept said marked bytes at h e =
    ap (λ more. said ++ more) (here marked bytes at h ∙ kept_turn marked (slice_index bytes at) (drop (at + 1) bytes) e)
    ∙ sym (append_assoc said (slice_index bytes at ∷ []) (undoubled (slice_index bytes at == 39 && not marked) (drop (at + 1) bytes)))

pub left_out : (said : List ℕ) (marked : Bool) (bytes : List ℕ) (at : ℕ) → at < length bytes → (marked && slice_index bytes at == 39) ≡ true
    → said ++ undoubled marked (drop at bytes) ≡ said ++ undoubled (slice_index bytes at == 39 && not marked) (drop (at + 1) bytes)
left_out said marked bytes at h e = ap (λ more. said ++ more) (here marked bytes at h ∙ left_turn marked (slice_index bytes at) (drop (at + 1) bytes) e)

-- bytes with no mark among them
pub unmarked : (bytes : List ℕ) → list_any (λ b. b == 39) bytes ≡ false → undoubled false bytes ≡ bytes
unmarked [] e = refl
unmarked (b ∷ rest) e = by (b == 39) refl e (unmarked rest)
  where
    by : (x : Bool) → (b == 39) ≡ x → (x || list_any (λ c. c == 39) rest) ≡ false → (list_any (λ c. c == 39) rest ≡ false → undoubled false rest ≡ rest)
        → b ∷ undoubled (b == 39) rest ≡ b ∷ rest
    by true is e same = absurd (subst (λ x. cond x (Unit {0}) ⊥) e tt)
    by false is e same = ap (λ more. b ∷ more) (ap (λ x. undoubled x rest) is ∙ same e)
