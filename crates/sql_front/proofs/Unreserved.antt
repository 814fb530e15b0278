-- The words that are names elsewhere are told by their letters, and by no others.
use Rattle.std.specs.Prelude.{◌≡◌, ℕ, Bool, true, false, ◌&&◌, ◌==◌, if◌then◌else◌, List, [], ◌∷◌, Option, Some, IfSome}
use Rattle.std.proofs.Common.{refl, sym}
use Rattle.std.proofs.lemmas.Bool.{eqb-true}
use Rattle.sql_front.specs.declared.words.Unreserved.{Unreserved}
use Rattle.sql_front.specs.declared.words.Unreserved.TheVariants as u
use Rattle.sql_front.specs.Words.{spelled, same_letters, first_spelled, every_unreserved, unreserved}

same_both : (a b : ℕ) (more rest : List ℕ) (x : Bool) → (a == b) ≡ x → (same_letters more rest ≡ true → more ≡ rest)
    → (x && same_letters more rest) ≡ true → a ∷ more ≡ b ∷ rest
same_both a b more rest false is same both = cc
same_both a b more rest true is same both = rw (eqb-true a b is, same both) refl

same_letters-is : (these those : List ℕ) → same_letters these those ≡ true → these ≡ those
same_letters-is [] [] is = refl
same_letters-is [] (b ∷ rest) is = cc
same_letters-is (a ∷ more) [] is = cc
same_letters-is (a ∷ more) (b ∷ rest) is = same_both a b more rest (a == b) refl (same_letters-is more rest) is

-- the word has these letters
abbrev pub Names : List ℕ → Option Unreserved → Type 0
Names letters word = IfSome word (λ named. letters ≡ spelled named)

first_named : (word : Unreserved) (more : Option Unreserved) (letters : List ℕ) (x : Bool) → same_letters (spelled word) letters ≡ x → Names letters more
    → Names letters (if x then Some word else more)
first_named word more letters false is behind = behind
first_named word more letters true is behind = sym (same_letters-is (spelled word) letters is)

first_spelled-is : (words : List Unreserved) (letters : List ℕ) → Names letters (first_spelled words letters)
first_spelled-is [] letters = tt
first_spelled-is (word ∷ words) letters = first_named word (first_spelled words letters) letters (same_letters (spelled word) letters) refl (first_spelled-is words letters)

pub unreserved-names : (letters : List ℕ) → Names letters (unreserved letters)
unfolding unreserved
unreserved-names letters = first_spelled-is every_unreserved letters

pub unreserved-spelled : (word : Unreserved) → unreserved (spelled word) ≡ Some word
unfolding unreserved
unreserved-spelled u.Left = refl
unreserved-spelled u.Semi = refl
unreserved-spelled u.Anti = refl
unreserved-spelled u.Union = refl
unreserved-spelled u.All = refl
unreserved-spelled u.Block = refl
unreserved-spelled u.Parts = refl
unreserved-spelled u.Sort = refl
unreserved-spelled u.Use = refl
unreserved-spelled u.Index = refl
unreserved-spelled u.Merge = refl
unreserved-spelled u.Hash = refl
