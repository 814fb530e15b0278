-- Words that are names elsewhere, by their letters.
use Rattle.std.specs.Prelude.{ℕ, Bool, true, false, ◌&&◌, ◌==◌, if◌then◌else◌, List, [], ◌∷◌, codes, Option, Some, None}
use Rattle.sql_front.specs.declared.words.Unreserved.{Unreserved}
use Rattle.sql_front.specs.declared.words.Unreserved.TheVariants as u

abbrev pub spelled : Unreserved → List ℕ
spelled u.Left = codes "left"
spelled u.Semi = codes "semi"
spelled u.Anti = codes "anti"
spelled u.Union = codes "union"
spelled u.All = codes "all"
spelled u.Block = codes "block"
spelled u.Parts = codes "parts"
spelled u.Sort = codes "sort"
spelled u.Use = codes "use"
spelled u.Index = codes "index"
spelled u.Merge = codes "merge"
spelled u.Hash = codes "hash"

abbrev pub every_unreserved : List Unreserved
every_unreserved = u.Left ∷ u.Semi ∷ u.Anti ∷ u.Union ∷ u.All ∷ u.Block ∷ u.Parts ∷ u.Sort ∷ u.Use ∷ u.Index ∷ u.Merge ∷ u.Hash ∷ []

abbrev pub same_letters : List ℕ → List ℕ → Bool
same_letters [] [] = true
same_letters (a ∷ more) (b ∷ rest) = (a == b) && same_letters more rest
same_letters _ _ = false

-- the first of these words that has these letters
abbrev pub first_spelled : List Unreserved → List ℕ → Option Unreserved
first_spelled [] letters = None
first_spelled (word ∷ words) letters = if same_letters (spelled word) letters then Some word else first_spelled words letters

-- the word that a name with these letters is, if it is one
unfoldable pub unreserved : List ℕ → Option Unreserved
unreserved letters = first_spelled every_unreserved letters
