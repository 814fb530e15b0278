-- A value as a number or a text.
use Rattle.std.specs.Prelude.{ℕ, ℤ, List, [], Option, Some, None}
use Rattle.qsr_value.specs.declared.row.Value.{Value}
use Rattle.qsr_value.specs.declared.row.Value.TheVariants.{Int, Text}

-- the number that a value is
abbrev pub number_in_value : Value → Option ℤ
number_in_value (Int n) = Some n
number_in_value (Text bytes) = None

-- the bytes of the text that it is
abbrev pub text_in : Value → List ℕ
text_in (Int n) = []
text_in (Text bytes) = bytes
