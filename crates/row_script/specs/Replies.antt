-- The texts of replies, each a line, and of the rows that are listed.
use Rattle.std.specs.Prelude.{ℕ, ℤ, List, ◌++◌, codes}
use Rattle.std.specs.List.{flat_map}
use Rattle.std.specs.Fmt.{decimal, signed_decimal}
use Rattle.row_script.specs.declared.reply.Reply.{Reply}
use Rattle.row_script.specs.declared.reply.Reply.TheVariants.{Added, TableFull, Paused, Done, Listed, BadLine}

-- a word and a number
abbrev pub numbered : List ℕ → ℕ → List ℕ
numbered word number = word ++ (decimal number ++ codes "\n")

abbrev pub reply_text_of : Reply → List ℕ
reply_text_of Added = codes "ok\n"
reply_text_of TableFull = codes "table full\n"
reply_text_of (Paused rows) = numbered (codes "paused ") rows
reply_text_of (Done rows) = numbered (codes "done ") rows
reply_text_of (Listed rows) = numbered (codes "end ") rows
reply_text_of (BadLine number) = numbered (codes "bad line ") number

-- a row as it is listed
abbrev pub row_text : ℤ → List ℕ
row_text value = codes "> " ++ (signed_decimal value ++ codes "\n")

abbrev pub rows_text : List ℤ → List ℕ
rows_text values = flat_map row_text values
