use Rattle.std.proofs.Common.{rules, refl}
use Rattle.sql_tokens.specs.declared.token.What.TheVariants as what
use Rattle.sql_front.specs.Machine.{after_column, want_column}
use Rattle.sql_front.specs.Seen.{letters_of}
use Rattle.sql_front.specs.Tree.{plain}
use Rattle.sql_front.proofs.Passing.{passes}
use Rattle.sql_front.proofs.columns.whole_column.Goals as goal

pub returns-clause-led : goal.returns-clause-led
returns-clause-led c = λ k.
    rw (passes (want_column k) (after_column (plain (record { letters = letters_of c.in-Name.name; at = c.peek-token.result.at })) k) (what.Name c.in-Name.name) c.args.input.now c.advance.new.self
    (search rules) c.advance.ensures.rest c.advance.ensures.text refl (search rules)) (c.column.ensures.led k)
