-- The machine is that of the grammar.
use Rattle.std.specs.Prelude.{ℕ, List}
use Rattle.std.proofs.Common.{refl}
use Rattle.sql_front.specs.Machine.{step, limits, answer, begin, ended, sign_place_of}
use Rattle.sql_front.specs.Said.{said}
use Rattle.sql_front.specs.Seen.{words}
use Rattle.sql_front.specs.Spell.{spell}
use Rattle.sql_front.proofs.Completes.{completed, said_start, said_ended}
use Rattle.sql_front.proofs.Goes.{goes}
use Rattle.sql_front.proofs.Literals.{literals}
use Rattle.sql_front.proofs.Says.{says, ended_once}
use Rattle.grammar_laws.specs.Machine.{Laws}

pub laws : (text : List ℕ) → Laws (words text) step limits (answer text) spell begin ended
laws text = record {
  said = said;
  signed = sign_place_of;
  goes = goes;
  ended_once = ended_once;
  says = says;
  completed = completed;
  said_start = said_start;
  said_ended = said_ended;
  literals = literals;
  signed_start = refl;
  answers = λ st t rest. refl;
}
