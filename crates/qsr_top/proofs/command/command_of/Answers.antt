use Rattle.std.specs.String.{string_bytes}
use Rattle.qsr_top.proofs.WordLemmas.{short_command}
use Rattle.qsr_top.proofs.command.command_of.Goals as goal

pub returns-in_default-clause-names : goal.returns-in_default-clause-names
returns-in_default-clause-names c = short_command string_bytes c.args.words.now c.in_default.len_below
