use Rattle.std.proofs.Common.{◌≡◌, drop}
use Rattle.sql_bind.specs.Bound.{default_options, with_options}
use Rattle.sql_bind.proofs.settings.plan_options.Given as goal

-- what the options that are left make of these is what all make of those by default
abbrev pub invariant-loop-option : goal.invariant-loop-option
invariant-loop-option l = with_options l.options (drop l.option-index l.given) ≡ with_options default_options l.given
