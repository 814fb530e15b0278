use Rattle.std.proofs.Common.{◌+◌, ap, arith, ◌∙◌}
use Rattle.std.proofs.Math.Facts.{to_z-of_z}
use Rattle.std.proofs.lemmas.Bool.{false≢true}
use Rattle.sql_mean.specs.Meaning.{Joined, value_number, value_at}
use Rattle.sql_mean.proofs.Sums.{next_fits, next_sum}
use Rattle.sql_mean.proofs.aggregates.sum_there.Goals as goal

pub loop-env-preserved : goal.loop-env-preserved
loop-env-preserved c = λ zero.
    to_z-of_z c.in_ok-sum.ensures.in_range ∙ c.in_ok-sum.ensures.sum
    ∙ next_sum (λ (env : Joined). value_at env c.args.column) c.args.envs.now c.loop-env.env-index c.env-item.result _ _
    (omega arith) c.env-item.is (c.loop-env.invariant zero)
    (ap value_number (c.value_at.ensures zero ∙ ap (λ (env : Joined). value_at env c.args.column) c.as_slice.ensures))

pub returns-in_err-sum-clause-fits : goal.returns-in_err-sum-clause-fits
returns-in_err-sum-clause-fits c = λ zero fits.
    absurd (false≢true (c.in_err-sum.ensures.fits (next_fits (λ (env : Joined). value_at env c.args.column) c.args.envs.now (c.loop-env.env-index + 1) _
    (next_sum (λ (env : Joined). value_at env c.args.column) c.args.envs.now c.loop-env.env-index c.env-item.result _ _
    (omega arith) c.env-item.is (c.loop-env.invariant zero)
    (ap value_number (c.value_at.ensures zero ∙ ap (λ (env : Joined). value_at env c.args.column) c.as_slice.ensures)))
    fits)))
