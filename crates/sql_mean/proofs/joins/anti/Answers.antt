use Rattle.sql_bind.specs.View.{conditions_of}
use Rattle.std.proofs.Common.{◌≡◌, ◌∙◌, [], ◌∷◌, ◌++◌, rules}
use Rattle.sql_mean.proofs.Joining.{anti_kept, anti_left}
use Rattle.sql_mean.proofs.Loops.{adds, same_held}
use Rattle.sql_mean.proofs.joins.anti.Goals.{then-not-branch+in_ok-beside+in_ok-push, else-not-branch}
use Rattle.sql_mean.proofs.joins.anti.Goals as goal

pub loop-env-preserved : goal.loop-env-preserved
loop-env-preserved c = elim c.if-not-branch.branch [
  | then-not-branch+in_ok-beside+in_ok-push w ↦
      let made : w.in_ok-beside.field-0 ≡ c.env-item.result ++ [] ∷ [] = search rules in
      adds _ _ _ _ _ _ c.loop-env.invariant
      (anti_kept (conditions_of c.args.on.now) c.args.rows.now c.args.envs.now _ _ _ _ c.loop-env-test.true c.env-item.is c.in_ok-meets_some.ensures w.if-not-branch.true made)
      (w.joined-is ∙ w.in_ok-push.ensures.ok)
  | else-not-branch w ↦
      same_held _ _ _ _ _ c.loop-env.invariant (anti_left (conditions_of c.args.on.now) c.args.rows.now c.args.envs.now _ _ _ c.loop-env-test.true c.env-item.is c.in_ok-meets_some.ensures w.if-not-branch.false) w.joined-is
]
