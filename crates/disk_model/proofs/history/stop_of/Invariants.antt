use Rattle.std.proofs.Common.{◌≡◌, ◌+◌, drop, nat_lt}
use Rattle.std.specs.List.{prefix_len}
use Rattle.disk_model.specs.Replay.{events_of}
use Rattle.disk_model.proofs.history.stop_of.Given as goal

-- so many come before the first of a later call, with those that are left
abbrev pub invariant-loop-at : goal.invariant-loop-at
invariant-loop-at l = prefix_len (λ e. nat_lt e.call l.calls) (events_of l.records) ≡ l.at + prefix_len (λ e. nat_lt e.call l.calls) (events_of (drop l.at l.records))
