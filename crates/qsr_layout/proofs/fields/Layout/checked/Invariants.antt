use Rattle.std.proofs.Common.{◌-◌, ◌≤◌}
use Rattle.qsr_layout.proofs.FieldLemmas.{ChecksTo}
use Rattle.qsr_layout.proofs.fields.Layout.checked.Given as goal

abbrev pub invariant-fields : goal.invariant-fields
invariant-fields g l = (l.place ≤ g.row.N) × ChecksTo l.self.fields l.place l.end

abbrev pub decreases-fields : goal.decreases-fields
decreases-fields g l = g.row.N - l.place
