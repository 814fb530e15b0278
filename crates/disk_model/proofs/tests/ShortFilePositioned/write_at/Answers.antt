use Rattle.std.proofs.Common.{◌≡◌, length, take, slice_index, arith, length-take, sym, subst}
use Rattle.disk_model.specs.Image.{Image, Holds, SameOutside}
use Rattle.disk_model.proofs.MemRuns.{written_holds, written_outside}
use Rattle.disk_model.proofs.tests.ShortFilePositioned.write_at.Goals as goal

pub returns-clause-bytes : goal.returns-clause-bytes
returns-clause-bytes c = λ told. subst (λ (now : Image). Holds now c.args.at (take c.min-count.result c.args.bytes.now)) (sym c.overwrite.ensures.image) (written_holds c.args.at (take c.min-count.result c.args.bytes.now) (slice_index c.args.self.now.bytes))

pub returns-clause-others : goal.returns-clause-others
returns-clause-others c = λ told.
    let moved : length (take c.min-count.result c.args.bytes.now) ≡ c.min-count.result = omega (arith, length-take c.min-count.result c.args.bytes.now, c.min-count.ensures, c.min.ensures) in
    subst (λ (now : Image). SameOutside c.args.at c.min-count.result (slice_index c.args.self.now.bytes) now) (sym c.overwrite.ensures.image)
    (rw moved at (written_outside c.args.at (take c.min-count.result c.args.bytes.now) (slice_index c.args.self.now.bytes)))
