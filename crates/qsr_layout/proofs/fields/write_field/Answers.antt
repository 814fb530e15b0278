use Rattle.std.proofs.Common.{arith}
use Rattle.qsr_layout.proofs.FieldLemmas.{written_is_read, others_stay}
use Rattle.qsr_layout.proofs.fields.write_field.Goals as goal

pub returns-clause-reads_back : goal.returns-clause-reads_back
returns-clause-reads_back g c = written_is_read c.args.l.now.fields c.args.i c.args.v _ c.requires.fits c.put_number.ensures.bytes

pub returns-clause-others : goal.returns-clause-others
returns-clause-others g c = λ j inside other.
    others_stay c.args.l.now.fields c.args.i j _ _ c.requires.checked (omega arith) (omega arith) other c.put_number.ensures.outside
