use Rattle.part_codec.proofs.Formats.{first_bad, format_reads, one_value}
use Rattle.part_codec.proofs.laws.formats_are_exact.Goals as goal

pub returns-clause-read : goal.returns-clause-read
returns-clause-read c = λ parts bytes rest value fit are read.
    let found = (format_reads parts fit).takes bytes (value, rest) (record { each = are }) read in
    (found.0, found.1.parts)

pub returns-clause-again : goal.returns-clause-again
returns-clause-again c = λ parts rest value fit is. (format_reads parts fit).again value rest is

pub returns-clause-bad : goal.returns-clause-bad
returns-clause-bad c = λ parts bytes left fit are bad. first_bad parts bytes left fit (record { each = are }) bad

pub returns-clause-one : goal.returns-clause-one
returns-clause-one c = one_value
