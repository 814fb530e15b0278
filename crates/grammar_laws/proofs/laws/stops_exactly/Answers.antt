use Rattle.grammar_laws.proofs.Reading.{refused_stops, refuses}
use Rattle.grammar_laws.proofs.laws.stops_exactly.Goals as goal

pub returns : goal.returns
returns g c = λ m told ts. (refuses m.laws told ts, refused_stops m.laws told ts)
