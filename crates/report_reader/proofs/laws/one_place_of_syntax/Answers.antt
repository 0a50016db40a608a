use Rattle.report_reader.proofs.OnePlace.{one_place, place_within}
use Rattle.report_reader.proofs.laws.one_place_of_syntax.Goals as goal

pub returns-clause-once : goal.returns-clause-once
returns-clause-once c = one_place

pub returns-clause-within : goal.returns-clause-within
returns-clause-within c = place_within

pub returns-clause-read : goal.returns-clause-read
returns-clause-read c = λ bytes report count at read syntax. syntax.none report count read
