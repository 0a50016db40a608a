use Rattle.text_laws.proofs.LinesRead.{one_reading, refused_reading}
use Rattle.text_laws.proofs.SeenTokens.{one_fault}
use Rattle.text_laws.proofs.lines.bytes_are_read_in_one_way.Goals as goal

pub returns-clause-refused : goal.returns-clause-refused
returns-clause-refused c = refused_reading

pub returns-clause-one : goal.returns-clause-one
returns-clause-one c = one_reading

pub returns-clause-faults : goal.returns-clause-faults
returns-clause-faults c = one_fault
