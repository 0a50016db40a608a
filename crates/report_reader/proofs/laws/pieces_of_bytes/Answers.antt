use Rattle.report_reader.proofs.Cutting.{joined, some_bytes, blank_alone, one_blank}
use Rattle.report_reader.proofs.laws.pieces_of_bytes.Goals as goal

pub returns-clause-joined : goal.returns-clause-joined
returns-clause-joined c = joined

pub returns-clause-some : goal.returns-clause-some
returns-clause-some c = some_bytes

pub returns-clause-alone : goal.returns-clause-alone
returns-clause-alone c = blank_alone

pub returns-clause-longest : goal.returns-clause-longest
returns-clause-longest c = one_blank
