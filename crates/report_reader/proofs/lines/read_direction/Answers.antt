-- The numbers of the direction are those that were read.
use Rattle.std.proofs.Common.{codes}
use Rattle.corr_num.proofs.PrintedTerms.{narrow_returned}
use Rattle.report_text.specs.PartText.{behind_space}
use Rattle.report_reader.proofs.Reading.{Reads-behind, Reads-join, ReadsBehind-join}
use Rattle.report_reader.proofs.lines.read_direction.Goals as goal

pub returns-clause-coprime : goal.returns-clause-coprime
returns-clause-coprime c = rw (narrow_returned c.in_ok-b.b c.in_ok-b.ensures.narrow) c.in_ok-b.ensures.coprime

pub returns-clause-text : goal.returns-clause-text
unfolding behind_space
returns-clause-text c =
    rw (narrow_returned c.in_ok-a.a c.in_ok-a.ensures.narrow, narrow_returned c.in_ok-b.b c.in_ok-b.ensures.narrow)
    (ReadsBehind-join (Reads-behind (codes " ") c.in_ok-a.ensures.text) (Reads-join c.in_ok-expect.ensures.text c.in_ok-b.ensures.text))
