-- The line of multipliers stands behind the word.
use Rattle.std.proofs.Common.{codes}
use Rattle.report_text.specs.PartText.{multipliers_text}
use Rattle.report_text.specs.ReportText.{block_text}
use Rattle.report_reader.proofs.Reading.{Reads-behind, Reads-join}
use Rattle.report_reader.proofs.blocks.read_empty.Goals as goal

pub returns-clause-text : goal.returns-clause-text
unfolding block_text multipliers_text
returns-clause-text c =
    Reads-behind (codes " empty")
    (Reads-join (Reads-join c.in_ok-expect.ensures.text c.in_ok-expect-2.ensures.text) c.in_ok-multipliers.ensures.text)
