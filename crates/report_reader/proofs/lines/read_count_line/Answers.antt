-- The space behind the word goes with the number.
use Rattle.std.proofs.Common.{codes}
use Rattle.std.specs.Fmt.{decimal}
use Rattle.report_text.specs.PartText.{behind_space}
use Rattle.report_reader.proofs.Reading.{Reads-last, Reads-join}
use Rattle.report_reader.proofs.lines.read_count_line.Goals as goal

pub returns-clause-text : goal.returns-clause-text
unfolding behind_space
returns-clause-text c =
    let count = decimal c.in_ok-count.count in
    Reads-join (Reads-last c.args.word.now (codes " ") count c.in_ok-expect_first.ensures.text c.in_ok-count.ensures.text)
    c.in_ok-expect.ensures.text
