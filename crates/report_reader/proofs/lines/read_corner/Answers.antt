-- The space behind a word goes with the number.
use Rattle.std.proofs.Common.{codes}
use Rattle.corr_num.proofs.PrintedTerms.{narrow_returned}
use Rattle.report_text.specs.PartText.{behind_space, count_text, frac_text, int_text}
use Rattle.report_text.specs.ReportText.{corner_line, corner_text}
use Rattle.report_reader.proofs.Reading.{Reads-join, Reads-three, Reads-two}
use Rattle.report_reader.proofs.lines.read_corner.Goals as goal

pub returns-clause-text : goal.returns-clause-text
unfolding corner_text corner_line behind_space
returns-clause-text c =
    let point = c.in_ok-point.point in
    let sum = c.in_ok-total.total in
    let count = c.in_ok-count.count in
    let number = Reads-join c.in_ok-expect_first.ensures.text c.in_ok-expect_position.ensures.text in
    let head = Reads-join number c.in_ok-expect.ensures.text in
    let place =
    Reads-three (frac_text point.one) (codes " ") (frac_text point.two) head c.in_ok-point.ensures.text in
    let total =
    Reads-two (codes " total") (int_text sum) place (Reads-join c.in_ok-expect_between.ensures.text c.in_ok-total.ensures.text) in
    let counted =
    Reads-two (codes " pairs") (count_text count) total (Reads-join c.in_ok-expect_between-2.ensures.text c.in_ok-count.ensures.text) in
    rw (narrow_returned sum c.in_ok-total.ensures.positive.1, c.in_ok-pairs.ensures.counted)
    (Reads-join (Reads-join counted c.in_ok-expect-2.ensures.text) c.in_ok-pairs.ensures.text)
