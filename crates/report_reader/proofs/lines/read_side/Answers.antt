-- The space behind a word goes with the number, and the line feed behind a line with the next line's word.
use Rattle.std.proofs.Common.{◌++◌, codes}
use Rattle.corr_num.proofs.PrintedTerms.{narrow_returned}
use Rattle.report_text.specs.Joined.{each_text}
use Rattle.report_text.specs.PartText.{behind_space, count_text, int_text, side_line, side_text}
use Rattle.report_reader.proofs.Reading.{Reads-front, Reads-join, Reads-last, Reads-two}
use Rattle.report_reader.proofs.lines.read_side.Goals as goal

pub returns-clause-text : goal.returns-clause-text
unfolding side_text side_line behind_space
returns-clause-text c =
    let dir = c.in_ok-dir.dir in
    let number = c.in_ok-corner.corner in
    let under = c.in_ok-den.den in
    let one = each_text int_text c.in_ok-first.first in
    let two = each_text int_text c.in_ok-second.second in
    let line =
    codes "side" ++ int_text dir.a ++ int_text dir.b ++ codes " corner" ++ count_text number ++ codes " den" ++ int_text under
    ++ codes "\n" in
    let side = Reads-front (codes "side") (codes " ") c.in_ok-expect_first.ensures.text c.in_ok-dir.ensures.text in
    let corner =
    Reads-two (codes " corner") (count_text number) side (Reads-join c.in_ok-expect_between.ensures.text c.in_ok-corner.ensures.text) in
    let den =
    Reads-two (codes " den") (int_text under) corner (Reads-join c.in_ok-expect_between-2.ensures.text c.in_ok-den.ensures.text) in
    let head = Reads-join (Reads-join den c.in_ok-expect.ensures.text) c.in_ok-expect-2.ensures.text in
    let first = Reads-two one (codes "\n") head c.in_ok-first.ensures.text in
    let second = Reads-last (line ++ codes "first" ++ one) (codes "\n") (codes "second") first c.in_ok-expect-3.ensures.text in
    rw (narrow_returned under c.in_ok-den.ensures.positive.1) (Reads-two two (codes "\n") second c.in_ok-second.ensures.text)
