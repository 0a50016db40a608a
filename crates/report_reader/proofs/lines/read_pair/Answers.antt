-- The line feed behind a line goes with the next line's word.
use Rattle.std.proofs.Common.{◌++◌, codes}
use Rattle.std.specs.Fmt.{signed_decimal}
use Rattle.corr_num.proofs.PrintedTerms.{narrow_returned}
use Rattle.report_text.specs.Joined.{each_text}
use Rattle.report_text.specs.PartText.{action_text, pair_text}
use Rattle.report_reader.proofs.Reading.{Reads-join, Reads-last, Reads-two}
use Rattle.report_reader.proofs.lines.read_pair.Goals as goal

pub returns-clause-text : goal.returns-clause-text
unfolding pair_text
returns-clause-text c =
    let weight = c.in_ok-weight.weight in
    let first = codes "weight " ++ signed_decimal weight ++ codes "\none" in
    let one = each_text action_text c.in_ok-one.one in
    let two = each_text action_text c.in_ok-two.two in
    let head =
    Reads-join (Reads-join c.in_ok-expect_first.ensures.text c.in_ok-weight.ensures.text)
    (Reads-join c.in_ok-expect.ensures.text c.in_ok-expect-2.ensures.text) in
    let line = Reads-two one (codes "\n") head c.in_ok-one.ensures.text in
    let middle = Reads-last (first ++ one) (codes "\n") (codes "two") line c.in_ok-expect-3.ensures.text in
    rw (narrow_returned weight c.in_ok-weight.ensures.positive.1) (Reads-two two (codes "\n") middle c.in_ok-two.ensures.text)
