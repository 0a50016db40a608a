-- The lists are as long as their counts say.
use Rattle.std.proofs.Common.{ℕ, All, codes, sym, subst}
use Rattle.report_form.specs.Ranges.{IsSide}
use Rattle.report_text.specs.PartText.{count_text}
use Rattle.report_text.specs.ReportText.{block_text}
use Rattle.report_reader.proofs.Reading.{Reads-behind, Reads-join, ReadsBehind-join, ReadsBehind-three}
use Rattle.report_reader.proofs.blocks.read_polygon.Goals as goal

pub returns-clause-block : goal.returns-clause-block
returns-clause-block c =
    let counted = c.in_ok-corners.ensures.counted in (
      rw counted c.in_ok-corner_count.ensures.some,
      rw c.in_ok-sides.ensures.counted c.in_ok-side_count.ensures.some,
      c.in_ok-corners.ensures.corners,
      subst (λ (n : ℕ). All (IsSide n) c.in_ok-sides.sides) (sym counted) c.in_ok-sides.ensures.sides,
    )

pub returns-clause-text : goal.returns-clause-text
unfolding block_text
returns-clause-text c =
    let head = Reads-behind (codes " found") (Reads-join c.in_ok-expect.ensures.text c.in_ok-corner_count.ensures.text) in
    let corners = ReadsBehind-join head c.in_ok-corners.ensures.text in
    let count = count_text c.in_ok-side_count.side_count in
    let counted = ReadsBehind-three (codes "sides") count (codes "\n") corners c.in_ok-side_count.ensures.text in
    rw (c.in_ok-corners.ensures.counted, c.in_ok-sides.ensures.counted) (ReadsBehind-join counted c.in_ok-sides.ensures.text)
