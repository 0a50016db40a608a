-- The space behind a word goes with the number.
use Rattle.std.proofs.Common.{◌≡◌, ℤ, to_z, of_z, arith}
use Rattle.std.specs.Int.{w64}
use Rattle.std.proofs.lemmas.Int.{fits_signed_from_abs, ints, to_z-of_z}
use Rattle.report_form.specs.Ranges.{IsScale}
use Rattle.report_text.specs.PartText.{behind_space}
use Rattle.report_text.specs.ReportText.{report_text}
use Rattle.report_reader.proofs.Reading.{Reads-join}
use Rattle.report_reader.proofs.reports.read_whole.Goals as goal

scale_returned : (z : ℤ) → IsScale z → to_z w64 (of_z w64 z) ≡ z
scale_returned z h = to_z-of_z w64 z (fits_signed_from_abs w64 z (omega (arith, ints, h)))

pub returns-clause-text : goal.returns-clause-text
unfolding report_text behind_space
returns-clause-text c =
    let one = c.in_ok-scale_one.scale_one in
    let two = c.in_ok-scale_two.scale_two in
    let head = Reads-join (Reads-join c.in_ok-expect_first.ensures.text c.in_ok-expect.ensures.text) c.in_ok-expect-2.ensures.text in
    let first = Reads-join (Reads-join head c.in_ok-expect_first-2.ensures.text) c.in_ok-scale_one.ensures.text in
    let scales = Reads-join first (Reads-join c.in_ok-expect-3.ensures.text c.in_ok-scale_two.ensures.text) in
    let blocks = Reads-join (Reads-join scales c.in_ok-expect-4.ensures.text) c.in_ok-blocks.ensures.text in
    let made : c.of.result ≡ record {
      scale_one = to_z w64 (of_z w64 one);
      scale_two = to_z w64 (of_z w64 two);
      blocks = c.in_ok-blocks.blocks;
    } = c.of.ensures.made in
    rw (made, scale_returned one c.in_ok-scale_one.ensures.scale, scale_returned two c.in_ok-scale_two.ensures.scale)
    (Reads-join blocks (Reads-join c.in_ok-expect-5.ensures.text c.in_ok-expect-6.ensures.text))
