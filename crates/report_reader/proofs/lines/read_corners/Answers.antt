-- One corner more keeps what is asked of each, and its text stands behind theirs.
use Rattle.std.proofs.Common.{◌∷◌, [], length, All, sym, ap, ◌∙◌, subst, arith}
use Rattle.std.proofs.lemmas.List.{length-append}
use Rattle.std.proofs.lemmas.List.Elements.{All-push}
use Rattle.report_form.specs.Ranges.{IsCorner}
use Rattle.report_text.specs.ReportText.{corner_text}
use Rattle.report_reader.proofs.ItemTexts.{Reads-item}
use Rattle.report_reader.proofs.lines.read_corners.Goals as goal

pub loop-position-preserved : goal.loop-position-preserved
loop-position-preserved c =
    let corner = c.in_ok-read_corner.field-0 in
    let corners = c.loop-position.corners in
    let pushed = c.in_ok-push.ensures.ok in
    let all = All-push IsCorner corners corner c.loop-position.invariant.corners c.in_ok-read_corner.ensures.corner in
    let long = ap length pushed ∙ length-append corners (corner ∷ []) in
    record {
      corners = subst (All IsCorner) (sym pushed) all;
      counted = omega (arith, long, c.loop-position.invariant.counted);
      same_input = c.in_ok-read_corner.ensures.same_input ∙ c.loop-position.invariant.same_input;
      text =
          Reads-item corner_text corners corner c.loop-position.position c.loop-position.invariant.counted pushed
          c.loop-position.invariant.text c.in_ok-read_corner.ensures.text;
    }
