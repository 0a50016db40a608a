-- One side more keeps what is asked of each, and its text stands behind theirs.
use Rattle.std.proofs.Common.{◌∷◌, [], length, All, sym, ap, ◌∙◌, subst, arith}
use Rattle.std.proofs.lemmas.List.{length-append}
use Rattle.std.proofs.lemmas.List.Elements.{All-push}
use Rattle.report_form.specs.Ranges.{IsSide}
use Rattle.report_text.specs.PartText.{side_text}
use Rattle.report_reader.proofs.ItemTexts.{Reads-item}
use Rattle.report_reader.proofs.lines.read_sides.Goals as goal

pub loop-preserved : goal.loop-preserved
loop-preserved c =
    let side = c.in_ok-read_side.field-0 in
    let sides = c.loop.sides in
    let pushed = c.in_ok-push.ensures.ok in
    let all = All-push (IsSide c.args.corners) sides side c.loop.invariant.sides c.in_ok-read_side.ensures.side in
    let long = ap length pushed ∙ length-append sides (side ∷ []) in
    record {
      sides = subst (All (IsSide c.args.corners)) (sym pushed) all;
      counted = omega (arith, long, c.loop.invariant.counted);
      same_input = c.in_ok-read_side.ensures.same_input ∙ c.loop.invariant.same_input;
      text =
          Reads-item (λ k. side_text) sides side c.loop.counter c.loop.invariant.counted pushed c.loop.invariant.text
          c.in_ok-read_side.ensures.text;
    }
