-- One pair more keeps what is asked of each, and its text stands behind theirs.
use Rattle.std.proofs.Common.{◌∷◌, [], length, All, sym, ap, ◌∙◌, subst, arith}
use Rattle.std.proofs.lemmas.List.{length-append}
use Rattle.std.proofs.lemmas.List.Elements.{All-push}
use Rattle.report_form.specs.Ranges.{IsPair}
use Rattle.report_text.specs.PartText.{pair_text}
use Rattle.report_reader.proofs.ItemTexts.{Reads-item}
use Rattle.report_reader.proofs.lines.read_pairs.Goals as goal

pub loop-preserved : goal.loop-preserved
loop-preserved c =
    let pair = c.in_ok-read_pair.field-0 in
    let pairs = c.loop.pairs in
    let pushed = c.in_ok-push.ensures.ok in
    let all = All-push IsPair pairs pair c.loop.invariant.pairs c.in_ok-read_pair.ensures.pair in
    let long = ap length pushed ∙ length-append pairs (pair ∷ []) in
    record {
      pairs = subst (All IsPair) (sym pushed) all;
      counted = omega (arith, long, c.loop.invariant.counted);
      same_input = c.in_ok-read_pair.ensures.same_input ∙ c.loop.invariant.same_input;
      text =
          Reads-item (λ k. pair_text) pairs pair c.loop.counter c.loop.invariant.counted pushed c.loop.invariant.text
          c.in_ok-read_pair.ensures.text;
    }
