-- One action more is read behind a space.
use Rattle.std.proofs.Common.{ℕ, List, Option, length, All, refl, sym, subst, ◌∙◌}
use Rattle.std.proofs.lemmas.List.Elements.{All-push}
use Rattle.report_form.specs.Ranges.{IsAction}
use Rattle.report_text.specs.PartText.{action_text}
use Rattle.report_reader.proofs.ItemTexts.{Reads-item}
use Rattle.report_reader.proofs.Reading.{Reads-whole}
use Rattle.report_reader.proofs.lists.read_plan.Goals as goal

pub loop-entries-preserved : goal.loop-entries-preserved
loop-entries-preserved c =
    let action = c.in_ok-read_action.field-0 in
    let entries = c.loop-entries.entries.items in
    let pushed = c.in_ok-push.ensures.items in
    let all = All-push IsAction entries action c.loop-entries.invariant.actions c.in_ok-read_action.ensures.action in
    record {
      actions = subst (All IsAction) (sym {A = List (Option ℕ)} pushed) all;
      same_input = c.in_ok-read_action.ensures.same_input ∙ c.take.ensures.same_input ∙ c.loop-entries.invariant.same_input;
      text =
          Reads-item (λ k. action_text) entries action (length entries) refl pushed c.loop-entries.invariant.text
          (Reads-whole (c.loop-entries-test.ensures.text refl) c.in_ok-read_action.ensures.text);
    }
