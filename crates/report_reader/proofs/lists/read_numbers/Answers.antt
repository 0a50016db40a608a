-- One number more is read behind a space.
use Rattle.std.proofs.Common.{◌≡◌, ◌++◌, ◌∷◌, [], length, All, refl, sym, subst, ◌∙◌}
use Rattle.std.proofs.lemmas.List.Elements.{All-push}
use Rattle.corr_num.specs.Narrow.{Narrow}
use Rattle.corr_num.proofs.PrintedTerms.{narrow_returned}
use Rattle.report_text.specs.PartText.{behind_space, int_text}
use Rattle.report_reader.proofs.ItemTexts.{Reads-item}
use Rattle.report_reader.proofs.Reading.{Reads-join}
use Rattle.report_reader.proofs.lists.read_numbers.Goals as goal

pub loop-numbers-preserved : goal.loop-numbers-preserved
unfolding behind_space
loop-numbers-preserved c =
    let number = c.in_ok-read_int.field-0 in
    let numbers = c.loop-numbers.numbers in
    let pushed : c.push.new.self ≡ numbers ++ number ∷ [] =
    rw (narrow_returned number c.in_ok-read_int.ensures.narrow) at c.in_ok-push.ensures.ok in
    let all = All-push Narrow numbers number c.loop-numbers.invariant.narrow c.in_ok-read_int.ensures.narrow in
    record {
      narrow = subst (All Narrow) (sym pushed) all;
      same_input = c.in_ok-read_int.ensures.same_input ∙ c.take.ensures.same_input ∙ c.loop-numbers.invariant.same_input;
      text =
          Reads-item (λ k. int_text) numbers number (length numbers) refl pushed c.loop-numbers.invariant.text
          (Reads-join (c.loop-numbers-test.ensures.text refl) c.in_ok-read_int.ensures.text);
    }
