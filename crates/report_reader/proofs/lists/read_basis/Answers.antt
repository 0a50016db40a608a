-- A column that isn't below the least one which may follow keeps the order, and one more is read behind a space.
use Rattle.std.proofs.Common.{◌≡◌, ◌≤◌, ◌+◌, ◌∷◌, [], ◌++◌, length, refl, ◌∙◌}
use Rattle.report_form.specs.Ranges.{AscendFrom}
use Rattle.report_text.specs.PartText.{behind_space, count_text}
use Rattle.report_reader.proofs.ItemTexts.{Reads-item, Reads-none}
use Rattle.report_reader.proofs.Pushed.{least_behind, AscendFrom-push, least_behind-push, AscendFrom-none, least_behind-none}
use Rattle.report_reader.proofs.Reading.{Reads-join}
use Rattle.report_reader.proofs.lists.read_basis.Goals as goal

pub loop-least-init : goal.loop-least-init
loop-least-init c = record {
  ascends = AscendFrom-none 0 c.new-basis.ensures.empty;
  least = least_behind-none 0 c.new-basis.ensures.empty;
  same_input = refl;
  text = Reads-none c.args.pieces.now (λ k. count_text) c.new-basis.ensures.empty;
}

pub loop-least-preserved : goal.loop-least-preserved
unfolding behind_space
loop-least-preserved c =
    let column = c.in_ok-column.column in
    let columns = c.loop-least.basis in
    let least : least_behind 0 columns ≤ column = rw c.loop-least.invariant.least c.in_ok-column.ensures.least in
    let ascends : AscendFrom 0 (columns ++ column ∷ []) =
    AscendFrom-push 0 columns column c.loop-least.invariant.ascends least c.in_ok-column.ensures.fits in
    let behind : least_behind 0 (columns ++ column ∷ []) ≡ column + 1 = least_behind-push 0 columns column in
    record {
      ascends = rw c.in_ok-push.ensures.ok ascends;
      least = rw (c.in_ok-push.ensures.ok, c.from-least.ensures) behind;
      same_input = c.in_ok-column.ensures.same_input ∙ c.if-take.ensures.same_input ∙ c.loop-least.invariant.same_input;
      text =
          Reads-item (λ k. count_text) columns column (length columns) refl c.in_ok-push.ensures.ok c.loop-least.invariant.text
          (Reads-join (c.if-take.ensures.text refl) c.in_ok-column.ensures.text);
    }
