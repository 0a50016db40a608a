-- A block whose notion isn't below the least one which may follow keeps the order, and its text stands behind the others'.
use Rattle.std.proofs.Common.{◌≡◌, ◌≤◌, ◌+◌, ◌∷◌, [], ◌++◌, length, refl, ◌∙◌}
use Rattle.report_form.specs.Ranges.{InOrderFrom, notion_number}
use Rattle.report_text.specs.ReportText.{named_block_text}
use Rattle.report_reader.proofs.ItemTexts.{Reads-item, Reads-none}
use Rattle.report_reader.proofs.Pushed.{notion_behind, InOrderFrom-push, notion_behind-push, InOrderFrom-none, notion_behind-none}
use Rattle.report_reader.proofs.Reading.{Reads-whole}
use Rattle.report_reader.proofs.reports.read_blocks.Goals as goal

pub loop-least-init : goal.loop-least-init
loop-least-init c = record {
  in_order = InOrderFrom-none 0 c.new-blocks.ensures.empty;
  least = notion_behind-none 0 c.new-blocks.ensures.empty;
  same_input = refl;
  text = Reads-none c.args.pieces.now (λ k. named_block_text) c.new-blocks.ensures.empty;
}

pub loop-least-preserved : goal.loop-least-preserved
loop-least-preserved c =
    let named = c.in_ok-named.named in
    let blocks = c.loop-least.blocks in
    let least : notion_behind 0 blocks ≤ notion_number named.notion = rw c.loop-least.invariant.least c.in_ok-named.ensures.least in
    let ordered : InOrderFrom 0 (blocks ++ named ∷ []) =
    InOrderFrom-push 0 blocks named c.loop-least.invariant.in_order least c.in_ok-named.ensures.block in
    let behind : notion_behind 0 (blocks ++ named ∷ []) ≡ notion_number named.notion + 1 = notion_behind-push 0 blocks named in
    record {
      in_order = rw c.in_ok-push.ensures.ok ordered;
      least = rw (c.in_ok-push.ensures.ok, c.number_of-least.ensures.number) behind;
      same_input = c.in_ok-named.ensures.same_input ∙ c.if-take.ensures.same_input ∙ c.loop-least.invariant.same_input;
      text =
          Reads-item (λ k. named_block_text) blocks named (length blocks) refl c.in_ok-push.ensures.ok c.loop-least.invariant.text
          (Reads-whole (c.if-take.ensures.text refl) c.in_ok-named.ensures.text);
    }
