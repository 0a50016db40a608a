-- The notion that was read comes before the least one.
use Rattle.std.proofs.Common.{◌<◌, length, refl, sym, ap, ◌∙◌, arith}
use Rattle.corr_game.specs.declared.notions.Notion.{Notion}
use Rattle.corr_game.specs.declared.notions.Notion.TheVariants.{Efce, Efcce, Nfcce}
use Rattle.report_form.specs.Ranges.{notion_number}
use Rattle.report_text.proofs.Telling.{one_notion}
use Rattle.report_reader.proofs.CutReading.{piece_of}
use Rattle.report_text.specs.NameText.{notion_name}
use Rattle.report_reader.proofs.items.read_notion.Goals as goal

pub returns-then-number_of-least-clause-refused : goal.returns-then-number_of-least-clause-refused
returns-then-number_of-least-clause-refused c = record {
  syntax = refl;
  unmoved = refl;
  no_value = λ notion good same.
      let one = one_notion c.in-Some.notion notion (sym c.in-Some.ensures.text ∙ c.next.ensures.first ∙ same) in
      absurd (omega (arith, good, ap notion_number one, c.if-number_of-least.true, c.number_of.ensures.number));
}

name_some : (notion : Notion) → 0 < length (notion_name notion)
unfolding notion_name
name_some Efce = omega arith
name_some Efcce = omega arith
name_some Nfcce = omega arith

pub returns-clause-piece : goal.returns-clause-piece
returns-clause-piece c =
    piece_of (notion_name c.in-Some.notion) c.next.ensures.first c.in-Some.ensures.text (name_some c.in-Some.notion) c.pass.ensures.piece
