-- Where a word isn't taken nothing is read.
use Rattle.std.proofs.Common.{◌≡◌, ℕ, ◌^◌, ◌<◌, List, codes, refl, ◌∙◌, arith}
use Rattle.std.specs.Fmt.{decimal}
use Rattle.lp_form.specs.declared.places.RowName.{RowName}
use Rattle.lp_form.specs.declared.places.RowName.TheVariants.{Basic, First, Second, Phase}
use Rattle.report_form.specs.Ranges.{IsRow}
use Rattle.report_text.specs.PartText.{row_text}
use Rattle.report_reader.proofs.Reading.{Reads-after}
use Rattle.report_reader.specs.Reading.{StopsAt}
use Rattle.report_reader.proofs.Stopping.{err_gives, same_piece}
use Rattle.report_reader.proofs.CutReading.{cut_after}
use Rattle.report_reader.proofs.items.read_row.Goals as goal

pub returns-then-take-clause-text : goal.returns-then-take-clause-text
unfolding row_text
returns-then-take-clause-text c = c.if-take.ensures.text refl

pub returns-then-take-2-clause-text : goal.returns-then-take-2-clause-text
unfolding row_text
returns-then-take-2-clause-text c = Reads-after (c.if-take.ensures.other refl) (c.if-take-2.ensures.text refl)

pub returns-then-take-3-clause-text : goal.returns-then-take-3-clause-text
unfolding row_text
returns-then-take-3-clause-text c =
    Reads-after (c.if-take.ensures.other refl) (Reads-after (c.if-take-2.ensures.other refl) (c.if-take-3.ensures.text refl))

pub returns-clause-text : goal.returns-clause-text
unfolding row_text
returns-clause-text c =
    Reads-after (c.if-take.ensures.other refl) (Reads-after (c.if-take-2.ensures.other refl)
    (Reads-after (c.if-take-3.ensures.other refl) c.in_ok-read_column.ensures.text))

no_row : (piece : List ℕ) → (piece ≡ codes "first" → ⊥) → (piece ≡ codes "second" → ⊥) → (piece ≡ codes "phase" → ⊥)
    → ((n : ℕ) → n < 2 ^ 32 → piece ≡ decimal n → ⊥) → (row : RowName) → IsRow row → piece ≡ row_text row → ⊥
unfolding row_text
no_row piece one two three column (Basic n) good is = column n good is
no_row piece one two three column First good is = one is
no_row piece one two three column Second good is = two is
no_row piece one two three column Phase good is = three is

pub returns-in_err-read_column-clause-refused : goal.returns-in_err-read_column-clause-refused
returns-in_err-read_column-clause-refused c =
    let stop = c.in_err-read_column.ensures.refused in
    let first = c.if-take.ensures.other refl in
    let second = c.if-take-2.ensures.other refl ∙ first in
    let third = c.if-take-3.ensures.other refl ∙ second in
    err_gives (StopsAt (λ row. IsRow row) row_text c.args.pieces.now c.read_column.new.pieces)
    c.from_residual.result c.from_residual.ensures.1 (record {
      syntax = stop.syntax;
      unmoved = stop.unmoved ∙ third;
      no_value = no_row _ (c.if-take.ensures.not_text refl)
          (λ is. c.if-take-2.ensures.not_text refl (same_piece first ∙ is))
          (λ is. c.if-take-3.ensures.not_text refl (same_piece second ∙ is))
          (λ n small is. stop.no_value n (omega arith, small) (same_piece third ∙ is));
    })

pub returns-then-take-clause-piece : goal.returns-then-take-clause-piece
unfolding row_text
returns-then-take-clause-piece c = c.if-take.ensures.piece refl (omega arith)

pub returns-then-take-2-clause-piece : goal.returns-then-take-2-clause-piece
unfolding row_text
returns-then-take-2-clause-piece c = cut_after (c.if-take.ensures.other refl) (c.if-take-2.ensures.piece refl (omega arith))

pub returns-then-take-3-clause-piece : goal.returns-then-take-3-clause-piece
unfolding row_text
returns-then-take-3-clause-piece c =
    cut_after (c.if-take.ensures.other refl) (cut_after (c.if-take-2.ensures.other refl) (c.if-take-3.ensures.piece refl (omega arith)))

pub returns-clause-piece : goal.returns-clause-piece
unfolding row_text
returns-clause-piece c =
    cut_after (c.if-take.ensures.other refl) (cut_after (c.if-take-2.ensures.other refl)
    (cut_after (c.if-take-3.ensures.other refl) c.in_ok-read_column.ensures.piece))
