-- The text counts actions from 1.
use Rattle.std.proofs.Common.{◌≡◌, ℕ, ◌+◌, ◌-◌, ◌<◌, ◌≤◌, List, Option, Some, None, drop, codes, refl, ap, ◌∙◌, arith}
use Rattle.std.specs.Fmt.{decimal}
use Rattle.report_form.specs.Ranges.{IsAction}
use Rattle.report_text.specs.PartText.{action_text, behind_space}
use Rattle.report_reader.proofs.Reading.{Reads-after, Reads-behind, Reads-piece}
use Rattle.report_reader.proofs.Numerals.{one_number}
use Rattle.report_reader.proofs.Stopping.{same_piece}
use Rattle.report_reader.proofs.CutReading.{cut_after, piece_of}
use Rattle.report_reader.proofs.Numerals.{decimal_some}
use Rattle.report_reader.proofs.items.read_action.Goals as goal

pub returns-then-take-clause-text : goal.returns-then-take-clause-text
unfolding action_text
returns-then-take-clause-text c = Reads-behind (codes " ") (c.if-take.ensures.text refl)

pub returns-clause-text : goal.returns-clause-text
unfolding action_text behind_space
returns-clause-text c =
    let number = c.in-Some.number in
    let one : number ≡ number - 1 + 1 = omega (arith, c.if-number-lt1.false) in
    Reads-behind (codes " ") (Reads-after (c.if-take.ensures.other refl)
    (Reads-piece (decimal (number - 1 + 1)) c.next.ensures.first (c.in-Some.ensures.text ∙ ap decimal one) c.pass.ensures.text))

no_action : (piece : List ℕ) → (piece ≡ codes "-" → ⊥) → ((n : ℕ) → 1 ≤ n → n < 65 → piece ≡ decimal n → ⊥)
    → (action : Option ℕ) → IsAction action → piece ≡ drop 1 (action_text action) → ⊥
unfolding action_text behind_space
no_action piece dash number None good is = dash is
no_action piece dash number (Some action) good is = number (action + 1) (omega arith) (omega (arith, good)) is

pub returns-in_default-clause-refused : goal.returns-in_default-clause-refused
returns-in_default-clause-refused c = record {
  syntax = refl;
  unmoved = c.if-take.ensures.other refl;
  no_value = no_action _ (c.if-take.ensures.not_text refl) (λ n some below is.
      c.in_default.ensures.none refl n below (c.next.ensures.first ∙ same_piece (c.if-take.ensures.other refl) ∙ is));
}

pub returns-then-number-lt1-clause-refused : goal.returns-then-number-lt1-clause-refused
returns-then-number-lt1-clause-refused c = record {
  syntax = refl;
  unmoved = c.if-take.ensures.other refl;
  no_value = no_action _ (c.if-take.ensures.not_text refl) (λ n some below is.
      let seen = c.next.ensures.first ∙ same_piece (c.if-take.ensures.other refl) ∙ is in
      let one = one_number c.in-Some.number n (omega (arith, c.if-number-lt1.true)) (omega (arith, below)) c.in-Some.ensures.text seen in
      absurd (omega (arith, one, some, c.if-number-lt1.true)));
}

pub returns-then-take-clause-piece : goal.returns-then-take-clause-piece
unfolding action_text
returns-then-take-clause-piece c = c.if-take.ensures.piece refl (omega arith)

pub returns-clause-piece : goal.returns-clause-piece
unfolding action_text behind_space
returns-clause-piece c =
    let number = c.in-Some.number in
    let one : number ≡ number - 1 + 1 = omega (arith, c.if-number-lt1.false) in
    cut_after (c.if-take.ensures.other refl)
    (piece_of (decimal (number - 1 + 1)) c.next.ensures.first (c.in-Some.ensures.text ∙ ap decimal one)
    (decimal_some (number - 1 + 1) (omega (arith, c.in-Some.ensures.below))) c.pass.ensures.piece)
