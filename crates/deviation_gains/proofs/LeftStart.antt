-- Before any set was gone over each value is 0, and all sequences stand before the end.
use Rattle.std.proofs.Common.{◌≡◌, ℕ, ◌<◌, Bool, true, false, nat_eq, cond, List, length, Option, Some, None, slice_get, ℤ, pos}
use Rattle.std.proofs.Common.{◌+ℤ◌, refl, sym, ap, ◌∙◌, arith}
use Rattle.std.specs.Prelude.{slice_index_or}
use Rattle.exact_algebra.proofs.RingLaws.{+ℤ_idr}
use Rattle.exact_algebra.proofs.Sums.{sum_to-nothing}
use Rattle.corr_game.specs.declared.nodes.SetId.{SetId}
use Rattle.sequences.specs.Number.{IsSide, SideView, count_of}
use Rattle.sequences.proofs.Adding.{within}
use Rattle.deviation_gains.specs.Leaving.{IsGoneOver, IsLeft, StandInRow, leads_to, own_there}
use Rattle.deviation_gains.specs.Triggers.{IsSetOf}

nothing_if : (test : Bool) → cond test (pos 0) (pos 0) ≡ pos 0
nothing_if true = refl
nothing_if false = refl

module _ (v : SideView) (rules : IsSide v) (row : StandInRow v.places) (paid : ℕ → ℤ) (left : List ℤ)
    (whole : length left ≡ count_of v) where
  leads_plain : (seq : ℕ) → paid seq ≡ leads_to v.places paid (λ set. pos 0) seq
  leads_plain seq =
      sym (+ℤ_idr (paid seq))
      ∙ ap (λ (z : ℤ). paid seq +ℤ z)
      (sym (sum_to-nothing (length v.places) _ (λ k h. nothing_if (nat_eq (own_there (slice_get v.places k)) seq))))

  pub start_gone : ((q : ℕ) → q < length left → slice_index_or left q (pos 0) ≡ paid q) → IsGoneOver v.places paid left
  start_gone each = record {
    value = λ set. pos 0;
    choice = λ set. 0;
    none_yet = λ set place at low. refl;
    whole = λ set place at low. omega (arith, rules.numbered.in_range set place at, whole);
    solved = λ set place at low. absurd (omega (arith, rules.numbered.in_range set place at, whole, low, row.some_action set place at));
    each = λ seq low. each seq low ∙ leads_plain seq;
  }

  pub start_left : (top : Option SetId) → IsSetOf v top → IsLeft v.places (length left) top
  start_left None is = tt
  start_left (Some top) is =
      let place = within v.places top.0 is in
      (place.0, place.1, omega (arith, rules.numbered.in_range top.0 place.0 place.1, whole))
