-- One set more has its place behind the others, and the places of all sets stand in the rows of a trigger.
use Rattle.std.proofs.Common.{◌≡◌, ℕ, ◌+◌, List, [], ◌∷◌, ◌++◌, Option, Some, None, length, slice_get, refl, sym, ap, ◌∙◌, inl, inr, arith}
use Rattle.std.proofs.lemmas.List.{length_push}
use Rattle.std.proofs.lemmas.Option.{slice_get_within}
use Rattle.corr_game.specs.declared.nodes.SetId.{SetId}
use Rattle.corr_game.specs.declared.nodes.SetInfo.{SetInfo}
use Rattle.corr_game.specs.declared.sides.Side.{Side}
use Rattle.corr_game.specs.Game.{GameView, sets_of}
use Rattle.tree_recall.proofs.Progress.{slice_get-push}
use Rattle.sequences.specs.Number.{side_of}
use Rattle.sequences.proofs.Adding.{within}
use Rattle.connected_pairs.specs.Connected.{PairsView, IsPairsOf}
use Rattle.incentive_rows.specs.declared.places.SetPlace.{SetPlace}
use Rattle.incentive_rows.specs.Trigger.{HasSet}
use Rattle.incentive_rows.specs.Size.{CountsFor, row_each, value_each}
use Rattle.incentive_rows.specs.Places.{ArePlaces, StandIn}
use Rattle.incentive_rows.proofs.Sums.{sum_more}

pub placed : (g : GameView) (p : PairsView) (side : Side) (top : Option SetId) (set : ℕ) (sets : List (Option SetPlace)) (values rows : ℕ) (info : SetInfo) (place : SetPlace) → ArePlaces g p side top set sets values rows
    → slice_get (sets_of side g) set ≡ Some info → HasSet (side_of side p.seqs) top set → place.value ≡ values → place.row ≡ rows
    → ArePlaces g p side top (set + 1) (sets ++ Some place ∷ []) (values + 1) (rows + info.actions)
placed g p side top set sets values rows info place h at has value row = record {
  per_set = length_push sets (Some place) ∙ ap (λ n. n + 1) h.per_set;
  all_values = sum_more (CountsFor value_each g p side top) set values 1 (values + 1) h.all_values (info, at, inl (has, refl)) refl;
  all_rows = sum_more (CountsFor row_each g p side top) set rows info.actions (rows + info.actions) h.all_rows (info, at, inl (has, refl)) refl;
  within = λ k found i here known. elim (slice_get-push sets (Some place) (Some found) k here) [
    | inl there ↦ let old = h.within k found i there known in (omega (arith, old.0), omega (arith, old.1))
    | inr end ↦
        let index : k ≡ set = end.0 ∙ h.per_set in
        let one : Some info ≡ Some i = sym at ∙ (ap (slice_get (sets_of side g)) (sym index) ∙ known) in
        let same : info ≡ i = cc in
        let actions = ap (λ (x : SetInfo). x.actions) same in
        let put : place ≡ found = cc (end.1) in
        rw (← put) (omega (arith, value), omega (arith, row, actions))
  ];
  each = λ k found here. elim (slice_get-push sets (Some place) (Some found) k here) [
    | inl there ↦ h.each k found there
    | inr end ↦
        let index : k ≡ set = end.0 ∙ h.per_set in
        let put : place ≡ found = cc (end.1) in
        rw (← put, index, value, row) (has, h.all_values, h.all_rows)
  ];
  others = λ k here. elim (slice_get-push sets (Some place) None k here) [
    | inl there ↦ h.others k there
    | inr end ↦ absurd (cc (end.1))
  ];
}

pub unplaced : (g : GameView) (p : PairsView) (side : Side) (top : Option SetId) (set : ℕ) (sets : List (Option SetPlace)) (values rows : ℕ) (info : SetInfo) → ArePlaces g p side top set sets values rows
    → slice_get (sets_of side g) set ≡ Some info → (HasSet (side_of side p.seqs) top set → ⊥)
    → ArePlaces g p side top (set + 1) (sets ++ None ∷ []) values rows
unplaced g p side top set sets values rows info h at lacks = record {
  per_set = length_push sets None ∙ ap (λ n. n + 1) h.per_set;
  all_values = sum_more (CountsFor value_each g p side top) set values 0 values h.all_values (info, at, inr (lacks, refl)) (omega arith);
  all_rows = sum_more (CountsFor row_each g p side top) set rows 0 rows h.all_rows (info, at, inr (lacks, refl)) (omega arith);
  within = λ k found i here known. elim (slice_get-push sets None (Some found) k here) [
    | inl there ↦ h.within k found i there known
    | inr end ↦ absurd (cc (end.1))
  ];
  each = λ k found here. elim (slice_get-push sets None (Some found) k here) [
    | inl there ↦ h.each k found there
    | inr end ↦ absurd (cc (end.1))
  ];
  others = λ k here. elim (slice_get-push sets None None k here) [
    | inl there ↦ h.others k there
    | inr end ↦
        let index : k ≡ set = end.0 ∙ h.per_set in
        rw index lacks
  ];
}

pub stand_in : (g : GameView) (p : PairsView) (side : Side) (top : Option SetId) (sets : List (Option SetPlace)) (values rows : ℕ) → IsPairsOf g p
    → ArePlaces g p side top (length (sets_of side g)) sets values rows → StandIn (side_of side p.seqs) sets rows
stand_in g p side top sets values rows whose h = record {
  per_set = h.per_set ∙ sym (whose.sides side).per_set;
  in_rows = λ set place numbers found at.
      let info = within (sets_of side g) set (omega (arith, slice_get_within sets set (Some place) found, h.per_set)) in
      omega (arith, (h.within set place info.0 found info.1).1, (whose.sides side).same_actions set numbers info.0 at info.1);
}
