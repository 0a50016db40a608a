-- Each set has an action, and the sequences that end at the sets stand in a row.
use Rattle.std.proofs.Common.{◌≡◌, ℕ, zero, suc, ◌+◌, ◌<◌, List, [], ◌∷◌, length, Some, slice_get, take, arith}
use Rattle.std.proofs.lemmas.List.Sums.{sum_by-cons}
use Rattle.std.proofs.lemmas.Option.{get_or_from_slice_get, slice_get_within}
use Rattle.corr_game.specs.declared.nodes.SetInfo.{SetInfo}
use Rattle.corr_game.specs.declared.sides.Side.{Side}
use Rattle.corr_game.specs.Game.{GameView, IsGame, sets_of}
use Rattle.sequences.specs.declared.places.Place.{Place}
use Rattle.sequences.specs.Number.{IsSideOf, SideView, ends_before}
use Rattle.sequences.proofs.Adding.{within}
use Rattle.equilibrium_solutions.proofs.Departing.{ends_rise}
use Rattle.deviation_gains.specs.Leaving.{StandInRow}

ends_next : (sets : List SetInfo) (j : ℕ) (info : SetInfo) → slice_get sets j ≡ Some info
    → ends_before sets (suc j) ≡ ends_before sets j + info.actions
ends_next [] j info e = absurd (cc)
ends_next (x ∷ xs) zero info e = let same : x ≡ info = cc in rw same (omega arith)
ends_next (x ∷ xs) (suc j) info e =
    let actions : SetInfo → ℕ = λ info. info.actions in
    let more = sum_by-cons actions x (take (suc j) xs) in
    let less = sum_by-cons actions x (take j xs) in
    omega (arith, ends_next xs j info e, more, less)

module _ (side : Side) (g : GameView) (rules : IsGame g) (v : SideView) (of : IsSideOf side g v) where
  info_of : (set : ℕ) (place : Place) → slice_get v.places set ≡ Some place
      → (info : SetInfo) × (slice_get (sets_of side g) set ≡ Some info) × (place.actions ≡ info.actions)
  info_of set place at =
      let low : set < length (sets_of side g) = omega (arith, of.per_set, slice_get_within v.places set place at) in
      let info = within (sets_of side g) set low in
      (info.0, info.1, of.same_actions set place info.0 at info.1)

  pub stand_in_row : StandInRow v.places
  stand_in_row = record {
    some_action = λ set place at.
        let info = info_of set place at in
        let low = slice_get_within (sets_of side g) set info.0 info.1 in
        let same = get_or_from_slice_get (sets_of side g) set info.0 info.0 info.1 in
        let some = rw same at (rules.each_set side set info.0 low).0 in
        omega (arith, some, info.2);
    in_row = λ j k a b at_j at_k less.
        let info = info_of j a at_j in
        omega (
          arith,
          of.in_turn j a at_j,
          of.in_turn k b at_k,
          info.2,
          ends_next (sets_of side g) j info.0 info.1,
          ends_rise (sets_of side g) (suc j) k (omega arith),
        );
  }
