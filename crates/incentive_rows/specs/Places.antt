-- Where the sets of a trigger stand among its values and rows: one behind the other, by set and by action.
use Rattle.std.specs.Prelude.{◌≡◌, ℕ, ◌+◌, ◌<◌, ◌≤◌, List, Option, Some, None, length, slice_get}
use Rattle.corr_game.specs.declared.nodes.SetId.{SetId}
use Rattle.corr_game.specs.declared.nodes.SetInfo.{SetInfo}
use Rattle.corr_game.specs.declared.sides.Side.{Side}
use Rattle.corr_game.specs.Game.{GameView, sets_of}
use Rattle.sequences.specs.declared.places.Place.{Place}
use Rattle.sequences.specs.Number.{SideView, side_of}
use Rattle.connected_pairs.specs.Connected.{PairsView}
use Rattle.incentive_rows.specs.declared.places.SetPlace.{SetPlace}
use Rattle.incentive_rows.specs.Sum.{IsSum}
use Rattle.incentive_rows.specs.Trigger.{HasSet}
use Rattle.incentive_rows.specs.Size.{CountsFor, row_each, value_each}

-- a set of the trigger stands behind the values and the rows of those before it
abbrev pub HasPlace : GameView → PairsView → Side → Option SetId → ℕ → SetPlace → Type 0
HasPlace g p side top set place =
    HasSet (side_of side p.seqs) top set × IsSum (CountsFor value_each g p side top) set place.value × IsSum (CountsFor row_each g p side top) set place.row

-- the places of the sets with numbers below `count`
pub record ArePlaces (g : GameView) (p : PairsView) (side : Side) (top : Option SetId) (count : ℕ) (sets : List (Option SetPlace)) (values rows : ℕ) : Type 0 where
  pub per_set : length sets ≡ count
  pub all_values : IsSum (CountsFor value_each g p side top) count values
  pub all_rows : IsSum (CountsFor row_each g p side top) count rows
  pub within : (set : ℕ) (place : SetPlace) (info : SetInfo) → slice_get sets set ≡ Some (Some place) → slice_get (sets_of side g) set ≡ Some info → (place.value < values) × (place.row + info.actions ≤ rows)
  pub each : (set : ℕ) (place : SetPlace) → slice_get sets set ≡ Some (Some place) → HasPlace g p side top set place
  pub others : (set : ℕ) → slice_get sets set ≡ Some None → HasSet (side_of side p.seqs) top set → ⊥

-- the same by the places of a player's sequences: each action of a set that has a place has a row
pub record StandIn (v : SideView) (sets : List (Option SetPlace)) (rows : ℕ) : Type 0 where
  pub per_set : length sets ≡ length v.places
  pub in_rows : (set : ℕ) (place : SetPlace) (numbers : Place) → slice_get sets set ≡ Some (Some place) → slice_get v.places set ≡ Some numbers → place.row + numbers.actions ≤ rows
