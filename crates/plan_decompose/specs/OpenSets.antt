-- How the open sets of a player change. Each has the sequence of the other player that stands beside it, as in the rows
-- that von Stengel and Forges (2008) give for sets and sequences.
use Rattle.std.specs.Prelude.{ℕ, ◌≡◌, ◌<◌, ◌⊎◌, Bool, true, length, List, Option, Some, slice_get}
use Rattle.sequences.specs.declared.places.Place.{Place}
use Rattle.corr_game.specs.declared.sides.Side.{Side}
use Rattle.sequences.specs.Number.{SideView}
use Rattle.connected_pairs.specs.Connected.{PairsView, touches}

-- a set is open now, where its own sequence is this one, and is as it was where it isn't
abbrev pub Opens : ℕ → ℕ → ℕ → Option (Option ℕ) → Option (Option ℕ) → Type 0
Opens own after t old new = ((own ≡ after) × (new ≡ Some (Some t))) ⊎ ((own ≡ after → ⊥) × (new ≡ old))

-- the sets right after a sequence are open now, beside another one
pub record AreOpened (v : SideView) (after t : ℕ) (old new : List (Option ℕ)) : Type 0 where
  pub as_many : length new ≡ length old
  pub each : (set : ℕ) (place : Place) → slice_get v.places set ≡ Some place → Opens place.own after t (slice_get old set) (slice_get new set)

-- a set stands beside another sequence now, where it is open and connected to the settled set, and is as it was where not
abbrev pub Moves : Bool → ℕ → Option (Option ℕ) → Option (Option ℕ) → Type 0
Moves joined t old new =
    ((joined ≡ true) × ((was : ℕ) × (old ≡ Some (Some was))) × (new ≡ Some (Some t)))
    ⊎ ((joined ≡ true → (was : ℕ) → old ≡ Some (Some was) → ⊥) × (new ≡ old))

-- the other player's open sets that are connected to the settled one stand beside this sequence now
pub record AreMoved (p : PairsView) (side : Side) (settled t : ℕ) (old new : List (Option ℕ)) : Type 0 where
  pub as_many : length new ≡ length old
  pub each : (set : ℕ) → set < length old → Moves (touches p side settled set) t (slice_get old set) (slice_get new set)
