-- Reduced plans (von Stengel and Forges 2008): an action at each set that the plan's own earlier actions lead to, and at
-- no other set.
use Rattle.std.specs.Prelude.{ℕ, ◌≡◌, List, Option, Some, slice_get}
use Rattle.sequences.specs.declared.places.Place.{Place}
use Rattle.sequences.specs.Number.{SideView, Plays}

-- the plan names an action at the sets whose own sequence it plays, and at those alone
pub record IsReduced (v : SideView) (plan : List (Option ℕ)) : Type 0 where
  pub each : (set : ℕ) (place : Place) → slice_get v.places set ≡ Some place → Plays v plan place.own → (action : ℕ) × (slice_get plan set ≡ Some (Some action))
  pub none_else : (set action : ℕ) (place : Place) → slice_get v.places set ≡ Some place → slice_get plan set ≡ Some (Some action) → Plays v plan place.own
