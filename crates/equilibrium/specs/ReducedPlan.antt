-- Reduced plans (von Stengel and Forges 2008): an action exactly at the sets to which the plan leads.
use Rattle.std.specs.Prelude.{◌≡◌, ℕ, ◌<◌, Bool, true, false, List, length, Option, Some, None, slice_get}
use Rattle.corr_game.specs.declared.sides.Side.{Side}
use Rattle.corr_game.specs.Game.{GameView, sets_of}
use Rattle.corr_game.specs.Plan.{IsPlan}
use Rattle.equilibrium.specs.Reach.{leads}

-- whether an entry of a plan names an action
abbrev pub names_some : Option (Option ℕ) → Bool
names_some None = false
names_some (Some None) = false
names_some (Some (Some action)) = true

-- a plan that names an action at the sets to which it leads, and at no other
pub record IsReduced (side : Side) (g : GameView) (plan : List (Option ℕ)) : Type 0 where
  pub is_plan : IsPlan side g plan
  pub where_led : (set : ℕ) → set < length (sets_of side g) → names_some (slice_get plan set) ≡ leads side g plan set
