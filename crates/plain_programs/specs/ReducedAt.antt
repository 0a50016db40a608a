-- A reduced plan, set by set (von Stengel and Forges 2008).
use Rattle.std.specs.Prelude.{◌≡◌, ℕ, ◌<◌, List, Option, Some, slice_get}
use Rattle.corr_game.specs.declared.nodes.SetInfo.{SetInfo}
use Rattle.corr_game.specs.declared.sides.Side.{Side}
use Rattle.corr_game.specs.Game.{GameView, sets_of}
use Rattle.equilibrium.specs.Reach.{leads}
use Rattle.equilibrium.specs.ReducedPlan.{names_some}

-- a plan names one of a set's actions if it leads to the set, and none if it doesn't
pub record IsReducedAt (side : Side) (g : GameView) (plan : List (Option ℕ)) (set : ℕ) : Type 0 where
  pub in_range : (action : ℕ) (info : SetInfo) → slice_get plan set ≡ Some (Some action)
      → slice_get (sets_of side g) set ≡ Some info → action < info.actions
  pub where_led : names_some (slice_get plan set) ≡ leads side g plan set
