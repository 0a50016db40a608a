-- Pairs of plans of a game (von Stengel and Forges 2008).
use Rattle.std.specs.Prelude.{◌≡◌, ℕ, ◌<◌, ◌≤◌, List, All, Option, Some, length, slice_get}
use Rattle.corr_game.specs.declared.plans.Pair.{Pair}
use Rattle.corr_game.specs.declared.nodes.SetInfo.{SetInfo}
use Rattle.corr_game.specs.declared.sides.Side.{Side}
use Rattle.corr_game.specs.declared.sides.Side.TheVariants.{One, Two}
use Rattle.corr_game.specs.Game.{GameView, sets_of}
use Rattle.corr_game.specs.Plan.{IsPlan}
use Rattle.corr_num.specs.Narrow.{Narrow}
use Rattle.equilibrium.specs.Reach.{leads}
use Rattle.equilibrium.specs.ReducedPlan.{IsReduced, names_some}

-- each plan of a pair is one of its player
abbrev pub IsPlanned : GameView → Pair → Type 0
IsPlanned g pair = IsPlan One g pair.one × IsPlan Two g pair.two

-- a pair of plans that is drawn with a narrow weight
abbrev pub IsDrawn : GameView → Pair → Type 0
IsDrawn g pair = IsPlanned g pair × Narrow pair.weight

-- a mediator's list of 65535 pairs at most
abbrev pub AreDrawn : GameView → List Pair → Type 0
AreDrawn g list = All (IsDrawn g) list × (length list ≤ 65535)

-- a reduced plan of each player
abbrev pub AreReduced : GameView → Pair → Type 0
AreReduced g pair = IsReduced One g pair.one × IsReduced Two g pair.two

-- at this set a plan names an action exactly where it leads there, and one of the set's
pub record FitsAt (side : Side) (g : GameView) (plan : List (Option ℕ)) (set : ℕ) : Type 0 where
  pub where_led : names_some (slice_get plan set) ≡ leads side g plan set
  pub in_range : (action : ℕ) (info : SetInfo) → slice_get plan set ≡ Some (Some action) → slice_get (sets_of side g) set ≡ Some info
      → action < info.actions
