-- A plan of one player as a list of optional actions, one per set.
use Rattle.std.specs.Prelude.{◌≡◌, ℕ, ◌<◌, List, length, Option, Some, slice_get}
use Rattle.corr_game.specs.declared.nodes.SetInfo.{SetInfo}
use Rattle.corr_game.specs.declared.sides.Side.{Side}
use Rattle.corr_game.specs.declared.sides.Side.TheVariants.{One, Two}
use Rattle.corr_game.specs.Game.{GameView, sets_of}

-- the plan of this player, of the two
abbrev pub plan_of : Side → List (Option ℕ) → List (Option ℕ) → List (Option ℕ)
plan_of One one two = one
plan_of Two one two = two

-- one entry per set, and each action that is named is one of its set's
pub record IsPlan (side : Side) (g : GameView) (plan : List (Option ℕ)) : Type 0 where
  pub per_set : length plan ≡ length (sets_of side g)
  pub in_range : (set action : ℕ) (info : SetInfo) → slice_get plan set ≡ Some (Some action) → slice_get (sets_of side g) set ≡ Some info → action < info.actions
