-- Distributions over pairs of plans, as lists of pairs with whole weights (Aumann 1974; von Stengel and Forges 2008).
use Rattle.std.specs.Prelude.{ℕ, ◌≤◌, List, Option, ℤ, pos, ◌*ℤ◌, map, unsigned_abs}
use Rattle.exact_algebra.specs.Sums.{sum_over}
use Rattle.corr_game.specs.declared.plans.Pair.{Pair}
use Rattle.corr_game.specs.declared.sides.Side.{Side}
use Rattle.corr_game.specs.declared.sides.Side.TheVariants.{One, Two}
use Rattle.corr_game.specs.Game.{GameView}
use Rattle.corr_game.specs.Walk.{walk}
use Rattle.equilibrium.specs.ReducedPlan.{IsReduced}

-- a plan of each player, and the weight of the two
pub record Entry : Type 0 where
  pub one : List (Option ℕ)
  pub two : List (Option ℕ)
  pub weight : ℕ

-- two reduced plans with a weight of 1 or more
pub record IsEntry (g : GameView) (entry : Entry) : Type 0 where
  pub one : IsReduced One g entry.one
  pub two : IsReduced Two g entry.two
  pub weighs : 1 ≤ entry.weight

-- a number for each entry, summed by weight
abbrev pub weighted : (Entry → ℤ) → List Entry → ℤ
weighted number list = sum_over (λ entry. pos entry.weight *ℤ number entry) list

-- the weights' sum
abbrev pub total : List Entry → ℤ
total list = sum_over (λ entry. pos entry.weight) list

-- what a player gets in an entry where both follow it
abbrev pub pay : Side → GameView → Entry → ℤ
pay side g entry = walk side g entry.one entry.two 0

-- the code's list of pairs of plans, seen as such a list
abbrev pub entry_of : Pair → Entry
entry_of pair = record { one = pair.one; two = pair.two; weight = unsigned_abs pair.weight }

abbrev pub entries_of : List Pair → List Entry
entries_of pairs = map entry_of pairs
