-- Lists of weighted pairs of plans, and slacks, whose sums fit 128 bits.
use Rattle.std.specs.Prelude.{◌^◌, ◌≤◌, List, All, pos, ◌≤ℤ◌}
use Rattle.corr_game.specs.declared.plans.Pair.{Pair}
use Rattle.equilibrium.specs.Distribution.{entries_of, total}
use Rattle.equilibrium.specs.Equilibrium.{Slack}

-- no weight is below 0, and together they are at most 2^62
pub record AreWeights (list : List Pair) : Type 0 where
  pub not_negative : All (λ (pair : Pair). pos 0 ≤ℤ pair.weight) list
  pub at_most : total (entries_of list) ≤ℤ pos (2 ^ 62)

-- a numerator of at most 2^20 over a denominator of at most 2^10
pub record IsSmallSlack (slack : Slack) : Type 0 where
  pub num : slack.num ≤ 2 ^ 20
  pub den : slack.den ≤ 2 ^ 10
