-- After n nodes each coefficient is within n amounts and the sum of what they pay, and the rows are as they were.
use Rattle.std.proofs.Common.{◌≡◌, ℕ, ◌*◌, ◌^◌}
use Rattle.corr_game.specs.declared.sides.Side.{Side}
use Rattle.lp_form.specs.Program.{payoff_of}
use Rattle.plan_polytope.specs.Bounds.{IsWithin, KeepsRows}
use Rattle.plan_polytope.specs.Payoffs.{paid_below}
use Rattle.plan_polytope.proofs.payoffs.add_payoffs.Given as goal

abbrev pub invariant-loop-n : goal.invariant-loop-n
invariant-loop-n l =
    IsWithin (l.n * 2 ^ 28) l.lp
    × KeepsRows l.initial.lp l.lp
    × ((side : Side) (k : ℕ) → payoff_of side l.lp k ≡ paid_below l.game l.pairs side k l.n)
