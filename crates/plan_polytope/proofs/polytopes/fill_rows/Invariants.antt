-- The rows alone change, there are as many, and each coefficient is a unit. The rows gone over are filled.
use Rattle.std.proofs.Common.{◌≡◌, length}
use Rattle.plan_polytope.specs.Bounds.{AreUnits}
use Rattle.plan_polytope.proofs.Filling.{HasRows}
use Rattle.plan_polytope.proofs.polytopes.fill_rows.Given as goal

abbrev pub invariant-loop-k : goal.invariant-loop-k
invariant-loop-k l = (l.lp ≡ record l.initial.lp { rows = l.lp.rows }) × (length l.lp.rows ≡ length l.initial.lp.rows) × AreUnits l.lp
    × HasRows l.pairs l.rows l.k l.initial.lp l.lp
