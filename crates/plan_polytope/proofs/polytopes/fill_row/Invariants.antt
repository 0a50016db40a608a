-- The rows alone change, there are as many, and each coefficient is a unit. The moves gone over have their 1.
use Rattle.std.proofs.Common.{◌≡◌, length}
use Rattle.plan_polytope.specs.Bounds.{AreUnits}
use Rattle.plan_polytope.proofs.Filling.{HasMoves}
use Rattle.plan_polytope.proofs.polytopes.fill_row.Given as goal

abbrev pub invariant-loop-action : goal.invariant-loop-action
invariant-loop-action l = (l.lp ≡ record l.initial.lp { rows = l.lp.rows }) × (length l.lp.rows ≡ length l.initial.lp.rows) × AreUnits l.lp
    × HasMoves l.pairs l.row l.at l.action l.initial.lp l.lp
