-- Each node gone over has changed coefficients by its terms, and by two amounts at most.
use Rattle.std.proofs.Common.{◌*◌, ◌^◌}
use Rattle.incentive_rows.specs.Bounds.{Grows}
use Rattle.incentive_rows.specs.Coefficient.{IsLeafTerm}
use Rattle.incentive_rows.specs.Term.{AreTerms, Changes}
use Rattle.incentive_rows.proofs.leaves.add_leaves.Given as goal

abbrev pub invariant-loop-n : goal.invariant-loop-n
invariant-loop-n l =
    Grows (l.n * 2 ^ 29) l.initial.lp l.lp
    × Changes (λ r k. AreTerms (IsLeafTerm l.game l.pairs l.trigger l.places.sets.items l.places.rows r k) l.n) l.initial.lp l.lp
