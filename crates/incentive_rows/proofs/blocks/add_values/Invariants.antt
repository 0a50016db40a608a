-- The sets gone over have changed coefficients by their terms, and by 130 each at most.
use Rattle.std.proofs.Common.{◌*◌}
use Rattle.incentive_rows.specs.Bounds.{Grows}
use Rattle.incentive_rows.specs.Coefficient.{IsSetTerm}
use Rattle.incentive_rows.specs.Term.{AreTerms, Changes}
use Rattle.incentive_rows.proofs.blocks.add_values.Given as goal

abbrev pub invariant-loop-set : goal.invariant-loop-set
invariant-loop-set l =
    Grows (l.set * 130) l.initial.lp l.lp
    × Changes (λ r k. AreTerms (IsSetTerm l.game l.pairs l.trigger l.places.sets.items l.places.rows l.columns r k) l.set) l.initial.lp l.lp
