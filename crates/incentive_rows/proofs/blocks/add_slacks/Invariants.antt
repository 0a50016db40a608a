-- The rows gone over have their slacks.
use Rattle.incentive_rows.specs.Bounds.{Grows}
use Rattle.incentive_rows.specs.Coefficient.{IsSlackTerm}
use Rattle.incentive_rows.specs.Term.{Changes}
use Rattle.incentive_rows.proofs.blocks.add_slacks.Given as goal

abbrev pub invariant-loop-row : goal.invariant-loop-row
invariant-loop-row l = Grows l.row l.initial.lp l.lp × Changes (IsSlackTerm l.columns l.row) l.initial.lp l.lp
