-- The rows of the actions gone over have the value and the floor.
use Rattle.std.proofs.Common.{◌*◌}
use Rattle.incentive_rows.specs.Bounds.{Grows}
use Rattle.incentive_rows.specs.Coefficient.{IsValueTerm}
use Rattle.incentive_rows.specs.Term.{Changes}
use Rattle.incentive_rows.proofs.blocks.add_value.Given as goal

abbrev pub invariant-loop-action : goal.invariant-loop-action
invariant-loop-action l = Grows (2 * l.action) l.initial.lp l.lp × Changes (IsValueTerm l.columns l.action l.place) l.initial.lp l.lp
