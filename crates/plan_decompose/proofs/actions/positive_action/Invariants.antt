-- No action gone over has a positive value.
use Rattle.std.proofs.Common.{◌≤ℤ◌, ◌<◌, ℕ, pos}
use Rattle.sequences.specs.Number.{Ends, side_of}
use Rattle.plan_decompose.specs.Solution.{value_of}
use Rattle.plan_decompose.proofs.actions.positive_action.Given as goal

abbrev pub invariant-loop-action : goal.invariant-loop-action
invariant-loop-action l = (action seq : ℕ) → action < l.action → Ends (side_of l.at.side l.pairs.seqs).places (l.at.set, action) seq → value_of l.pairs l.values l.at.side seq l.beside ≤ℤ pos 0
