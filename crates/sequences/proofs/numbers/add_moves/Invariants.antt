-- The moves gone over stand behind the old ones.
use Rattle.std.proofs.Common.{◌≡◌, ◌++◌}
use Rattle.sequences.proofs.Adding.{moves_at}
use Rattle.sequences.proofs.numbers.add_moves.Given as goal

abbrev pub invariant-loop-action : goal.invariant-loop-action
invariant-loop-action l = l.lasts.items ≡ l.initial.lasts.items ++ moves_at l.set l.action
