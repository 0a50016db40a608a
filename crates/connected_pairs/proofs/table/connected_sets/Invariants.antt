-- The table has one entry for each two sets, and marks those that the nodes gone over connect.
use Rattle.std.proofs.Common.{◌≡◌, ◌*◌, length}
use Rattle.corr_game.specs.Game.{sets_of}
use Rattle.corr_game.specs.declared.sides.Side.TheVariants.{One, Two}
use Rattle.connected_pairs.proofs.Marking.{IsMarkedTo}
use Rattle.connected_pairs.proofs.table.connected_sets.Given as goal

abbrev pub invariant-loop-n : goal.invariant-loop-n
invariant-loop-n l = record {
  size : length l.table.items ≡ length (sets_of One l.game) * length (sets_of Two l.game);
  marked : IsMarkedTo l.game l.n l.table.items;
}
