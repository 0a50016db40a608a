-- The sets gone over are numbered, each with the own sequence of its recalled move.
use Rattle.corr_game.specs.Game.{sets_of}
use Rattle.tree_recall.specs.LastMove.{moves_of}
use Rattle.sequences.proofs.Adding.{IsPart}
use Rattle.sequences.proofs.Owned.{AreRecalled}
use Rattle.sequences.proofs.numbers.number.Given as goal

abbrev pub invariant-loop-set : goal.invariant-loop-set
invariant-loop-set l = record {
  part : IsPart (sets_of l.side l.game) l.set l.places.items l.lasts.items;
  recalled : AreRecalled (moves_of l.side l.recalled) l.places.items;
}
