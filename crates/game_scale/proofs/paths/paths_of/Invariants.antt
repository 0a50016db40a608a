-- There is a way for each node, and a path for each node before n.
use Rattle.std.proofs.Common.{◌≡◌, length}
use Rattle.game_scale.proofs.PathsSoFar.{AreWays, ArePathsBefore}
use Rattle.game_scale.proofs.paths.paths_of.Given as goal

abbrev pub invariant-loop-n : goal.invariant-loop-n
invariant-loop-n l = record {
  room : length l.ways.items ≡ length l.game.nodes;
  count : length l.paths.items ≡ l.n;
  ways : AreWays l.game l.n l.ways.items;
  paths : ArePathsBefore l.game l.paths.items;
}
