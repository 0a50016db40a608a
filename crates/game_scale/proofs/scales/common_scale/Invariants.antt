-- The scale so far is common to the leaves before node n, and within the limit.
use Rattle.std.proofs.Common.{◌≤◌, ◌^◌}
use Rattle.game_scale.proofs.CommonScale.{IsCommon}
use Rattle.game_scale.proofs.scales.common_scale.Given as goal

abbrev pub invariant-loop-n : goal.invariant-loop-n
invariant-loop-n l = record {
  common : IsCommon l.side l.game.nodes l.paths l.n l.scale;
  within : l.scale ≤ 2 ^ 24;
}
