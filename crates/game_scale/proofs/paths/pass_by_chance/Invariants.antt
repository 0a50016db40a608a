-- The ways to the kids so far lead on from the path.
use Rattle.std.proofs.Common.{◌≡◌, length, slice_get, Some}
use Rattle.game_scale.specs.Ways.{ArePassed}
use Rattle.game_scale.proofs.paths.pass_by_chance.Given as goal

abbrev pub invariant-loop-k : goal.invariant-loop-k
invariant-loop-k l = record {
  count : length l.ways.items ≡ length l.initial.ways.items;
  each : ArePassed (λ k prob. slice_get l.probs k ≡ Some prob) l.kids l.k l.path l.initial.ways.items l.ways.items;
}
