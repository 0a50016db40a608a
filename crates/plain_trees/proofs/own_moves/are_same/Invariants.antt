-- The moves so far are the same.
use Rattle.std.proofs.Common.{◌≡◌, ℕ, ◌<◌, get_or}
use Rattle.corr_game.specs.declared.nodes.SetId.{SetId}
use Rattle.plain_trees.proofs.own_moves.are_same.Given as goal

abbrev pub invariant-loop-k : goal.invariant-loop-k
invariant-loop-k l = (j : ℕ) (d : SetId × ℕ) → j < l.k → get_or l.a j d ≡ get_or l.b j d
