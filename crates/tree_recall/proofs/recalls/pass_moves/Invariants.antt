-- The kids gone over have what they are given, every other entry is as it was, and there are as many.
use Rattle.std.proofs.Common.{◌≡◌, ℕ, length, slice_index_or, Option, Some}
use Rattle.corr_game.specs.declared.nodes.SetId.{SetId}
use Rattle.tree_recall.specs.LastMove.{IsHandedOn}
use Rattle.tree_recall.proofs.recalls.pass_moves.Given as goal

abbrev pub invariant-loop-k : goal.invariant-loop-k
invariant-loop-k l =
    (length l.above.items ≡ length l.initial.above.items)
    × ((k : ℕ) (none : Option (SetId × ℕ)) → IsHandedOn l.kids (λ action. Some (l.set, action)) l.k k (slice_index_or l.initial.above.items k none) (slice_index_or l.above.items k none))
