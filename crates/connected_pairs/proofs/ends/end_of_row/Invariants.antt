-- The rest of the row ends where the whole does.
use Rattle.std.proofs.Common.{◌≡◌, drop, slice_index}
use Rattle.corr_game.specs.Preorder.{row_end}
use Rattle.connected_pairs.proofs.ends.end_of_row.Given as goal

abbrev pub invariant-loop-k : goal.invariant-loop-k
invariant-loop-k l = row_end l.end (drop l.k l.kids) (λ kid. slice_index l.ends kid) ≡ row_end l.start l.kids (λ kid. slice_index l.ends kid)
