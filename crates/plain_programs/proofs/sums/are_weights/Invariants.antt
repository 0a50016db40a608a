-- Room is left for the weights so far.
use Rattle.plain_programs.proofs.WeightRoom.{IsRoom}
use Rattle.plain_programs.proofs.sums.are_weights.Given as goal

abbrev pub invariant-loop-k : goal.invariant-loop-k
invariant-loop-k l = IsRoom l.list l.k l.left
