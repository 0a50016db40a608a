-- Of the sets gone over none is open and connected, or the one that was found alone is.
use Rattle.connected_pairs.specs.Connected.{other, touches}
use Rattle.plan_decompose.proofs.Joining.{IsFound}
use Rattle.plan_decompose.proofs.opens.only_joined.Given as goal

abbrev pub invariant-loop-set : goal.invariant-loop-set
invariant-loop-set l = IsFound (other l.first.side) (touches l.pairs l.first.side l.first.set.0) l.beside l.set l.only
