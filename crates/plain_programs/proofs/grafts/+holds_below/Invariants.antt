-- What the kids left give is what all kids give; kids stand behind their node.
use Rattle.std.proofs.Common.{◌≡◌, ◌-◌, true, length, drop}
use Rattle.equilibrium.specs.Reach.{comes_to, some_kid}
use Rattle.plain_programs.proofs.grafts.+holds_below.Given as goal

abbrev pub decreases-holds_below : goal.decreases-holds_below
decreases-holds_below l = length l.game.now.nodes - l.n

abbrev pub invariant-loop-k : goal.invariant-loop-k
invariant-loop-k l =
    some_kid (λ action. true) (comes_to (λ at action. true) l.side l.game l.set.0) l.k (drop l.k l.kids)
    ≡ some_kid (λ action. true) (comes_to (λ at action. true) l.side l.game l.set.0) 0 l.kids
