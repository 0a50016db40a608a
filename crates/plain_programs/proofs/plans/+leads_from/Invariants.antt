-- What the kids left give is what all kids give; kids stand behind their node.
use Rattle.std.proofs.Common.{◌≡◌, ◌-◌, length, drop}
use Rattle.equilibrium.specs.Reach.{allows, comes_to, some_kid}
use Rattle.plain_programs.proofs.plans.+leads_from.Given as goal

abbrev pub decreases-leads_from : goal.decreases-leads_from
decreases-leads_from l = length l.game.now.nodes - l.n

abbrev pub invariant-loop-k : goal.invariant-loop-k
invariant-loop-k l =
    some_kid (allows l.side l.plan l.node) (comes_to (allows l.side l.plan) l.side l.game l.set.0) l.k (drop l.k l.kids)
    ≡ some_kid (allows l.side l.plan l.node) (comes_to (allows l.side l.plan) l.side l.game l.set.0) 0 l.kids
