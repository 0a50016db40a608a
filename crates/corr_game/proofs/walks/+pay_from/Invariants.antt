-- What is summed so far and what the kids left pay make the whole sum; kids stand behind their node.
use Rattle.std.proofs.Common.{◌≡◌, ◌-◌, length, drop, ◌+ℤ◌}
use Rattle.corr_game.specs.Walk.{total, walk}
use Rattle.corr_game.specs.declared.sides.Side.TheVariants.{One, Two}
use Rattle.corr_game.proofs.walks.+pay_from.Given as goal

abbrev pub decreases-pay_from : goal.decreases-pay_from
decreases-pay_from l = length l.game.now.nodes - l.n

abbrev pub invariant-loop-k : goal.invariant-loop-k
invariant-loop-k l =
    (l.sum.one +ℤ total (walk One l.game l.one l.two) (drop l.k l.kids) ≡ total (walk One l.game l.one l.two) l.kids)
    × (l.sum.two +ℤ total (walk Two l.game l.one l.two) (drop l.k l.kids) ≡ total (walk Two l.game l.one l.two) l.kids)
