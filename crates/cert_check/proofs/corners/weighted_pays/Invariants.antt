-- each pair adds less than 2^102, and the rest is still to be added
use Rattle.std.proofs.Common.{◌≡◌, ◌*◌, ◌^◌, ◌≤◌, ◌+ℤ◌, drop, unsigned_abs}
use Rattle.corr_game.specs.declared.sides.Side.TheVariants.{One, Two}
use Rattle.equilibrium.specs.Deviation.{following}
use Rattle.equilibrium.specs.Distribution.{entries_of}
use Rattle.cert_check.proofs.corners.weighted_pays.Given as goal

abbrev pub invariant-loop-k : goal.invariant-loop-k
invariant-loop-k l =
    (unsigned_abs l.total.one ≤ l.k * 2 ^ 102)
    × (unsigned_abs l.total.two ≤ l.k * 2 ^ 102)
    × (l.total.one +ℤ following One l.game (entries_of (drop l.k l.list)) ≡ following One l.game (entries_of l.list))
    × (l.total.two +ℤ following Two l.game (entries_of (drop l.k l.list)) ≡ following Two l.game (entries_of l.list))
