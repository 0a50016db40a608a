-- each weight is narrow, and the rest is still to be added
use Rattle.std.proofs.Common.{◌≡◌, ◌*◌, ◌^◌, ◌≤◌, ◌+ℤ◌, drop, unsigned_abs}
use Rattle.equilibrium.specs.Distribution.{entries_of, total}
use Rattle.cert_check.proofs.corners.weight_sum.Given as goal

abbrev pub invariant-loop-k : goal.invariant-loop-k
invariant-loop-k l =
    (unsigned_abs l.total ≤ l.k * 2 ^ 62) × (l.total +ℤ total (entries_of (drop l.k l.list)) ≡ total (entries_of l.list))
