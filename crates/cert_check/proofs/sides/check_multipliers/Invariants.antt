-- The products passed are narrow and not above 0.
use Rattle.std.proofs.Common.{ℕ, ◌<◌, pos, ◌≤ℤ◌, slice_index_or}
use Rattle.corr_num.specs.Narrow.{Narrow}
use Rattle.cert_check.proofs.sides.check_multipliers.Given as goal

abbrev pub invariant-loop-col : goal.invariant-loop-col
invariant-loop-col l = (k : ℕ) → k < l.col → Narrow (slice_index_or l.products.items k (pos 0)) × (slice_index_or l.products.items k (pos 0) ≤ℤ pos 0)
