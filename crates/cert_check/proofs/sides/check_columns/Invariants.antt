-- The columns passed keep the rule.
use Rattle.std.proofs.Common.{ℕ, ◌<◌, pos, slice_index_or}
use Rattle.cert_check.specs.Certified.{Passes}
use Rattle.cert_check.proofs.sides.check_columns.Given as goal

abbrev pub invariant-loop-col : goal.invariant-loop-col
invariant-loop-col l = (k : ℕ) → k < l.col → Passes l.side.dir (slice_index_or l.first.items k (pos 0)) (slice_index_or l.second.items k (pos 0))
