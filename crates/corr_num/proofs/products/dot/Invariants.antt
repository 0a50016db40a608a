use Rattle.std.proofs.Common.{◌≡◌, ◌*◌, ◌^◌, ◌≤◌, length, take, unsigned_abs}
use Rattle.exact_algebra.specs.Sums.{dot}
use Rattle.corr_num.proofs.products.dot.Given as goal

-- the total so far, and its share of the bound
abbrev pub invariant-loop-y : goal.invariant-loop-y
invariant-loop-y l = record {
  value : l.total ≡ dot (take (length l.yielded) l.ys) (take (length l.yielded) l.xs);
  bound : length l.xs * unsigned_abs l.total ≤ length l.yielded * 2 ^ 126;
}
