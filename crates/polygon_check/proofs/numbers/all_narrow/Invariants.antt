-- The numbers passed are narrow.
use Rattle.std.proofs.Common.{ℕ, ◌<◌, get_or, pos}
use Rattle.corr_num.specs.Narrow.{Narrow}
use Rattle.polygon_check.proofs.numbers.all_narrow.Given as goal

abbrev pub invariant-loop-k : goal.invariant-loop-k
invariant-loop-k l = (i : ℕ) → i < l.k → Narrow (get_or l.list i (pos 0))
