-- No column so far is left below 0.
use Rattle.std.proofs.Common.{ℕ, ◌<◌, pos, ◌≤ℤ◌}
use Rattle.plain_programs.specs.Moderate.{left_along}
use Rattle.plain_programs.proofs.certificates.leaves_none_below_0.Given as goal

abbrev pub invariant-loop-col : goal.invariant-loop-col
invariant-loop-col l = (col : ℕ) → col < l.col → pos 0 ≤ℤ left_along l.lp l.dir l.den l.first l.second col
