-- What the multipliers make of each column so far isn't above 0.
use Rattle.std.proofs.Common.{ℕ, ◌<◌, pos, ◌≤ℤ◌}
use Rattle.lp_form.specs.Certificates.{times_column}
use Rattle.plain_programs.proofs.certificates.makes_none_above_0.Given as goal

abbrev pub invariant-loop-col : goal.invariant-loop-col
invariant-loop-col l = (col : ℕ) → col < l.col → times_column l.lp l.multipliers col ≤ℤ pos 0
