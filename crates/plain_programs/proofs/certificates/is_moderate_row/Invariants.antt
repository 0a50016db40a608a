use Rattle.std.proofs.Common.{ℕ, ◌<◌, ◌≤◌, ◌^◌, unsigned_abs}
use Rattle.lp_form.specs.Program.{coefficient}
use Rattle.plain_programs.proofs.certificates.is_moderate_row.Given as goal

abbrev pub invariant-loop-col : goal.invariant-loop-col
invariant-loop-col l = (col : ℕ) → col < l.col → unsigned_abs (coefficient l.lp l.fn.row col) ≤ 2 ^ 30
