use Rattle.std.proofs.Common.{ℕ, ◌<◌, ◌≤◌, ◌^◌, unsigned_abs}
use Rattle.lp_form.specs.Program.{coefficient}
use Rattle.plain_programs.proofs.certificates.has_moderate_rows.Given as goal

abbrev pub invariant-loop-row : goal.invariant-loop-row
invariant-loop-row l = (row col : ℕ) → row < l.row → col < l.lp.cols → unsigned_abs (coefficient l.lp row col) ≤ 2 ^ 30
