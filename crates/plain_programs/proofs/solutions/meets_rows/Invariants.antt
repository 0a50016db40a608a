-- Each row so far is met.
use Rattle.std.proofs.Common.{◌≡◌, ℕ, ◌<◌, pos, ◌*ℤ◌, slice_index_or}
use Rattle.exact_algebra.specs.Sums.{sum_to}
use Rattle.lp_form.specs.Program.{coefficient, right_of}
use Rattle.plain_programs.proofs.solutions.meets_rows.Given as goal

abbrev pub invariant-loop-row : goal.invariant-loop-row
invariant-loop-row l = (row : ℕ) → row < l.row → sum_to l.lp.cols
    (λ col. coefficient l.lp row col *ℤ slice_index_or l.numbers col (pos 0)) ≡ l.total *ℤ right_of l.lp row
