-- The program keeps its size and its right sides.
use Rattle.std.proofs.Common.{◌≡◌, length, pos}
use Rattle.std.specs.Prelude.{replicate, slice_set}
use Rattle.acceptance.proofs.emptiness.program.Given as goal

abbrev pub invariant-loop-row : goal.invariant-loop-row
invariant-loop-row l = (length l.lp.rows ≡ length l.coefficients) × (l.lp.cols ≡ 2) ×
    (l.lp.rights ≡ slice_set (replicate (length l.coefficients) (pos 0)) 0 (pos 1))
