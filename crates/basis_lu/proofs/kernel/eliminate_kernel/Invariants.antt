use Rattle.std.proofs.Common.{◌≡◌, vec_len}
use Rattle.basis_lu.proofs.kernel.eliminate_kernel.Given as goal

abbrev pub invariant-loop-number : goal.invariant-loop-number
invariant-loop-number l = vec_len l.elimination.basis ≡ vec_len l.initial.elimination.basis
