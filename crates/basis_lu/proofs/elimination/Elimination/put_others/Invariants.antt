use Rattle.std.proofs.Common.{◌≡◌, vec_len}
use Rattle.basis_lu.proofs.elimination.Elimination.put_others.Given as goal

abbrev pub invariant-loop-cell : goal.invariant-loop-cell
invariant-loop-cell l = vec_len l.self.basis ≡ vec_len l.initial.self.basis
