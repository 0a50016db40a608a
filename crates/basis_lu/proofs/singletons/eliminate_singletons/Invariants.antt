use Rattle.std.proofs.Common.{◌≡◌, vec_len}
use Rattle.basis_lu.proofs.singletons.eliminate_singletons.Given as goal

abbrev pub invariant-loop : goal.invariant-loop
invariant-loop l = vec_len l.elimination.basis ≡ vec_len l.initial.elimination.basis
