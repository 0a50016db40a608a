use Rattle.std.proofs.Common.{◌≡◌, ℕ, ◌<◌, ◌≤◌, neg_ℤ}
use Rattle.int_tableau.specs.Elimination.{at}
use Rattle.int_tableau.proofs.rows.turn.Given as goal

-- the signs passed are turned, the others as they were
abbrev pub invariant-loop-entry : goal.invariant-loop-entry
invariant-loop-entry l = record {
  done : (k : ℕ) → k < l.entry-index → at l.entries k ≡ neg_ℤ (at l.fn.entries k);
  rest : (k : ℕ) → l.entry-index ≤ k → at l.entries k ≡ at l.fn.entries k;
}
