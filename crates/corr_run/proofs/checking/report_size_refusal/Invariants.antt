-- The programs of the notions passed fit.
use Rattle.std.proofs.Common.{◌≡◌, ℕ, ◌<◌, Some, slice_get}
use Rattle.report_form.specs.declared.reports.NamedBlock.{NamedBlock}
use Rattle.corr_run.specs.Reports.{FitsProgram}
use Rattle.corr_run.proofs.checking.report_size_refusal.Given as goal

abbrev pub invariant-loop-k : goal.invariant-loop-k
invariant-loop-k l = (j : ℕ) (named : NamedBlock) → j < l.k → slice_get l.blocks j ≡ Some named → FitsProgram l.ready.game l.ready.pairs named.notion
