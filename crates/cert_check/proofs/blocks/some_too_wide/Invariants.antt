-- None of the blocks passed is too wide.
use Rattle.std.proofs.Common.{◌≡◌, ℕ, ◌<◌, Some, false, slice_get}
use Rattle.report_form.specs.declared.reports.NamedBlock.{NamedBlock}
use Rattle.cert_check.specs.Certified.{is_too_wide}
use Rattle.cert_check.proofs.blocks.some_too_wide.Given as goal

abbrev pub invariant-loop-k : goal.invariant-loop-k
invariant-loop-k l = (j : ℕ) (named : NamedBlock) → j < l.k → slice_get l.blocks j ≡ Some named → is_too_wide named.block ≡ false
