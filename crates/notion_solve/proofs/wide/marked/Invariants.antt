-- The columns listed ascend, and are those passed that are marked.
use Rattle.std.proofs.Common.{◌≡◌, ℕ, ◌<◌, Some, true, slice_get}
use Rattle.notion_solve.proofs.Marking.{AscendsTo}
use Rattle.notion_solve.proofs.wide.marked.Given as goal

abbrev pub invariant-loop-col : goal.invariant-loop-col
invariant-loop-col l =
    AscendsTo 0 l.col l.columns
    × ((col : ℕ) → col < l.col → slice_get l.marks col ≡ Some true → (k : ℕ) × (slice_get l.columns k ≡ Some col))
    × ((k col : ℕ) → slice_get l.columns k ≡ Some col → slice_get l.marks col ≡ Some true)
