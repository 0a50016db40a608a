-- The sets gone over are moved where they are open and connected; the others are as they were.
use Rattle.std.proofs.Common.{◌≡◌, ◌<◌, ◌≤◌, ℕ, length, slice_get}
use Rattle.connected_pairs.specs.Connected.{touches}
use Rattle.plan_decompose.specs.OpenSets.{Moves}
use Rattle.plan_decompose.proofs.opens.move_beside.Given as goal

abbrev pub invariant-loop-set : goal.invariant-loop-set
invariant-loop-set l = record {
  as_many : length l.beside.items ≡ length l.initial.beside.items;
  done : (set : ℕ) → set < l.set → Moves (touches l.pairs l.settled.0 l.settled.1.0 set) l.sequence (slice_get l.initial.beside.items set) (slice_get l.beside.items set);
  left : (set : ℕ) → l.set ≤ set → slice_get l.beside.items set ≡ slice_get l.initial.beside.items set;
}
