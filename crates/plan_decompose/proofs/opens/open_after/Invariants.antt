-- The sets gone over are opened where they come right after the sequence; the others are as they were.
use Rattle.std.proofs.Common.{◌≡◌, ◌<◌, ◌≤◌, ℕ, Some, length, slice_get}
use Rattle.sequences.specs.declared.places.Place.{Place}
use Rattle.sequences.specs.Number.{side_of}
use Rattle.plan_decompose.specs.OpenSets.{Opens}
use Rattle.plan_decompose.proofs.opens.open_after.Given as goal

abbrev pub invariant-loop-set : goal.invariant-loop-set
invariant-loop-set l = record {
  as_many : length l.beside.items ≡ length l.initial.beside.items;
  done : (set : ℕ) (place : Place) → set < l.set → slice_get (side_of l.after.0 l.pairs.seqs).places set ≡ Some place
      → Opens place.own l.after.1 l.sequence (slice_get l.initial.beside.items set) (slice_get l.beside.items set);
  left : (set : ℕ) → l.set ≤ set → slice_get l.beside.items set ≡ slice_get l.initial.beside.items set;
}
