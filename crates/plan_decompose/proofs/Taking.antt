-- What is left of a narrow value, less a weight that is narrow and at most the value, is printed as it is and is narrow.
use Rattle.std.proofs.Common.{◌≡◌, ℕ, ◌≤ℤ◌, ◌-ℤ◌, ℤ, pos, List, Option, Some, length, All, slice_get, slice_index_or, to_z, of_z, inl, inr, arith}
use Rattle.std.specs.Int.{w128}
use Rattle.std.proofs.lemmas.Int.{ints}
use Rattle.std.proofs.lemmas.List.Elements.{All-from_get_or}
use Rattle.corr_num.specs.Narrow.{Narrow}
use Rattle.corr_num.proofs.PrintedTerms.{narrow_returned, returned}
use Rattle.sequences.proofs.Adding.{within}
use Rattle.connected_pairs.specs.Connected.{PairsView}
use Rattle.plan_decompose.specs.Entry.{AreTakenOff, PlayBoth}

pub taken : (z v w : ℤ) → Narrow v → Narrow w → z ≡ to_z w128 (of_z w128 v) -ℤ to_z w128 (of_z w128 w) → to_z w128 (of_z w128 z) ≡ v -ℤ to_z w128 (of_z w128 w)
taken z v w p q e = rw (e, narrow_returned v p, narrow_returned w q) (returned (v -ℤ w) (omega (arith, ints)))

less_narrow : (w old new : ℤ) → Narrow old → pos 1 ≤ℤ w → w ≤ℤ old → new ≡ old -ℤ w → Narrow new
less_narrow w old new p one low e = rw e (omega (arith, ints))

pub left_narrow : (p : PairsView) (one two : List (Option ℕ)) (w : ℤ) (old new : List ℤ) → AreTakenOff p one two w old new → length old ≡ length p.pairs → length new ≡ length old → All Narrow old → pos 1 ≤ℤ w
    → ((k : ℕ) (pair : ℕ × ℕ) → slice_get p.pairs k ≡ Some pair → PlayBoth p.seqs one two pair → w ≤ℤ slice_index_or old k (pos 0)) → All Narrow new
left_narrow p one two w old new off count same narrow positive least = All-from_get_or Narrow new (pos 0) (λ k low.
    let pair = within p.pairs k (omega arith) in
    let before = narrow k (pos 0) (omega arith) in
    elim (off k pair.0 pair.1) [
      | inl played ↦ less_narrow w (slice_index_or old k (pos 0)) (slice_index_or new k (pos 0)) before positive (least k pair.0 pair.1 played.0) played.1
      | inr other ↦ rw other.1 before
    ])
