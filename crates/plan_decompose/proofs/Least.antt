-- The least value so far, over the pairs gone over that both plans play.
use Rattle.std.proofs.Common.{◌≡◌, ◌⊎◌, ℕ, ◌+◌, ◌<◌, ◌≤◌, ℤ, pos, ◌≤ℤ◌, List, Option, Some, None, length, slice_get, slice_index_or, inl, inr, arith}
use Rattle.std.specs.Prelude.{IfNone, IfSome}
use Rattle.std.proofs.lemmas.Bool.{cases_eq}
use Rattle.std.proofs.lemmas.Int.{ints}
use Rattle.std.proofs.lemmas.Option.{slice_get_within}
use Rattle.connected_pairs.specs.Connected.{PairsView}
use Rattle.plan_decompose.specs.Entry.{IsLeast, NonePlayed, PlayBoth}

abbrev pub IsLeastBelow : PairsView → List (Option ℕ) → List (Option ℕ) → List ℤ → ℕ → Option ℕ → Type 0
IsLeastBelow p one two values n None = (k : ℕ) (pair : ℕ × ℕ) → k < n → slice_get p.pairs k ≡ Some pair → PlayBoth p.seqs one two pair → ⊥
IsLeastBelow p one two values n (Some place) =
    (place < length values) × ((pair : ℕ × ℕ) × ((slice_get p.pairs place ≡ Some pair) × PlayBoth p.seqs one two pair))
    × ((k : ℕ) (pair : ℕ × ℕ) → k < n → slice_get p.pairs k ≡ Some pair → PlayBoth p.seqs one two pair → slice_index_or values place (pos 0) ≤ℤ slice_index_or values k (pos 0))

pub least_in : (p : PairsView) (one two : List (Option ℕ)) (values : List ℤ) (n : ℕ) (least : Option ℕ) → IsLeastBelow p one two values n least → IfSome least (λ place. place < length values)
least_in p one two values n None h = tt
least_in p one two values n (Some place) h = h.0

pub least_skip : (p : PairsView) (one two : List (Option ℕ)) (values : List ℤ) (n : ℕ) (least : Option ℕ) → IsLeastBelow p one two values n least → ((pair : ℕ × ℕ) → slice_get p.pairs n ≡ Some pair → PlayBoth p.seqs one two pair → ⊥) → IsLeastBelow p one two values (n + 1) least
least_skip p one two values n None h skip = λ k pair low e b. elim (cases_eq k n) [
  | inl same ↦ skip pair (rw same at e) b
  | inr apart ↦ h k pair (omega arith) e b
]
least_skip p one two values n (Some place) h skip = (
  h.0,
  h.1,
  λ k pair low e b. elim (cases_eq k n) [
    | inl same ↦ absurd (skip pair (rw same at e) b)
    | inr apart ↦ h.2 k pair (omega arith) e b
  ],
)

pub least_more : (p : PairsView) (one two : List (Option ℕ)) (values : List ℤ) (n : ℕ) (least : Option ℕ) (place : ℕ) → IsLeastBelow p one two values n least → n < length values
    → ((pair : ℕ × ℕ) × ((slice_get p.pairs n ≡ Some pair) × PlayBoth p.seqs one two pair)) → (place ≡ n) ⊎ (least ≡ Some place)
    → slice_index_or values place (pos 0) ≤ℤ slice_index_or values n (pos 0) → IfSome least (λ was. slice_index_or values place (pos 0) ≤ℤ slice_index_or values was (pos 0)) → IsLeastBelow p one two values (n + 1) (Some place)
least_more p one two values n None place h low here (inl same) below was = (
  rw same low,
  rw same here,
  λ k pair l e b. elim (cases_eq k n) [
    | inl this ↦ rw this below
    | inr apart ↦ absurd (h k pair (omega arith) e b)
  ],
)
least_more p one two values n None place h low here (inr same) below was = absurd (cc)
least_more p one two values n (Some old) place h low here (inl same) below was = (
  rw same low,
  rw same here,
  λ k pair l e b. elim (cases_eq k n) [
    | inl this ↦ rw this below
    | inr apart ↦ omega (arith, ints, was, h.2 k pair (omega arith) e b)
  ],
)
least_more p one two values n (Some old) place h low here (inr same) below was =
    let one : old ≡ place = cc in (
      rw (← one) h.0,
      rw (← one) h.1,
      λ k pair l e b. elim (cases_eq k n) [
        | inl this ↦ rw this below
        | inr apart ↦ omega (arith, ints, was, h.2 k pair (omega arith) e b)
      ],
    )

pub least_none : (p : PairsView) (one two : List (Option ℕ)) (values : List ℤ) (n : ℕ) (least : Option ℕ) → IsLeastBelow p one two values n least → length p.pairs ≤ n → IfNone least (NonePlayed p one two)
least_none p one two values n None h all = λ k pair e b. h k pair (omega (arith, slice_get_within p.pairs k pair e)) e b
least_none p one two values n (Some place) h all = tt

pub least_some : (p : PairsView) (one two : List (Option ℕ)) (values : List ℤ) (n : ℕ) (least : Option ℕ) → IsLeastBelow p one two values n least → length p.pairs ≤ n → IfSome least (λ place. IsLeast p one two values place)
least_some p one two values n None h all = tt
least_some p one two values n (Some place) h all = record {
  in_range = h.0;
  played = h.1;
  least = λ k pair e b. h.2 k pair (omega (arith, slice_get_within p.pairs k pair e)) e b;
}
