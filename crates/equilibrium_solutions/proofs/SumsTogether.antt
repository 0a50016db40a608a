-- A list has one sum at a pair of sequences, and lists one behind the other add their sums.
use Rattle.std.proofs.Common.{◌≡◌, ℕ, inl, inr, ℤ, pos, ◌+ℤ◌, List, [], ◌∷◌, ◌++◌, sym, ap₂, ◌∙◌, arith}
use Rattle.std.proofs.lemmas.Int.{ints}
use Rattle.sequences.specs.Number.{SeqsView}
use Rattle.equilibrium.specs.Distribution.{Entry}
use Rattle.equilibrium_solutions.specs.ColumnSums.{IsWeightAt, SumsTo}

one_weight : (s : SeqsView) (pair : ℕ × ℕ) (entry : Entry) (a b : ℤ) → IsWeightAt s pair entry a → IsWeightAt s pair entry b → a ≡ b
one_weight s pair entry a b (inl x) (inl y) = x.1 ∙ sym y.1
one_weight s pair entry a b (inl x) (inr y) = absurd (y.0 x.0)
one_weight s pair entry a b (inr x) (inl y) = absurd (x.0 y.0)
one_weight s pair entry a b (inr x) (inr y) = x.1 ∙ sym y.1

pub one_sum : (s : SeqsView) (pair : ℕ × ℕ) (list : List Entry) (a b : ℤ) → SumsTo s pair list a → SumsTo s pair list b → a ≡ b
one_sum s pair [] a b x y = x ∙ sym y
one_sum s pair (entry ∷ rest) a b x y =
    x.4
    ∙ ap₂ (λ (u v : ℤ). u +ℤ v) (one_weight s pair entry x.0 y.0 x.2 y.2) (one_sum s pair rest x.1 y.1 x.3 y.3)
    ∙ sym y.4

pub sums_joined : (s : SeqsView) (pair : ℕ × ℕ) (xs ys : List Entry) (a b : ℤ) → SumsTo s pair xs a → SumsTo s pair ys b
    → SumsTo s pair (xs ++ ys) (a +ℤ b)
sums_joined s pair [] ys a b x y = rw (alone a b x) y
  where
    alone : (u v : ℤ) → u ≡ pos 0 → u +ℤ v ≡ v
    alone u v e = omega (arith, ints)
sums_joined s pair (entry ∷ xs) ys a b x y =
    (x.0, x.1 +ℤ b, x.2, sums_joined s pair xs ys x.1 b x.3 y, further a x.0 x.1 b x.4)
  where
    further : (u f r v : ℤ) → u ≡ f +ℤ r → u +ℤ v ≡ f +ℤ (r +ℤ v)
    further u f r v e = omega (arith, ints)
