-- The product of a row with a column of numbers, where the row's coefficients are sums of terms: products and sums of terms change
-- places, and a term that stands in one column is one product.
use Rattle.std.proofs.Common.{◌≡◌, ℕ, zero, suc, ◌<◌, Bool, true, false, cond, Option, Some, None, ℤ, pos, ◌+ℤ◌, ◌*ℤ◌}
use Rattle.std.proofs.Common.{refl, sym, ap, ap₂, ◌∙◌, inl, inr, arith}
use Rattle.exact_algebra.specs.Sums.{sum_to}
use Rattle.exact_algebra.proofs.RingLaws.{+ℤ-*ℤ, *ℤ-zero, zero-*ℤ}
use Rattle.exact_algebra.proofs.Sums.{sum_to-add, sum_to-nothing, sum_to-one, sum_to-same, sum_to-suc, sum_to-zero}
use Rattle.incentive_rows.specs.Term.{AreTerms, Both, IsTerm}
use Rattle.equilibrium_solutions.specs.Departure.{in_column}

-- terms by column: whatever numbers they are, their product with the column of numbers is s
pub record Weighs (term : ℕ → ℤ → Type 0) (n : ℕ) (x : ℕ → ℤ) (s : ℤ) : Type 0 where
  pub sum : (v : ℕ → ℤ) → ((k : ℕ) → term k (v k)) → sum_to n (λ k. v k *ℤ x k) ≡ s

pub weighs_as : (A B : ℕ → ℤ → Type 0) (n : ℕ) (x : ℕ → ℤ) (s : ℤ) → ((k : ℕ) (v : ℤ) → A k v → B k v) → Weighs B n x s → Weighs A n x s
weighs_as A B n x s f w = record { sum = λ v each. w.sum v (λ k. f k (v k) (each k)) }

pub weighs_is : (A : ℕ → ℤ → Type 0) (n : ℕ) (x : ℕ → ℤ) (s t : ℤ) → s ≡ t → Weighs A n x s → Weighs A n x t
weighs_is A n x s t e w = record { sum = λ v each. w.sum v each ∙ e }

none_weighs : (n : ℕ) (x v : ℕ → ℤ) → ((k : ℕ) → v k ≡ pos 0) → sum_to n (λ k. v k *ℤ x k) ≡ pos 0
none_weighs n x v none_there =
    sum_to-nothing n (λ k. v k *ℤ x k) (λ k h. ap (λ (c : ℤ). c *ℤ x k) (none_there k) ∙ zero-*ℤ (x k))

pub weighs_nothing : (n : ℕ) (x : ℕ → ℤ) → Weighs (λ k v. v ≡ pos 0) n x (pos 0)
weighs_nothing n x = record { sum = none_weighs n x }

pub weighs_both : (A B : ℕ → ℤ → Type 0) (n : ℕ) (x : ℕ → ℤ) (a b : ℤ) → Weighs A n x a → Weighs B n x b
    → Weighs (λ k. Both (A k) (B k)) n x (a +ℤ b)
weighs_both A B n x a b one two = record {
  sum = λ v each.
      let f = λ (k : ℕ). (each k).0 in
      let h = λ (k : ℕ). (each k).1 in
      sum_to-same n (λ k. v k *ℤ x k) (λ k. f k *ℤ x k +ℤ h k *ℤ x k)
      (λ k low. ap (λ (c : ℤ). c *ℤ x k) (each k).4 ∙ +ℤ-*ℤ (f k) (h k) (x k))
      ∙ sum_to-add n (λ k. f k *ℤ x k) (λ k. h k *ℤ x k)
      ∙ ap₂ (λ (u w : ℤ). u +ℤ w) (one.sum f (λ k. (each k).2)) (two.sum h (λ k. (each k).3));
}

pub weighs_terms : (term : ℕ → ℕ → ℤ → Type 0) (n : ℕ) (x : ℕ → ℤ) (s : ℕ → ℤ) (count : ℕ)
    → ((j : ℕ) → j < count → Weighs (λ k. term k j) n x (s j)) → Weighs (λ k. AreTerms (term k) count) n x (sum_to count s)
weighs_terms term n x s zero each = weighs_is (λ k v. v ≡ pos 0) n x (pos 0) (sum_to 0 s) (sym (sum_to-zero s)) (weighs_nothing n x)
weighs_terms term n x s (suc m) each =
    let before = weighs_terms term n x s m (λ j low. each j (omega arith)) in
    let last = each m (omega arith) in
    let both = weighs_both (λ k. AreTerms (term k) m) (λ k. term k m) n x (sum_to m s) (s m) before last in
    weighs_is (λ k. AreTerms (term k) (suc m)) n x (sum_to m s +ℤ s m) (sum_to (suc m) s) (sym (sum_to-suc m s)) both

-- a term's number where its condition is known
term_value : (Stands : Type 0) (value v : ℤ) → IsTerm Stands value v → Stands → v ≡ value
term_value Stands value v (inl h) stands = h.1
term_value Stands value v (inr h) stands = absurd (h.0 stands)

term_apart : (Stands : Type 0) (value v : ℤ) → IsTerm Stands value v → (Stands → ⊥) → v ≡ pos 0
term_apart Stands value v (inl h) apart = absurd (apart h.0)
term_apart Stands value v (inr h) apart = h.1

-- where a term stands by column: under a test, in one column
pub record StandsIn (Stands : ℕ → Type 0) (test : Bool) (col : Option ℕ) (n : ℕ) : Type 0 where
  pub only : (k : ℕ) → Stands k → (test ≡ true) × (col ≡ Some k)
  pub there : (k : ℕ) → test ≡ true → col ≡ Some k → Stands k
  pub inside : (k : ℕ) → col ≡ Some k → k < n

pub weighs_term : (Stands : ℕ → Type 0) (value : ℤ) (test : Bool) (col : Option ℕ) (n : ℕ) (x : ℕ → ℤ) → StandsIn Stands test col n
    → Weighs (λ k. IsTerm (Stands k) value) n x (cond test (value *ℤ in_column x col) (pos 0))
weighs_term Stands value false col n x at = record {
  sum = λ v each. none_weighs n x v (λ k. term_apart (Stands k) value (v k) (each k) (λ h. absurd (cc ((at.only k h).0))));
}
weighs_term Stands value true None n x at = record {
  sum = λ v each. none_weighs n x v (λ k. term_apart (Stands k) value (v k) (each k) (λ h. absurd (cc ((at.only k h).1))))
      ∙ sym (*ℤ-zero value);
}
weighs_term Stands value true (Some col) n x at = record {
  sum = λ v each.
      let here = term_value (Stands col) value (v col) (each col) (at.there col refl refl) in
      sum_to-one n col (λ k. v k *ℤ x k) (at.inside col refl)
      (λ k low apart. ap (λ (c : ℤ). c *ℤ x k)
      (term_apart (Stands k) value (v k) (each k) (λ h. apart (let same : col ≡ k = cc ((at.only k h).1) in sym same))) ∙ zero-*ℤ (x k))
      ∙ ap (λ (c : ℤ). c *ℤ x col) here;
}
