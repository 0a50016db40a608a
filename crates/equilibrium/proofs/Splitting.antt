-- A weighted sum of gains that split into parts is the sum of the parts' weighted sums: by induction on the list.
use Rattle.std.proofs.Common.{◌≡◌, ℕ, List, [], ◌∷◌, All, ℤ, ◌+ℤ◌, ◌-ℤ◌, ◌*ℤ◌, refl, sym, ap, ap₂, ◌∙◌, arith}
use Rattle.std.proofs.lemmas.List.Elements.{All-head, All-tail}
use Rattle.exact_algebra.specs.Sums.{sum_over, sum_to}
use Rattle.exact_algebra.proofs.RingTactic.{ring_laws, linear}
use Rattle.exact_algebra.proofs.Sums.{sum_to-add, sum_to-nothing, sum_to-same, sum_to-scale}

gathered : (w t s p r : ℤ) → w *ℤ t +ℤ s -ℤ (w *ℤ p +ℤ r) ≡ w *ℤ (t -ℤ p) +ℤ (s -ℤ r)
gathered w t s p r = simp ring_laws (omega (arith, linear))

pub gains_split : {A : Type 0} (n : ℕ) (w p d : A → ℤ) (t : ℕ → A → ℤ) (xs : List A)
    → All (λ x. d x -ℤ p x ≡ sum_to n (λ a. t a x -ℤ p x)) xs
    → sum_over (λ x. w x *ℤ d x) xs -ℤ sum_over (λ x. w x *ℤ p x) xs ≡ sum_to n
    (λ a. sum_over (λ x. w x *ℤ t a x) xs -ℤ sum_over (λ x. w x *ℤ p x) xs)
unfolding sum_over
gains_split n w p d t [] each = sym (sum_to-nothing n _ (λ k h. refl))
gains_split {A} n w p d t (x ∷ xs) each =
    let Splits : A → Type 0 = λ y. d y -ℤ p y ≡ sum_to n (λ a. t a y -ℤ p y) in
    let head : d x -ℤ p x ≡ sum_to n (λ a. t a x -ℤ p x) = All-head Splits x xs each in
    let following = sum_over (λ y. w y *ℤ p y) xs in
    let rest = gains_split n w p d t xs (All-tail Splits x xs each) in
    let parts = sum_to-same n _ _ (λ a h. gathered (w x) (t a x) (sum_over (λ y. w y *ℤ t a y) xs) (p x) following) in
    let added = sum_to-add n (λ a. w x *ℤ (t a x -ℤ p x)) (λ a. sum_over (λ y. w y *ℤ t a y) xs -ℤ following) in
    let scaled = sum_to-scale n (w x) (λ a. t a x -ℤ p x) in
    gathered (w x) (d x) (sum_over (λ y. w y *ℤ d y) xs) (p x) following
    ∙ ap₂ (λ (u v : ℤ). u +ℤ v) (ap (λ (u : ℤ). w x *ℤ u) head ∙ sym scaled) rest
    ∙ sym added
    ∙ sym parts
