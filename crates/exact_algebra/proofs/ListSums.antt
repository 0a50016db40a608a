-- Sums over the elements of a list: each law by induction on the list, and the sum as one over the index.
use Rattle.std.proofs.Common.{◌≡◌, ℕ, ◌*◌, ◌≤◌, Bool, true, false, cond, List, [], ◌∷◌, ◌++◌, length, get_or, map, filter, All, unsigned_abs, ℤ, pos, ◌+ℤ◌, ◌-ℤ◌, ◌*ℤ◌, neg_ℤ, ◌≤ℤ◌, refl, sym, ap, ap₂, ◌∙◌, arith}
use Rattle.std.proofs.lemmas.Int.{ints}
use Rattle.std.proofs.lemmas.List.Elements.{All-head, All-tail}
use Rattle.exact_algebra.proofs.RingLaws.{*ℤ-+ℤ, *ℤ-zero, +ℤ_idl}
use Rattle.exact_algebra.proofs.RingTactic.{linear}
use Rattle.exact_algebra.proofs.SumOrder.{magnitude-sum}
use Rattle.exact_algebra.proofs.Sums.{sum_to-zero, sum_to-first}
use Rattle.exact_algebra.specs.Sums.{sum_to, sum_over}

pub sum_over-nil : {A : Type 0} (f : A → ℤ) → sum_over f [] ≡ pos 0
unfolding sum_over
sum_over-nil f = refl

pub sum_over-cons : {A : Type 0} (f : A → ℤ) (x : A) (xs : List A) → sum_over f (x ∷ xs) ≡ f x +ℤ sum_over f xs
unfolding sum_over
sum_over-cons f x xs = refl

pub sum_over-index : {A : Type 0} (f : A → ℤ) (xs : List A) (d : A) → sum_over f xs ≡ sum_to (length xs) (λ k. f (get_or xs k d))
unfolding sum_over
sum_over-index f [] d = sym (sum_to-zero (λ k. f d))
sum_over-index f (x ∷ xs) d = ap (λ s. f x +ℤ s) (sum_over-index f xs d) ∙ sym (sum_to-first (length xs) (λ k. f (get_or (x ∷ xs) k d)))

pub sum_over-append : {A : Type 0} (f : A → ℤ) (xs ys : List A) → sum_over f (xs ++ ys) ≡ sum_over f xs +ℤ sum_over f ys
unfolding sum_over
sum_over-append f [] ys = sym (+ℤ_idl (sum_over f ys))
sum_over-append f (x ∷ xs) ys = let rest = sum_over-append f xs ys in omega (arith, linear)

pub sum_over-map : {A B : Type 0} (f : B → ℤ) (g : A → B) (xs : List A) → sum_over f (map g xs) ≡ sum_over (λ x. f (g x)) xs
unfolding sum_over
sum_over-map f g [] = refl
sum_over-map f g (x ∷ xs) = ap (λ s. f (g x) +ℤ s) (sum_over-map f g xs)

pub sum_over-same : {A : Type 0} (f g : A → ℤ) (xs : List A) → All (λ x. f x ≡ g x) xs → sum_over f xs ≡ sum_over g xs
unfolding sum_over
sum_over-same f g [] same = refl
sum_over-same f g (x ∷ xs) same = ap₂ (λ u v. u +ℤ v) (All-head (λ x. f x ≡ g x) x xs same) (sum_over-same f g xs (All-tail (λ x. f x ≡ g x) x xs same))

pub sum_over-add : {A : Type 0} (f g : A → ℤ) (xs : List A) → sum_over (λ x. f x +ℤ g x) xs ≡ sum_over f xs +ℤ sum_over g xs
unfolding sum_over
sum_over-add f g [] = refl
sum_over-add f g (x ∷ xs) = let rest = sum_over-add f g xs in omega (arith, linear)

pub sum_over-neg : {A : Type 0} (f : A → ℤ) (xs : List A) → sum_over (λ x. neg_ℤ (f x)) xs ≡ neg_ℤ (sum_over f xs)
unfolding sum_over
sum_over-neg f [] = refl
sum_over-neg f (x ∷ xs) = let rest = sum_over-neg f xs in omega (arith, linear)

pub sum_over-difference : {A : Type 0} (f g : A → ℤ) (xs : List A) → sum_over (λ x. f x -ℤ g x) xs ≡ sum_over f xs -ℤ sum_over g xs
sum_over-difference f g xs = sum_over-add f (λ x. neg_ℤ (g x)) xs ∙ ap (λ s. sum_over f xs +ℤ s) (sum_over-neg g xs)

pub sum_over-scale : {A : Type 0} (c : ℤ) (f : A → ℤ) (xs : List A) → sum_over (λ x. c *ℤ f x) xs ≡ c *ℤ sum_over f xs
unfolding sum_over
sum_over-scale c f [] = sym (*ℤ-zero c)
sum_over-scale c f (x ∷ xs) = ap (λ s. c *ℤ f x +ℤ s) (sum_over-scale c f xs) ∙ sym (*ℤ-+ℤ c (f x) (sum_over f xs))

pub sum_over-nothing : {A : Type 0} (xs : List A) → sum_over (λ x. pos 0) xs ≡ pos 0
unfolding sum_over
sum_over-nothing [] = refl
sum_over-nothing (x ∷ xs) = +ℤ_idl (sum_over (λ y. pos 0) xs) ∙ sum_over-nothing xs

pub sum_over-exchange : {A B : Type 0} (f : A → B → ℤ) (xs : List A) (ys : List B) → sum_over (λ x. sum_over (λ y. f x y) ys) xs ≡ sum_over (λ y. sum_over (λ x. f x y) xs) ys
unfolding sum_over
sum_over-exchange f [] ys = sym (sum_over-nothing ys)
sum_over-exchange f (x ∷ xs) ys = ap (λ s. sum_over (f x) ys +ℤ s) (sum_over-exchange f xs ys) ∙ sym (sum_over-add (f x) (λ y. sum_over (λ z. f z y) xs) ys)

-- A sum split by a test of the element.
pub sum_over-test : {A : Type 0} (test : A → Bool) (f : A → ℤ) (xs : List A) → sum_over f xs ≡ sum_over (λ x. cond (test x) (f x) (pos 0)) xs +ℤ sum_over (λ x. cond (test x) (pos 0) (f x)) xs
unfolding sum_over
sum_over-test test f [] = refl
sum_over-test test f (x ∷ xs) = by (test x) (sum_over-test test f xs)
  where
    by : (t : Bool) → sum_over f xs ≡ sum_over (λ x. cond (test x) (f x) (pos 0)) xs +ℤ sum_over (λ x. cond (test x) (pos 0) (f x)) xs → f x +ℤ sum_over f xs ≡ cond t (f x) (pos 0) +ℤ sum_over (λ x. cond (test x) (f x) (pos 0)) xs +ℤ (cond t (pos 0) (f x) +ℤ sum_over (λ x. cond (test x) (pos 0) (f x)) xs)
    by true rest = omega (arith, linear)
    by false rest = omega (arith, linear)

pub sum_over-filter : {A : Type 0} (test : A → Bool) (f : A → ℤ) (xs : List A) → sum_over f (filter test xs) ≡ sum_over (λ x. cond (test x) (f x) (pos 0)) xs
unfolding sum_over
sum_over-filter test f [] = refl
sum_over-filter test f (x ∷ xs) = by (test x) (sum_over-filter test f xs)
  where
    by : (t : Bool) → sum_over f (filter test xs) ≡ sum_over (λ y. cond (test y) (f y) (pos 0)) xs → sum_over f (cond t (x ∷ filter test xs) (filter test xs)) ≡ cond t (f x) (pos 0) +ℤ sum_over (λ y. cond (test y) (f y) (pos 0)) xs
    by true rest = ap (λ s. f x +ℤ s) rest
    by false rest = rest ∙ sym (+ℤ_idl (sum_over (λ y. cond (test y) (f y) (pos 0)) xs))

-- ---- order and magnitude
pub sum_over_not_negative : {A : Type 0} (f : A → ℤ) (xs : List A) → All (λ x. pos 0 ≤ℤ f x) xs → pos 0 ≤ℤ sum_over f xs
unfolding sum_over
sum_over_not_negative f [] each = omega (arith, ints)
sum_over_not_negative f (x ∷ xs) each =
    let first = All-head (λ x. pos 0 ≤ℤ f x) x xs each in
    let rest = sum_over_not_negative f xs (All-tail (λ x. pos 0 ≤ℤ f x) x xs each) in
    omega (arith, linear)

pub sum_over_at_most : {A : Type 0} (f g : A → ℤ) (xs : List A) → All (λ x. f x ≤ℤ g x) xs → sum_over f xs ≤ℤ sum_over g xs
unfolding sum_over
sum_over_at_most f g [] each = omega (arith, ints)
sum_over_at_most f g (x ∷ xs) each =
    let first = All-head (λ x. f x ≤ℤ g x) x xs each in
    let rest = sum_over_at_most f g xs (All-tail (λ x. f x ≤ℤ g x) x xs each) in
    omega (arith, linear)

pub sum_over_bounded : {A : Type 0} (m : ℕ) (f : A → ℤ) (xs : List A) → All (λ x. unsigned_abs (f x) ≤ m) xs → unsigned_abs (sum_over f xs) ≤ length xs * m
unfolding sum_over
sum_over_bounded m f [] each = omega arith
sum_over_bounded m f (x ∷ xs) each =
    let first = All-head (λ x. unsigned_abs (f x) ≤ m) x xs each in
    let rest = sum_over_bounded m f xs (All-tail (λ x. unsigned_abs (f x) ≤ m) x xs each) in
    omega (arith, magnitude-sum (f x) (sum_over f xs))
