-- Sums over an index: each law by induction on how many terms there are, with one term more at the upper end.
use Rattle.std.proofs.Common.{◌≡◌, ◌≢◌, ◌⊎◌, Bool, true, false, cond, ℕ, zero, suc, ◌+◌, ◌<◌, ◌≤◌, ℤ, pos, ◌+ℤ◌, ◌-ℤ◌, ◌*ℤ◌, neg_ℤ, refl, sym, ap, ◌∙◌, ⊎_elim, inl, inr, arith, add-one, add-suc, add-zero}
use Rattle.std.proofs.lemmas.Bool.{cases_lt, cases_eq}
use Rattle.exact_algebra.proofs.Families.{put, put-same, put-other}
use Rattle.exact_algebra.proofs.RingLaws.{*ℤ-+ℤ, +ℤ-*ℤ, *ℤ-zero, zero-*ℤ, +ℤ_idl, +ℤ_idr}
use Rattle.exact_algebra.proofs.RingTactic.{linear}
use Rattle.exact_algebra.specs.Sums.{sum_to}

pub sum_to-zero : (f : ℕ → ℤ) → sum_to 0 f ≡ pos 0
unfolding sum_to
sum_to-zero f = refl

pub sum_to-suc : (n : ℕ) (f : ℕ → ℤ) → sum_to (suc n) f ≡ sum_to n f +ℤ f n
unfolding sum_to
sum_to-suc n f = refl

pub sum_to-add_one : (n : ℕ) (f : ℕ → ℤ) → sum_to (n + 1) f ≡ sum_to n f +ℤ f n
sum_to-add_one n f = rw add-one (sum_to-suc n f)

-- ---- equal terms, and sums of sums
pub sum_to-same : (n : ℕ) (f g : ℕ → ℤ) → ((k : ℕ) → k < n → f k ≡ g k) → sum_to n f ≡ sum_to n g
unfolding sum_to
sum_to-same zero f g same = refl
sum_to-same (suc n) f g same =
    let before = sum_to-same n f g (λ k h. same k (omega arith)) in
    let last = same n (omega arith) in
    rw (before, last)

pub sum_to-add : (n : ℕ) (f g : ℕ → ℤ) → sum_to n (λ k. f k +ℤ g k) ≡ sum_to n f +ℤ sum_to n g
unfolding sum_to
sum_to-add zero f g = refl
sum_to-add (suc n) f g = let before = sum_to-add n f g in omega (arith, linear)

pub sum_to-neg : (n : ℕ) (f : ℕ → ℤ) → sum_to n (λ k. neg_ℤ (f k)) ≡ neg_ℤ (sum_to n f)
unfolding sum_to
sum_to-neg zero f = refl
sum_to-neg (suc n) f = let before = sum_to-neg n f in omega (arith, linear)

pub sum_to-difference : (n : ℕ) (f g : ℕ → ℤ) → sum_to n (λ k. f k -ℤ g k) ≡ sum_to n f -ℤ sum_to n g
sum_to-difference n f g = sum_to-add n f (λ k. neg_ℤ (g k)) ∙ ap (λ x. sum_to n f +ℤ x) (sum_to-neg n g)

pub sum_to-scale : (n : ℕ) (c : ℤ) (f : ℕ → ℤ) → sum_to n (λ k. c *ℤ f k) ≡ c *ℤ sum_to n f
unfolding sum_to
sum_to-scale zero c f = sym (*ℤ-zero c)
sum_to-scale (suc n) c f = ap (λ x. x +ℤ c *ℤ f n) (sum_to-scale n c f) ∙ sym (*ℤ-+ℤ c (sum_to n f) (f n))

pub sum_to-scale_right : (n : ℕ) (c : ℤ) (f : ℕ → ℤ) → sum_to n (λ k. f k *ℤ c) ≡ sum_to n f *ℤ c
unfolding sum_to
sum_to-scale_right zero c f = sym (zero-*ℤ c)
sum_to-scale_right (suc n) c f = ap (λ x. x +ℤ f n *ℤ c) (sum_to-scale_right n c f) ∙ sym (+ℤ-*ℤ (sum_to n f) (f n) c)

pub sum_to-nothing : (n : ℕ) (f : ℕ → ℤ) → ((k : ℕ) → k < n → f k ≡ pos 0) → sum_to n f ≡ pos 0
unfolding sum_to
sum_to-nothing zero f none_there = refl
sum_to-nothing (suc n) f none_there =
    let before = sum_to-nothing n f (λ k h. none_there k (omega arith)) in
    let last = none_there n (omega arith) in
    rw (before, last)

pub sum_to-constant : (n : ℕ) (c : ℤ) → sum_to n (λ k. c) ≡ pos n *ℤ c
unfolding sum_to
sum_to-constant zero c = sym (zero-*ℤ c)
sum_to-constant (suc n) c = let before = sum_to-constant n c in omega (arith, linear)

-- ---- a sum cut in two, its first term, and a double sum taken the other way
pub sum_to-split : (m n : ℕ) (f : ℕ → ℤ) → sum_to (m + n) f ≡ sum_to m f +ℤ sum_to n (λ k. f (m + k))
unfolding sum_to
sum_to-split m zero f = rw add-zero (sym (+ℤ_idr (sum_to m f)))
sum_to-split m (suc n) f = rw add-suc (let before = sum_to-split m n f in omega (arith, linear))

pub sum_to-first : (n : ℕ) (f : ℕ → ℤ) → sum_to (suc n) f ≡ f 0 +ℤ sum_to n (λ k. f (suc k))
unfolding sum_to
sum_to-first zero f = omega (arith, linear)
sum_to-first (suc n) f = let before = sum_to-first n f in omega (arith, linear)

pub sum_to-exchange : (m n : ℕ) (f : ℕ → ℕ → ℤ) → sum_to m (λ i. sum_to n (λ j. f i j)) ≡ sum_to n (λ j. sum_to m (λ i. f i j))
unfolding sum_to
sum_to-exchange zero n f = sym (sum_to-nothing n (λ j. pos 0) (λ k h. refl))
sum_to-exchange (suc m) n f = ap (λ x. x +ℤ sum_to n (λ j. f m j)) (sum_to-exchange m n f) ∙ sym (sum_to-add n (λ j. sum_to m (λ i. f i j)) (λ j. f m j))

-- ---- few terms that are not 0
pub sum_to-changed : (n j : ℕ) (f g : ℕ → ℤ) → j < n → ((k : ℕ) → k < n → k ≢ j → f k ≡ g k) → sum_to n f ≡ sum_to n g +ℤ (f j -ℤ g j)
unfolding sum_to
sum_to-changed zero j f g within same = absurd (omega arith)
sum_to-changed (suc n) j f g within same = ⊎_elim (λ h. earlier h (sum_to-changed n j f g h (λ k l d. same k (omega arith) d))) last (cases_lt j n)
  where
    earlier : j < n → sum_to n f ≡ sum_to n g +ℤ (f j -ℤ g j) → sum_to (suc n) f ≡ sum_to (suc n) g +ℤ (f j -ℤ g j)
    earlier h before = let here = same n (omega arith) (omega arith) in omega (arith, linear)

    last : n ≤ j → sum_to (suc n) f ≡ sum_to (suc n) g +ℤ (f j -ℤ g j)
    last h =
        let at : j ≡ n = omega arith in
        let before = sum_to-same n f g (λ k l. same k (omega arith) (omega arith)) in
        rw at (omega (arith, linear))

pub sum_to-one : (n j : ℕ) (f : ℕ → ℤ) → j < n → ((k : ℕ) → k < n → k ≢ j → f k ≡ pos 0) → sum_to n f ≡ f j
sum_to-one n j f within others =
    let changed = sum_to-changed n j f (λ k. pos 0) within others in
    let nothing = sum_to-nothing n (λ k. pos 0) (λ k h. refl) in
    omega (arith, linear)

pub sum_to-two : (n i j : ℕ) (f : ℕ → ℤ) → i < n → j < n → i ≢ j → ((k : ℕ) → k < n → k ≢ i → k ≢ j → f k ≡ pos 0) → sum_to n f ≡ f i +ℤ f j
sum_to-two n i j f first second apart others =
    let without = put f j (pos 0) in
    let changed = sum_to-changed n j f without second (λ k h d. sym (put-other f j (pos 0) k d)) in
    let one = sum_to-one n i without first (λ k h d. by k h d (cases_eq k j)) in
    let at_i = put-other f j (pos 0) i apart in
    let at_j = put-same f j (pos 0) in
    omega (arith, linear)
  where
    by : (k : ℕ) → k < n → k ≢ i → (k ≡ j) ⊎ (k ≢ j) → put f j (pos 0) k ≡ pos 0
    by k h d (inl e) = rw e (put-same f j (pos 0))
    by k h d (inr e) = put-other f j (pos 0) k e ∙ others k h d e

-- The sum after one member of the family is changed.
pub sum_to-put : (n j : ℕ) (f : ℕ → ℤ) (v : ℤ) → j < n → sum_to n (put f j v) ≡ sum_to n f +ℤ (v -ℤ f j)
sum_to-put n j f v within = sum_to-changed n j (put f j v) f within (λ k h d. put-other f j v k d) ∙ ap (λ x. sum_to n f +ℤ (x -ℤ f j)) (put-same f j v)

-- ---- a sum split by a test of the index
pub sum_to-test : (n : ℕ) (test : ℕ → Bool) (f : ℕ → ℤ) → sum_to n f ≡ sum_to n (λ k. cond (test k) (f k) (pos 0)) +ℤ sum_to n (λ k. cond (test k) (pos 0) (f k))
sum_to-test n test f = sum_to-same n _ _ (λ k h. parted (test k) (f k)) ∙ sum_to-add n (λ k. cond (test k) (f k) (pos 0)) (λ k. cond (test k) (pos 0) (f k))
  where
    parted : (t : Bool) (x : ℤ) → x ≡ cond t x (pos 0) +ℤ cond t (pos 0) x
    parted true x = sym (+ℤ_idr x)
    parted false x = sym (+ℤ_idl x)
