-- A family taken in another order: what an exchange of two members carries over, each permutation of the numbers below m does.
-- By bringing the numbers 0, 1, .. to their places one after another.
use Rattle.std.proofs.Common.{◌≡◌, ◌≢◌, ℕ, zero, suc, ◌+◌, ◌<◌, ◌≤◌, ℤ, pos, ◌*ℤ◌, neg_ℤ, refl, sym, ap, ◌∙◌, ⊎_elim, arith}
use Rattle.std.proofs.lemmas.Bool.{cases_eq, cases_lt}
use Rattle.exact_algebra.proofs.Families.{put, put-same, put-other, put-own}
use Rattle.exact_algebra.proofs.RingLaws.{neg_ℤ-*ℤ}
use Rattle.exact_algebra.proofs.RingTactic.{ring_laws, linear}
use Rattle.exact_algebra.proofs.Sums.{sum_to-same, sum_to-put}
use Rattle.exact_algebra.specs.Sums.{sum_to}
use Rattle.exact_linear.proofs.Determinant.{det-equal, det-exchanged, put_cases}
use Rattle.exact_linear.specs.Determinant.{det}

-- order is a permutation of the numbers below m.
pub record IsPermutation (m : ℕ) (order : ℕ → ℕ) : Type 0 where
  pub into : (k : ℕ) → k < m → order k < m
  pub place : (l : ℕ) → l < m → (k : ℕ) × (k < m) × (order k ≡ l)

-- The family with its members i and j exchanged.
abbrev pub exchange : {A : Type 0} → (ℕ → A) → ℕ → ℕ → ℕ → A
exchange V i j = put (put V i (V j)) j (V i)

exchange-first : {A : Type 0} (V : ℕ → A) (i j : ℕ) → i ≢ j → exchange V i j i ≡ V j
exchange-first V i j apart = put-other (put V i (V j)) j (V i) i apart ∙ put-same V i (V j)

exchange-second : {A : Type 0} (V : ℕ → A) (i j : ℕ) → exchange V i j j ≡ V i
exchange-second V i j = put-same (put V i (V j)) j (V i)

exchange-other : {A : Type 0} (V : ℕ → A) (i j k : ℕ) → k ≢ i → k ≢ j → exchange V i j k ≡ V k
exchange-other V i j k d e = put-other (put V i (V j)) j (V i) k e ∙ put-other V i (V j) k d

-- What holds of the identity, and is carried over from a permutation with two members exchanged.
module _ (m : ℕ) (Q : (ℕ → ℕ) → Type 0) (sorted : (order : ℕ → ℕ) → ((k : ℕ) → k < m → order k ≡ k) → Q order)
    (carried : (order : ℕ → ℕ) (i j : ℕ) → i < m → j < m → i ≢ j → Q (exchange order i j) → Q order) where
  still : (order : ℕ → ℕ) (i j : ℕ) → i < m → j < m → i ≢ j → IsPermutation m order → IsPermutation m (exchange order i j)
  still order i j h l apart p = record { into = into; place = place }
    where
      into : (k : ℕ) → k < m → exchange order i j k < m
      into k q = put_cases (λ x. x < m) (put order i (order j)) j k (order i) (λ e. p.into i h) (λ d. put_cases (λ x. x < m) order i k (order j) (λ e. p.into j l) (λ f. p.into k q))

      place : (x : ℕ) → x < m → (k : ℕ) × (k < m) × (exchange order i j k ≡ x)
      place x q = by (p.place x q)
        where
          by : (k : ℕ) × (k < m) × (order k ≡ x) → (k : ℕ) × (k < m) × (exchange order i j k ≡ x)
          by (k, below, at) = ⊎_elim
              (λ (e : k ≡ i). (j, l, exchange-second order i j ∙ (ap order (sym e) ∙ at)))
              (λ (d : k ≢ i). ⊎_elim
              (λ (f : k ≡ j). (i, h, exchange-first order i j apart ∙ (ap order (sym f) ∙ at)))
              (λ (f : k ≢ j). (k, below, exchange-other order i j k d f ∙ at))
              (cases_eq k j))
              (cases_eq k i)

  -- The numbers below i are at their places, and `left` more are to be brought there.
  from : (left i : ℕ) → i + left ≡ m → (order : ℕ → ℕ) → IsPermutation m order → ((k : ℕ) → k < i → order k ≡ k) → Q order
  from zero i whole order p fixed = sorted order (λ k h. fixed k (omega arith))
  from (suc left) i whole order p fixed = by (p.place i (omega arith)) (from left (suc i) (omega arith))
    where
      more : (f : ℕ → ℕ) → ((k : ℕ) → k < i → f k ≡ k) → f i ≡ i → (k : ℕ) → k < suc i → f k ≡ k
      more f before here k h = ⊎_elim (λ (l : k < i). before k l) (λ (l : i ≤ k). let e : k ≡ i = omega arith in rw e here) (cases_lt k i)

      by : (k : ℕ) × (k < m) × (order k ≡ i) → ((f : ℕ → ℕ) → IsPermutation m f → ((k : ℕ) → k < suc i → f k ≡ k) → Q f) → Q order
      by (k, below, at) rest = ⊎_elim
          (λ (e : k ≡ i). rest order p (more order fixed (ap order (sym e) ∙ at)))
          (λ (d : k ≢ i). ⊎_elim (λ (l : k < i). absurd (d (sym (fixed k l) ∙ at))) (λ (l : i ≤ k). moved d (omega arith)) (cases_lt k i))
          (cases_eq k i)
        where
          moved : k ≢ i → i < k → Q order
          moved d above =
              let apart : i ≢ k = λ e. d (sym e) in
              let inside : i < m = omega arith in
              carried order i k inside below apart (rest (exchange order i k) (still order i k inside below apart p)
              (more (exchange order i k) (λ j h. exchange-other order i k j (omega arith) (omega arith) ∙ fixed j h) (exchange-first order i k apart ∙ at)))

  pub by_exchanges : (order : ℕ → ℕ) → IsPermutation m order → Q order
  by_exchanges order p = from m 0 (omega arith) order p (λ k h. absurd (omega arith))

-- ---- a sum in another order
pub sum_to-permuted : (m : ℕ) (f : ℕ → ℤ) (order : ℕ → ℕ) → IsPermutation m order → sum_to m (λ k. f (order k)) ≡ sum_to m f
sum_to-permuted m f = by_exchanges m (λ order. sum_to m (λ k. f (order k)) ≡ sum_to m f) (λ order fixed. sum_to-same m (λ k. f (order k)) f (λ k h. ap f (fixed k h))) carried
  where
    carried : (order : ℕ → ℕ) (i j : ℕ) → i < m → j < m → i ≢ j → sum_to m (λ k. f (exchange order i j k)) ≡ sum_to m f → sum_to m (λ k. f (order k)) ≡ sum_to m f
    carried order i j h l apart is =
        let g = λ (k : ℕ). f (order k) in
        let inner = sum_to-put m i g (g j) h in
        let outer = sum_to-put m j (put g i (g j)) (g i) l in
        let at_j = put-other g i (g j) j (λ e. apart (sym e)) in
        let same = sum_to-same m (λ k. f (exchange order i j k)) (put (put g i (g j)) j (g i)) (λ k q.
        put_cases (λ x. f x ≡ put (put g i (g j)) j (g i) k) (put order i (order j)) j k (order i) (λ e. sym (ap (λ y. put (put g i (g j)) j (g i) y) e ∙ put-same (put g i (g j)) j (g i)))
        (λ d. put_cases (λ x. f x ≡ put (put g i (g j)) j (g i) k) order i k (order j) (λ e. sym (put-other (put g i (g j)) j (g i) k d ∙ (ap (λ y. put g i (g j) y) e ∙ put-same g i (g j)))) (λ e. sym (put-other (put g i (g j)) j (g i) k d ∙ put-other g i (g j) k e)))) in
        omega (arith, linear)

-- ---- a determinant in another order
-- The sign of an order, for all families at once.
pub record Signed (m : ℕ) (order : ℕ → ℕ) : Type 0 where
  pub by : ℤ
  pub by_is : by *ℤ by ≡ pos 1
  pub signs : (V : ℕ → ℕ → ℤ) → det m (λ k. V (order k)) ≡ by *ℤ det m V

pub sign_of : (m : ℕ) (order : ℕ → ℕ) → IsPermutation m order → Signed m order
sign_of m = by_exchanges m (Signed m) (λ order fixed. record { by = pos 1; by_is = refl; signs = λ V. det-equal m (λ k. V (order k)) V (λ k h. ap V (fixed k h)) ∙ omega (arith, linear) }) carried
  where
    carried : (order : ℕ → ℕ) (i j : ℕ) → i < m → j < m → i ≢ j → Signed m (exchange order i j) → Signed m order
    carried order i j h l apart given = record { by = neg_ℤ given.by; by_is = squared given.by given.by_is; signs = signs }
      where
        squared : (a : ℤ) → a *ℤ a ≡ pos 1 → neg_ℤ a *ℤ neg_ℤ a ≡ pos 1
        squared a is = simp ring_laws is

        signs : (V : ℕ → ℕ → ℤ) → det m (λ k. V (order k)) ≡ neg_ℤ given.by *ℤ det m V
        signs V =
            let W = λ (k : ℕ). V (order k) in
            let own = det-equal m W (put (put W i (W i)) j (W j)) (λ k q. sym (put_cases (λ x. x ≡ W k) (put W i (W i)) j k (W j) (λ e. ap W (sym e)) (λ d. put-own W i k))) in
            let turned = det-exchanged m i j W (W i) (W j) h l apart in
            let same = det-equal m (put (put W i (W j)) j (W i)) (λ k. V (exchange order i j k)) (λ k q.
            put_cases (λ x. x ≡ V (exchange order i j k)) (put W i (W j)) j k (W i) (λ e. sym (ap (λ y. V (exchange order i j y)) e ∙ ap V (exchange-second order i j)))
            (λ d. put_cases (λ x. x ≡ V (exchange order i j k)) W i k (W j) (λ e. sym (ap (λ y. V (exchange order i j y)) e ∙ ap V (exchange-first order i j apart))) (λ e. sym (ap V (exchange-other order i j k e d))))) in
            own ∙ (turned ∙ (ap neg_ℤ (same ∙ given.signs V) ∙ sym (neg_ℤ-*ℤ given.by (det m V))))
