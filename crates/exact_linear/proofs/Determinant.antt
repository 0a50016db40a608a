-- The determinant is linear in each vector, 0 for two equal ones, and turned by an exchange. By induction on the number of
-- vectors: along the last coordinate each minor has the last vector in the place of the one that is left out, so that it is
-- a determinant of the same family with one member changed. An exchange at n vectors follows from linearity and from the
-- equal vectors at n, and is used for the equal vectors at n + 1.
use Rattle.std.proofs.Common.{◌≡◌, ◌≢◌, cond, eqb, eq-eqb, ne_eqb, ℕ, zero, suc, ◌<◌, ◌≤◌, ℤ, pos, ◌+ℤ◌, ◌-ℤ◌, ◌*ℤ◌, neg_ℤ, refl, sym, ap, ap₂, ◌∙◌, ⊎_elim, arith}
use Rattle.std.proofs.lemmas.Bool.{cases_eq, cases_lt, cond-true, cond-false}
use Rattle.exact_algebra.proofs.Families.{put, put-same, put-other, put-put, put-own}
use Rattle.exact_algebra.proofs.RingLaws.{*ℤ-+ℤ, *ℤ-zero, zero-*ℤ}
use Rattle.exact_algebra.proofs.RingTactic.{ring_laws, linear}
use Rattle.exact_algebra.proofs.Sums.{sum_to-same, sum_to-add, sum_to-scale, sum_to-nothing, sum_to-two, sum_to-one}
use Rattle.exact_algebra.specs.Sums.{sum_to}
use Rattle.exact_linear.specs.Determinant.{det}

-- Two families agree in the vectors and coordinates below n.
pub record Agree (n : ℕ) (U V : ℕ → ℕ → ℤ) : Type 0 where
  pub at : (k c : ℕ) → k < n → c < n → U k c ≡ V k c

pub det-zero : (V : ℕ → ℕ → ℤ) → det 0 V ≡ pos 1
unfolding det
det-zero V = refl

pub det-suc : (n : ℕ) (V : ℕ → ℕ → ℤ) → det (suc n) V ≡ V n n *ℤ det n V -ℤ sum_to n (λ k. V k n *ℤ det n (put V k (V n)))
unfolding det
det-suc n V = refl

-- What holds of the changed member and of the others holds of a family with one member changed.
pub put_cases : {A : Type 0} (P : A → Type 0) (V : ℕ → A) (j k : ℕ) (v : A) → (k ≡ j → P v) → (k ≢ j → P (V k)) → P (put V j v k)
put_cases P V j k v here there = ⊎_elim (λ (e : k ≡ j). rw (e, put-same V j v) (here e)) (λ (d : k ≢ j). rw (put-other V j v k d) (there d)) (cases_eq k j)

pub agree_put : (n : ℕ) (U V : ℕ → ℕ → ℤ) (j : ℕ) (u v : ℕ → ℤ) → Agree n U V → ((c : ℕ) → c < n → u c ≡ v c) → Agree n (put U j u) (put V j v)
agree_put n U V j u v same new = record { at = λ k c h l. ⊎_elim (λ (e : k ≡ j). rw (e, put-same U j u, put-same V j v) (new c l)) (λ (d : k ≢ j). rw (put-other U j u k d, put-other V j v k d) (same.at k c h l)) (cases_eq k j) }

pub det-same : (n : ℕ) (U V : ℕ → ℕ → ℤ) → Agree n U V → det n U ≡ det n V
det-same zero U V same = det-zero U ∙ sym (det-zero V)
det-same (suc n) U V same =
    let lower : Agree n U V = record { at = λ k c h l. same.at k c (omega arith) (omega arith) } in
    let head = ap₂ (λ x y. x *ℤ y) (same.at n n (omega arith) (omega arith)) (det-same n U V lower) in
    let rest = sum_to-same n (λ k. U k n *ℤ det n (put U k (U n))) (λ k. V k n *ℤ det n (put V k (V n)))
    (λ k h. ap₂ (λ x y. x *ℤ y) (same.at k n (omega arith) (omega arith)) (det-same n (put U k (U n)) (put V k (V n)) (agree_put n U V k (U n) (V n) lower (λ c l. same.at n c (omega arith) (omega arith))))) in
    det-suc n U ∙ (ap₂ (λ x y. x -ℤ y) head rest ∙ sym (det-suc n V))

-- ---- the same family, put together in another way: two changes of two members, one after the other or the other way round.
pub put_apart : {A : Type 0} (V : ℕ → A) (i j : ℕ) (u v : A) (k : ℕ) → i ≢ j → put (put V i u) j v k ≡ put (put V j v) i u k
put_apart V i j u v k apart = ⊎_elim at_i other (cases_eq k i)
  where
    at_i : k ≡ i → put (put V i u) j v k ≡ put (put V j v) i u k
    at_i e = rw e (put-other (put V i u) j v i apart ∙ (put-same V i u ∙ sym (put-same (put V j v) i u)))

    at_j : k ≢ i → k ≡ j → put (put V i u) j v k ≡ put (put V j v) i u k
    at_j d e = rw e (put-same (put V i u) j v ∙ sym (put-other (put V j v) i u j (λ f. apart (sym f)) ∙ put-same V j v))

    other : k ≢ i → put (put V i u) j v k ≡ put (put V j v) i u k
    other d = ⊎_elim (at_j d) (λ (f : k ≢ j). put-other (put V i u) j v k f ∙ (put-other V i u k d ∙ sym (put-other (put V j v) i u k d ∙ put-other V j v k f))) (cases_eq k j)

equal_at : (n : ℕ) (U V : ℕ → ℕ → ℤ) → ((k : ℕ) → k < n → U k ≡ V k) → Agree n U V
equal_at n U V same = record { at = λ k c h l. ap (λ w. w c) (same k h) }

pub det-equal : (n : ℕ) (U V : ℕ → ℕ → ℤ) → ((k : ℕ) → k < n → U k ≡ V k) → det n U ≡ det n V
det-equal n U V same = det-same n U V (equal_at n U V same)

-- The vectors from n on don't count.
pub det-past : (n j : ℕ) (V : ℕ → ℕ → ℤ) (v : ℕ → ℤ) → n ≤ j → det n (put V j v) ≡ det n V
det-past n j V v past = det-equal n (put V j v) V (λ k h. put-other V j v k (omega arith))

-- The determinant of n + 1 vectors where the last one was put.
pub det-put_last : (n : ℕ) (V : ℕ → ℕ → ℤ) (v : ℕ → ℤ) → det (suc n) (put V n v) ≡ v n *ℤ det n V -ℤ sum_to n (λ k. V k n *ℤ det n (put V k v))
det-put_last n V v =
    let head = ap₂ (λ x y. x *ℤ y) (ap (λ w. w n) (put-same V n v)) (det-past n n V v (omega arith)) in
    let rest = sum_to-same n (λ k. put V n v k n *ℤ det n (put (put V n v) k (put V n v n))) (λ k. V k n *ℤ det n (put V k v))
    (λ k h. let apart : k ≢ n = omega arith in ap₂ (λ x y. x *ℤ y) (ap (λ w. w n) (put-other V n v k apart))
    (rw (put-same V n v) (det-equal n (put (put V n v) k v) (put V k v) (λ l m. put_apart V n k v v l (λ e. apart (sym e)) ∙ put-other (put V k v) n v l (omega arith))))) in
    det-suc n (put V n v) ∙ ap₂ (λ x y. x -ℤ y) head rest

-- The determinant of n + 1 vectors where an earlier one was put.
pub det-put_earlier : (n j : ℕ) (V : ℕ → ℕ → ℤ) (v : ℕ → ℤ) → j < n → det (suc n) (put V j v) ≡ V n n *ℤ det n (put V j v) -ℤ sum_to n (λ k. put V j v k n *ℤ det n (put (put V j v) k (V n)))
det-put_earlier n j V v h = let apart : n ≢ j = omega arith in let last = put-other V j v n apart in rw (← last) (det-suc n (put V j v))

-- ---- linear in each vector
sum_combined : (n : ℕ) (a b : ℤ) (f g h : ℕ → ℤ) → ((k : ℕ) → k < n → h k ≡ a *ℤ f k +ℤ b *ℤ g k) → sum_to n h ≡ a *ℤ sum_to n f +ℤ b *ℤ sum_to n g
sum_combined n a b f g h each = sum_to-same n h (λ k. a *ℤ f k +ℤ b *ℤ g k) each ∙ (sum_to-add n (λ k. a *ℤ f k) (λ k. b *ℤ g k) ∙ ap₂ (λ x y. x +ℤ y) (sum_to-scale n a f) (sum_to-scale n b g))

times_combined : (x a b y z : ℤ) → x *ℤ (a *ℤ y +ℤ b *ℤ z) ≡ a *ℤ (x *ℤ y) +ℤ b *ℤ (x *ℤ z)
times_combined x a b y z = simp ring_laws (omega (arith, linear))

combined_times : (a b y z x : ℤ) → (a *ℤ y +ℤ b *ℤ z) *ℤ x ≡ a *ℤ (y *ℤ x) +ℤ b *ℤ (z *ℤ x)
combined_times a b y z x = simp ring_laws (omega (arith, linear))

differences_combined : (a b x y s t : ℤ) → (a *ℤ x +ℤ b *ℤ y) -ℤ (a *ℤ s +ℤ b *ℤ t) ≡ a *ℤ (x -ℤ s) +ℤ b *ℤ (y -ℤ t)
differences_combined a b x y s t = simp ring_laws (omega (arith, linear))

-- The vector a u + b v.
abbrev pub mixed : ℤ → ℤ → (ℕ → ℤ) → (ℕ → ℤ) → ℕ → ℤ
mixed a b u v c = a *ℤ u c +ℤ b *ℤ v c

-- The determinant of n vectors is linear in each.
abbrev Linear : ℕ → Type 0
Linear n = (i : ℕ) (W : ℕ → ℕ → ℤ) (e f : ℤ) (x y : ℕ → ℤ) → i < n → det n (put W i (mixed e f x y)) ≡ e *ℤ det n (put W i x) +ℤ f *ℤ det n (put W i y)

pub det-linear : (n j : ℕ) (V : ℕ → ℕ → ℤ) (a b : ℤ) (u v : ℕ → ℤ) → j < n → det n (put V j (mixed a b u v)) ≡ a *ℤ det n (put V j u) +ℤ b *ℤ det n (put V j v)
det-linear zero j V a b u v h = absurd (omega arith)
det-linear (suc n) j V a b u v h = ⊎_elim (earlier (det-linear n)) (last (det-linear n)) (cases_lt j n)
  where
    last : Linear n → n ≤ j → det (suc n) (put V j (mixed a b u v)) ≡ a *ℤ det (suc n) (put V j u) +ℤ b *ℤ det (suc n) (put V j v)
    last before l =
        let at : j ≡ n = omega arith in
        let rest = sum_combined n a b (λ k. V k n *ℤ det n (put V k u)) (λ k. V k n *ℤ det n (put V k v)) (λ k. V k n *ℤ det n (put V k (mixed a b u v)))
        (λ k m. ap (λ x. V k n *ℤ x) (before k V a b u v m) ∙ times_combined (V k n) a b (det n (put V k u)) (det n (put V k v))) in
        rw (at, det-put_last n V (mixed a b u v), det-put_last n V u, det-put_last n V v, rest, combined_times a b (u n) (v n) (det n V))
        (differences_combined a b (u n *ℤ det n V) (v n *ℤ det n V) (sum_to n (λ k. V k n *ℤ det n (put V k u))) (sum_to n (λ k. V k n *ℤ det n (put V k v))))

    term : Linear n → (l : j < n) (k : ℕ) → k < n →
        put V j (mixed a b u v) k n *ℤ det n (put (put V j (mixed a b u v)) k (V n)) ≡ a *ℤ (put V j u k n *ℤ det n (put (put V j u) k (V n))) +ℤ b *ℤ (put V j v k n *ℤ det n (put (put V j v) k (V n)))
    term before l k m = ⊎_elim here there (cases_eq k j)
      where
        again : (w : ℕ → ℤ) → det n (put (put V j w) j (V n)) ≡ det n (put V j (V n))
        again w = det-equal n (put (put V j w) j (V n)) (put V j (V n)) (λ i q. put-put V j w (V n) i)

        here : k ≡ j → put V j (mixed a b u v) k n *ℤ det n (put (put V j (mixed a b u v)) k (V n)) ≡ a *ℤ (put V j u k n *ℤ det n (put (put V j u) k (V n))) +ℤ b *ℤ (put V j v k n *ℤ det n (put (put V j v) k (V n)))
        here e = rw (e, again (mixed a b u v), again u, again v, put-same V j (mixed a b u v), put-same V j u, put-same V j v) (combined_times a b (u n) (v n) (det n (put V j (V n))))

        turned : (w : ℕ → ℤ) → k ≢ j → put V j w k n *ℤ det n (put (put V j w) k (V n)) ≡ V k n *ℤ det n (put (put V k (V n)) j w)
        turned w d = ap₂ (λ x y. x *ℤ y) (ap (λ x. x n) (put-other V j w k d)) (det-equal n (put (put V j w) k (V n)) (put (put V k (V n)) j w) (λ i q. put_apart V j k w (V n) i (λ e. d (sym e))))

        there : k ≢ j → put V j (mixed a b u v) k n *ℤ det n (put (put V j (mixed a b u v)) k (V n)) ≡ a *ℤ (put V j u k n *ℤ det n (put (put V j u) k (V n))) +ℤ b *ℤ (put V j v k n *ℤ det n (put (put V j v) k (V n)))
        there d = rw (turned (mixed a b u v) d, turned u d, turned v d, before j (put V k (V n)) a b u v l) (times_combined (V k n) a b (det n (put (put V k (V n)) j u)) (det n (put (put V k (V n)) j v)))

    earlier : Linear n → j < n → det (suc n) (put V j (mixed a b u v)) ≡ a *ℤ det (suc n) (put V j u) +ℤ b *ℤ det (suc n) (put V j v)
    earlier before l =
        let rest = sum_combined n a b (λ k. put V j u k n *ℤ det n (put (put V j u) k (V n))) (λ k. put V j v k n *ℤ det n (put (put V j v) k (V n))) (λ k. put V j (mixed a b u v) k n *ℤ det n (put (put V j (mixed a b u v)) k (V n))) (term before l) in
        rw (det-put_earlier n j V (mixed a b u v) l, det-put_earlier n j V u l, det-put_earlier n j V v l, rest, before j V a b u v l, times_combined (V n n) a b (det n (put V j u)) (det n (put V j v)))
        (differences_combined a b (V n n *ℤ det n (put V j u)) (V n n *ℤ det n (put V j v)) (sum_to n (λ k. put V j u k n *ℤ det n (put (put V j u) k (V n)))) (sum_to n (λ k. put V j v k n *ℤ det n (put (put V j v) k (V n)))))

-- ---- 0 for two equal vectors
-- The determinant of n vectors is 0 where two of them are equal.
abbrev Alike : ℕ → Type 0
Alike n = (i j : ℕ) (W : ℕ → ℕ → ℤ) → i < n → j < n → i ≢ j → W i ≡ W j → det n W ≡ pos 0

first_at : (V : ℕ → ℕ → ℤ) (i j : ℕ) (x y : ℕ → ℤ) → i ≢ j → put (put V i x) j y i ≡ x
first_at V i j x y apart = put-other (put V i x) j y i apart ∙ put-same V i x

exchanged : (n i j : ℕ) (V : ℕ → ℕ → ℤ) (a b : ℕ → ℤ) → Alike n → i < n → j < n → i ≢ j → det n (put (put V i a) j b) +ℤ det n (put (put V i b) j a) ≡ pos 0
exchanged n i j V a b alike h l apart =
    let both = mixed (pos 1) (pos 1) a b in
    let none = λ (x : ℕ → ℤ). alike i j (put (put V i x) j x) h l apart (first_at V i j x x apart ∙ sym (put-same (put V i x) j x)) in
    let turned = λ (x y : ℕ → ℤ). det-equal n (put (put V i x) j y) (put (put V j y) i x) (λ k m. put_apart V i j x y k apart) in
    let parted = λ (y : ℕ → ℤ). turned both y ∙ (det-linear n i (put V j y) (pos 1) (pos 1) a b h ∙ ap₂ (λ s t. pos 1 *ℤ s +ℤ pos 1 *ℤ t) (sym (turned a y)) (sym (turned b y))) in
    let whole = det-linear n j (put V i both) (pos 1) (pos 1) a b l in
    let whole_a = parted a in
    let whole_b = parted b in
    let none_a = none a in
    let none_b = none b in
    let none_both = none both in
    omega (arith, linear)

alike_by : (n : ℕ) → ((i j : ℕ) (W : ℕ → ℕ → ℤ) → i < j → j < n → W i ≡ W j → det n W ≡ pos 0) → Alike n
alike_by n below i j W h l apart same = ⊎_elim (λ (e : i < j). below i j W e l same) (λ (e : j ≤ i). below j i W (omega arith) h (sym same)) (cases_lt i j)

-- Of n + 1 vectors the last one is equal to the vector i.
alike_last : (n i : ℕ) (V : ℕ → ℕ → ℤ) → Alike n → i < n → V i ≡ V n → det (suc n) V ≡ pos 0
alike_last n i V alike h same =
    let only = sum_to-one n i (λ k. V k n *ℤ det n (put V k (V n))) h
    (λ k l d. ap (λ x. V k n *ℤ x) (alike k i (put V k (V n)) l h d (put-same V k (V n) ∙ sym (put-other V k (V n) i (λ e. d (sym e)) ∙ same))) ∙ *ℤ-zero (V k n)) in
    let back = det-equal n (put V i (V n)) V (λ k l. ap (λ w. put V i w k) (sym same) ∙ put-own V i k) in
    let at_i = ap (λ w. w n) same in
    rw (det-suc n V, only, back, at_i) (omega (arith, linear))

-- Of n + 1 vectors two before the last one are equal: the two minors that are left are an exchange of each other.
alike_earlier : (n i j : ℕ) (V : ℕ → ℕ → ℤ) → Alike n → i < n → j < n → i ≢ j → V i ≡ V j → det (suc n) V ≡ pos 0
alike_earlier n i j V alike h l apart same =
    let head = ap (λ x. V n n *ℤ x) (alike i j V h l apart same) ∙ *ℤ-zero (V n n) in
    let two = sum_to-two n i j (λ k. V k n *ℤ det n (put V k (V n))) h l apart
    (λ k m d e. ap (λ x. V k n *ℤ x) (alike i j (put V k (V n)) h l apart (put-other V k (V n) i (λ f. d (sym f)) ∙ (same ∙ sym (put-other V k (V n) j (λ f. e (sym f)))))) ∙ *ℤ-zero (V k n)) in
    let at_i = det-equal n (put V i (V n)) (put (put V i (V n)) j (V j)) (λ k m. sym (put_cases (λ w. w ≡ put V i (V n) k) (put V i (V n)) j k (V j) (λ e. sym (rw e (put-other V i (V n) j (λ f. apart (sym f))))) (λ e. refl))) in
    let at_j = det-equal n (put V j (V n)) (put (put V i (V j)) j (V n)) (λ k m. sym (put_apart V i j (V j) (V n) k apart ∙ put_cases (λ w. w ≡ put V j (V n) k) (put V j (V n)) i k (V j) (λ e. sym (rw e (put-other V j (V n) i apart ∙ same))) (λ e. refl))) in
    let turned = exchanged n i j V (V n) (V j) alike h l apart in
    let coordinate = ap (λ w. w n) same in
    rw (det-suc n V, head, two, at_i, at_j, coordinate) (cancelled (V j n) (det n (put (put V i (V n)) j (V j))) (det n (put (put V i (V j)) j (V n))) turned)
  where
    cancelled : (c x y : ℤ) → x +ℤ y ≡ pos 0 → pos 0 -ℤ (c *ℤ x +ℤ c *ℤ y) ≡ pos 0
    cancelled c x y none = rw (← *ℤ-+ℤ c x y, none, *ℤ-zero c)

alike_more : (n : ℕ) → Alike n → (i j : ℕ) (W : ℕ → ℕ → ℤ) → i < j → j < suc n → W i ≡ W j → det (suc n) W ≡ pos 0
alike_more n alike i j W h l same = ⊎_elim
    (λ (m : j < n). alike_earlier n i j W alike (omega arith) m (omega arith) same)
    (λ (m : n ≤ j). let at : j ≡ n = omega arith in alike_last n i W alike (omega arith) (rw at at same))
    (cases_lt j n)

pub det-alike : (n : ℕ) → Alike n
det-alike zero i j W h l apart same = absurd (omega arith)
det-alike (suc n) i j W h l apart same = alike_by (suc n) (alike_more n (det-alike n)) i j W h l apart same

-- Two vectors exchanged.
pub det-exchanged : (n i j : ℕ) (V : ℕ → ℕ → ℤ) (a b : ℕ → ℤ) → i < n → j < n → i ≢ j → det n (put (put V i a) j b) ≡ neg_ℤ (det n (put (put V i b) j a))
det-exchanged n i j V a b h l apart = let both = exchanged n i j V a b (det-alike n) h l apart in omega (arith, linear)

-- The unit vectors.
abbrev pub unit : ℕ → ℕ → ℤ
unit k c = cond (eqb k c) (pos 1) (pos 0)

pub unit-same : (k : ℕ) → unit k k ≡ pos 1
unit-same k = cond-true (eqb k k) (pos 1) (pos 0) (eq-eqb k k refl)

pub unit-other : (k c : ℕ) → k ≢ c → unit k c ≡ pos 0
unit-other k c apart = cond-false (eqb k c) (pos 1) (pos 0) (ne_eqb k c apart)

pub det-unit : (n : ℕ) → det n unit ≡ pos 1
det-unit zero = det-zero unit
det-unit (suc n) =
    let others = sum_to-nothing n (λ k. unit k n *ℤ det n (put unit k (unit n))) (λ k h. ap (λ x. x *ℤ det n (put unit k (unit n))) (unit-other k n (omega arith)) ∙ zero-*ℤ (det n (put unit k (unit n)))) in
    rw (det-suc n unit, others, det-unit n, unit-same n)
