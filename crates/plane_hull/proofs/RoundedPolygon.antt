-- Corners in the plane with an edge from each to the next, all on one side of every edge and no two edges alike: where there
-- are three or more, every other corner lies off an edge. For two edges with a corner in common that run along one line all
-- corners would lie on that line, and of three edges along a line two are alike.
use Rattle.std.proofs.Common.{◌≡◌, ◌≢◌, ◌⊎◌, inl, inr, ℕ, zero, suc, ◌<◌, ◌≤◌, refl, sym, ◌∙◌, ap, subst, ℤ, pos, neg_ℤ, ◌+ℤ◌, ◌-ℤ◌, ◌*ℤ◌, ◌<ℤ◌, ◌≤ℤ◌, arith}
use Rattle.std.proofs.lemmas.Int.{ints}
use Rattle.exact_algebra.proofs.Order.{Sign, at_most_or_above, factor_not_negative, factor_not_positive, negative, nothing, positive, product_not_negative, product_not_positive, product_of_negative, sign}
use Rattle.exact_algebra.proofs.RingLaws.{*ℤ_comm, *ℤ-zero, zero-*ℤ}
use Rattle.exact_algebra.proofs.RingTactic.{ring_laws, linear}
use Rattle.plane_hull.proofs.AngleOrder.{cross}
use Rattle.plane_hull.proofs.Areas.{areas_along, dot, factor_high, factor_low, has_length, no_product, nothing_left, products_along, square}

weakly : (x : ℤ) → pos 0 <ℤ x → pos 0 ≤ℤ x
weakly x h = omega (arith, ints)

-- n corners (u, v), and directions (a, b) in which a corner and the next one lie furthest
pub record IsRounded (n : ℕ) (next : ℕ → ℕ) (a b u v : ℕ → ℤ) : Type 0 where
  pub next_in : (k : ℕ) → k < n → next k < n
  pub top : (k j : ℕ) → k < n → j < n → dot (a k) (b k) (u j) (v j) ≤ℤ dot (a k) (b k) (u k) (v k)
  pub top_next : (k j : ℕ) → k < n → j < n → dot (a k) (b k) (u j) (v j) ≤ℤ dot (a k) (b k) (u (next k)) (v (next k))
  pub left : (k : ℕ) → k < n → pos 0 <ℤ cross (a k) (b k) (u (next k) -ℤ u k) (v (next k) -ℤ v k)
  pub apart : (j k : ℕ) → j < n → k < n → j ≢ k → cross (a j) (b j) (a k) (b k) ≡ pos 0 → dot (a j) (b j) (a k) (b k) <ℤ pos 0

differences : (a b x y z w : ℤ) → dot a b (x -ℤ z) (y -ℤ w) ≡ dot a b x y -ℤ dot a b z w
differences a b x y z w = simp ring_laws (omega (arith, linear))

turned_round : (a b c d : ℤ) → cross c d a b ≡ neg_ℤ (cross a b c d)
turned_round a b c d = simp ring_laws (omega (arith, linear))

by_parts : (s x y z w : ℤ) → x ≡ y *ℤ z +ℤ s *ℤ w → z ≡ pos 0 → x ≡ s *ℤ w
by_parts s x y z w whole none = whole ∙ (rw (none, *ℤ-zero y) (omega (arith, linear)))

by_other_parts : (s x y z w : ℤ) → x ≡ y *ℤ z +ℤ s *ℤ w → s ≡ pos 0 → x ≡ y *ℤ z
by_other_parts s x y z w whole none = whole ∙ (rw (none, zero-*ℤ w) (omega (arith, linear)))

third : (j k : ℕ) → (i : ℕ) × (i < 3) × (i ≢ j) × (i ≢ k)
third zero zero = (1, omega arith, λ e. omega arith, λ e. omega arith)
third zero (suc zero) = (2, omega arith, λ e. omega arith, λ e. omega arith)
third zero (suc (suc k)) = (1, omega arith, λ e. omega arith, λ e. omega arith)
third (suc zero) zero = (2, omega arith, λ e. omega arith, λ e. omega arith)
third (suc (suc j)) zero = (1, omega arith, λ e. omega arith, λ e. omega arith)
third (suc j) (suc k) = (0, omega arith, λ e. omega arith, λ e. omega arith)

module _ (n : ℕ) (next : ℕ → ℕ) (a b u v : ℕ → ℤ) (is : IsRounded n next a b u v) where
  -- how far a corner lies in the direction of an edge
  abbrev pub height : ℕ → ℕ → ℤ
  height k j = dot (a k) (b k) (u j) (v j)

  abbrev area : ℕ → ℕ → ℤ
  area j k = cross (a j) (b j) (a k) (b k)

  abbrev inner : ℕ → ℕ → ℤ
  inner j k = dot (a j) (b j) (a k) (b k)

  abbrev long : ℕ → ℤ
  long k = square (a k) (b k)

  long_over : (k : ℕ) → k < n → pos 0 <ℤ long k
  long_over k inside = has_length (a k) (b k) _ _ (is.left k inside)

  pub level : (k : ℕ) → k < n → height k (next k) ≡ height k k
  level k inside =
      let one = is.top k (next k) inside (is.next_in k inside) in
      let other = is.top_next k k inside inside in
      omega (arith, linear)

  -- an edge rises in a direction by the area that the two directions span
  rise : (i k : ℕ) → i < n → long i *ℤ (height k (next i) -ℤ height k i) ≡ area i k *ℤ cross (a i) (b i) (u (next i) -ℤ u i) (v (next i) -ℤ v i)
  rise i k inside =
      ap (λ (x : ℤ). long i *ℤ x) (sym (differences (a k) (b k) (u (next i)) (v (next i)) (u i) (v i)))
      ∙ by_other (differences (a i) (b i) (u (next i)) (v (next i)) (u i) (v i) ∙ flat)
    where
      flat : height i (next i) -ℤ height i i ≡ pos 0
      flat = let same = level i inside in omega (arith, linear)

      by_other : dot (a i) (b i) (u (next i) -ℤ u i) (v (next i) -ℤ v i) ≡ pos 0
          → long i *ℤ dot (a k) (b k) (u (next i) -ℤ u i) (v (next i) -ℤ v i) ≡ area i k *ℤ cross (a i) (b i) (u (next i) -ℤ u i) (v (next i) -ℤ v i)
      by_other none = by_parts (area i k) _ (inner i k) _ _ (products_along (a i) (b i) (a k) (b k) (u (next i) -ℤ u i) (v (next i) -ℤ v i)) none

  falls : (i k : ℕ) → i < n → height k (next i) ≤ℤ height k i → area i k ≤ℤ pos 0
  falls i k inside low =
      factor_not_positive (cross (a i) (b i) (u (next i) -ℤ u i) (v (next i) -ℤ v i)) (is.left i inside)
      (rw (*ℤ_comm (cross (a i) (b i) (u (next i) -ℤ u i) (v (next i) -ℤ v i)) (area i k), ← rise i k inside)
      (product_not_positive (weakly (long i) (long_over i inside)) (let less : (height k (next i) -ℤ height k i) ≤ℤ pos 0 = omega (arith, linear) in less)))

  stays : (i k : ℕ) → i < n → height k (next i) ≡ height k i → area i k ≡ pos 0
  stays i k inside same =
      no_product (cross (a i) (b i) (u (next i) -ℤ u i) (v (next i) -ℤ v i)) (area i k) (is.left i inside)
      (*ℤ_comm _ (area i k) ∙ (sym (rise i k inside) ∙ (ap (λ (x : ℤ). long i *ℤ x) (let none : height k (next i) -ℤ height k i ≡ pos 0 = omega (arith, linear) in none) ∙ *ℤ-zero (long i))))

  module _ (three : 3 ≤ n) where
    -- along one line with an edge: then all corners lie on it
    on_line : (j k i : ℕ) → j < n → k < n → i < n → j ≢ k → height k j ≡ height k k → area k j ≡ pos 0 → height k i ≡ height k k
    on_line j k i j_in k_in i_in other same parallel =
        let opposite = is.apart k j k_in j_in (λ e. other (sym e)) parallel in
        let down : dot (a j) (b j) (u i -ℤ u j) (v i -ℤ v j) ≤ℤ pos 0 =
        (let low = is.top j i j_in i_in in rw (differences (a j) (b j) (u i) (v i) (u j) (v j)) (omega (arith, linear))) in
        let whole : long k *ℤ dot (a j) (b j) (u i -ℤ u j) (v i -ℤ v j) ≡ inner k j *ℤ dot (a k) (b k) (u i -ℤ u j) (v i -ℤ v j) = by_other_parts (area k j) _ (inner k j) (dot (a k) (b k) (u i -ℤ u j) (v i -ℤ v j)) (cross (a k) (b k) (u i -ℤ u j) (v i -ℤ v j)) (products_along (a k) (b k) (a j) (b j) (u i -ℤ u j) (v i -ℤ v j)) parallel in
        let high = factor_high (inner k j) (dot (a k) (b k) (u i -ℤ u j) (v i -ℤ v j)) opposite (rw (← whole) (product_not_positive (weakly (long k) (long_over k k_in)) down)) in
        let up = rw (differences (a k) (b k) (u i) (v i) (u j) (v j)) at high in
        let top = is.top k i k_in i_in in
        omega (arith, linear)

    pub not_parallel : (j k : ℕ) → j < n → k < n → j ≢ k → height k j ≡ height k k → area k j ≡ pos 0 → ⊥
    not_parallel j k j_in k_in other same parallel = by (third j k)
      where
        by : ((i : ℕ) × (i < 3) × (i ≢ j) × (i ≢ k)) → ⊥
        by (i, low, not_j, not_k) =
            let i_in : i < n = omega arith in
            let along : height k (next i) ≡ height k i =
            on_line j k (next i) j_in k_in (is.next_in i i_in) other same parallel ∙ sym (on_line j k i j_in k_in i_in other same parallel) in
            let here = stays i k i_in along in
            let here_back : area k i ≡ pos 0 = turned_round (a i) (b i) (a k) (b k) ∙ (rw here refl) in
            let there : area i j ≡ pos 0 =
            no_product (long k) (area i j) (long_over k k_in)
            (areas_along (a k) (b k) (a i) (b i) (a j) (b j) ∙ (rw (parallel, here_back, *ℤ-zero (inner k i), zero-*ℤ (inner k j)) refl)) in
            let first = is.apart k i k_in i_in (λ e. not_k (sym e)) here_back in
            let second = is.apart k j k_in j_in (λ e. other (sym e)) parallel in
            let last = is.apart i j i_in j_in not_j there in
            let both = product_of_negative first second in
            let whole : long k *ℤ inner i j ≡ inner k i *ℤ inner k j = by_other_parts (area k i) _ (inner k i) (inner k j) (area k j) (products_along (a k) (b k) (a i) (b i) (a j) (b j)) here_back in
            let under = product_not_positive (weakly (long k) (long_over k k_in)) (let weak : inner i j ≤ℤ pos 0 = omega (arith, ints) in weak) in
            omega (arith, linear)

    -- two corners of different edges aren't one point
    pub not_meeting : (j k : ℕ) → j < n → k < n → j ≢ k → u j ≡ u k → v j ≡ v k → ⊥
    not_meeting j k j_in k_in other first second =
        let same_k : height k j ≡ height k k = rw (first, second) refl in
        let same_j : height j k ≡ height j j = rw (first, second) refl in
        let one = falls k j k_in (let top = is.top j (next k) j_in (is.next_in k k_in) in omega (arith, linear)) in
        let two = falls j k j_in (let top = is.top k (next j) k_in (is.next_in j j_in) in omega (arith, linear)) in
        let back = turned_round (a k) (b k) (a j) (b j) in
        not_parallel j k j_in k_in other same_k (let none : area k j ≡ pos 0 = omega (arith, ints) in none)

    moved : (k : ℕ) → k < n → next k ≢ k
    moved k inside e =
        let left = is.left k inside in
        let gone = rw e at left in
        let given = simp ring_laws at gone in
        omega (arith, linear)

    -- at a corner the polygon turns to the left
    pub beside : (k : ℕ) → k < n → pos 0 <ℤ area k (next k)
    beside k inside = by (sign (area k (next k)))
      where
        l_in : next k < n
        l_in = is.next_in k inside

        low : area (next k) k ≤ℤ pos 0
        low = falls (next k) k l_in (is.top_next k (next (next k)) inside (is.next_in (next k) l_in))

        by : Sign (area k (next k)) → pos 0 <ℤ area k (next k)
        by (positive over) = over
        by (nothing none) = absurd (not_parallel (next k) k l_in inside (moved k inside) (level k inside) none)
        by (negative under) = absurd (let back = turned_round (a k) (b k) (a (next k)) (b (next k)) in let low = low in omega (arith, ints))

    -- any other corner lies off the edge
    module _ (k j p : ℕ) (k_in : k < n) (j_in : j < n) (p_in : p < n) (before : next p ≡ k) (not_k : j ≢ k) (not_next : j ≢ next k) where
      -- a corner on the edge's line, seen from corner c of the line
      seen : (c i : ℕ) → height k j ≡ height k c → long k *ℤ dot (a i) (b i) (u j -ℤ u c) (v j -ℤ v c) ≡ area k i *ℤ cross (a k) (b k) (u j -ℤ u c) (v j -ℤ v c)
      seen c i same =
          by_parts (area k i) _ (inner k i) _ _ (products_along (a k) (b k) (a i) (b i) (u j -ℤ u c) (v j -ℤ v c))
          (differences (a k) (b k) (u j) (v j) (u c) (v c) ∙ (let none : height k j -ℤ height k c ≡ pos 0 = omega (arith, linear) in none))

      higher : (c i : ℕ) → height k j ≡ height k c → height i c ≤ℤ height i j → pos 0 ≤ℤ (area k i *ℤ cross (a k) (b k) (u j -ℤ u c) (v j -ℤ v c))
      higher c i same high =
          rw (← seen c i same) (product_not_negative (weakly (long k) (long_over k k_in))
          (rw (differences (a i) (b i) (u j) (v j) (u c) (v c)) (let up : pos 0 ≤ℤ (height i j -ℤ height i c) = omega (arith, linear) in up)))

      lower : (c i : ℕ) → height k j ≡ height k c → height i j ≤ℤ height i c → (area k i *ℤ cross (a k) (b k) (u j -ℤ u c) (v j -ℤ v c)) ≤ℤ pos 0
      lower c i same low =
          rw (← seen c i same) (product_not_positive (weakly (long k) (long_over k k_in))
          (rw (differences (a i) (b i) (u j) (v j) (u c) (v c)) (let down : (height i j -ℤ height i c) ≤ℤ pos 0 = omega (arith, linear) in down)))

      one_point : (c : ℕ) → height k j ≡ height k c → cross (a k) (b k) (u j -ℤ u c) (v j -ℤ v c) ≡ pos 0 → (u j ≡ u c) × (v j ≡ v c)
      one_point c same none =
          let gone = nothing_left (a k) (b k) (u j -ℤ u c) (v j -ℤ v c) (long_over k k_in)
          (differences (a k) (b k) (u j) (v j) (u c) (v c) ∙ (let flat : height k j -ℤ height k c ≡ pos 0 = omega (arith, linear) in flat)) none in
          (let first = gone.0 in omega (arith, ints), let second = gone.1 in omega (arith, ints))

      off_line : height k j ≡ height k k → Sign (area k j) → ⊥
      off_line same (nothing none) = not_parallel j k j_in k_in not_k same none
      off_line same (positive over) =
          let l = next k in
          let l_in = is.next_in k k_in in
          let flat : height k j ≡ height k l = same ∙ sym (level k k_in) in
          let up = factor_not_negative (area k j) over (higher l j flat (is.top j l j_in l_in)) in
          let down = factor_not_positive (area k l) (beside k k_in) (lower l l flat (is.top l j l_in j_in)) in
          let point = one_point l flat (let none : cross (a k) (b k) (u j -ℤ u l) (v j -ℤ v l) ≡ pos 0 = omega (arith, ints) in none) in
          not_meeting j l j_in l_in not_next point.0 point.1
      off_line same (negative under) =
          let down = factor_low (area k j) _ under (higher k j same (is.top j k j_in k_in)) in
          let turn = subst (λ (i : ℕ). pos 0 <ℤ area p i) before (beside p p_in) in
          let back : area k p <ℤ pos 0 = (let round = turned_round (a p) (b p) (a k) (b k) in omega (arith, ints)) in
          let top = subst (λ (i : ℕ). height p j ≤ℤ height p i) before (is.top_next p j p_in j_in) in
          let up = factor_high (area k p) _ back (lower k p same top) in
          let point = one_point k same (let none : cross (a k) (b k) (u j -ℤ u k) (v j -ℤ v k) ≡ pos 0 = omega (arith, ints) in none) in
          not_meeting j k j_in k_in not_k point.0 point.1

      pub strictly_lower : height k j <ℤ height k k
      strictly_lower = by (at_most_or_above (height k k) (height k j))
        where
          by : (height k k ≤ℤ height k j) ⊎ (height k j <ℤ height k k) → height k j <ℤ height k k
          by (inr below) = below
          by (inl level_or_over) = absurd (off_line (let top = is.top k j k_in j_in in omega (arith, linear)) (sign (area k j)))
