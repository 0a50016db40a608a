-- A point on no edge's far side lies in one of the triangles of the fan from corner 0: the area that it spans with corner 0 and a
-- corner is 0 or more at the first one and 0 or less at the last, so that it falls from one corner to the next; Cramer's rule.
use Rattle.std.proofs.Common.{◌≡◌, ◌⊎◌, inl, inr, ℕ, zero, suc, ◌+◌, ◌<◌, ◌≤◌, [], ◌∷◌, refl, ◌∙◌, subst, ℤ, pos, negsuc, neg_ℤ, ◌+ℤ◌, ◌-ℤ◌, ◌*ℤ◌, ◌<ℤ◌, ◌≤ℤ◌, unsigned_abs, arith}
use Rattle.std.proofs.lemmas.Int.{ints}
use Rattle.exact_algebra.proofs.Identities.{Expression, unknown, lit, ◌⊕◌, ◌⊖◌, ◌⊗◌, identity}
use Rattle.exact_algebra.proofs.Order.{at_most_or_above, factor_not_negative, factor_positive, product_not_negative, product_positive}
use Rattle.exact_algebra.proofs.RingTactic.{ring_laws, linear}
use Rattle.plane_hull.proofs.AngleOrder.{cross}
use Rattle.plane_hull.proofs.Areas.{areas_along, dot, has_length, square}
use Rattle.plane_hull.proofs.RoundedPolygon.{IsRounded, level, strictly_lower}

-- a point is a mean of three of n points, which may be the same, with these whole weights
pub record IsMeanOfThree (n : ℕ) (u v : ℕ → ℤ) (x y : ℤ) : Type 0 where
  pub i : ℕ
  pub j : ℕ
  pub k : ℕ
  pub i_in : i < n
  pub j_in : j < n
  pub k_in : k < n
  pub p : ℕ
  pub q : ℕ
  pub r : ℕ
  pub some : 0 < p + q + r
  pub first : pos p *ℤ u i +ℤ pos q *ℤ u j +ℤ pos r *ℤ u k ≡ pos (p + q + r) *ℤ x
  pub second : pos p *ℤ v i +ℤ pos q *ℤ v j +ℤ pos r *ℤ v k ≡ pos (p + q + r) *ℤ y

weakly : (x : ℤ) → pos 0 <ℤ x → pos 0 ≤ℤ x
weakly x h = omega (arith, ints)

-- ---- Cramer's rule with areas

abbrev pub area_of : ℤ → ℤ → ℤ → ℤ → ℤ → ℤ → ℤ
area_of x0 y0 x1 y1 x2 y2 = cross (x1 -ℤ x0) (y1 -ℤ y0) (x2 -ℤ x0) (y2 -ℤ y0)

abbrev area_in : Expression → Expression → Expression → Expression → Expression → Expression → Expression
area_in x0 y0 x1 y1 x2 y2 = (x1 ⊖ x0) ⊗ (y2 ⊖ y0) ⊖ (y1 ⊖ y0) ⊗ (x2 ⊖ x0)

areas_sum : (x0 y0 x1 y1 x2 y2 x y : ℤ) → area_of x1 y1 x2 y2 x y -ℤ area_of x0 y0 x2 y2 x y +ℤ area_of x0 y0 x1 y1 x y ≡ area_of x1 y1 x2 y2 x0 y0
areas_sum x0 y0 x1 y1 x2 y2 x y =
    let u = unknown in
    identity
    (area_in (u 2) (u 3) (u 4) (u 5) (u 6) (u 7) ⊖ area_in (u 0) (u 1) (u 4) (u 5) (u 6) (u 7) ⊕ area_in (u 0) (u 1) (u 2) (u 3) (u 6) (u 7))
    (area_in (u 2) (u 3) (u 4) (u 5) (u 0) (u 1))
    (x0 ∷ y0 ∷ x1 ∷ y1 ∷ x2 ∷ y2 ∷ x ∷ y ∷ [])
    refl

cramer_first : (x0 y0 x1 y1 x2 y2 x y : ℤ) →
    area_of x1 y1 x2 y2 x y *ℤ x0 +ℤ (pos 0 -ℤ area_of x0 y0 x2 y2 x y) *ℤ x1 +ℤ area_of x0 y0 x1 y1 x y *ℤ x2 ≡ area_of x1 y1 x2 y2 x0 y0 *ℤ x
cramer_first x0 y0 x1 y1 x2 y2 x y =
    let u = unknown in
    identity
    (area_in (u 2) (u 3) (u 4) (u 5) (u 6) (u 7) ⊗ u 0 ⊕ (lit (pos 0) ⊖ area_in (u 0) (u 1) (u 4) (u 5) (u 6) (u 7)) ⊗ u 2 ⊕ area_in (u 0) (u 1) (u 2) (u 3) (u 6) (u 7) ⊗ u 4)
    (area_in (u 2) (u 3) (u 4) (u 5) (u 0) (u 1) ⊗ u 6)
    (x0 ∷ y0 ∷ x1 ∷ y1 ∷ x2 ∷ y2 ∷ x ∷ y ∷ [])
    refl

cramer_second : (x0 y0 x1 y1 x2 y2 x y : ℤ) →
    area_of x1 y1 x2 y2 x y *ℤ y0 +ℤ (pos 0 -ℤ area_of x0 y0 x2 y2 x y) *ℤ y1 +ℤ area_of x0 y0 x1 y1 x y *ℤ y2 ≡ area_of x1 y1 x2 y2 x0 y0 *ℤ y
cramer_second x0 y0 x1 y1 x2 y2 x y =
    let u = unknown in
    identity
    (area_in (u 2) (u 3) (u 4) (u 5) (u 6) (u 7) ⊗ u 1 ⊕ (lit (pos 0) ⊖ area_in (u 0) (u 1) (u 4) (u 5) (u 6) (u 7)) ⊗ u 3 ⊕ area_in (u 0) (u 1) (u 2) (u 3) (u 6) (u 7) ⊗ u 5)
    (area_in (u 2) (u 3) (u 4) (u 5) (u 0) (u 1) ⊗ u 7)
    (x0 ∷ y0 ∷ x1 ∷ y1 ∷ x2 ∷ y2 ∷ x ∷ y ∷ [])
    refl

pub magnitude : (z : ℤ) → pos 0 ≤ℤ z → pos (unsigned_abs z) ≡ z
magnitude (pos n) h = refl
magnitude (negsuc n) h = absurd (omega (arith, ints))

-- numbers of 0 or more as naturals, with what they weigh
weighed : (a b c t x0 x1 x2 x : ℤ) (p q r : ℕ) → pos p ≡ a → pos q ≡ b → pos r ≡ c → a +ℤ b +ℤ c ≡ t
    → a *ℤ x0 +ℤ b *ℤ x1 +ℤ c *ℤ x2 ≡ t *ℤ x → pos p *ℤ x0 +ℤ pos q *ℤ x1 +ℤ pos r *ℤ x2 ≡ pos (p + q + r) *ℤ x
weighed a b c t x0 x1 x2 x p q r p_is q_is r_is total mean =
    let whole : pos (p + q + r) ≡ t = omega (arith, ints) in
    rw (whole, p_is, q_is, r_is) mean

in_triangle : (n : ℕ) (u v : ℕ → ℤ) (x y : ℤ) (i j k : ℕ) → i < n → j < n → k < n
    → pos 0 ≤ℤ area_of (u j) (v j) (u k) (v k) x y → area_of (u i) (v i) (u k) (v k) x y ≤ℤ pos 0 → pos 0 ≤ℤ area_of (u i) (v i) (u j) (v j) x y
    → pos 0 <ℤ area_of (u j) (v j) (u k) (v k) (u i) (v i) → IsMeanOfThree n u v x y
in_triangle n u v x y i j k i_in j_in k_in first second third total =
    let a = area_of (u j) (v j) (u k) (v k) x y in
    let b = pos 0 -ℤ area_of (u i) (v i) (u k) (v k) x y in
    let c = area_of (u i) (v i) (u j) (v j) x y in
    let a_is = magnitude a first in
    let b_is = magnitude b (let over : pos 0 ≤ℤ (pos 0 -ℤ area_of (u i) (v i) (u k) (v k) x y) = omega (arith, linear) in over) in
    let c_is = magnitude c third in
    let sum = areas_sum (u i) (v i) (u j) (v j) (u k) (v k) x y in
    let all : a +ℤ b +ℤ c ≡ area_of (u j) (v j) (u k) (v k) (u i) (v i) = omega (arith, linear) in
    record {
      i = i;
      j = j;
      k = k;
      i_in = i_in;
      j_in = j_in;
      k_in = k_in;
      p = unsigned_abs a;
      q = unsigned_abs b;
      r = unsigned_abs c;
      some = let over = total in over_0 _ _ _ _ _ _ _ a_is b_is c_is all total;
      first = weighed _ _ _ _ _ _ _ _ _ _ _ a_is b_is c_is all (cramer_first (u i) (v i) (u j) (v j) (u k) (v k) x y);
      second = weighed _ _ _ _ _ _ _ _ _ _ _ a_is b_is c_is all (cramer_second (u i) (v i) (u j) (v j) (u k) (v k) x y);
    }
  where
    over_0 : (a b c t : ℤ) (p q r : ℕ) → pos p ≡ a → pos q ≡ b → pos r ≡ c → a +ℤ b +ℤ c ≡ t → pos 0 <ℤ t → 0 < p + q + r
    over_0 a b c t p q r p_is q_is r_is all over = omega (arith, ints)

-- ---- where the sign of the areas changes

pub sign_change : (area : ℕ → ℤ) (k d : ℕ) → pos 0 ≤ℤ area k → area (k + suc d) ≤ℤ pos 0
    → (i : ℕ) × (k ≤ i) × (i < k + suc d) × (pos 0 ≤ℤ area i) × (area (suc i) ≤ℤ pos 0)
sign_change area k zero up down =
    (k, omega arith, omega arith, up, (let e : k + suc zero ≡ suc k = omega arith in subst (λ (i : ℕ). area i ≤ℤ pos 0) e down))
sign_change area k (suc d) up down =
    by (at_most_or_above (area (suc k)) (pos 0))
    (λ high. sign_change area (suc k) d (weakly (area (suc k)) high) (subst (λ (i : ℕ). area i ≤ℤ pos 0) (let e : k + suc (suc d) ≡ suc k + suc d = omega arith in e) down))
  where
    by : (area (suc k) ≤ℤ pos 0) ⊎ (pos 0 <ℤ area (suc k))
        → (pos 0 <ℤ area (suc k) → (i : ℕ) × (suc k ≤ i) × (i < suc k + suc d) × (pos 0 ≤ℤ area i) × (area (suc i) ≤ℤ pos 0))
        → (i : ℕ) × (k ≤ i) × (i < k + suc (suc d)) × (pos 0 ≤ℤ area i) × (area (suc i) ≤ℤ pos 0)
    by (inl low) later = (k, omega arith, omega arith, up, low)
    by (inr high) later =
        let (i, from, to, over, under) = later high in
        (i, omega arith, omega arith, over, under)

-- ---- the fan

module _ (n : ℕ) (next : ℕ → ℕ) (a b u v : ℕ → ℤ) (is : IsRounded n next a b u v) where
  -- along an edge: no further than it is to its left
  beside_edge : (k : ℕ) (x y : ℤ) → k < n
      → square (a k) (b k) *ℤ area_of (u k) (v k) (u (next k)) (v (next k)) x y
      ≡ cross (a k) (b k) (u (next k) -ℤ u k) (v (next k) -ℤ v k) *ℤ (dot (a k) (b k) (u k) (v k) -ℤ dot (a k) (b k) x y)
  beside_edge k x y inside =
      parts _ (dot (a k) (b k) (u (next k) -ℤ u k) (v (next k) -ℤ v k)) (cross (a k) (b k) (x -ℤ u k) (y -ℤ v k))
      (cross (a k) (b k) (u (next k) -ℤ u k) (v (next k) -ℤ v k)) (dot (a k) (b k) (x -ℤ u k) (y -ℤ v k))
      (dot (a k) (b k) (u k) (v k)) (dot (a k) (b k) x y)
      (areas_along (a k) (b k) (u (next k) -ℤ u k) (v (next k) -ℤ v k) (x -ℤ u k) (y -ℤ v k))
      (let flat = level n next a b u v is k inside in differences (a k) (b k) (u (next k)) (v (next k)) (u k) (v k) flat) (apart_by (a k) (b k) x y (u k) (v k))
    where
      differences : (a b x y z w : ℤ) → dot a b x y ≡ dot a b z w → dot a b (x -ℤ z) (y -ℤ w) ≡ pos 0
      differences a b x y z w same = simp ring_laws (omega (arith, linear))

      apart_by : (a b x y z w : ℤ) → dot a b (x -ℤ z) (y -ℤ w) ≡ dot a b x y -ℤ dot a b z w
      apart_by a b x y z w = simp ring_laws (omega (arith, linear))

      parts : (s d t c h here there : ℤ) → s ≡ d *ℤ t -ℤ c *ℤ h → d ≡ pos 0 → h ≡ there -ℤ here → s ≡ c *ℤ (here -ℤ there)
      parts s d t c h here there whole none up = whole ∙ (rw (none, up) (simp ring_laws (omega (arith, linear))))

  pub left_of_edge : (k : ℕ) (x y : ℤ) → k < n → dot (a k) (b k) x y ≤ℤ dot (a k) (b k) (u k) (v k) → pos 0 ≤ℤ area_of (u k) (v k) (u (next k)) (v (next k)) x y
  left_of_edge k x y inside low =
      factor_not_negative (square (a k) (b k)) (has_length (a k) (b k) _ _ (is.left k inside))
      (rw (beside_edge k x y inside) (product_not_negative (weakly _ (is.left k inside)) (let over : pos 0 ≤ℤ (dot (a k) (b k) (u k) (v k) -ℤ dot (a k) (b k) x y) = omega (arith, linear) in over)))

  inner_of_edge : (k : ℕ) (x y : ℤ) → k < n → dot (a k) (b k) x y <ℤ dot (a k) (b k) (u k) (v k) → pos 0 <ℤ area_of (u k) (v k) (u (next k)) (v (next k)) x y
  inner_of_edge k x y inside low =
      factor_positive (square (a k) (b k)) (weakly _ (has_length (a k) (b k) _ _ (is.left k inside)))
      (rw (beside_edge k x y inside) (product_positive (is.left k inside) (let over : pos 0 <ℤ (dot (a k) (b k) (u k) (v k) -ℤ dot (a k) (b k) x y) = omega (arith, linear) in over)))

  -- three corners or more, numbered round: a point on no edge's far side
  module _ (x y : ℤ) (inside : (k : ℕ) → k < n → dot (a k) (b k) x y ≤ℤ dot (a k) (b k) (u k) (v k))
      (three : 3 ≤ n) (up : (k : ℕ) → suc k < n → next k ≡ suc k) (round : (k : ℕ) → suc k ≡ n → next k ≡ 0) where
    abbrev from_first : ℕ → ℤ
    from_first k = area_of (u 0) (v 0) (u k) (v k) x y

    at_start : pos 0 ≤ℤ from_first 1
    at_start = subst (λ (k : ℕ). pos 0 ≤ℤ area_of (u 0) (v 0) (u k) (v k) x y) (up 0 (omega arith)) (left_of_edge 0 x y (omega arith) (inside 0 (omega arith)))

    at_end : (k : ℕ) → suc k ≡ n → from_first k ≤ℤ pos 0
    at_end k last =
        let edge = subst (λ (i : ℕ). pos 0 ≤ℤ area_of (u k) (v k) (u i) (v i) x y) (round k last) (left_of_edge k x y (omega arith) (inside k (omega arith))) in
        let back = turned (u 0) (v 0) (u k) (v k) x y in
        omega (arith, linear)
      where
        turned : (x0 y0 x1 y1 x y : ℤ) → area_of x1 y1 x0 y0 x y ≡ neg_ℤ (area_of x0 y0 x1 y1 x y)
        turned x0 y0 x1 y1 x y = simp ring_laws (omega (arith, linear))

    pub in_fan : IsMeanOfThree n u v x y
    in_fan = by n refl
      where
        found : (m : ℕ) → suc (1 + suc m) ≡ n → ((i : ℕ) × (1 ≤ i) × (i < 1 + suc m) × (pos 0 ≤ℤ from_first i) × (from_first (suc i) ≤ℤ pos 0)) → IsMeanOfThree n u v x y
        found m e (i, from, to, over, under) =
            let here = up i (omega arith) in
            let edge = subst (λ (k : ℕ). pos 0 ≤ℤ area_of (u i) (v i) (u k) (v k) x y) here (left_of_edge i x y (omega arith) (inside i (omega arith))) in
            let (p, before, p_in) = previous i from (omega arith) in
            let off = strictly_lower n next a b u v is three i 0 p (omega arith) (omega arith) p_in before (λ z. omega arith) (λ z. omega arith) in
            let whole = subst (λ (k : ℕ). pos 0 <ℤ area_of (u i) (v i) (u k) (v k) (u 0) (v 0)) here (inner_of_edge i (u 0) (v 0) (omega arith) off) in
            in_triangle n u v x y 0 i (suc i) (omega arith) (omega arith) (omega arith) edge under over whole
          where
            previous : (i : ℕ) → 1 ≤ i → i < n → (p : ℕ) × (next p ≡ i) × (p < n)
            previous zero from to = absurd (omega arith)
            previous (suc i) from to = (i, up i to, omega arith)

        by : (m : ℕ) → m ≡ n → IsMeanOfThree n u v x y
        by zero e = absurd (omega arith)
        by (suc zero) e = absurd (omega arith)
        by (suc (suc zero)) e = absurd (omega arith)
        by (suc (suc (suc m))) e =
            found m (omega arith) (sign_change from_first 1 m at_start (at_end (1 + suc m) (omega arith)))
