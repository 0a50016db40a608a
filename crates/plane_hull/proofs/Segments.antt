-- A point on a line through two others, between them in either coordinate, is a mean of the two.
use Rattle.std.proofs.Common.{◌≡◌, ◌⊎◌, inl, inr, ℕ, ◌+◌, ◌<◌, ℤ, pos, ◌+ℤ◌, ◌-ℤ◌, ◌*ℤ◌, ◌<ℤ◌, ◌≤ℤ◌, unsigned_abs, arith}
use Rattle.std.proofs.lemmas.Int.{ints}
use Rattle.exact_algebra.proofs.Order.{Sign, negative, nothing, positive, sign}
use Rattle.exact_algebra.proofs.RingTactic.{ring_laws, linear}
use Rattle.plane_hull.proofs.AngleOrder.{cross}
use Rattle.plane_hull.proofs.Fan.{magnitude}

pub record IsMeanOfTwo (x0 y0 x1 y1 x y : ℤ) : Type 0 where
  pub p : ℕ
  pub q : ℕ
  pub some : 0 < p + q
  pub first : pos p *ℤ x0 +ℤ pos q *ℤ x1 ≡ pos (p + q) *ℤ x
  pub second : pos p *ℤ y0 +ℤ pos q *ℤ y1 ≡ pos (p + q) *ℤ y

-- what lies at most at one of two places, and at least at one
abbrev pub IsBetween : ℤ → ℤ → ℤ → Type 0
IsBetween a b x = ((x ≤ℤ a) ⊎ (x ≤ℤ b)) × ((a ≤ℤ x) ⊎ (b ≤ℤ x))

first_mean : (x0 x1 x : ℤ) → (x1 -ℤ x) *ℤ x0 +ℤ (x -ℤ x0) *ℤ x1 ≡ (x1 -ℤ x0) *ℤ x
first_mean x0 x1 x = simp ring_laws (omega (arith, linear))

second_mean : (x0 y0 x1 y1 x y : ℤ) → cross (x1 -ℤ x0) (y1 -ℤ y0) (x -ℤ x0) (y -ℤ y0) ≡ pos 0 → (x1 -ℤ x) *ℤ y0 +ℤ (x -ℤ x0) *ℤ y1 ≡ (x1 -ℤ x0) *ℤ y
second_mean x0 y0 x1 y1 x y line = let given = simp ring_laws at line in simp ring_laws (omega (arith, linear))

natural : (a b t x0 x1 x : ℤ) (p q : ℕ) → pos p ≡ a → pos q ≡ b → a +ℤ b ≡ t → a *ℤ x0 +ℤ b *ℤ x1 ≡ t *ℤ x → pos p *ℤ x0 +ℤ pos q *ℤ x1 ≡ pos (p + q) *ℤ x
natural a b t x0 x1 x p q p_is q_is total mean = let whole : pos (p + q) ≡ t = omega (arith, ints) in rw (whole, p_is, q_is) mean

rising : (x0 y0 x1 y1 x y : ℤ) → x0 <ℤ x1 → IsBetween x0 x1 x → cross (x1 -ℤ x0) (y1 -ℤ y0) (x -ℤ x0) (y -ℤ y0) ≡ pos 0 → IsMeanOfTwo x0 y0 x1 y1 x y
rising x0 y0 x1 y1 x y up between line =
    let low : x ≤ℤ x1 = top between.0 in
    let high : x0 ≤ℤ x = bottom between.1 in
    let p_is = magnitude (x1 -ℤ x) (omega (arith, ints)) in
    let q_is = magnitude (x -ℤ x0) (omega (arith, ints)) in
    let total : (x1 -ℤ x) +ℤ (x -ℤ x0) ≡ x1 -ℤ x0 = omega (arith, ints) in
    record {
      p = unsigned_abs (x1 -ℤ x);
      q = unsigned_abs (x -ℤ x0);
      some = omega (arith, ints);
      first = natural _ _ _ x0 x1 x _ _ p_is q_is total (first_mean x0 x1 x);
      second = natural _ _ _ y0 y1 y _ _ p_is q_is total (second_mean x0 y0 x1 y1 x y line);
    }
  where
    top : (x ≤ℤ x0) ⊎ (x ≤ℤ x1) → x ≤ℤ x1
    top (inl h) = omega (arith, ints)
    top (inr h) = h

    bottom : (x0 ≤ℤ x) ⊎ (x1 ≤ℤ x) → x0 ≤ℤ x
    bottom (inl h) = h
    bottom (inr h) = omega (arith, ints)

turned_over : (x0 y0 x1 y1 x y : ℤ) → cross (x1 -ℤ x0) (y1 -ℤ y0) (x -ℤ x0) (y -ℤ y0) ≡ pos 0 → cross (x0 -ℤ x1) (y0 -ℤ y1) (x -ℤ x1) (y -ℤ y1) ≡ pos 0
turned_over x0 y0 x1 y1 x y line = let given = simp ring_laws at line in simp ring_laws (omega (arith, linear))

flipped : (x0 y0 x1 y1 x y : ℤ) → cross (x1 -ℤ x0) (y1 -ℤ y0) (x -ℤ x0) (y -ℤ y0) ≡ pos 0 → cross (y1 -ℤ y0) (x1 -ℤ x0) (y -ℤ y0) (x -ℤ x0) ≡ pos 0
flipped x0 y0 x1 y1 x y line = let given = simp ring_laws at line in simp ring_laws (omega (arith, linear))

other_way : (a b x : ℤ) → IsBetween a b x → IsBetween b a x
other_way a b x h = (swap h.0, swap h.1)
  where
    swap : {P Q : Type 0} → P ⊎ Q → Q ⊎ P
    swap (inl p) = inr p
    swap (inr q) = inl q

ends_exchanged : {x0 y0 x1 y1 x y : ℤ} → IsMeanOfTwo x0 y0 x1 y1 x y → IsMeanOfTwo x1 y1 x0 y0 x y
ends_exchanged {x0} {y0} {x1} {y1} {x} {y} m = record {
  p = m.q;
  q = m.p;
  some = let some = m.some in omega arith;
  first = back m.p m.q x0 x1 x m.first;
  second = back m.p m.q y0 y1 y m.second;
}
  where
    back : (p q : ℕ) (a b c : ℤ) → pos p *ℤ a +ℤ pos q *ℤ b ≡ pos (p + q) *ℤ c → pos q *ℤ b +ℤ pos p *ℤ a ≡ pos (q + p) *ℤ c
    back p q a b c h = let e : q + p ≡ p + q = omega arith in rw e (sum_back (pos p *ℤ a) (pos q *ℤ b) (pos (p + q) *ℤ c) h)
      where
        sum_back : (s t r : ℤ) → s +ℤ t ≡ r → t +ℤ s ≡ r
        sum_back s t r h = omega (arith, ints)

coordinates_exchanged : {x0 y0 x1 y1 x y : ℤ} → IsMeanOfTwo y0 x0 y1 x1 y x → IsMeanOfTwo x0 y0 x1 y1 x y
coordinates_exchanged m = record { p = m.p; q = m.q; some = m.some; first = m.second; second = m.first }

across : (x0 y0 x1 y1 x y : ℤ) → Sign (x1 -ℤ x0) → IsBetween x0 x1 x → cross (x1 -ℤ x0) (y1 -ℤ y0) (x -ℤ x0) (y -ℤ y0) ≡ pos 0 → (x1 -ℤ x0 ≡ pos 0 → IsMeanOfTwo x0 y0 x1 y1 x y) → IsMeanOfTwo x0 y0 x1 y1 x y
across x0 y0 x1 y1 x y (positive over) between line other = rising x0 y0 x1 y1 x y (omega (arith, ints)) between line
across x0 y0 x1 y1 x y (nothing none) between line other = other none
across x0 y0 x1 y1 x y (negative under) between line other =
    ends_exchanged (rising x1 y1 x0 y0 x y (omega (arith, ints)) (other_way x0 x1 x between) (turned_over x0 y0 x1 y1 x y line))

pub on_segment : (x0 y0 x1 y1 x y : ℤ) → IsBetween x0 x1 x → IsBetween y0 y1 y → cross (x1 -ℤ x0) (y1 -ℤ y0) (x -ℤ x0) (y -ℤ y0) ≡ pos 0 → (x0 ≡ x1 → y0 ≡ y1 → ⊥) → IsMeanOfTwo x0 y0 x1 y1 x y
on_segment x0 y0 x1 y1 x y x_between y_between line apart =
    across x0 y0 x1 y1 x y (sign (x1 -ℤ x0)) x_between line
    (λ level. coordinates_exchanged
    (across y0 x0 y1 x1 y x (sign (y1 -ℤ y0)) y_between (flipped x0 y0 x1 y1 x y line)
    (λ also. absurd (apart (same _ _ level) (same _ _ also)))))
  where
    same : (a b : ℤ) → b -ℤ a ≡ pos 0 → a ≡ b
    same a b h = omega (arith, ints)
