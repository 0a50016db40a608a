-- A direction's rank rises as it turns: the quarters of the turn count, and within one the slope from the quarter's first axis. Two
-- slopes of numbers up to n differ by 1 / (n * n) at least, so that n * n times the slope, rounded down, rises too.
use Rattle.std.proofs.Common.{◌≡◌, ◌⊎◌, inl, inr, subst, ℕ, ◌+◌, ◌-◌, ◌*◌, ◌/◌, ◌^◌, ◌<◌, ◌≤◌, ℤ, pos, negsuc, neg_ℤ, ◌*ℤ◌, ◌<ℤ◌, ◌≤ℤ◌, unsigned_abs, refl, arith}
use Rattle.std.specs.Int.{IsGcd}
use Rattle.std.proofs.Math.Nat.{div-mul-le_self, div-le_self, mul-le-mul_right, mul-le-mul_left, le_of_dvd, le_of_mul-le-mul_right}
use Rattle.std.proofs.lemmas.Nat.{le-div}
use Rattle.std.proofs.lemmas.Nat.Gcd.{dvd-zero, dvd_refl}
use Rattle.std.proofs.lemmas.Int.{ints}
use Rattle.exact_algebra.proofs.Order.{at_most_or_above, factor_positive, product_not_negative}
use Rattle.exact_algebra.proofs.RingTactic.{ring_laws, linear}
use Rattle.plane_hull.specs.declared.directions.Dir.{Dir}
use Rattle.polygon_sweep.specs.Turning.{cross, IsAxis, IsFullTurn, TurnsFrom, TurnsTo}

-- ---- slopes of natural numbers up to n

abbrev pub slope : ℕ → ℤ → ℤ → ℕ
slope n x y = unsigned_abs y * (n * n) / unsigned_abs x

slope_rises : (n x y v w : ℕ) → 0 < x → 0 < v → x ≤ n → v ≤ n → y * v < w * x → y * (n * n) / x < w * (n * n) / v
slope_rises n x y v w x_over v_over x_low v_low steeper =
    let s = y * (n * n) / x in
    let floor : s * x ≤ y * (n * n) = div-mul-le_self (y * (n * n)) x in
    let first : s * x * v ≤ y * (n * n) * v = mul-le-mul_right v floor in
    let one : x * v ≤ n * v = mul-le-mul_right v x_low in
    let other : n * v ≤ n * n = mul-le-mul_left n v_low in
    let more : n * n * (y * v + 1) ≤ n * n * (w * x) = mul-le-mul_left (n * n) (omega arith) in
    let whole : (s + 1) * v * x ≤ w * (n * n) * x = omega arith in
    let low : s + 1 ≤ w * (n * n) / v = le-div (s + 1) (w * (n * n)) v v_over (le_of_mul-le-mul_right whole x_over) in
    omega arith

slope_low : (n : ℕ) (x y : ℤ) → unsigned_abs y ≤ n → slope n x y ≤ n * (n * n)
slope_low n x y low = let floor = div-le_self (unsigned_abs y * (n * n)) (unsigned_abs x) in let top : unsigned_abs y * (n * n) ≤ n * (n * n) = mul-le-mul_right (n * n) low in omega arith

-- (v, w) lies to the left of (x, y), both to the right of the quarter's last axis
turned_slope : (n : ℕ) (x y v w : ℤ) → unsigned_abs x ≤ n → unsigned_abs v ≤ n → pos 0 <ℤ x → pos 0 ≤ℤ y → pos 0 <ℤ v → pos 0 ≤ℤ w → pos 0 <ℤ cross x y v w → slope n x y < slope n v w
turned_slope n (pos x) (pos y) (pos v) (pos w) x_low v_low x_over y_over v_over w_over left =
    slope_rises n x y v w (omega (arith, ints)) (omega (arith, ints)) x_low v_low (let given = simp ring_laws at left in omega (arith, ints))
turned_slope n (negsuc x) y v w x_low v_low x_over y_over v_over w_over left = absurd (omega (arith, ints))
turned_slope n (pos x) (negsuc y) v w x_low v_low x_over y_over v_over w_over left = absurd (omega (arith, ints))
turned_slope n (pos x) (pos y) (negsuc v) w x_low v_low x_over y_over v_over w_over left = absurd (omega (arith, ints))
turned_slope n (pos x) (pos y) (pos v) (negsuc w) x_low v_low x_over y_over v_over w_over left = absurd (omega (arith, ints))

-- to the left of (x, y) in the first quarter, and not past the axis behind it: a rise above 0
pub rises_over : (x y v w : ℤ) → pos 0 <ℤ x → pos 0 ≤ℤ y → pos 0 ≤ℤ v → pos 0 <ℤ cross x y v w → pos 0 <ℤ w
rises_over x y v w x_over y_over v_over left =
    let product = product_not_negative y_over v_over in
    factor_positive x (omega (arith, ints)) (let whole : pos 0 <ℤ (x *ℤ w) = omega (arith, ints) in whole)

-- ---- quarters of a turn

data Quarter (a b : ℤ) : Type 0 where
  first : pos 0 <ℤ a → pos 0 ≤ℤ b → Quarter a b
  second : a ≤ℤ pos 0 → pos 0 <ℤ b → Quarter a b
  third : a <ℤ pos 0 → b ≤ℤ pos 0 → Quarter a b
  fourth : pos 0 ≤ℤ a → b <ℤ pos 0 → Quarter a b
  none : a ≡ pos 0 → b ≡ pos 0 → Quarter a b

quarter_by : (a b : ℤ) → (a ≤ℤ pos 0) ⊎ (pos 0 <ℤ a) → (b ≤ℤ pos 0) ⊎ (pos 0 <ℤ b) → (pos 0 ≤ℤ a) ⊎ (a <ℤ pos 0) → (pos 0 ≤ℤ b) ⊎ (b <ℤ pos 0) → Quarter a b
quarter_by a b (inr right) up not_left (inl not_down) = first right not_down
quarter_by a b (inr right) up not_left (inr down) = fourth (omega (arith, ints)) down
quarter_by a b (inl not_right) (inr up) not_left not_down = second not_right up
quarter_by a b (inl not_right) (inl not_up) (inr left) not_down = third left not_up
quarter_by a b (inl not_right) (inl not_up) (inl not_left) (inr down) = fourth not_left down
quarter_by a b (inl not_right) (inl not_up) (inl not_left) (inl not_down) = none (omega (arith, ints)) (omega (arith, ints))

at_least_or_below : (a : ℤ) → (pos 0 ≤ℤ a) ⊎ (a <ℤ pos 0)
at_least_or_below (pos n) = inl (omega (arith, ints))
at_least_or_below (negsuc n) = inr (omega (arith, ints))

quarter_of : (a b : ℤ) → Quarter a b
quarter_of a b = quarter_by a b (at_most_or_above a (pos 0)) (at_most_or_above b (pos 0)) (at_least_or_below a) (at_least_or_below b)

-- one more than the slopes within a quarter
abbrev quarter_rank : ℕ → ℕ
quarter_rank n = n * (n * n) + 1

abbrev rank_in : (n : ℕ) (a b : ℤ) → Quarter a b → ℕ
rank_in n a b (first h k) = slope n a b
rank_in n a b (second h k) = quarter_rank n + slope n b (neg_ℤ a)
rank_in n a b (third h k) = 2 * quarter_rank n + slope n (neg_ℤ a) (neg_ℤ b)
rank_in n a b (fourth h k) = 3 * quarter_rank n + slope n (neg_ℤ b) a
rank_in n a b (none h k) = 0

turned_low : (n : ℕ) (a : ℤ) → unsigned_abs a ≤ n → unsigned_abs (neg_ℤ a) ≤ n
turned_low n a low = omega (arith, ints)

pub negated_over : (a : ℤ) → a <ℤ pos 0 → pos 0 <ℤ neg_ℤ a
negated_over a h = omega (arith, ints)

pub negated_at_least : (a : ℤ) → a ≤ℤ pos 0 → pos 0 ≤ℤ neg_ℤ a
negated_at_least a h = omega (arith, ints)

-- turned by one, two and three right angles, two vectors span the same area
pub by_one : (a b c d : ℤ) → pos 0 <ℤ cross a b c d → pos 0 <ℤ cross b (neg_ℤ a) d (neg_ℤ c)
by_one a b c d h = let same : cross a b c d ≡ cross b (neg_ℤ a) d (neg_ℤ c) = simp ring_laws (omega (arith, linear)) in subst (λ e. pos 0 <ℤ e) same h

pub by_two : (a b c d : ℤ) → pos 0 <ℤ cross a b c d → pos 0 <ℤ cross (neg_ℤ a) (neg_ℤ b) (neg_ℤ c) (neg_ℤ d)
by_two a b c d h = let same : cross a b c d ≡ cross (neg_ℤ a) (neg_ℤ b) (neg_ℤ c) (neg_ℤ d) = simp ring_laws (omega (arith, linear)) in subst (λ e. pos 0 <ℤ e) same h

pub by_three : (a b c d : ℤ) → pos 0 <ℤ cross a b c d → pos 0 <ℤ cross (neg_ℤ b) a (neg_ℤ d) c
by_three a b c d h = let same : cross a b c d ≡ cross (neg_ℤ b) a (neg_ℤ d) c = simp ring_laws (omega (arith, linear)) in subst (λ e. pos 0 <ℤ e) same h

module _ (n : ℕ) (a b c d : ℤ) (a_low : unsigned_abs a ≤ n) (b_low : unsigned_abs b ≤ n) (c_low : unsigned_abs c ≤ n) (d_low : unsigned_abs d ≤ n) (left : pos 0 <ℤ cross a b c d) where
  from_first : pos 0 <ℤ a → pos 0 ≤ℤ b → pos 0 ≤ℤ c → (r : Quarter c d) → slope n a b < rank_in n c d r
  from_first h k c_over (first i j) = turned_slope n a b c d a_low c_low h k i j left
  from_first h k c_over (second i j) = let low = slope_low n a b b_low in omega arith
  from_first h k c_over (third i j) = absurd (omega (arith, ints))
  from_first h k c_over (fourth i j) = absurd (let over = rises_over a b c d h k c_over left in omega (arith, ints))
  from_first h k c_over (none i j) = absurd (let over = rises_over a b c d h k c_over left in omega (arith, ints))

  from_second : a ≤ℤ pos 0 → pos 0 <ℤ b → pos 0 ≤ℤ d → (r : Quarter c d) → quarter_rank n + slope n b (neg_ℤ a) < rank_in n c d r
  from_second h k d_over r =
      let over = rises_over b (neg_ℤ a) d (neg_ℤ c) k (negated_at_least a h) d_over (by_one a b c d left) in by over r
    where
      by : pos 0 <ℤ neg_ℤ c → (r : Quarter c d) → quarter_rank n + slope n b (neg_ℤ a) < rank_in n c d r
      by over (first i j) = absurd (omega (arith, ints))
      by over (second i j) = let rise = turned_slope n b (neg_ℤ a) d (neg_ℤ c) b_low d_low k (negated_at_least a h) j (negated_at_least c i) (by_one a b c d left) in omega arith
      by over (third i j) = let low = slope_low n b (neg_ℤ a) (turned_low n a a_low) in omega arith
      by over (fourth i j) = absurd (omega (arith, ints))
      by over (none i j) = absurd (omega (arith, ints))

  from_third : a <ℤ pos 0 → b ≤ℤ pos 0 → c ≤ℤ pos 0 → (r : Quarter c d) → 2 * quarter_rank n + slope n (neg_ℤ a) (neg_ℤ b) < rank_in n c d r
  from_third h k c_under r =
      let over = rises_over (neg_ℤ a) (neg_ℤ b) (neg_ℤ c) (neg_ℤ d) (negated_over a h) (negated_at_least b k) (negated_at_least c c_under) (by_two a b c d left) in by over r
    where
      by : pos 0 <ℤ neg_ℤ d → (r : Quarter c d) → 2 * quarter_rank n + slope n (neg_ℤ a) (neg_ℤ b) < rank_in n c d r
      by over (first i j) = absurd (omega (arith, ints))
      by over (second i j) = absurd (omega (arith, ints))
      by over (third i j) = let rise = turned_slope n (neg_ℤ a) (neg_ℤ b) (neg_ℤ c) (neg_ℤ d) (turned_low n a a_low) (turned_low n c c_low) (negated_over a h) (negated_at_least b k) (negated_over c i) (negated_at_least d j) (by_two a b c d left) in omega arith
      by over (fourth i j) = let low = slope_low n (neg_ℤ a) (neg_ℤ b) (turned_low n b b_low) in omega arith
      by over (none i j) = absurd (omega (arith, ints))

  from_fourth : pos 0 ≤ℤ a → b <ℤ pos 0 → d ≤ℤ pos 0 → (pos 0 <ℤ c → d ≡ pos 0 → ⊥) → (r : Quarter c d) → 3 * quarter_rank n + slope n (neg_ℤ b) a < rank_in n c d r
  from_fourth h k d_under short r =
      let over = rises_over (neg_ℤ b) a (neg_ℤ d) c (negated_over b k) h (negated_at_least d d_under) (by_three a b c d left) in by over r
    where
      by : pos 0 <ℤ c → (r : Quarter c d) → 3 * quarter_rank n + slope n (neg_ℤ b) a < rank_in n c d r
      by over (first i j) = absurd (short i (omega (arith, ints)))
      by over (second i j) = absurd (omega (arith, ints))
      by over (third i j) = absurd (omega (arith, ints))
      by over (fourth i j) = let rise = turned_slope n (neg_ℤ b) a (neg_ℤ d) c (turned_low n b b_low) (turned_low n d d_low) (negated_over b k) h (negated_over d j) i (by_three a b c d left) in omega arith
      by over (none i j) = absurd (omega (arith, ints))

  -- where no axis lies between the two vectors, and the second one isn't the first axis again
  rises : ((x y : ℤ) → IsAxis x y → pos 0 <ℤ cross a b x y → pos 0 ≤ℤ cross c d x y) → (pos 0 <ℤ c → d ≡ pos 0 → ⊥) → (q : Quarter a b) (r : Quarter c d) → rank_in n a b q < rank_in n c d r
  rises no_axis short (first h k) r = from_first h k (let there = no_axis (pos 0) (pos 1) (inr (inl (refl, refl))) (omega (arith, ints)) in omega (arith, ints)) r
  rises no_axis short (second h k) r = from_second h k (let there = no_axis (negsuc 0) (pos 0) (inr (inr (inl (refl, refl)))) (omega (arith, ints)) in omega (arith, ints)) r
  rises no_axis short (third h k) r = from_third h k (let there = no_axis (pos 0) (negsuc 0) (inr (inr (inr (refl, refl)))) (omega (arith, ints)) in omega (arith, ints)) r
  rises no_axis short (fourth h k) r = from_fourth h k (let there = no_axis (pos 1) (pos 0) (inl (refl, refl)) (omega (arith, ints)) in omega (arith, ints)) short r
  rises no_axis short (none h k) r = absurd (let nothing = rw (h, k) at left in omega (arith, ints))

rank_low : (n : ℕ) (a b : ℤ) → unsigned_abs a ≤ n → unsigned_abs b ≤ n → (q : Quarter a b) → rank_in n a b q < 4 * quarter_rank n
rank_low n a b a_low b_low (first h k) = let low = slope_low n a b b_low in omega arith
rank_low n a b a_low b_low (second h k) = let low = slope_low n b (neg_ℤ a) (turned_low n a a_low) in omega arith
rank_low n a b a_low b_low (third h k) = let low = slope_low n (neg_ℤ a) (neg_ℤ b) (turned_low n b b_low) in omega arith
rank_low n a b a_low b_low (fourth h k) = let low = slope_low n (neg_ℤ b) a a_low in omega arith
rank_low n a b a_low b_low (none h k) = omega arith

-- ---- directions of narrow coprime numbers

-- how far the rank may still rise, of numbers up to n
abbrev left_up_to : (n : ℕ) → ℤ → ℤ → ℕ
left_up_to n a b = 4 * quarter_rank n - rank_in n a b (quarter_of a b)

pub one_of_gcd : (c : ℤ) → pos 0 <ℤ c → IsGcd (unsigned_abs c) 0 1 → c ≡ pos 1
one_of_gcd c over divisor = let low = le_of_dvd (omega arith) (divisor.2 (unsigned_abs c) (dvd_refl (unsigned_abs c)) (dvd-zero (unsigned_abs c))) in omega (arith, ints)

left_falls : (n : ℕ) (a b c d : ℤ) → unsigned_abs a ≤ n → unsigned_abs b ≤ n → unsigned_abs c ≤ n → unsigned_abs d ≤ n → TurnsFrom a b c d → (pos 0 <ℤ c → d ≡ pos 0 → ⊥) → left_up_to n c d < left_up_to n a b
left_falls n a b c d a_low b_low c_low d_low turns short =
    let rise = rises n a b c d a_low b_low c_low d_low turns.left turns.no_axis short (quarter_of a b) (quarter_of c d) in
    let low = rank_low n c d c_low d_low (quarter_of c d) in
    omega arith

narrow_low : (a : ℤ) → unsigned_abs a < 2 ^ 62 → unsigned_abs a ≤ 2 ^ 62
narrow_low a h = omega arith

-- how far a direction's rank may still rise
pub rank_left : Dir → ℕ
rank_left dir = left_up_to (2 ^ 62) dir.a dir.b

pub rank_falls : (dir next : Dir) → TurnsTo dir next → IsGcd (unsigned_abs next.a) (unsigned_abs next.b) 1 → (IsFullTurn next → ⊥) → rank_left next < rank_left dir
unfolding rank_left
rank_falls dir next turns coprime short = left_falls (2 ^ 62) dir.a dir.b next.a next.b (narrow_low dir.a dir.a_narrow) (narrow_low dir.b dir.b_narrow) (narrow_low next.a next.a_narrow) (narrow_low next.b next.b_narrow) turns
    (λ over level. short (one_of_gcd next.a over (rw level at coprime), level))
