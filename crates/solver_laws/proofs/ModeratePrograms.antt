-- Products of moderate numbers, summed over 256 rows at most.
use Rattle.std.proofs.Common.{◌≡◌, ◌↔◌, ⊎_elim, ℕ, ◌^◌, ◌<◌, ◌≤◌, List, length, ℤ, pos, ◌+ℤ◌, ◌*ℤ◌, neg_ℤ, slice_index_or, unsigned_abs}
use Rattle.std.proofs.Common.{refl, arith}
use Rattle.std.proofs.lemmas.Bool.{cases_lt}
use Rattle.std.proofs.lemmas.List.{get_or_past}
use Rattle.exact_algebra.proofs.RingTactic.{ring_laws, linear}
use Rattle.exact_algebra.proofs.SumOrder.{sum_to_bounded}
use Rattle.corr_num.proofs.MagnitudeBounds.{product_magnitude}
use Rattle.corr_game.specs.declared.sides.Side.{Side}
use Rattle.corr_game.specs.declared.sides.Side.TheVariants.{One, Two}
use Rattle.lp_form.specs.Certificates.{left_over, times_column}
use Rattle.lp_form.specs.Program.{LpView, blank, coefficient, payoff_of}
use Rattle.plane_hull.specs.declared.directions.Dir.{Dir}
use Rattle.plane_hull.specs.Belt.{IsRight}
use Rattle.bland_simplex.specs.Multipliers.{HasNarrowColumns}
use Rattle.plan_polytope.proofs.Filling.{blank_0, blank_count}
use Rattle.plain_programs.specs.Moderate.{AreModerate, IsModerate, left_along}

each_moderate : (multipliers : List ℤ) → AreModerate multipliers → (k : ℕ) → unsigned_abs (slice_index_or multipliers k (pos 0)) ≤ 2 ^ 20
each_moderate multipliers moderate k = ⊎_elim
    (λ (l : k < length multipliers). moderate k l)
    (λ (h : length multipliers ≤ k). (let none = get_or_past multipliers k (pos 0) h in rw none (omega arith)))
    (cases_lt k (length multipliers))

pub small_products : (lp : LpView) (multipliers : List ℤ) (col : ℕ) → IsModerate lp → AreModerate multipliers → col < lp.cols
    → unsigned_abs (times_column lp multipliers col) ≤ 2 ^ 58
small_products lp multipliers col is moderate l =
    let sum = sum_to_bounded (length lp.rows) (2 ^ 50) (λ row. slice_index_or multipliers row (pos 0) *ℤ coefficient lp row col)
    (λ row h. omega (
      arith,
      product_magnitude (slice_index_or multipliers row (pos 0)) (coefficient lp row col) (2 ^ 20) (2 ^ 30)
          (each_moderate multipliers moderate row) (is.coefficients row col h l),
    )) in
    omega (arith, sum, is.few)

pub narrow_columns : (lp : LpView) (multipliers : List ℤ) → IsModerate lp → AreModerate multipliers → HasNarrowColumns lp multipliers
narrow_columns lp multipliers is moderate col l = let small = small_products lp multipliers col is moderate l in omega arith

pub blank_moderate : (rows cols : ℕ) → IsModerate (blank rows cols) ↔ (rows ≤ 256)
blank_moderate rows cols = (
  λ is. omega (arith, is.few, blank_count (blank rows cols) rows cols refl),
  λ few. record {
    few = omega (arith, few, blank_count (blank rows cols) rows cols refl);
    coefficients = λ row col h l. rw (blank_0 (blank rows cols) rows cols refl row col) (omega arith);
    payoffs = λ side col l. none_paid side col;
  },
)
  where
    none_paid : (side : Side) (col : ℕ) → unsigned_abs (payoff_of side (blank rows cols) col) ≤ 2 ^ 30
    none_paid One col = omega arith
    none_paid Two col = omega arith

pub left_right : (lp : LpView) (dir : Dir) (den : ℤ) (first second : List ℤ) (col : ℕ) → IsRight dir
    → left_along lp dir den first second col ≡ left_over lp One den first col
unfolding left_along
left_right lp dir den first second col right =
    by dir.a dir.b (left_over lp One den first col) (left_over lp Two den second col) right.0 right.1
  where
    by : (a b p q : ℤ) → a ≡ pos 1 → b ≡ pos 0 → a *ℤ p +ℤ b *ℤ q ≡ p
    by a b p q one zero = rw (one, zero) (simp ring_laws (omega (arith, linear)))

pub left_opposite : (lp : LpView) (dir back : Dir) (den : ℤ) (first second : List ℤ) (col : ℕ) → back.a ≡ neg_ℤ dir.a
    → back.b ≡ neg_ℤ dir.b → left_along lp back den first second col ≡ neg_ℤ (left_along lp dir den first second col)
unfolding left_along
left_opposite lp dir back den first second col one two =
    by dir.a dir.b back.a back.b (left_over lp One den first col) (left_over lp Two den second col) one two
  where
    by : (a b c d p q : ℤ) → c ≡ neg_ℤ a → d ≡ neg_ℤ b → c *ℤ p +ℤ d *ℤ q ≡ neg_ℤ (a *ℤ p +ℤ b *ℤ q)
    by a b c d p q e f = rw (e, f) (simp ring_laws (omega (arith, linear)))
