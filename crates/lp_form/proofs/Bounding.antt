-- Where no number of a solution is above its total, what is paid is at most the magnitudes of the payoff coefficients times it.
use Rattle.std.proofs.Common.{ℕ, ◌+◌, ◌<◌, ℤ, pos, ◌*ℤ◌, ◌≤ℤ◌, ◌<ℤ◌, neg_ℤ, unsigned_abs, arith}
use Rattle.std.proofs.lemmas.Int.{ints}
use Rattle.exact_algebra.specs.Sums.{sum_to}
use Rattle.exact_algebra.proofs.Order.{times_at_most}
use Rattle.exact_algebra.proofs.RingTactic.{ring_laws, linear}
use Rattle.exact_algebra.proofs.Sums.{sum_to-neg, sum_to-scale_right}
use Rattle.exact_algebra.proofs.SumOrder.{sum_to_at_most}
use Rattle.corr_game.specs.declared.sides.Side.{Side}
use Rattle.corr_game.specs.declared.sides.Side.TheVariants.{One, Two}
use Rattle.lp_form.specs.Program.{LpView, payoff_of}
use Rattle.lp_form.specs.Solutions.{HasBoundedPayoffs, IsSolution}

-- the magnitudes of both payoff coefficients in a column
abbrev magnitudes : LpView → ℕ → ℤ
magnitudes lp col = pos (unsigned_abs (payoff_of One lp col) + unsigned_abs (payoff_of Two lp col))

term_within : (c w x total : ℤ) → pos (unsigned_abs c) ≤ℤ w → pos 0 ≤ℤ x → x ≤ℤ total → (c *ℤ x) ≤ℤ (w *ℤ total)
term_within c w x total h low high =
    let above : c ≤ℤ w = omega (arith, ints, h) in
    let some : pos 0 ≤ℤ w = omega (arith, ints, h) in
    let most = simp ring_laws at (times_at_most x low above) in
    omega (arith, linear, times_at_most w some high)

term_above : (c w x total : ℤ) → pos (unsigned_abs c) ≤ℤ w → pos 0 ≤ℤ x → x ≤ℤ total → neg_ℤ (w *ℤ total) ≤ℤ (c *ℤ x)
term_above c w x total h low high =
    let below : neg_ℤ w ≤ℤ c = omega (arith, ints, h) in
    let some : pos 0 ≤ℤ w = omega (arith, ints, h) in
    let least = simp ring_laws at (times_at_most x low below) in
    omega (arith, linear, times_at_most w some high)

one_of_both : (lp : LpView) (side : Side) (col : ℕ) → pos (unsigned_abs (payoff_of side lp col)) ≤ℤ magnitudes lp col
one_of_both lp One col = omega (arith, ints)
one_of_both lp Two col = omega (arith, ints)

pub bounded_by_total : (lp : LpView)
    → ((total : ℤ) (x : ℕ → ℤ) → pos 0 <ℤ total → IsSolution lp total x → (k : ℕ) → k < lp.cols → x k ≤ℤ total) → HasBoundedPayoffs lp
bounded_by_total lp most = (
  sum_to lp.cols (magnitudes lp),
  record {
    at_most = λ side total x some s.
        rw (← sum_to-scale_right lp.cols total (magnitudes lp))
        (sum_to_at_most lp.cols _ _ (λ k low.
        term_within (payoff_of side lp k) (magnitudes lp k) (x k) total (one_of_both lp side k) (s.not_negative k low) (most total x some s k low)));
    at_least = λ side total x some s.
        rw (← sum_to-scale_right lp.cols total (magnitudes lp), ← sum_to-neg lp.cols (λ k. magnitudes lp k *ℤ total))
        (sum_to_at_most lp.cols _ _ (λ k low.
        term_above (payoff_of side lp k) (magnitudes lp k) (x k) total (one_of_both lp side k) (s.not_negative k low) (most total x some s k low)));
  },
)
