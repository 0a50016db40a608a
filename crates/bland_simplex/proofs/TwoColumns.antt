-- A program over two columns whose first row says that the two numbers add up to the total: what they pay is bounded by the greatest
-- of its payoffs.
use Rattle.std.proofs.Common.{◌≡◌, ℕ, ◌<◌, ℤ, pos, ◌+ℤ◌, ◌*ℤ◌, ◌≤ℤ◌, ◌<ℤ◌, neg_ℤ, length, ap₂, ◌∙◌, arith}
use Rattle.std.proofs.lemmas.Int.{ints}
use Rattle.exact_algebra.proofs.RingTactic.{linear}
use Rattle.exact_algebra.specs.Sums.{sum_to}
use Rattle.corr_game.specs.declared.sides.Side.{Side}
use Rattle.corr_game.specs.declared.sides.Side.TheVariants.{One, Two}
use Rattle.lp_form.specs.Program.{LpView, coefficient, right_of, payoff_of}
use Rattle.lp_form.specs.Solutions.{IsSolution, paid, HasBoundedPayoffs}

sum_two : (n : ℕ) (f : ℕ → ℤ) → n ≡ 2 → sum_to n f ≡ f 0 +ℤ f 1
unfolding sum_to
sum_two n f two = rw two (omega (arith, ints))

module _ (lp : LpView) (two : lp.cols ≡ 2) (some_row : 0 < length lp.rows) (one : coefficient lp 0 0 ≡ pos 1) (other : coefficient lp 0 1 ≡ pos 1) (right : right_of lp 0 ≡ pos 1) where
  adds_up : (total : ℤ) (x : ℕ → ℤ) → IsSolution lp total x → x 0 +ℤ x 1 ≡ total
  adds_up total x solution =
      let whole = sum_two lp.cols (λ col. coefficient lp 0 col *ℤ x col) two in
      let meets = solution.meets 0 some_row in
      added (coefficient lp 0 0) (coefficient lp 0 1) (right_of lp 0) _ (x 0) (x 1) total one other right whole meets
    where
      added : (c d r s u v t : ℤ) → c ≡ pos 1 → d ≡ pos 1 → r ≡ pos 1 → s ≡ c *ℤ u +ℤ d *ℤ v → s ≡ t *ℤ r → u +ℤ v ≡ t
      added c d r s u v t first second third sum is = let given = rw (first, second) at sum in let whole = rw third at is in omega
          (arith, linear)

  paid_is : (side : Side) (x : ℕ → ℤ) (p q : ℤ) → payoff_of side lp 0 ≡ p → payoff_of side lp 1 ≡ q → paid lp side x ≡ p *ℤ x 0 +ℤ q *ℤ x 1
  paid_is side x p q first second = sum_two lp.cols (λ col. payoff_of side lp col *ℤ x col) two ∙ ap₂ (λ e f. e *ℤ x 0 +ℤ f *ℤ x 1)
      first second

  pub bounded_by_three : payoff_of One lp 0 ≡ pos 3 → payoff_of One lp 1 ≡ pos 1 → payoff_of Two lp 0 ≡ pos 1 →
      payoff_of Two lp 1 ≡ pos 2 → HasBoundedPayoffs lp
  bounded_by_three a b c d = (pos 3, record { at_most = at_most; at_least = at_least })
    where
      at_most : (side : Side) (total : ℤ) (x : ℕ → ℤ) → pos 0 <ℤ total → IsSolution lp total x → paid lp side x ≤ℤ (pos 3 *ℤ total)
      at_most One total x positive solution = let pays = paid_is One x (pos 3) (pos 1)
          a b in let whole = adds_up total x solution in let low = solution.not_negative 0 (omega arith)
          in let high = solution.not_negative 1 (omega arith) in omega (arith, ints)
      at_most Two total x positive solution = let pays = paid_is Two x (pos 1) (pos 2)
          c d in let whole = adds_up total x solution in let low = solution.not_negative 0 (omega arith)
          in let high = solution.not_negative 1 (omega arith) in omega (arith, ints)

      at_least : (side : Side) (total : ℤ) (x : ℕ → ℤ) → pos 0 <ℤ total → IsSolution lp total x → neg_ℤ (pos 3 *ℤ total) ≤ℤ paid lp side x
      at_least One total x positive solution = let pays = paid_is One x (pos 3) (pos 1) a b in let low = solution.not_negative 0
          (omega arith) in let high = solution.not_negative 1 (omega arith) in omega (arith, ints)
      at_least Two total x positive solution = let pays = paid_is Two x (pos 1) (pos 2) c d in let low = solution.not_negative 0
          (omega arith) in let high = solution.not_negative 1 (omega arith) in omega (arith, ints)
