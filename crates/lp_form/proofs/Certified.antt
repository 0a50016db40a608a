-- What multipliers show of solutions, by weak duality: a program's right sides leave the first multiplier alone.
use Rattle.std.proofs.Common.{◌≡◌, ℕ, List, ℤ, pos, ◌+ℤ◌, ◌-ℤ◌, ◌*ℤ◌, ◌≤ℤ◌, ◌<ℤ◌, slice_index_or, length, refl, ap, ap₂, ◌∙◌, arith}
use Rattle.std.proofs.lemmas.Int.{ints}
use Rattle.exact_algebra.proofs.Matrices.{row_matrix_column}
use Rattle.exact_algebra.proofs.Order.{product_not_negative, product_not_positive, product_positive}
use Rattle.exact_algebra.proofs.RingLaws.{*ℤ_comm, *ℤ-zero, *ℤ-one}
use Rattle.exact_algebra.proofs.RingTactic.{ring_laws, linear}
use Rattle.exact_algebra.proofs.SumOrder.{sum_to_at_most, sum_to_not_negative}
use Rattle.exact_algebra.proofs.Sums.{sum_to-same, sum_to-one, sum_to-nothing, sum_to-add, sum_to-difference, sum_to-scale}
use Rattle.exact_algebra.specs.Sums.{sum_to}
use Rattle.corr_game.specs.declared.sides.Side.{Side}
use Rattle.corr_game.specs.declared.sides.Side.TheVariants.{One, Two}
use Rattle.lp_form.specs.Certificates.{Certify, ShowEmpty, left_over, reach, times_column}
use Rattle.lp_form.specs.Program.{IsProgram, LpView, coefficient, payoff_of}
use Rattle.lp_form.specs.Solutions.{HasSolution, IsSolution, paid}

module _ (lp : LpView) (program : IsProgram lp) (total : ℤ) (x : ℕ → ℤ) (solution : IsSolution lp total x) where
  -- Multipliers times the columns, summed with a solution: the first of them, times the total.
  through : (y : List ℤ) → sum_to lp.cols (λ j. times_column lp y j *ℤ x j) ≡ slice_index_or y 0 (pos 0) *ℤ total
  through y =
      let at_row = λ (r : ℕ). slice_index_or y r (pos 0) *ℤ sum_to lp.cols (λ j. coefficient lp r j *ℤ x j) in
      row_matrix_column (length lp.rows) lp.cols (λ r. slice_index_or y r (pos 0)) (λ r j. coefficient lp r j) x
      ∙ sum_to-one (length lp.rows) 0 at_row program.a_row
      (λ k h d. ap (λ e. slice_index_or y k (pos 0) *ℤ e)
      (solution.meets k h ∙ (ap (λ e. total *ℤ e) (program.zeros k (omega arith)) ∙ *ℤ-zero total)) ∙ *ℤ-zero
      (slice_index_or y k (pos 0)))
      ∙ ap (λ e. slice_index_or y 0 (pos 0) *ℤ e)
      (solution.meets 0 program.a_row ∙ (ap (λ e. total *ℤ e) program.one ∙ *ℤ-one total))

  -- The same of what they leave of the columns.
  left : (side : Side) (den : ℤ) (y : List ℤ) → sum_to lp.cols (λ j. left_over lp side den y j *ℤ x j)
      ≡ slice_index_or y 0 (pos 0) *ℤ total -ℤ den *ℤ paid lp side x
  left side den y =
      let whole = through y in
      sum_to-same lp.cols _ _ (λ j l. apart (times_column lp y j) den (payoff_of side lp j) (x j))
      ∙ (sum_to-difference lp.cols (λ j. times_column lp y j *ℤ x j) (λ j. den *ℤ (payoff_of side lp j *ℤ x j))
      ∙ ap₂ (λ u v. u -ℤ v) whole (sum_to-scale lp.cols den (λ j. payoff_of side lp j *ℤ x j)))
    where
      apart : (t d p v : ℤ) → (t -ℤ d *ℤ p) *ℤ v ≡ t *ℤ v -ℤ d *ℤ (p *ℤ v)
      apart t d p v = simp ring_laws (omega (arith, linear))

  pub bounded_along : (a b den : ℤ) (first second : List ℤ) → Certify lp a b den first second
      → (den *ℤ (a *ℤ paid lp One x +ℤ b *ℤ paid lp Two x)) ≤ℤ (total *ℤ reach a b first second)
  bounded_along a b den first second c =
      let one = left One den first in
      let two = left Two den second in
      let weighed = sum_to-same lp.cols _ _ (λ j l. apart a b (left_over lp One den first j) (left_over lp Two den second j) (x j))
      ∙ (sum_to-add lp.cols (λ j. a *ℤ (left_over lp One den first j *ℤ x j)) (λ j. b *ℤ (left_over lp Two den second j *ℤ x j))
      ∙ ap₂ (λ u v. u +ℤ v)
      (sum_to-scale lp.cols a (λ j. left_over lp One den first j *ℤ x j) ∙ ap (λ e. a *ℤ e) one)
      (sum_to-scale lp.cols b (λ j. left_over lp Two den second j *ℤ x j) ∙ ap (λ e. b *ℤ e) two)) in
      let over = sum_to_not_negative lp.cols _ (λ j l. product_not_negative (c.not_below j l) (solution.not_negative j l)) in
      within a b den (slice_index_or first 0 (pos 0)) (slice_index_or second 0 (pos 0)) total (paid lp One x) (paid lp Two x) _ weighed over
    where
      apart : (a b u v w : ℤ) → (a *ℤ u +ℤ b *ℤ v) *ℤ w ≡ a *ℤ (u *ℤ w) +ℤ b *ℤ (v *ℤ w)
      apart a b u v w = simp ring_laws (omega (arith, linear))

      within : (a b d f g t p q s : ℤ) → s ≡ a *ℤ (f *ℤ t -ℤ d *ℤ p) +ℤ b *ℤ (g *ℤ t -ℤ d *ℤ q) → pos 0 ≤ℤ s
          → (d *ℤ (a *ℤ p +ℤ b *ℤ q)) ≤ℤ (t *ℤ (a *ℤ f +ℤ b *ℤ g))
      within a b d f g t p q s is over = let given = simp ring_laws at (rw is at over) in simp ring_laws (omega (arith, linear))

-- Multipliers that show that there is no solution leave no room for one.
pub shown_empty : (lp : LpView) → IsProgram lp → (y : List ℤ) → ShowEmpty lp y → HasSolution lp → ⊥
shown_empty lp program y shows (total, x, positive, solution) =
    let low = sum_to_at_most lp.cols (λ j. times_column lp y j *ℤ x j) (λ j. pos 0)
    (λ j l. negative (times_column lp y j) (x j) (shows.not_above j l) (solution.not_negative j l)) in
    let nothing = sum_to-nothing lp.cols (λ j. pos 0) (λ j l. refl) in
    let high = product_positive shows.above positive in
    clash (sum_to lp.cols (λ j. times_column lp y j *ℤ x j)) (slice_index_or y 0 (pos 0) *ℤ total)
    (sum_to lp.cols (λ j. pos 0)) (through lp program total x solution y) low nothing high
  where
    negative : (a b : ℤ) → a ≤ℤ pos 0 → pos 0 ≤ℤ b → (a *ℤ b) ≤ℤ pos 0
    negative a b low over = rw (*ℤ_comm a b) (product_not_positive over low)

    clash : (a c d : ℤ) → a ≡ c → a ≤ℤ d → d ≡ pos 0 → pos 0 <ℤ c → ⊥
    clash a c d one low none high = omega (arith, ints)
