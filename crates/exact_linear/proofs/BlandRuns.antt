-- A run of Bland's rule over tableaus of one start, and what a supposed return of its basis brings about. The right side of the
-- row of reduced costs, over the denominator, never falls and is the same at the return, so that no step changes it: each step
-- is degenerate, and each column's share in the basic solution stays as it is.
use Rattle.std.proofs.Common.{◌≡◌, ◌≢◌, ℕ, zero, suc, ◌+◌, ◌-◌, ◌<◌, ◌≤◌, ℤ, pos, ◌-ℤ◌, ◌*ℤ◌, ◌≤ℤ◌, ◌<ℤ◌, sym, ap, ◌∙◌, ⊎_elim, arith}
use Rattle.std.proofs.lemmas.Bool.{cases_eq, cases_lt}
use Rattle.std.proofs.lemmas.Int.{ints}
use lib.Signed.{≤ℤ_refl}
use Rattle.exact_algebra.proofs.Families.{put, put-other}
use Rattle.exact_algebra.proofs.Fractions.{fraction_trans}
use Rattle.exact_algebra.proofs.Order.{cancel_positive, product_not_negative}
use Rattle.exact_algebra.proofs.RingLaws.{*ℤ-zero}
use Rattle.exact_algebra.proofs.RingTactic.{ring_laws, linear}
use Rattle.exact_linear.proofs.OneBasis.{one_denominator, one_cost_row}
use Rattle.exact_linear.proofs.TwoBases.{left_cost, value_change, side_stays, side_comes}
use Rattle.exact_linear.specs.Basis.{IsSameBasis}
use Rattle.exact_linear.specs.BlandRule.{IsBlandStep}
use Rattle.exact_linear.specs.Simplex.{IsFeasible}
use Rattle.exact_linear.specs.Tableau.{IsTableau, IsCostRow}

-- The times 0 .. last of a run: a feasible tableau and its row of reduced costs at each, and a step of the rule between.
pub record BlandRun (m n q side : ℕ) (rank : ℕ → ℕ) (columns : ℕ → ℕ → ℤ) (costs : ℕ → ℤ) (last : ℕ) : Type 0 where
  pub basis : ℕ → ℕ → ℕ
  pub den : ℕ → ℤ
  pub matrix : ℕ → ℕ → ℕ → ℤ
  pub row : ℕ → ℕ → ℤ
  pub r : ℕ → ℕ
  pub s : ℕ → ℕ
  pub tableau : (t : ℕ) → t ≤ last → IsTableau m n columns (basis t) (den t) (matrix t)
  pub priced : (t : ℕ) → t ≤ last → IsCostRow m n costs (basis t) (den t) (matrix t) (row t)
  pub feasible : (t : ℕ) → t ≤ last → IsFeasible m side (matrix t)
  pub steps : (t : ℕ) → t < last → IsBlandStep m q side rank (basis t) (matrix t) (row t) (r t) (s t)
  pub moves : (t : ℕ) → t < last → (k : ℕ) → k < m → basis (suc t) k ≡ put (basis t) (r t) (s t) k

module _ {m n q side : ℕ} {rank : ℕ → ℕ} {columns : ℕ → ℕ → ℤ} {costs : ℕ → ℤ} {last : ℕ} (run : BlandRun m n q side rank columns costs last) (inside : q ≤ n) (right : side < n) where
  -- The value at one time is at most that of a later one, as fractions.
  rises : (t : ℕ) → t < last → (run.row t side *ℤ run.den (suc t)) ≤ℤ (run.row (suc t) side *ℤ run.den t)
  rises t h =
      let step = run.steps t h in
      let entering : run.s t < n = omega (arith, step.offered) in
      let price = left_cost (run.tableau t (omega arith)) (run.priced t (omega arith)) (run.tableau (suc t) h) (run.priced (suc t) h) (run.r t) (run.s t) step.ratio.within entering (run.moves t h) step.ratio.positive step.improves in
      let change = value_change (run.tableau t (omega arith)) (run.priced t (omega arith)) (run.tableau (suc t) h) (run.priced (suc t) h) (run.r t) (run.s t) step.ratio.within entering (run.moves t h) side right in
      let weak : pos 0 ≤ℤ run.row (suc t) (run.basis t (run.r t)) = omega (arith, ints) in
      ordered (run.den t) (run.row (suc t) side) (run.den (suc t)) (run.row t side) _ change (product_not_negative weak ((run.feasible t (omega arith)).at (run.r t) step.ratio.within))
    where
      ordered : (d x e y w : ℤ) → w ≡ d *ℤ x -ℤ e *ℤ y → pos 0 ≤ℤ w → (y *ℤ e) ≤ℤ (x *ℤ d)
      ordered d x e y w is over = simp ring_laws (omega (arith, linear))

  rises_by : (gap a : ℕ) → a + gap ≤ last → (run.row a side *ℤ run.den (a + gap)) ≤ℤ (run.row (a + gap) side *ℤ run.den a)
  rises_by zero a h = let e : a + 0 ≡ a = omega arith in rw e (≤ℤ_refl (run.row a side *ℤ run.den a))
  rises_by (suc gap) a h =
      let e : a + suc gap ≡ suc (a + gap) = omega arith in
      rw e (fraction_trans (run.row a side) (run.den a) (run.row (a + gap) side) (run.den (a + gap)) (run.row (suc (a + gap)) side) (run.den (suc (a + gap)))
      (run.tableau a (omega arith)).positive (run.tableau (a + gap) (omega arith)).positive (run.tableau (suc (a + gap)) (omega arith)).positive
      (rises_by gap a (omega arith)) (rises (a + gap) (omega arith)))

  rises_to : (a b : ℕ) → a ≤ b → b ≤ last → (run.row a side *ℤ run.den b) ≤ℤ (run.row b side *ℤ run.den a)
  rises_to a b low high = let e : a + (b - a) ≡ b = omega arith in rw e at (rises_by (b - a) a (omega arith))

  -- The basis comes back at the end.
  module _ (same : IsSameBasis m (run.basis 0) (run.basis last)) where
    -- Each step is degenerate.
    pub degenerate : (t : ℕ) → t < last → run.matrix t (run.r t) side ≡ pos 0
    degenerate t h =
        let step = run.steps t h in
        let entering : run.s t < n = omega (arith, step.offered) in
        let price = left_cost (run.tableau t (omega arith)) (run.priced t (omega arith)) (run.tableau (suc t) h) (run.priced (suc t) h) (run.r t) (run.s t) step.ratio.within entering (run.moves t h) step.ratio.positive step.improves in
        let change = value_change (run.tableau t (omega arith)) (run.priced t (omega arith)) (run.tableau (suc t) h) (run.priced (suc t) h) (run.r t) (run.s t) step.ratio.within entering (run.moves t h) side right in
        let one_den = one_denominator (run.tableau 0 (omega arith)) (run.tableau last (omega arith)) same in
        let one_value = one_cost_row (run.tableau 0 (omega arith)) (run.tableau last (omega arith)) same (run.priced 0 (omega arith)) (run.priced last (omega arith)) side right in
        let after : (run.row (suc t) side *ℤ run.den 0) ≤ℤ (run.row 0 side *ℤ run.den (suc t)) = rw (one_den, one_value) at (rises_to (suc t) last h (omega arith)) in
        let before = rises_to 0 t (omega arith) (omega arith) in
        let back = fraction_trans (run.row (suc t) side) (run.den (suc t)) (run.row 0 side) (run.den 0) (run.row t side) (run.den t) (run.tableau (suc t) h).positive (run.tableau 0 (omega arith)).positive (run.tableau t (omega arith)).positive after before in
        nothing_left (run.row (suc t) (run.basis t (run.r t))) (run.matrix t (run.r t) side) (run.den t) (run.row (suc t) side) (run.den (suc t)) (run.row t side) price ((run.feasible t (omega arith)).at (run.r t) step.ratio.within) change back
      where
        nothing_left : (p x d a e b : ℤ) → pos 0 <ℤ p → pos 0 ≤ℤ x → p *ℤ x ≡ d *ℤ a -ℤ e *ℤ b → (a *ℤ d) ≤ℤ (b *ℤ e) → x ≡ pos 0
        nothing_left p x d a e b over_p over_x is low =
            let weak : pos 0 ≤ℤ p = omega (arith, ints) in
            let product = product_not_negative weak over_x in
            let given = simp ring_laws at low in
            cancel_positive p over_p (rw (*ℤ-zero p) (let none : p *ℤ x ≡ pos 0 = omega (arith, linear) in none))

    -- The column's share in the basic solution is 0 at the time t.
    abbrev pub IsIdle : ℕ → ℕ → Type 0
    IsIdle j t = (k : ℕ) → k < m → run.basis t k ≡ j → run.matrix t k side ≡ pos 0

    idle_forth : (j t : ℕ) → t < last → IsIdle j t → IsIdle j (suc t)
    idle_forth j t h idle k l is = ⊎_elim
        (λ (e : k ≡ run.r t). ap (λ i. run.matrix (suc t) i side) e ∙ side_comes (run.tableau t (omega arith)) (run.priced t (omega arith)) (run.tableau (suc t) h) (run.priced (suc t) h) (run.r t) (run.s t) step.ratio.within entering (run.moves t h) side right (degenerate t h))
        (λ (d : k ≢ run.r t).
        let stays = side_stays (run.tableau t (omega arith)) (run.priced t (omega arith)) (run.tableau (suc t) h) (run.priced (suc t) h) (run.r t) (run.s t) step.ratio.within entering (run.moves t h) side right (degenerate t h) k l d in
        let none = idle k l (sym (put-other (run.basis t) (run.r t) (run.s t) k d) ∙ (sym (run.moves t h k l) ∙ is)) in
        cancel_positive (run.den t) (run.tableau t (omega arith)).positive (sym stays ∙ (ap (λ x. run.den (suc t) *ℤ x) none ∙ (*ℤ-zero (run.den (suc t)) ∙ sym (*ℤ-zero (run.den t))))))
        (cases_eq k (run.r t))
      where
        step : IsBlandStep m q side rank (run.basis t) (run.matrix t) (run.row t) (run.r t) (run.s t)
        step = run.steps t h

        entering : run.s t < n
        entering = omega (arith, step.offered)

    idle_back : (j t : ℕ) → t < last → IsIdle j (suc t) → IsIdle j t
    idle_back j t h idle k l is = ⊎_elim
        (λ (e : k ≡ run.r t). ap (λ i. run.matrix t i side) e ∙ degenerate t h)
        (λ (d : k ≢ run.r t).
        let stays = side_stays (run.tableau t (omega arith)) (run.priced t (omega arith)) (run.tableau (suc t) h) (run.priced (suc t) h) (run.r t) (run.s t) step.ratio.within entering (run.moves t h) side right (degenerate t h) k l d in
        let none = idle k l (run.moves t h k l ∙ (put-other (run.basis t) (run.r t) (run.s t) k d ∙ is)) in
        cancel_positive (run.den (suc t)) (run.tableau (suc t) h).positive (stays ∙ (ap (λ x. run.den t *ℤ x) none ∙ (*ℤ-zero (run.den t) ∙ sym (*ℤ-zero (run.den (suc t)))))))
        (cases_eq k (run.r t))
      where
        step : IsBlandStep m q side rank (run.basis t) (run.matrix t) (run.row t) (run.r t) (run.s t)
        step = run.steps t h

        entering : run.s t < n
        entering = omega (arith, step.offered)

    forth_by : (gap j a : ℕ) → a + gap ≤ last → IsIdle j a → IsIdle j (a + gap)
    forth_by zero j a h idle = let e : a + 0 ≡ a = omega arith in rw e idle
    forth_by (suc gap) j a h idle = let e : a + suc gap ≡ suc (a + gap) = omega arith in rw e (idle_forth j (a + gap) (omega arith) (forth_by gap j a (omega arith) idle))

    back_by : (gap j a : ℕ) → a + gap ≤ last → IsIdle j (a + gap) → IsIdle j a
    back_by zero j a h idle = let e : a + 0 ≡ a = omega arith in rw e at idle
    back_by (suc gap) j a h idle = let e : a + suc gap ≡ suc (a + gap) = omega arith in back_by gap j a (omega arith) (idle_back j (a + gap) (omega arith) (rw e at idle))

    -- A share that is 0 at one time is 0 at each time.
    pub idle_always : (j a b : ℕ) → a ≤ last → b ≤ last → IsIdle j a → IsIdle j b
    idle_always j a b h l idle = ⊎_elim
        (λ (up : a < b). let e : a + (b - a) ≡ b = omega arith in rw e at (forth_by (b - a) j a (omega arith) idle))
        (λ (down : b ≤ a). let e : b + (a - b) ≡ a = omega arith in back_by (a - b) j b (omega arith) (rw e idle))
        (cases_lt a b)
