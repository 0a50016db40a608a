-- No basis comes back under Bland's rule, in any fixed order of the columns. Of the columns that enter in a supposed return let
-- p be the last one in the order. It enters at a time u, and leaves at a time t, when s enters. The rows of reduced costs of the
-- two times give a sum above 0, with a term above 0, at a column j: not basic at u, so that it enters in the return as well, and
-- no later in the order than p. At p the term is negative. At another column it says that j could leave at t, in a row of the
-- same ratio, and comes before p.
use Rattle.std.proofs.Common.{◌≡◌, ◌≢◌, Bool, true, false, eqb, eq-eqb, ℕ, suc, ◌-◌, ◌<◌, ◌≤◌, ℤ, pos, ◌*ℤ◌, ◌≤ℤ◌, ◌<ℤ◌, refl, sym, ap, subst, ◌∙◌, ⊎_elim, arith}
use Rattle.std.proofs.lemmas.Bool.{cases_eq, cases_lt, eqb-true}
use Rattle.std.proofs.lemmas.Int.{ints}
use Rattle.exact_algebra.proofs.Families.{put, put-same, put-other}
use Rattle.exact_algebra.proofs.FiniteTests.{some_below, some_below-true, some_below_yes}
use Rattle.exact_algebra.proofs.Greatest.{Greatest, greatest_of}
use Rattle.exact_algebra.proofs.Order.{factor_positive, product_negative, product_not_negative}
use Rattle.exact_algebra.proofs.RingLaws.{*ℤ_comm, zero-*ℤ}
use Rattle.exact_algebra.proofs.RingTactic.{linear}
use Rattle.exact_linear.proofs.BlandRuns.{BlandRun, degenerate, idle_always}
use Rattle.exact_linear.proofs.Changes.{Change, comes_between, goes_between, positive_term}
use Rattle.exact_linear.proofs.Optimality.{basic_cost}
use Rattle.exact_linear.proofs.Tableaus.{basic_once}
use Rattle.exact_linear.proofs.TwoBases.{crossed_costs}
use Rattle.exact_linear.specs.Basis.{IsBasic, IsSameBasis}
use Rattle.exact_linear.specs.BlandRule.{IsBlandStep}

module _ {m n q side : ℕ} {rank : ℕ → ℕ} {columns : ℕ → ℕ → ℤ} {costs : ℕ → ℤ} {last : ℕ} (run : BlandRun m n q side rank columns costs last) (inside : q ≤ n) (right : side < n) where
  -- Whether a column is basic at a time.
  basic_at : ℕ → ℕ → Bool
  basic_at j t = some_below (λ k. eqb (run.basis t k) j) m

  basic_yes : (j t : ℕ) → IsBasic m (run.basis t) j → basic_at j t ≡ true
  unfolding basic_at
  basic_yes j t b = some_below_yes (λ k. eqb (run.basis t k) j) m b.0 b.1 (eq-eqb (run.basis t b.0) j b.2)

  basic_true : (j t : ℕ) → basic_at j t ≡ true → IsBasic m (run.basis t) j
  unfolding basic_at
  basic_true j t e = let found = some_below-true (λ k. eqb (run.basis t k) j) m e in (found.0, found.1, eqb-true (run.basis t found.0) j found.2)

  basic_no : (j t : ℕ) → (IsBasic m (run.basis t) j → ⊥) → basic_at j t ≡ false
  basic_no j t none = by (basic_at j t) refl
    where
      by : (v : Bool) → basic_at j t ≡ v → v ≡ false
      by true e = absurd (none (basic_true j t e))
      by false e = refl

  basic_false : (j t : ℕ) → basic_at j t ≡ false → IsBasic m (run.basis t) j → ⊥
  basic_false j t e b = let yes_ = basic_yes j t b in absurd (cc)

  -- A column that becomes basic is the one that enters.
  entering_is : (j a b : ℕ) → b ≤ last → Change (basic_at j) false true a b → (v : ℕ) × (v < last) × (run.s v ≡ j)
  entering_is j a b high c =
      let v = c.at in
      let early : c.at < last = omega (arith, c.before) in
      let found = basic_true j (suc c.at) c.becomes in (
        c.at,
        early,
        ⊎_elim
            (λ (e : found.0 ≡ run.r c.at). sym (put-same (run.basis c.at) (run.r c.at) (run.s c.at)) ∙ (ap (put (run.basis c.at) (run.r c.at) (run.s c.at)) (sym e) ∙ (sym (run.moves c.at early found.0 found.1) ∙ found.2)))
            (λ (d : found.0 ≢ run.r c.at). absurd (basic_false j c.at c.was (found.0, found.1, sym (put-other (run.basis c.at) (run.r c.at) (run.s c.at) found.0 d) ∙ (sym (run.moves c.at early found.0 found.1) ∙ found.2))))
            (cases_eq found.0 (run.r c.at)),
      )

  -- A column that is basic no more is the one that leaves.
  leaving_is : (j a b : ℕ) → b ≤ last → Change (basic_at j) true false a b → (v : ℕ) × (v < last) × (run.basis v (run.r v) ≡ j)
  leaving_is j a b high c =
      let early : c.at < last = omega (arith, c.before) in
      let found = basic_true j c.at c.was in (
        c.at,
        early,
        ⊎_elim
            (λ (e : found.0 ≡ run.r c.at). ap (run.basis c.at) (sym e) ∙ found.2)
            (λ (d : found.0 ≢ run.r c.at). absurd (basic_false j (suc c.at) c.becomes (found.0, found.1, run.moves c.at early found.0 found.1 ∙ (put-other (run.basis c.at) (run.r c.at) (run.s c.at) found.0 d ∙ found.2))))
            (cases_eq found.0 (run.r c.at)),
      )

  module _ (distinct : (i j : ℕ) → i < q → j < q → rank i ≡ rank j → i ≡ j) (moved : 0 < last) (same : IsSameBasis m (run.basis 0) (run.basis last)) where
    through : (j : ℕ) → basic_at j 0 ≡ basic_at j last
    through j = by (basic_at j 0) (basic_at j last) refl refl
      where
        forth : IsBasic m (run.basis 0) j → IsBasic m (run.basis last) j
        forth b = let found = same.forth b.0 b.1 in (found.0, found.1, found.2 ∙ b.2)

        back : IsBasic m (run.basis last) j → IsBasic m (run.basis 0) j
        back b = let found = same.back b.0 b.1 in (found.0, found.1, found.2 ∙ b.2)

        by : (x y : Bool) → basic_at j 0 ≡ x → basic_at j last ≡ y → x ≡ y
        by true true e f = refl
        by false false e f = refl
        by true false e f = absurd (basic_false j last f (forth (basic_true j 0 e)))
        by false true e f = absurd (basic_false j 0 e (back (basic_true j last f)))

    -- A column that is basic at one time and not at another enters in the return.
    enters : (j t u : ℕ) → t ≤ last → u ≤ last → basic_at j t ≡ true → basic_at j u ≡ false → (v : ℕ) × (v < last) × (run.s v ≡ j)
    enters j t u h l here there = ⊎_elim
        (λ (e : u < t). entering_is j u t h (comes_between (basic_at j) u t (omega arith) there here))
        (λ (e : t ≤ u). from (basic_at j 0) refl)
        (cases_lt u t)
      where
        from : (x : Bool) → basic_at j 0 ≡ x → (v : ℕ) × (v < last) × (run.s v ≡ j)
        from true e = entering_is j u last (omega arith) (comes_between (basic_at j) u last l there (sym (through j) ∙ e))
        from false e = entering_is j 0 t h (comes_between (basic_at j) 0 t (omega arith) e here)

    -- A column that enters leaves in the return.
    leaves : (u : ℕ) → u < last → basic_at (run.s u) u ≡ false → (v : ℕ) × (v < last) × (run.basis v (run.r v) ≡ run.s u)
    leaves u h away = from (basic_at (run.s u) 0) refl
      where
        step : IsBlandStep m q side rank (run.basis u) (run.matrix u) (run.row u) (run.r u) (run.s u)
        step = run.steps u h

        here : basic_at (run.s u) (suc u) ≡ true
        here = basic_yes (run.s u) (suc u) (run.r u, step.ratio.within, run.moves u h (run.r u) step.ratio.within ∙ put-same (run.basis u) (run.r u) (run.s u))

        from : (x : Bool) → basic_at (run.s u) 0 ≡ x → (v : ℕ) × (v < last) × (run.basis v (run.r v) ≡ run.s u)
        from true e = leaving_is (run.s u) 0 u (omega arith) (goes_between (basic_at (run.s u)) 0 u (omega arith) e away)
        from false e = leaving_is (run.s u) (suc u) last (omega arith) (goes_between (basic_at (run.s u)) (suc u) last h here (sym (through (run.s u)) ∙ e))

    -- The time u at which the last of the entering columns enters, and the time t at which it leaves.
    module _ (u t : ℕ) (u_early : u < last) (t_early : t < last) (over : (v : ℕ) → v < last → rank (run.s v) ≤ rank (run.s u)) (left : run.basis t (run.r t) ≡ run.s u) where
      enter : IsBlandStep m q side rank (run.basis u) (run.matrix u) (run.row u) (run.r u) (run.s u)
      enter = run.steps u u_early

      leave : IsBlandStep m q side rank (run.basis t) (run.matrix t) (run.row t) (run.r t) (run.s t)
      leave = run.steps t t_early

      other : run.s t ≢ run.s u
      other e =
          let basic = basic_cost (run.tableau t (omega arith)) (run.priced t (omega arith)) (run.r t) leave.ratio.within in
          let at_s = ap (run.row t) (left ∙ sym e) in
          let improves = leave.improves in
          omega (arith, ints)

      -- The column that enters at t has no negative reduced cost at u.
      not_improving : pos 0 ≤ℤ run.row u (run.s t)
      not_improving =
          let at_most = over t t_early in
          let apart : rank (run.s t) ≢ rank (run.s u) = λ e. other (distinct (run.s t) (run.s u) leave.offered enter.offered e) in
          enter.first_column (run.s t) leave.offered (omega arith)

      found : (k : ℕ) × (k < m) × (pos 0 <ℤ (run.row u (run.basis t k) *ℤ run.matrix t k (run.s t)))
      found =
          let whole = crossed_costs (run.tableau t (omega arith)) (run.priced t (omega arith)) (run.tableau u (omega arith)) (run.priced u (omega arith)) (run.s t) (omega (arith, leave.offered)) in
          let weak : pos 0 ≤ℤ run.den t = let over_d = (run.tableau t (omega arith)).positive in omega (arith, ints) in
          let upper = product_not_negative weak not_improving in
          let lower = product_negative (run.tableau u (omega arith)).positive leave.improves in
          positive_term m (λ k. run.row u (run.basis t k) *ℤ run.matrix t k (run.s t)) (omega (arith, linear))

      module _ (k : ℕ) (k_row : k < m) (term : pos 0 <ℤ (run.row u (run.basis t k) *ℤ run.matrix t k (run.s t))) where
        -- The column of row k isn't basic at u.
        away : IsBasic m (run.basis u) (run.basis t k) → ⊥
        away b =
            let none = ap (run.row u) (sym b.2) ∙ basic_cost (run.tableau u (omega arith)) (run.priced u (omega arith)) b.0 b.1 in
            let product = ap (λ x. x *ℤ run.matrix t k (run.s t)) none ∙ zero-*ℤ (run.matrix t k (run.s t)) in
            omega (arith, linear)

        enters_too : (v : ℕ) × (v < last) × (run.s v ≡ run.basis t k)
        enters_too = enters (run.basis t k) t u (omega arith) (omega arith) (basic_yes (run.basis t k) t (k, k_row, refl)) (basic_no (run.basis t k) u away)

        offered : run.basis t k < q
        offered = let v = enters_too in let step = run.steps v.0 v.1 in subst (λ x. x < q) v.2 step.offered

        no_later : rank (run.basis t k) ≤ rank (run.s u)
        no_later = let v = enters_too in subst (λ x. rank x ≤ rank (run.s u)) v.2 (over v.0 v.1)

        -- At the column itself the term would be negative.
        not_itself : run.basis t k ≢ run.s u
        not_itself e =
            let row_is = basic_once (run.tableau t (omega arith)) k (run.r t) k_row leave.ratio.within (e ∙ sym left) in
            let corner : pos 0 <ℤ run.matrix t k (run.s t) = subst (λ i. pos 0 <ℤ run.matrix t i (run.s t)) (sym row_is) leave.ratio.positive in
            let falls : run.row u (run.basis t k) <ℤ pos 0 = subst (λ x. run.row u x <ℤ pos 0) (sym e) enter.improves in
            let negative = product_negative corner falls in
            let turn = *ℤ_comm (run.matrix t k (run.s t)) (run.row u (run.basis t k)) in
            omega (arith, linear)

        earlier : rank (run.basis t k) < rank (run.s u)
        earlier =
            let apart : rank (run.basis t k) ≢ rank (run.s u) = λ e. not_itself (distinct (run.basis t k) (run.s u) offered enter.offered e) in
            let at_most = no_later in
            omega arith

        could_leave : pos 0 <ℤ run.matrix t k (run.s t)
        could_leave = factor_positive (run.row u (run.basis t k)) (enter.first_column (run.basis t k) offered earlier) term

        idle : run.matrix t k side ≡ pos 0
        idle = idle_always run inside right same (run.basis t k) u t (omega arith) (omega arith) (λ l h e. absurd (away (l, h, e))) k k_row refl

        impossible : ⊥
        impossible =
            let tie = ap (λ x. x *ℤ run.matrix t (run.r t) (run.s t)) idle ∙ (zero-*ℤ (run.matrix t (run.r t) (run.s t)) ∙ sym (ap (λ x. x *ℤ run.matrix t k (run.s t)) (degenerate run inside right same t t_early) ∙ zero-*ℤ (run.matrix t k (run.s t)))) in
            let first = leave.first_row k k_row could_leave tie in
            let low = subst (λ x. rank x ≤ rank (run.basis t k)) left first in
            let high = earlier in
            omega arith

      never : ⊥
      never = impossible found.0 found.1 found.2

    -- No basis comes back.
    pub no_basis_returns : ⊥
    no_basis_returns = by (greatest_of (last - 1) (λ v. pos (rank (run.s v))))
      where
        by : Greatest (λ v. pos (rank (run.s v))) (last - 1) → ⊥
        by g =
            let early : g.at < last = omega (arith, g.within) in
            let over : (v : ℕ) → v < last → rank (run.s v) ≤ rank (run.s g.at) = λ v h. let above = g.over v (omega arith) in omega (arith, ints) in
            let step = run.steps g.at early in
            let away = basic_no (run.s g.at) g.at (λ b. let none = ap (run.row g.at) (sym b.2) ∙ basic_cost (run.tableau g.at (omega arith)) (run.priced g.at (omega arith)) b.0 b.1 in let improves = step.improves in omega (arith, ints)) in
            let left = leaves g.at early away in
            never g.at left.0 early left.1 over left.2
