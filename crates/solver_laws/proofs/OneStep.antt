-- Bases as sets of columns, and the one step of Bland's rule.
use Rattle.std.proofs.Common.{◌≡◌, ◌↔◌, ⊎_elim, ℕ, zero, suc, ◌<◌, ◌≤◌, ℤ, pos, ◌*ℤ◌, ◌≤ℤ◌, refl, sym, subst, ◌∙◌, arith}
use Rattle.std.proofs.lemmas.Bool.{cases_lt}
use Rattle.std.proofs.lemmas.Int.{ints}
use Rattle.exact_linear.specs.Basis.{IsBasic, IsSameBasis}
use Rattle.exact_linear.specs.BlandRule.{IsBlandStep}

pub same_columns : (m : ℕ) (first second : ℕ → ℕ) → IsSameBasis m first second
    ↔ ((column : ℕ) → IsBasic m first column ↔ IsBasic m second column)
same_columns m first second = (
  λ same column. (
    λ b. (let found = same.forth b.0 b.1 in (found.0, found.1, found.2 ∙ b.2)),
    λ b. (let found = same.back b.0 b.1 in (found.0, found.1, found.2 ∙ b.2)),
  ),
  λ each. record { forth = λ k h. (each (first k)).0 (k, h, refl); back = λ k h. (each (second k)).1 (k, h, refl) },
)

pub same_on : (m : ℕ) (first second third : ℕ → ℕ) → IsSameBasis m first second → IsSameBasis m second third → IsSameBasis m first third
same_on m first second third a b = record {
  forth = λ k h. (let mid = a.forth k h in let found = b.forth mid.0 mid.1 in (found.0, found.1, found.2 ∙ mid.2));
  back = λ k h. (let mid = b.back k h in let found = a.back mid.0 mid.1 in (found.0, found.1, found.2 ∙ mid.2));
}

pub two_swapped : (first second : ℕ → ℕ) → first 0 ≡ second 1 → first 1 ≡ second 0 → IsSameBasis 2 first second
two_swapped first second a b = record { forth = there first second a b; back = there second first (sym b) (sym a) }
  where
    there : (x y : ℕ → ℕ) → x 0 ≡ y 1 → x 1 ≡ y 0 → (k : ℕ) → k < 2 → IsBasic 2 y (x k)
    there x y e f zero h = (1, omega arith, sym e)
    there x y e f (suc zero) h = (0, omega arith, sym f)
    there x y e f (suc (suc k)) h = absurd (omega arith)

module _ (m q side : ℕ) (rank basis : ℕ → ℕ) (matrix : ℕ → ℕ → ℤ) (row : ℕ → ℤ) where
  not_before : (r s other next : ℕ) → IsBlandStep m q side rank basis matrix row r s
      → IsBlandStep m q side rank basis matrix row other next → rank next ≤ rank s
  not_before r s other next a b = ⊎_elim
      (λ (l : rank s < rank next). (let over = b.first_column s a.offered l in let low = a.improves in absurd (omega (arith, ints))))
      (λ (l : rank next ≤ rank s). l) (cases_lt (rank s) (rank next))

  pub one_column : (r s other next : ℕ) → ((i j : ℕ) → i < q → j < q → rank i ≡ rank j → i ≡ j)
      → IsBlandStep m q side rank basis matrix row r s → IsBlandStep m q side rank basis matrix row other next → s ≡ next
  one_column r s other next once a b =
      let up = not_before r s other next a b in
      let down = not_before other next r s b a in
      once s next a.offered b.offered (omega arith)

  same_row : (r s other : ℕ) → ((i j : ℕ) → i < m → j < m → rank (basis i) ≡ rank (basis j) → i ≡ j)
      → IsBlandStep m q side rank basis matrix row r s → IsBlandStep m q side rank basis matrix row other s → r ≡ other
  same_row r s other once a b =
      let low = a.ratio.least other b.ratio.within b.ratio.positive in
      let high = b.ratio.least r a.ratio.within a.ratio.positive in
      let level : matrix other side *ℤ matrix r s ≡ matrix r side *ℤ matrix other s = omega (arith, ints) in
      let up = a.first_row other b.ratio.within b.ratio.positive level in
      let down = b.first_row r a.ratio.within a.ratio.positive (sym level) in
      once r other a.ratio.within b.ratio.within (omega arith)

  pub one_row : (r s other next : ℕ) → ((i j : ℕ) → i < q → j < q → rank i ≡ rank j → i ≡ j)
      → ((i j : ℕ) → i < m → j < m → rank (basis i) ≡ rank (basis j) → i ≡ j)
      → IsBlandStep m q side rank basis matrix row r s → IsBlandStep m q side rank basis matrix row other next → r ≡ other
  one_row r s other next once basic a b = same_row r s other basic a
      (subst (λ (c : ℕ). IsBlandStep m q side rank basis matrix row other c) (sym (one_column r s other next once a b)) b)

  pub no_step : (r s : ℕ) → ((j : ℕ) → j < q → pos 0 ≤ℤ row j) → IsBlandStep m q side rank basis matrix row r s → ⊥
  no_step r s optimal step = let over = optimal s step.offered in let low = step.improves in omega (arith, ints)
