-- A pivot keeps each row of reduced costs, and divides it exactly. Both by the sum of the basic columns' costs over the pivoted
-- rows: times the old denominator it is known from the old sums, so that the new row is a difference of whole numbers.
use Rattle.std.proofs.Common.{◌≡◌, ℕ, ◌<◌, ℤ, pos, ◌+ℤ◌, ◌-ℤ◌, ◌*ℤ◌, ◌<ℤ◌, sym, ap, ap₂, ◌∙◌, arith}
use Rattle.exact_algebra.proofs.Families.{put, put-same, put-other}
use Rattle.exact_algebra.proofs.Order.{cancel_positive}
use Rattle.exact_algebra.proofs.RingTactic.{ring_laws, linear}
use Rattle.exact_algebra.proofs.Sums.{sum_to-same, sum_to-add, sum_to-scale}
use Rattle.exact_algebra.specs.Sums.{sum_to}
use Rattle.exact_linear.proofs.PivotKeeps.{pivoted_sum}
use Rattle.exact_linear.specs.Pivot.{pivot_row, IsPivot}
use Rattle.exact_linear.specs.Tableau.{IsCostRow}

module _ {m n : ℕ} {costs row : ℕ → ℤ} {basis : ℕ → ℕ} {den : ℤ} {matrix after : ℕ → ℕ → ℤ} (z : IsCostRow m n costs basis den matrix row) (r s : ℕ) (in_rows : r < m) (in_columns : s < n) (pivot : IsPivot m n r s den matrix after) where
  -- The row of reduced costs of the basis after the pivot.
  abbrev pub priced : ℕ → ℤ
  priced j = pivot_row matrix r s s *ℤ costs j -ℤ sum_to m (λ k. costs (put basis r s k) *ℤ after k j)

  -- The numerators of the row are the old denominator times that row.
  pub cost_exact : (j : ℕ) → j < n → priced j *ℤ den ≡ row j *ℤ pivot_row matrix r s s -ℤ row s *ℤ pivot_row matrix r s j
  cost_exact j l =
      let sums = pivoted_sum m n r s in_rows in_columns pivot (λ k. costs (basis k)) (λ k. costs (put basis r s k)) (λ k d. ap costs (put-other basis r s k d)) j l in
      remaining den (sum_to m (λ k. costs (put basis r s k) *ℤ after k j)) (pivot_row matrix r s s) (pivot_row matrix r s j) (sum_to m (λ k. costs (basis k) *ℤ matrix k j)) (sum_to m (λ k. costs (basis k) *ℤ matrix k s)) (costs (put basis r s r)) (costs j) (costs s) (row j) (row s)
      (z.at j l) (z.at s in_columns) (ap costs (put-same basis r s)) sums
    where
      remaining : (d f p q u v w a b x y : ℤ) → x +ℤ u ≡ d *ℤ a → y +ℤ v ≡ d *ℤ b → w ≡ b → d *ℤ f ≡ p *ℤ u -ℤ q *ℤ v +ℤ d *ℤ (w *ℤ q) → (p *ℤ a -ℤ f) *ℤ d ≡ x *ℤ p -ℤ y *ℤ q
      remaining d f p q u v w a b x y first second third sums =
          let one = simp ring_laws at (ap (λ e. p *ℤ e) first) in
          let two = simp ring_laws at (ap (λ e. q *ℤ e) second) in
          let given = simp ring_laws at (rw third at sums) in
          simp ring_laws (omega (arith, linear))

  -- A row that the pivot makes is the row of reduced costs of the basis after it.
  pub cost_keeps : (new : ℕ → ℤ) → ((j : ℕ) → j < n → new j *ℤ den ≡ row j *ℤ pivot_row matrix r s s -ℤ row s *ℤ pivot_row matrix r s j) → pos 0 <ℤ den → IsCostRow m n costs (put basis r s) (pivot_row matrix r s s) after new
  cost_keeps new divides positive = record { at = at }
    where
      at : (j : ℕ) → j < n → new j +ℤ sum_to m (λ k. costs (put basis r s k) *ℤ after k j) ≡ pivot_row matrix r s s *ℤ costs j
      at j l =
          let same : new j ≡ priced j = cancel_positive den positive (turn den (new j) (priced j) (divides j l ∙ sym (cost_exact j l))) in
          omega (arith, linear)
        where
          turn : (d x y : ℤ) → x *ℤ d ≡ y *ℤ d → d *ℤ x ≡ d *ℤ y
          turn d x y is = simp ring_laws at is

-- A combination of rows of reduced costs is one of the combined costs.
pub costs_combined : {m n : ℕ} {first second u v : ℕ → ℤ} {basis : ℕ → ℕ} {den : ℤ} {matrix : ℕ → ℕ → ℤ} (a b : ℤ) → IsCostRow m n first basis den matrix u → IsCostRow m n second basis den matrix v →
    IsCostRow m n (λ j. a *ℤ first j +ℤ b *ℤ second j) basis den matrix (λ j. a *ℤ u j +ℤ b *ℤ v j)
costs_combined {m} {n} {first} {second} {u} {v} {basis} {den} {matrix} a b x y = record { at = at }
  where
    at : (j : ℕ) → j < n → (a *ℤ u j +ℤ b *ℤ v j) +ℤ sum_to m (λ k. (a *ℤ first (basis k) +ℤ b *ℤ second (basis k)) *ℤ matrix k j) ≡ den *ℤ (a *ℤ first j +ℤ b *ℤ second j)
    at j l =
        let U = λ (k : ℕ). first (basis k) *ℤ matrix k j in
        let W = λ (k : ℕ). second (basis k) *ℤ matrix k j in
        let apart = sum_to-same m (λ k. (a *ℤ first (basis k) +ℤ b *ℤ second (basis k)) *ℤ matrix k j) (λ k. a *ℤ U k +ℤ b *ℤ W k) (λ k h. parted a b (first (basis k)) (second (basis k)) (matrix k j)) in
        let added = sum_to-add m (λ k. a *ℤ U k) (λ k. b *ℤ W k) in
        let scaled = sum_to-scale m a U in
        let scaled_too = sum_to-scale m b W in
        joined a b den (u j) (v j) (sum_to m U) (sum_to m W) (first j) (second j) _ (x.at j l) (y.at j l) (apart ∙ (added ∙ ap₂ (λ e f. e +ℤ f) scaled scaled_too))
      where
        parted : (a b f g t : ℤ) → (a *ℤ f +ℤ b *ℤ g) *ℤ t ≡ a *ℤ (f *ℤ t) +ℤ b *ℤ (g *ℤ t)
        parted a b f g t = simp ring_laws (omega (arith, linear))

        joined : (a b d x y s t f g w : ℤ) → x +ℤ s ≡ d *ℤ f → y +ℤ t ≡ d *ℤ g → w ≡ a *ℤ s +ℤ b *ℤ t → (a *ℤ x +ℤ b *ℤ y) +ℤ w ≡ d *ℤ (a *ℤ f +ℤ b *ℤ g)
        joined a b d x y s t f g w first second third =
            let one = simp ring_laws at (ap (λ e. a *ℤ e) first) in
            let two = simp ring_laws at (ap (λ e. b *ℤ e) second) in
            simp ring_laws (omega (arith, linear))
