-- A pivot by the ratio rule keeps the right sides at 0 or more: in a row with a positive entry that is the ratio rule, in
-- another row nothing is taken away.
use Rattle.std.proofs.Common.{◌≡◌, ◌≢◌, ℕ, ◌<◌, ℤ, pos, ◌-ℤ◌, ◌*ℤ◌, ◌≤ℤ◌, ◌<ℤ◌, ◌∙◌, ⊎_elim, arith}
use Rattle.std.proofs.lemmas.Bool.{cases_eq}
use Rattle.std.proofs.lemmas.Int.{ints}
use Rattle.exact_algebra.proofs.Order.{below_or_at_least, product_not_negative, product_not_positive, factor_not_negative}
use Rattle.exact_algebra.proofs.RingTactic.{ring_laws, linear}
use Rattle.exact_linear.proofs.Turns.{turned_positive}
use Rattle.exact_linear.specs.Pivot.{IsPivot}
use Rattle.exact_linear.specs.Simplex.{IsFeasible, IsLeastRatio}

-- A row in which nothing is taken away, and one in which the ratio decides.
no_less : (d a p b q x : ℤ) → pos 0 <ℤ d → pos 0 ≤ℤ a → pos 0 <ℤ p → pos 0 ≤ℤ q → (pos 0 <ℤ b → (q *ℤ b) ≤ℤ (a *ℤ p)) → x *ℤ d ≡ a *ℤ p -ℤ b *ℤ q → pos 0 ≤ℤ x
no_less d a p b q x over_d over_a over_p over_q ratio is = factor_not_negative d over_d (⊎_elim above below (below_or_at_least (pos 0) b))
  where
    above : pos 0 <ℤ b → pos 0 ≤ℤ (d *ℤ x)
    above h =
        let least = simp ring_laws at (ratio h) in
        let given = simp ring_laws at is in
        omega (arith, linear)

    below : b ≤ℤ pos 0 → pos 0 ≤ℤ (d *ℤ x)
    below h =
        let lower = product_not_positive over_q h in
        let upper = product_not_negative over_a (let weak : pos 0 ≤ℤ p = omega (arith, ints) in weak) in
        let given = simp ring_laws at is in
        let first = simp ring_laws at lower in
        omega (arith, linear)

pub feasible_kept : {m h n r s : ℕ} {den : ℤ} {matrix after : ℕ → ℕ → ℤ} (side : ℕ) → side < n → ((i : ℕ) → i < m → i < h) → pos 0 <ℤ den → IsPivot h n r s den matrix after → IsLeastRatio m side matrix r s → IsFeasible m side matrix → IsFeasible m side after
feasible_kept {m} {h} {n} {r} {s} {den} {matrix} {after} side inside rows over pivot ratio feasible = record { at = λ i l. ⊎_elim (λ (e : i ≡ r). rw e at_r) (elsewhere i l) (cases_eq i r) }
  where
    at_r : pos 0 ≤ℤ after r side
    at_r = rw (pivot.keeps side inside, turned_positive (matrix r s) (matrix r side) ratio.positive) (feasible.at r ratio.within)

    elsewhere : (i : ℕ) → i < m → i ≢ r → pos 0 ≤ℤ after i side
    elsewhere i l d =
        no_less den (matrix i side) (matrix r s) (matrix i s) (matrix r side) (after i side) over (feasible.at i l) ratio.positive (feasible.at r ratio.within) (ratio.least i l)
        (pivot.divides i side (rows i l) d inside ∙ (rw (turned_positive (matrix r s) (matrix r s) ratio.positive, turned_positive (matrix r s) (matrix r side) ratio.positive)))
