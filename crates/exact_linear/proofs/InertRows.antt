-- A row that is 0 in the columns of the program and in the right side takes no part in a pivot at a program column: its entry in
-- the pivot column is 0, so that it is multiplied and divided alone. Nor can the ratio rule choose it.
use Rattle.std.proofs.Common.{◌≡◌, ◌≢◌, ℕ, ◌<◌, ◌≤◌, ℤ, pos, ◌*ℤ◌, ◌<ℤ◌, sym, ap, ◌∙◌, arith}
use Rattle.std.proofs.lemmas.Int.{ints}
use Rattle.exact_algebra.proofs.Order.{cancel_positive}
use Rattle.exact_algebra.proofs.RingLaws.{*ℤ_comm, *ℤ-zero, zero-*ℤ}
use Rattle.exact_algebra.proofs.RingTactic.{linear}
use Rattle.exact_linear.specs.Pivot.{pivot_row, IsPivot}
use Rattle.exact_linear.specs.Simplex.{IsInert, IsLeastRatio}

pub inert_kept : {h n r s : ℕ} {den : ℤ} {matrix after : ℕ → ℕ → ℤ} (q side i : ℕ) → IsPivot h n r s den matrix after → pos 0 <ℤ den → q ≤ n → side < n → s < q → i < h → i ≢ r → IsInert q side matrix i → IsInert q side after i
inert_kept {h} {n} {r} {s} {den} {matrix} {after} q side i pivot over inside right offered below apart inert = record { level = alone side right inert.level; empty = λ j l. alone j (omega arith) (inert.empty j l) }
  where
    alone : (j : ℕ) → j < n → matrix i j ≡ pos 0 → after i j ≡ pos 0
    alone j l none =
        let divides = pivot.divides i j below apart l in
        let first = ap (λ x. x *ℤ pivot_row matrix r s s) none ∙ zero-*ℤ (pivot_row matrix r s s) in
        let second = ap (λ x. x *ℤ pivot_row matrix r s j) (inert.empty s offered) ∙ zero-*ℤ (pivot_row matrix r s j) in
        let turn = *ℤ_comm den (after i j) in
        cancel_positive den over (let whole : den *ℤ after i j ≡ pos 0 = omega (arith, linear) in whole ∙ sym (*ℤ-zero den))

pub inert_stays : {m r s : ℕ} {matrix : ℕ → ℕ → ℤ} (q side i : ℕ) → s < q → IsLeastRatio m side matrix r s → IsInert q side matrix i → i ≢ r
inert_stays {s = s} {matrix = matrix} q side i offered ratio inert same =
    let over = ratio.positive in
    let none = inert.empty s offered in
    let row = ap (λ k. matrix k s) same in
    omega (arith, ints)
