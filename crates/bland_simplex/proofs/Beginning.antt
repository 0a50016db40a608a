-- The starting tableau of a program is under way: it is its own tableau, and its right sides are 1 and 0.
use Rattle.std.proofs.Common.{◌≡◌, ◌≢◌, ⊎_elim, ◌+◌, pos, ◌≤ℤ◌, length, sym, ap, subst, ◌∙◌, arith}
use Rattle.std.proofs.lemmas.Bool.{cases_eq}
use Rattle.std.proofs.lemmas.Int.{ints}
use lib.Signed.{≤ℤ_refl}
use Rattle.lp_form.specs.Program.{IsProgram, LpView, right_of}
use Rattle.int_tableau.proofs.Starting.{start_reached}
use Rattle.int_tableau.specs.Content.{Content, IsTableau}
use Rattle.int_tableau.specs.Start.{IsStart}
use Rattle.bland_simplex.proofs.StartEntries.{entry_right}
use Rattle.bland_simplex.specs.Ready.{IsUnderWay}

pub way_of_start : (lp : LpView) (t : Content) → IsProgram lp → IsStart lp t → IsTableau t → IsUnderWay lp t
way_of_start lp t program start rules = record {
  «open» = record { rules = rules; fresh = start.fresh; rows_are = start.rows; cols_are = start.cols };
  reached = start_reached lp t start;
  feasible = record { at = λ i h. subst (λ x. pos 0 ≤ℤ x) (sym (start.entries i (lp.cols + length lp.rows) (omega (arith, start.rows)) (omega (arith, start.cols)) ∙ entry_right lp i h)) (⊎_elim (λ (e : i ≡ 0). subst (λ x. pos 0 ≤ℤ x) (sym (ap (right_of lp) e ∙ program.one)) (omega (arith, ints))) (λ (d : i ≢ 0). subst (λ x. pos 0 ≤ℤ x) (sym (program.zeros i (omega arith))) (≤ℤ_refl (pos 0))) (cases_eq i 0)) };
}
