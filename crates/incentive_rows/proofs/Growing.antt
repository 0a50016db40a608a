-- Coefficients that grow one after the other grow by the sum of both amounts.
use Rattle.std.proofs.Common.{◌≡◌, ℕ, ◌+◌, ◌≤◌, refl, ap, ◌∙◌, arith}
use Rattle.lp_form.specs.Program.{LpView}
use Rattle.incentive_rows.specs.Bounds.{Grows}

pub grows-none : (by : ℕ) (lp : LpView) → Grows by lp lp
grows-none by lp = record {
  rows_alone = refl;
  as_many = refl;
  within = λ bound h r k. omega (arith, h r k);
}

pub grows-on : {a b c : LpView} {m n : ℕ} (by : ℕ) → Grows m a b → Grows n b c → m + n ≤ by → Grows by a c
grows-on {a} {b} {c} {m} {n} by f g enough = record {
  rows_alone = cc (f.rows_alone, g.rows_alone);
  as_many = g.as_many ∙ f.as_many;
  within = λ bound h r k. omega (arith, g.within (bound + m) (f.within bound h) r k);
}

-- the number of columns stays
pub same_columns : {a b : LpView} {m : ℕ} → Grows m a b → b.cols ≡ a.cols
same_columns {a} {b} g = ap (λ (lp : LpView). lp.cols) g.rows_alone
