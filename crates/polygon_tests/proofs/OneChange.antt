-- A program stays a tested one where one small coefficient is put.
use Rattle.std.proofs.Common.{◌≡◌, ◌≢◌, ◌⊎◌, ℕ, ◌^◌, ◌<◌, List, length, ℤ, unsigned_abs, inl, inr, ap, ◌∙◌, arith}
use Rattle.std.proofs.lemmas.Bool.{cases_eq}
use Rattle.corr_game.specs.declared.sides.Side.{Side}
use Rattle.corr_game.specs.declared.sides.Side.TheVariants.{One, Two}
use Rattle.lp_form.specs.declared.entries.Entry.{Entry}
use Rattle.lp_form.specs.Program.{LpView, coefficient, payoff_of, payoff_row, right_of, with_payoff_row}
use Rattle.lp_form.specs.Row.{value_at}
use Rattle.polygon_tests.specs.Tested.{IsTested}

size_of : (x v : ℤ) → x ≡ v → unsigned_abs v < 2 ^ 51 → unsigned_abs x < 2 ^ 51
size_of x v e h = rw e h

-- every coefficient but this one is as it was
pub one_put : (old new : LpView) (row col : ℕ) (v : ℤ) → unsigned_abs v < 2 ^ 51 → coefficient new row col ≡ v
    → ((r k : ℕ) → (r ≢ row) ⊎ (k ≢ col) → coefficient new r k ≡ coefficient old r k)
    → (r k : ℕ) → unsigned_abs (coefficient old r k) < 2 ^ 51 → unsigned_abs (coefficient new r k) < 2 ^ 51
one_put old new row col v small placed others r k before = elim (cases_eq r row) [
  | inr apart ↦ size_of _ _ (others r k (inl apart)) before
  | inl same ↦ elim (cases_eq k col) [
    | inr apart ↦ size_of _ _ (others r k (inr apart)) before
    | inl too ↦ rw (same, too) (size_of _ v placed small)
  ]
]

same_payoff : (old new : LpView) (rows : List (List Entry)) → new ≡ record old { rows = rows } → (side : Side) (k : ℕ) → payoff_of side new k ≡ payoff_of side old k
same_payoff old new rows e One k = ap (λ (lp : LpView). value_at lp.first k) e
same_payoff old new rows e Two k = ap (λ (lp : LpView). value_at lp.second k) e

pub tested_coefficient : (old new : LpView) (row col : ℕ) (v : ℤ) → unsigned_abs v < 2 ^ 51 → coefficient new row col ≡ v
    → ((r k : ℕ) → (r ≢ row) ⊎ (k ≢ col) → coefficient new r k ≡ coefficient old r k)
    → new ≡ record old { rows = new.rows } → length new.rows ≡ length old.rows → IsTested old → IsTested new
tested_coefficient old new row col v small placed others alone count tested =
    let rights : (r : ℕ) → right_of new r ≡ right_of old r = λ r. ap (λ (lp : LpView). right_of lp r) alone in
    record {
      program = record {
        a_row = omega (arith, count, tested.program.a_row);
        one = rights 0 ∙ tested.program.one;
        zeros = λ r h. rights r ∙ tested.program.zeros r h;
      };
      small = record {
        coefficients = λ r k. one_put old new row col v small placed others r k (tested.small.coefficients r k);
        payoffs = λ side k. size_of _ _ (same_payoff old new new.rows alone side k) (tested.small.payoffs side k);
        rights = λ r. rw (rights r) (tested.small.rights r);
      };
      rows = count ∙ tested.rows;
      cols = ap (λ (lp : LpView). lp.cols) alone ∙ tested.cols;
    }

-- where a payoff row alone is another one, the rest is as it was
pub record IsBeside (old new : LpView) : Type 0 where
  pub coefficients : (r k : ℕ) → coefficient new r k ≡ coefficient old r k
  pub rights : (r : ℕ) → right_of new r ≡ right_of old r
  pub rows : length new.rows ≡ length old.rows
  pub cols : new.cols ≡ old.cols

beside : (side : Side) (old new : LpView) (entries : List Entry) → new ≡ with_payoff_row side old entries → IsBeside old new
beside One old new entries e = record {
  coefficients = λ r k. ap (λ (lp : LpView). coefficient lp r k) e;
  rights = λ r. ap (λ (lp : LpView). right_of lp r) e;
  rows = ap (λ (lp : LpView). length lp.rows) e;
  cols = ap (λ (lp : LpView). lp.cols) e;
}
beside Two old new entries e = record {
  coefficients = λ r k. ap (λ (lp : LpView). coefficient lp r k) e;
  rights = λ r. ap (λ (lp : LpView). right_of lp r) e;
  rows = ap (λ (lp : LpView). length lp.rows) e;
  cols = ap (λ (lp : LpView). lp.cols) e;
}

put_there : (old new : LpView) (side : Side) (col : ℕ) (v : ℤ) → unsigned_abs v < 2 ^ 51 → payoff_of side new col ≡ v
    → ((k : ℕ) → k ≢ col → payoff_of side new k ≡ payoff_of side old k) → (k : ℕ) → unsigned_abs (payoff_of side old k) < 2 ^ 51 → unsigned_abs (payoff_of side new k) < 2 ^ 51
put_there old new side col v small placed others k before = elim (cases_eq k col) [
  | inr apart ↦ size_of _ _ (others k apart) before
  | inl same ↦ rw same (size_of _ v placed small)
]

each_payoff : (old new : LpView) (side : Side) (col : ℕ) (v : ℤ) → unsigned_abs v < 2 ^ 51 → payoff_of side new col ≡ v
    → ((k : ℕ) → k ≢ col → payoff_of side new k ≡ payoff_of side old k) → new ≡ with_payoff_row side old (payoff_row side new)
    → (player : Side) (k : ℕ) → unsigned_abs (payoff_of player old k) < 2 ^ 51 → unsigned_abs (payoff_of player new k) < 2 ^ 51
each_payoff old new One col v small placed others alone One k before = put_there old new One col v small placed others k before
each_payoff old new One col v small placed others alone Two k before = size_of _ _ (ap (λ (lp : LpView). value_at lp.second k) alone) before
each_payoff old new Two col v small placed others alone One k before = size_of _ _ (ap (λ (lp : LpView). value_at lp.first k) alone) before
each_payoff old new Two col v small placed others alone Two k before = put_there old new Two col v small placed others k before

pub tested_payoff : (old new : LpView) (side : Side) (col : ℕ) (v : ℤ) → unsigned_abs v < 2 ^ 51 → payoff_of side new col ≡ v
    → ((k : ℕ) → k ≢ col → payoff_of side new k ≡ payoff_of side old k) → new ≡ with_payoff_row side old (payoff_row side new)
    → IsTested old → IsTested new
tested_payoff old new side col v small placed others alone tested =
    let rest : IsBeside old new = beside side old new _ alone in
    record {
      program = record {
        a_row = omega (arith, rest.rows, tested.program.a_row);
        one = rest.rights 0 ∙ tested.program.one;
        zeros = λ r h. rest.rights r ∙ tested.program.zeros r h;
      };
      small = record {
        coefficients = λ r k. size_of _ _ (rest.coefficients r k) (tested.small.coefficients r k);
        payoffs = λ player k. each_payoff old new side col v small placed others alone player k (tested.small.payoffs player k);
        rights = λ r. rw (rest.rights r) (tested.small.rights r);
      };
      rows = rest.rows ∙ tested.rows;
      cols = rest.cols ∙ tested.cols;
    }
