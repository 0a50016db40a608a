-- The program's starting tableau is the tableau of its artificial basis: the artificial columns are unit vectors and cost
-- nothing.
use Rattle.std.proofs.Common.{◌≡◌, ◌≢◌, ⊎_elim, ℕ, ◌+◌, ◌-◌, ◌<◌, ◌≤◌, pos, Bool, true, false, cond, nat_lt, nat_eq, length, refl, sym, arith, lt-ltb, le-ltb, eq-eqb, ne_eqb}
use Rattle.std.proofs.lemmas.Bool.{cases_eq}
use Rattle.exact_linear.proofs.Alike.{same_whole}
use Rattle.exact_linear.proofs.Determinant.{unit, unit-same, unit-other}
use Rattle.exact_linear.proofs.WholeTableaus.{whole_start}
use Rattle.lp_form.specs.Program.{LpView}
use Rattle.int_tableau.specs.Content.{Content}
use Rattle.int_tableau.specs.Reached.{IsReachedFrom}
use Rattle.int_tableau.specs.Start.{start_entry, IsStart}

pub artificial : (lp : LpView) (k c : ℕ) → k < length lp.rows → c < length lp.rows → start_entry lp c (lp.cols + k) ≡ unit k c
artificial lp k c h l =
    let program : nat_lt c (length lp.rows) ≡ true = lt-ltb c (length lp.rows) l in
    let behind : nat_lt (lp.cols + k) lp.cols ≡ false = le-ltb (lp.cols + k) lp.cols (omega arith) in
    let not_right : nat_eq (lp.cols + k) (lp.cols + length lp.rows) ≡ false = ne_eqb (lp.cols + k) (lp.cols + length lp.rows) (omega arith) in
    rw (program, behind, not_right) (⊎_elim
    (λ (e : k ≡ c). let own : nat_eq (lp.cols + k) (lp.cols + c) ≡ true = eq-eqb (lp.cols + k) (lp.cols + c) (omega arith) in rw own (sym (rw e (unit-same c))))
    (λ (d : k ≢ c). let other : nat_eq (lp.cols + k) (lp.cols + c) ≡ false = ne_eqb (lp.cols + k) (lp.cols + c) (omega arith) in rw other (sym (unit-other k c d)))
    (cases_eq k c))

nothing : (x y : Bool) → cond x (pos 0) (cond y (pos 0) (pos 0)) ≡ pos 0
nothing true y = refl
nothing false true = refl
nothing false false = refl

pub free : (lp : LpView) (i k : ℕ) → length lp.rows ≤ i → i < length lp.rows + 3 → k < length lp.rows → start_entry lp i (lp.cols + k) ≡ pos 0
free lp i k low high h =
    let cost : nat_lt i (length lp.rows) ≡ false = le-ltb i (length lp.rows) low in
    let behind : nat_lt (lp.cols + k) lp.cols ≡ false = le-ltb (lp.cols + k) lp.cols (omega arith) in
    let not_right : nat_eq (lp.cols + k) (lp.cols + length lp.rows) ≡ false = ne_eqb (lp.cols + k) (lp.cols + length lp.rows) (omega arith) in
    rw (cost, behind, not_right) (nothing (nat_eq i (length lp.rows)) (nat_eq i (length lp.rows + 1)))

pub start_reached : (lp : LpView) (t : Content) → IsStart lp t → IsReachedFrom (start_entry lp) t
start_reached lp t s =
    let program : t.rows - 3 ≡ length lp.rows = omega (arith, s.rows) in
    let whole = whole_start (length lp.rows) (length lp.rows + 3) (lp.cols + length lp.rows + 1) (start_entry lp) (λ k. lp.cols + k) (λ k h. omega arith) (artificial lp) (free lp) in
    rw (program, s.rows, s.cols) (same_whole (omega arith) s.basis s.denom (λ i j h l. s.entries i j (omega (arith, s.rows)) (omega (arith, s.cols))) whole)
