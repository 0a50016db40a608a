-- A leaf's two amounts raise each payoff coefficient by no more than the greatest amount, and leave the rows alone.
use Rattle.std.proofs.Common.{◌≡◌, Option, Some, slice_get, refl, ℤ, pos, ◌+ℤ◌, sym, ap₂, ℕ, ◌+◌, ◌^◌, ◌≤◌, ap, arith, ◌∙◌}
use Rattle.std.specs.Prelude.{unsigned_abs}
use Rattle.std.proofs.lemmas.Int.{ints}
use Rattle.exact_algebra.proofs.RingLaws.{+ℤ_idr}
use Rattle.exact_algebra.proofs.Sums.{sum_to-add_one, sum_to-zero}
use Rattle.corr_game.specs.declared.nodes.Node.{Node}
use Rattle.corr_game.specs.declared.nodes.Node.TheVariants.{Leaf, Chance, Choice}
use Rattle.corr_game.specs.declared.payoffs.Pay.{Pay}
use Rattle.corr_game.specs.declared.sides.Side.{Side}
use Rattle.corr_game.specs.Game.{GameView}
use Rattle.corr_game.specs.Node.{amount_of}
use Rattle.connected_pairs.specs.Connected.{PairsView}
use Rattle.corr_game.specs.declared.sides.Side.TheVariants.{One, Two}
use Rattle.lp_form.specs.Program.{LpView, payoff_of, payoff_row, with_payoff_row}
use Rattle.plan_polytope.specs.Bounds.{IsWithin, KeepsRows}
use Rattle.plan_polytope.specs.Payoffs.{column_at, in_column, paid_below, paid_in}

-- the payoff rows of both players are written one after the other
pub raised_both : (old mid new : LpView) → mid ≡ with_payoff_row One old (payoff_row One mid) → new ≡ with_payoff_row Two mid (payoff_row Two new)
    → ((k : ℕ) → unsigned_abs (payoff_of One mid k) ≤ unsigned_abs (payoff_of One old k) + 2 ^ 28)
    → ((k : ℕ) → unsigned_abs (payoff_of Two new k) ≤ unsigned_abs (payoff_of Two mid k) + 2 ^ 28)
    → (bound : ℕ) → IsWithin bound old → (side : Side) (k : ℕ) → unsigned_abs (payoff_of side new k) ≤ bound + 2 ^ 28
raised_both old mid new e f one two bound h One k =
    let same = ap (λ (lp : LpView). unsigned_abs (payoff_of One lp k)) f in
    omega (arith, same, one k, h One k)
raised_both old mid new e f one two bound h Two k =
    let same = ap (λ (lp : LpView). unsigned_abs (payoff_of Two lp k)) e in
    omega (arith, same, two k, h Two k)

pub keeps-on : (a b c : LpView) → KeepsRows a b → KeepsRows b c → KeepsRows a c
keeps-on a b c e f = record {
  columns = f.columns ∙ e.columns;
  rows = f.rows ∙ e.rows;
  rights = f.rights ∙ e.rights;
}

-- a node more adds what it pays
pub paid_more : (g : GameView) (p : PairsView) (side : Side) (k n : ℕ) (before after : ℤ) (pay : Pay) → before ≡ paid_below g p side k n
    → after ≡ before +ℤ in_column (column_at p n) (amount_of side pay) k → slice_get g.nodes n ≡ Some (Leaf pay) → after ≡ paid_below g p side k (n + 1)
paid_more g p side k n before after pay first second node =
    let term = ap (λ v. paid_in p side k n v) node in
    second ∙ (ap₂ (λ u v. u +ℤ v) first (sym term) ∙ sym (sum_to-add_one n (λ m. paid_in p side k m (slice_get g.nodes m))))

pub paid_less : (g : GameView) (p : PairsView) (side : Side) (k n : ℕ) (before : ℤ) → before ≡ paid_below g p side k n
    → paid_in p side k n (slice_get g.nodes n) ≡ pos 0 → before ≡ paid_below g p side k (n + 1)
paid_less g p side k n before first none =
    sym (+ℤ_idr before) ∙ (ap₂ (λ u v. u +ℤ v) first (sym none) ∙ sym (sum_to-add_one n (λ m. paid_in p side k m (slice_get g.nodes m))))

pub none_paid : (p : PairsView) (side : Side) (k n : ℕ) (found : Option Node) (node : Node) → found ≡ Some node → ((pay : Pay) → node ≡ Leaf pay → ⊥) → paid_in p side k n found ≡ pos 0
none_paid p side k n found (Leaf pay) e other = absurd (other pay refl)
none_paid p side k n found (Chance kids) e other = ap (λ v. paid_in p side k n v) e
none_paid p side k n found (Choice mover set kids) e other = ap (λ v. paid_in p side k n v) e

pub nothing_paid : (g : GameView) (p : PairsView) (side : Side) (k : ℕ) (before : ℤ) → unsigned_abs before ≤ 0 → before ≡ paid_below g p side k 0
nothing_paid g p side k before h =
    let none : before ≡ pos 0 = omega (arith, ints) in
    none ∙ sym (sum_to-zero (λ m. paid_in p side k m (slice_get g.nodes m)))
