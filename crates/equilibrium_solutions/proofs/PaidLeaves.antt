-- What numbers at the relevant pairs pay is summed leaf by leaf: each amount as often as the pair weighs that leads to the leaf.
use Rattle.std.proofs.Common.{◌≡◌, ℕ, ◌<◌, true, false, nat_eq, cond, length, Option, Some, None, slice_get, ℤ, pos, ◌*ℤ◌}
use Rattle.std.proofs.Common.{sym, ap, ◌∙◌, Bool, arith}
use Rattle.exact_algebra.specs.Sums.{sum_to}
use Rattle.exact_algebra.proofs.RingLaws.{*ℤ-one, *ℤ-zero, zero-*ℤ}
use Rattle.exact_algebra.proofs.RingTactic.{linear, ring_laws}
use Rattle.exact_algebra.proofs.Sums.{sum_to-exchange, sum_to-same, sum_to-scale, sum_to-scale_right}
use Rattle.corr_game.specs.declared.nodes.Node.{Node}
use Rattle.corr_game.specs.declared.nodes.Node.TheVariants.{Chance, Choice, Leaf}
use Rattle.corr_game.specs.declared.sides.Side.{Side}
use Rattle.corr_game.specs.Game.{GameView}
use Rattle.corr_game.specs.Node.{amount_of}
use Rattle.connected_pairs.specs.Connected.{PairsView}
use Rattle.equilibrium.specs.Leaves.{leaf_amount}
use Rattle.lp_form.specs.Program.{LpView, payoff_of}
use Rattle.plan_polytope.specs.Payoffs.{ArePayoffs, column_at, in_column, paid_in}
use Rattle.plan_polytope.proofs.Units.{at, unit, unit_product}

times : (a : ℤ) (found : Option ℕ) (k : ℕ) → in_column found a k ≡ a *ℤ unit found k
times a None k = sym (*ℤ-zero a)
times a (Some col) k = by (nat_eq col k)
  where
    by : (b : Bool) → cond b a (pos 0) ≡ a *ℤ cond b (pos 1) (pos 0)
    by true = sym (*ℤ-one a)
    by false = sym (*ℤ-zero a)

paid_times : (p : PairsView) (side : Side) (k n : ℕ) (node : Option Node)
    → paid_in p side k n node ≡ leaf_amount side node *ℤ unit (column_at p n) k
paid_times p side k n None = sym (zero-*ℤ (unit (column_at p n) k))
paid_times p side k n (Some (Leaf pay)) = times (amount_of side pay) (column_at p n) k
paid_times p side k n (Some (Chance kids)) = sym (zero-*ℤ (unit (column_at p n) k))
paid_times p side k n (Some (Choice mover set kids)) = sym (zero-*ℤ (unit (column_at p n) k))

regrouped : (a u y : ℤ) → a *ℤ u *ℤ y ≡ a *ℤ (u *ℤ y)
regrouped a u y = simp ring_laws (omega (arith, linear))

-- the payoff row times numbers over at least the columns of the pairs
pub paid_by_leaves : (g : GameView) (p : PairsView) (lp : LpView) → ArePayoffs g p lp → (side : Side) (width : ℕ) (y : ℕ → ℤ)
    → ((n k : ℕ) → n < length g.nodes → column_at p n ≡ Some k → k < width)
    → sum_to width (λ k. payoff_of side lp k *ℤ y k)
    ≡ sum_to (length g.nodes) (λ n. leaf_amount side (slice_get g.nodes n) *ℤ at (column_at p n) y)
paid_by_leaves g p lp pays side width y inside =
    let amount : ℕ → ℤ = λ n. leaf_amount side (slice_get g.nodes n) in
    let term : ℕ → ℕ → ℤ = λ k n. amount n *ℤ (unit (column_at p n) k *ℤ y k) in
    sum_to-same width _ _ (λ k low. ap (λ (z : ℤ). z *ℤ y k) (pays.each side k)
    ∙ sym (sum_to-scale_right (length g.nodes) (y k) (λ n. paid_in p side k n (slice_get g.nodes n)))
    ∙ sum_to-same (length g.nodes) _ _ (λ n h.
    ap (λ (z : ℤ). z *ℤ y k) (paid_times p side k n (slice_get g.nodes n)) ∙ regrouped (amount n) (unit (column_at p n) k) (y k)))
    ∙ sum_to-exchange width (length g.nodes) term
    ∙ sum_to-same (length g.nodes) _ _ (λ n h. sum_to-scale width (amount n) (λ k. unit (column_at p n) k *ℤ y k)
    ∙ ap (λ (z : ℤ). amount n *ℤ z) (unit_product width (column_at p n) y (λ k e. inside n k h e)))
