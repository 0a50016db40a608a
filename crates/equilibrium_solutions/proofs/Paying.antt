-- What numbers pay that are a list's column sums is what following the list pays, leaf by leaf.
use Rattle.std.proofs.Common.{◌≡◌, ℕ, ◌<◌, Bool, true, false, ◌&&◌, cond, List, [], ◌∷◌, length}
use Rattle.std.proofs.Common.{slice_get, ℤ, pos, ◌+ℤ◌, ◌*ℤ◌, sym, ap, ap₂, ◌∙◌, arith}
use Rattle.exact_algebra.specs.Sums.{sum_over, sum_to}
use Rattle.exact_algebra.proofs.RingLaws.{*ℤ-zero}
use Rattle.exact_algebra.proofs.RingTactic.{linear, ring_laws}
use Rattle.exact_algebra.proofs.Sums.{sum_to-add, sum_to-nothing, sum_to-same, sum_to-scale}
use Rattle.corr_game.specs.declared.nodes.SetId.{SetId}
use Rattle.corr_game.specs.declared.sides.Side.{Side}
use Rattle.corr_game.specs.declared.sides.Side.TheVariants.{One, Two}
use Rattle.corr_game.specs.Game.{GameView, IsGame}
use Rattle.connected_pairs.specs.Connected.{PairsView}
use Rattle.lp_form.specs.Program.{LpView, payoff_of}
use Rattle.lp_form.specs.Solutions.{paid}
use Rattle.equilibrium.specs.Deviation.{following}
use Rattle.equilibrium.specs.Distribution.{Entry}
use Rattle.equilibrium.specs.Leaves.{AreOwn, leaf_amount, names_all}
use Rattle.equilibrium.proofs.LeafSums.{leaves_paid}
use Rattle.plan_polytope.specs.Payoffs.{column_at}
use Rattle.plan_polytope.proofs.Units.{at}
use Rattle.equilibrium_solutions.proofs.ListGains.{played}

abbrev Moves : Type 0
Moves = List (SetId × ℕ)

taken : (w a rest : ℤ) → w *ℤ a +ℤ a *ℤ rest ≡ a *ℤ (w +ℤ rest)
taken w a rest = simp ring_laws (omega (arith, linear))

left_out : (w a rest : ℤ) → w *ℤ pos 0 +ℤ a *ℤ rest ≡ a *ℤ (pos 0 +ℤ rest)
left_out w a rest = simp ring_laws (omega (arith, linear))

weighed : (t : Bool) (w a rest : ℤ) → w *ℤ cond t a (pos 0) +ℤ a *ℤ rest ≡ a *ℤ (cond t w (pos 0) +ℤ rest)
weighed true w a rest = taken w a rest
weighed false w a rest = left_out w a rest

module _ (g : GameView) (rules : IsGame g) (side : Side) (one two : ℕ → Moves) (own_one : AreOwn One g one) (own_two : AreOwn Two g two) where
  abbrev amount : ℕ → ℤ
  amount n = leaf_amount side (slice_get g.nodes n)

  pub following_by_leaves : (list : List Entry)
      → following side g list ≡ sum_to (length g.nodes) (λ n. amount n *ℤ played One one two list n)
  unfolding sum_over
  following_by_leaves [] = sym (sum_to-nothing (length g.nodes) _ (λ n h. *ℤ-zero (amount n)))
  following_by_leaves (e ∷ list) =
      let there : ℕ → Bool = λ n. names_all e.one (one n) && names_all e.two (two n) in
      ap₂ (λ (a b : ℤ). a +ℤ b)
      (ap (λ (z : ℤ). pos e.weight *ℤ z) (leaves_paid side g rules one two own_one own_two e.one e.two)
      ∙ sym (sum_to-scale (length g.nodes) (pos e.weight) (λ n. cond (there n) (amount n) (pos 0))))
      (following_by_leaves list)
      ∙ sym (sum_to-add (length g.nodes) _ _)
      ∙ sum_to-same (length g.nodes) _ _ (λ n h. weighed (there n) (pos e.weight) (amount n) (played One one two list n))

  -- what numbers with these sums pay over any width that has the columns of the pairs
  pub paid_is_following : (p : PairsView) (list : List Entry) (lp : LpView) (width : ℕ) (y : ℕ → ℤ)
      → sum_to width (λ k. payoff_of side lp k *ℤ y k)
      ≡ sum_to (length g.nodes) (λ n. amount n *ℤ at (column_at p n) y)
      → ((n : ℕ) → n < length g.nodes → played One one two list n ≡ at (column_at p n) y)
      → sum_to width (λ k. payoff_of side lp k *ℤ y k) ≡ following side g list
  paid_is_following p list lp width y paid same =
      paid ∙ sum_to-same (length g.nodes) _ _ (λ n h. ap (λ (z : ℤ). amount n *ℤ z) (sym (same n h))) ∙ sym (following_by_leaves list)
