-- What a player gains by leaving at a trigger in one pair of plans, leaf by leaf: plans pay what the leaves pay whose moves they name, and
-- which moves are named besides and no more is known.
use Rattle.std.proofs.Common.{◌≡◌, ℕ, ◌<◌, Bool, true, false, ◌&&◌, cond, List, length, Option, slice_get, ℤ, pos, ◌-ℤ◌, ◌*ℤ◌}
use Rattle.std.proofs.Common.{refl, sym, ap, ap₂, ◌∙◌}
use Rattle.exact_algebra.specs.Sums.{sum_to}
use Rattle.exact_algebra.proofs.RingLaws.{*ℤ-difference, *ℤ-one, *ℤ-zero}
use Rattle.exact_algebra.proofs.Sums.{sum_to-difference, sum_to-same}
use Rattle.corr_game.specs.declared.nodes.SetId.{SetId}
use Rattle.corr_game.specs.declared.sides.Side.{Side}
use Rattle.corr_game.specs.declared.sides.Side.TheVariants.{One, Two}
use Rattle.corr_game.specs.Game.{GameView, IsGame, sets_of}
use Rattle.corr_game.specs.Plan.{plan_of}
use Rattle.corr_game.specs.Walk.{walk}
use Rattle.tree_recall.specs.OwnSequence.{HasRecall}
use Rattle.connected_pairs.specs.Table.{other}
use Rattle.equilibrium.specs.declared.triggers.Trigger.{Trigger}
use Rattle.equilibrium.specs.Deviation.{deviated, deviated_pay, meets}
use Rattle.equilibrium.specs.Distribution.{Entry, IsEntry, pay}
use Rattle.equilibrium.specs.Leaves.{AreOwn, leaf_amount, names_all}
use Rattle.equilibrium.proofs.LeafSums.{leaves_paid}
use Rattle.equilibrium_solutions.specs.Departure.{has_followed}
use Rattle.equilibrium_solutions.proofs.PlanMoves.{action_of, moves_of_deviated, one_if, taken, top_of}

abbrev Plan : Type 0
Plan = List (Option ℕ)

abbrev Moves : Type 0
Moves = List (SetId × ℕ)

-- what a player gets where this player and the other one play these plans
abbrev pub walk_of : Side → GameView → Plan → Plan → ℤ
walk_of One g own others = walk One g own others 0
walk_of Two g own others = walk Two g others own 0

pub and_swapped : (a b : Bool) → (a && b) ≡ (b && a)
and_swapped true true = refl
and_swapped true false = refl
and_swapped false true = refl
and_swapped false false = refl

no_times : (a z : ℤ) → a *ℤ (z *ℤ pos 0) ≡ pos 0
no_times a z = ap (λ (x : ℤ). a *ℤ x) (*ℤ-zero z) ∙ *ℤ-zero a

amount_if : (named others : Bool) (a : ℤ) → cond (named && others) a (pos 0) ≡ a *ℤ (one_if others *ℤ one_if named)
amount_if true true a = sym (*ℤ-one a)
amount_if true false a = sym (*ℤ-zero a)
amount_if false others a = sym (no_times a (one_if others))

amounts_left : (a o x y : ℤ) → a *ℤ (o *ℤ x) -ℤ a *ℤ (o *ℤ y) ≡ a *ℤ (o *ℤ (x -ℤ y))
amounts_left a o x y = sym (ap (λ (z : ℤ). a *ℤ z) (*ℤ-difference o x y) ∙ *ℤ-difference a (o *ℤ x) (o *ℤ y))

pub walk_by_leaves : (side : Side) (g : GameView) → IsGame g → (own others : ℕ → Moves) → AreOwn side g own → AreOwn (other side) g others
    → (plan against : Plan) → walk_of side g plan against ≡ sum_to (length g.nodes)
    (λ n. cond (names_all plan (own n) && names_all against (others n)) (leaf_amount side (slice_get g.nodes n)) (pos 0))
walk_by_leaves One g rules own others owns theirs plan against = leaves_paid One g rules own others owns theirs plan against
walk_by_leaves Two g rules own others owns theirs plan against =
    leaves_paid Two g rules others own theirs owns against plan
    ∙ sum_to-same (length g.nodes) _ _ (λ n low. ap (λ (b : Bool). cond b (leaf_amount Two (slice_get g.nodes n)) (pos 0))
    (and_swapped (names_all against (others n)) (names_all plan (own n))))

module _ (side : Side) (g : GameView) (rules : IsGame g) (recall : HasRecall g side) (own others : ℕ → Moves) (owns : AreOwn side g own)
    (theirs : AreOwn (other side) g others) (trigger : Trigger) (choice : List ℕ) where
  -- what leaving gains at a node, by the player's plan and the other one's
  abbrev pub leaf_gain : Plan → Plan → ℕ → ℤ
  leaf_gain plan against n =
      leaf_amount side (slice_get g.nodes n)
      *ℤ (one_if (names_all against (others n))
      *ℤ (one_if (meets side g trigger plan && taken side g (top_of trigger) choice (own n))
      -ℤ one_if (has_followed (top_of trigger) (action_of trigger) (own n) && names_all plan (own n))))

  -- what a node pays where these plans name the moves to it
  abbrev leaf_paid : Plan → Plan → ℕ → ℤ
  leaf_paid plan against n = cond (names_all plan (own n) && names_all against (others n)) (leaf_amount side (slice_get g.nodes n)) (pos 0)

  gain_at : (plan against : Plan) → length plan ≡ length (sets_of side g) → (n : ℕ) → n < length g.nodes
      → leaf_paid (deviated side g trigger choice plan) against n -ℤ leaf_paid plan against n
      ≡ leaf_gain plan against n
  gain_at plan against whole n low =
      let amount = leaf_amount side (slice_get g.nodes n) in
      let theirs_named = names_all against (others n) in
      let new = names_all (deviated side g trigger choice plan) (own n) in
      let old = names_all plan (own n) in
      ap₂ (λ (x y : ℤ). x -ℤ y) (amount_if new theirs_named amount) (amount_if old theirs_named amount)
      ∙ amounts_left amount (one_if theirs_named) (one_if new) (one_if old)
      ∙ ap (λ (x : ℤ). amount *ℤ (one_if theirs_named *ℤ x))
      (moves_of_deviated side g rules recall trigger choice plan whole n (own n) (owns.each n low))

  pub gains_of_plans : (plan against : Plan) → length plan ≡ length (sets_of side g)
      → walk_of side g (deviated side g trigger choice plan) against -ℤ walk_of side g plan against
      ≡ sum_to (length g.nodes) (leaf_gain plan against)
  gains_of_plans plan against whole =
      let by_leaves = walk_by_leaves side g rules own others owns theirs in
      ap₂ (λ (x y : ℤ). x -ℤ y) (by_leaves (deviated side g trigger choice plan) against) (by_leaves plan against)
      ∙ sym (sum_to-difference (length g.nodes) _ _)
      ∙ sum_to-same (length g.nodes) _ _ (λ n low. gain_at plan against whole n low)

-- what leaving gains in an entry
pub gains_of_entry : (side : Side) (g : GameView) → IsGame g → HasRecall g side → (own others : ℕ → Moves) → AreOwn side g own
    → AreOwn (other side) g others → (trigger : Trigger) (choice : List ℕ) (entry : Entry) → IsEntry g entry
    → deviated_pay side g trigger choice entry -ℤ pay side g entry
    ≡ sum_to (length g.nodes) (λ n. leaf_amount side (slice_get g.nodes n)
    *ℤ (one_if (names_all (plan_of (other side) entry.one entry.two) (others n))
    *ℤ (one_if (meets side g trigger (plan_of side entry.one entry.two) && taken side g (top_of trigger) choice (own n))
    -ℤ one_if (has_followed (top_of trigger) (action_of trigger) (own n) && names_all (plan_of side entry.one entry.two) (own n)))))
gains_of_entry One g rules recall own others owns theirs trigger choice entry is =
    gains_of_plans One g rules recall own others owns theirs trigger choice entry.one entry.two is.one.is_plan.per_set
gains_of_entry Two g rules recall own others owns theirs trigger choice entry is =
    gains_of_plans Two g rules recall own others owns theirs trigger choice entry.two entry.one is.two.is_plan.per_set
