-- What a player gains by leaving at a trigger in a list of weighted pairs of plans, leaf by leaf, by induction on the list: at a leaf to
-- which the choice comes the entries count that meet the trigger, and no more those that came there by following it.
use Rattle.std.proofs.Common.{◌≡◌, ◌↔◌, ℕ, Bool, true, false, ◌&&◌, cond, List, [], ◌∷◌, All, length, slice_get}
use Rattle.std.proofs.Common.{ℤ, pos, ◌+ℤ◌, ◌-ℤ◌, ◌*ℤ◌, ◌≤ℤ◌, refl, sym, ap, ap₂, ◌∙◌, arith}
use Rattle.std.proofs.lemmas.Int.{ints}
use Rattle.std.proofs.lemmas.List.Elements.{All-head, All-tail}
use Rattle.exact_algebra.specs.Sums.{sum_over, sum_to}
use Rattle.exact_algebra.proofs.RingLaws.{*ℤ-difference, *ℤ-one, *ℤ-zero}
use Rattle.exact_algebra.proofs.RingTactic.{ring_laws, linear}
use Rattle.exact_algebra.proofs.Sums.{sum_to-add, sum_to-difference, sum_to-nothing, sum_to-same, sum_to-scale}
use Rattle.corr_game.specs.declared.nodes.SetId.{SetId}
use Rattle.corr_game.specs.declared.sides.Side.{Side}
use Rattle.corr_game.specs.Game.{GameView, IsGame, scale_of}
use Rattle.corr_game.specs.Plan.{plan_of}
use Rattle.tree_recall.specs.OwnSequence.{HasRecall}
use Rattle.connected_pairs.specs.Table.{other}
use Rattle.equilibrium.specs.declared.triggers.Trigger.{Trigger}
use Rattle.equilibrium.specs.Deviation.{deviated_pay, following, leaving, meets}
use Rattle.equilibrium.specs.Distribution.{Entry, IsEntry, pay, total}
use Rattle.equilibrium.specs.Equilibrium.{GainsNoMore, no_slack}
use Rattle.equilibrium.specs.Leaves.{leaf_amount, names_all}
use Rattle.equilibrium.proofs.Nesting.{no_more, no_more_back}
use Rattle.equilibrium_solutions.specs.Departure.{OwnSequences, has_followed}
use Rattle.equilibrium_solutions.proofs.LeafGains.{and_swapped, gains_of_entry}
use Rattle.equilibrium_solutions.proofs.PlanMoves.{action_of, one_if, taken, top_of}

abbrev Moves : Type 0
Moves = List (SetId × ℕ)

-- the weight of an entry that meets a trigger, where the other player's plan names the moves to a node
abbrev pub met_in : Side → GameView → Trigger → (ℕ → Moves) → ℕ → Entry → ℤ
met_in side g trigger others n e =
    cond (meets side g trigger (plan_of side e.one e.two) && names_all (plan_of (other side) e.one e.two) (others n)) (pos e.weight) (pos 0)

-- the weight of an entry whose plans name the moves to a node
abbrev pub played_in : Side → (ℕ → Moves) → (ℕ → Moves) → ℕ → Entry → ℤ
played_in side own others n e =
    cond (names_all (plan_of side e.one e.two) (own n) && names_all (plan_of (other side) e.one e.two) (others n)) (pos e.weight) (pos 0)

-- the same of a list
abbrev pub met : Side → GameView → Trigger → (ℕ → Moves) → List Entry → ℕ → ℤ
met side g trigger others list n = sum_over (λ e. met_in side g trigger others n e) list

abbrev pub played : Side → (ℕ → Moves) → (ℕ → Moves) → List Entry → ℕ → ℤ
played side own others list n = sum_over (λ e. played_in side own others n e) list

-- ---- sums of parts

weight_if : (o met taken : Bool) (w : ℤ) → w *ℤ (one_if o *ℤ one_if (met && taken)) ≡ cond taken (cond (met && o) w (pos 0)) (pos 0)
weight_if true true true w = *ℤ-one w
weight_if false true true w = *ℤ-zero w
weight_if true true false w = *ℤ-zero w
weight_if false true false w = *ℤ-zero w
weight_if true false true w = *ℤ-zero w
weight_if false false true w = *ℤ-zero w
weight_if true false false w = *ℤ-zero w
weight_if false false false w = *ℤ-zero w

spread : (w a o x y : ℤ) → w *ℤ (a *ℤ (o *ℤ (x -ℤ y))) ≡ a *ℤ (w *ℤ (o *ℤ x) -ℤ w *ℤ (o *ℤ y))
spread w a o x y = simp ring_laws (omega (arith, linear))

weighed : (o met taken followed named : Bool) (w a : ℤ)
    → w *ℤ (a *ℤ (one_if o *ℤ (one_if (met && taken) -ℤ one_if (followed && named))))
    ≡ a *ℤ (cond taken (cond (met && o) w (pos 0)) (pos 0) -ℤ cond followed (cond (named && o) w (pos 0)) (pos 0))
weighed o met taken followed named w a =
    spread w a (one_if o) (one_if (met && taken)) (one_if (followed && named))
    ∙ ap₂ (λ (x y : ℤ). a *ℤ (x -ℤ y)) (weight_if o met taken w)
    (ap (λ (b : Bool). w *ℤ (one_if o *ℤ one_if b)) (and_swapped followed named) ∙ weight_if o named followed w)

both_if : (test : Bool) (x y : ℤ) → cond test x (pos 0) +ℤ cond test y (pos 0) ≡ cond test (x +ℤ y) (pos 0)
both_if true x y = refl
both_if false x y = refl

parts_added : (a t f u h : ℤ) → a *ℤ (t -ℤ f) +ℤ a *ℤ (u -ℤ h) ≡ a *ℤ ((t +ℤ u) -ℤ (f +ℤ h))
parts_added a t f u h = simp ring_laws (omega (arith, linear))

parts_together : (taken followed : Bool) (a m p x y : ℤ)
    → a *ℤ (cond taken m (pos 0) -ℤ cond followed p (pos 0)) +ℤ a *ℤ (cond taken x (pos 0) -ℤ cond followed y (pos 0))
    ≡ a *ℤ (cond taken (m +ℤ x) (pos 0) -ℤ cond followed (p +ℤ y) (pos 0))
parts_together taken followed a m p x y =
    parts_added a (cond taken m (pos 0)) (cond followed p (pos 0)) (cond taken x (pos 0)) (cond followed y (pos 0))
    ∙ ap₂ (λ (s t : ℤ). a *ℤ (s -ℤ t)) (both_if taken m x) (both_if followed p y)

no_parts : (taken followed : Bool) (a : ℤ) → a *ℤ (cond taken (pos 0) (pos 0) -ℤ cond followed (pos 0) (pos 0)) ≡ pos 0
no_parts true true a = *ℤ-zero a
no_parts true false a = *ℤ-zero a
no_parts false true a = *ℤ-zero a
no_parts false false a = *ℤ-zero a

gathered : (x y s r : ℤ) → x +ℤ s -ℤ (y +ℤ r) ≡ (x -ℤ y) +ℤ (s -ℤ r)
gathered x y s r = omega (arith, ints)

apart : (taken followed : Bool) (a m p : ℤ)
    → a *ℤ (cond taken m (pos 0) -ℤ cond followed p (pos 0)) ≡ cond taken (a *ℤ m) (pos 0) -ℤ cond followed (a *ℤ p) (pos 0)
apart taken followed a m p =
    *ℤ-difference a (cond taken m (pos 0)) (cond followed p (pos 0)) ∙ ap₂ (λ (x y : ℤ). x -ℤ y) (inside taken m) (inside followed p)
  where
    inside : (test : Bool) (z : ℤ) → a *ℤ cond test z (pos 0) ≡ cond test (a *ℤ z) (pos 0)
    inside true z = refl
    inside false z = *ℤ-zero a

at_most : (l f x y : ℤ) → l -ℤ f ≡ x -ℤ y → l ≤ℤ f → x ≤ℤ y
at_most l f x y e h = omega (arith, ints)

at_most_back : (l f x y : ℤ) → l -ℤ f ≡ x -ℤ y → x ≤ℤ y → l ≤ℤ f
at_most_back l f x y e h = omega (arith, ints)

-- ---- gains

module _ (side : Side) (g : GameView) (rules : IsGame g) (recall : HasRecall g side) (own : OwnSequences side g)
    (others : OwnSequences (other side) g) (trigger : Trigger) (choice : List ℕ) where
  abbrev amount : ℕ → ℤ
  amount n = leaf_amount side (slice_get g.nodes n)

  -- a node's part: these entries where the choice comes to it, and no more those where it was come to by following the trigger
  abbrev part : ℕ → ℤ → ℤ → ℤ
  part n met_there played_there =
      amount n
      *ℤ (cond (taken side g (top_of trigger) choice (own.node n)) met_there (pos 0)
      -ℤ cond (has_followed (top_of trigger) (action_of trigger) (own.node n)) played_there (pos 0))

  entry_parts : (e : Entry) → IsEntry g e
      → pos e.weight *ℤ deviated_pay side g trigger choice e -ℤ pos e.weight *ℤ pay side g e
      ≡ sum_to (length g.nodes) (λ n. part n (met_in side g trigger others.node n e) (played_in side own.node others.node n e))
  entry_parts e is =
      sym (*ℤ-difference (pos e.weight) (deviated_pay side g trigger choice e) (pay side g e))
      ∙ ap (λ (z : ℤ). pos e.weight *ℤ z)
      (gains_of_entry side g rules recall own.node others.node own.each_node others.each_node trigger choice e is)
      ∙ sym (sum_to-scale (length g.nodes) (pos e.weight) _)
      ∙ sum_to-same (length g.nodes) _ _ (λ n low. weighed (names_all (plan_of (other side) e.one e.two) (others.node n))
      (meets side g trigger (plan_of side e.one e.two)) (taken side g (top_of trigger) choice (own.node n))
      (has_followed (top_of trigger) (action_of trigger) (own.node n)) (names_all (plan_of side e.one e.two) (own.node n))
      (pos e.weight) (amount n))

  -- What leaving gains over a list: at each leaf its amount, as often as entries meet the trigger where the choice comes there, and no more
  -- as often as entries play there where the trigger was followed.
  pub gains_by_leaves : (list : List Entry) → All (IsEntry g) list
      → leaving side g trigger choice list -ℤ following side g list
      ≡ sum_to (length g.nodes) (λ n. leaf_amount side (slice_get g.nodes n)
      *ℤ (cond (taken side g (top_of trigger) choice (own.node n)) (met side g trigger others.node list n) (pos 0)
      -ℤ cond (has_followed (top_of trigger) (action_of trigger) (own.node n)) (played side own.node others.node list n) (pos 0)))
  unfolding sum_over
  gains_by_leaves [] each = sym (sum_to-nothing (length g.nodes) _ (λ n low. no_parts (taken side g (top_of trigger) choice (own.node n))
      (has_followed (top_of trigger) (action_of trigger) (own.node n)) (amount n)))
  gains_by_leaves (e ∷ list) each =
      let first = entry_parts e (All-head (IsEntry g) e list each) in
      let rest = gains_by_leaves list (All-tail (IsEntry g) e list each) in
      let entry_part = λ (n : ℕ). part n (met_in side g trigger others.node n e) (played_in side own.node others.node n e) in
      let list_part = λ (n : ℕ). part n (met side g trigger others.node list n) (played side own.node others.node list n) in
      gathered (pos e.weight *ℤ deviated_pay side g trigger choice e) (pos e.weight *ℤ pay side g e) (leaving side g trigger choice list)
      (following side g list)
      ∙ ap₂ (λ (x y : ℤ). x +ℤ y) first rest
      ∙ sym (sum_to-add (length g.nodes) entry_part list_part)
      ∙ sum_to-same (length g.nodes) _ _ (λ n low. parts_together (taken side g (top_of trigger) choice (own.node n))
      (has_followed (top_of trigger) (action_of trigger) (own.node n)) (amount n) (met_in side g trigger others.node n e)
      (played_in side own.node others.node n e) (met side g trigger others.node list n) (played side own.node others.node list n))

  -- what those who leave get at the leaves to which the choice comes, and what those who follow get behind the trigger
  abbrev pub got_behind : List Entry → ℤ
  got_behind list = sum_to (length g.nodes) (λ n. cond (taken side g (top_of trigger) choice (own.node n))
      (leaf_amount side (slice_get g.nodes n) *ℤ met side g trigger others.node list n) (pos 0))

  abbrev pub followed_behind : List Entry → ℤ
  followed_behind list = sum_to (length g.nodes) (λ n. cond (has_followed (top_of trigger) (action_of trigger) (own.node n))
      (leaf_amount side (slice_get g.nodes n) *ℤ played side own.node others.node list n) (pos 0))

  pub gains_by_sums : (list : List Entry) → All (IsEntry g) list
      → leaving side g trigger choice list -ℤ following side g list ≡ got_behind list -ℤ followed_behind list
  gains_by_sums list each =
      gains_by_leaves list each
      ∙ sum_to-same (length g.nodes) _ _ (λ n low. apart (taken side g (top_of trigger) choice (own.node n))
      (has_followed (top_of trigger) (action_of trigger) (own.node n)) (amount n) (met side g trigger others.node list n)
      (played side own.node others.node list n))
      ∙ sum_to-difference (length g.nodes) _ _

  -- with no slack leaving gains no more exactly where what is got behind the trigger is at most what following gets there
  pub no_gain_where : (list : List Entry) → All (IsEntry g) list
      → GainsNoMore side g no_slack list trigger choice ↔ (got_behind list ≤ℤ followed_behind list)
  no_gain_where list each =
      let left = leaving side g trigger choice list in
      let stays = following side g list in
      let gain = gains_by_sums list each in (
        λ h. at_most left stays (got_behind list) (followed_behind list) gain (no_more left stays (scale_of side g) (total list) h),
        λ h.
            let none = at_most_back left stays (got_behind list) (followed_behind list) gain h in
            no_more_back left stays (scale_of side g) (total list) none,
      )
