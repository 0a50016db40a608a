-- A reduced plan that leads to a set names one action there. So a deviation at a set that is reached gains what the deviations at its
-- recommended actions gain together.
use Rattle.std.proofs.Common.{◌≡◌, ◌≢◌, ℕ, zero, suc, ◌<◌, Bool, true, false, nat_eq, cond, List, [], ◌∷◌, length, Option, Some}
use Rattle.std.proofs.Common.{None, slice_get, ℤ, pos, ◌+ℤ◌, ◌-ℤ◌, ◌*ℤ◌, ◌≤ℤ◌, refl, sym, ap, ◌∙◌, arith}
use Rattle.std.proofs.lemmas.Int.{ints}
use Rattle.std.proofs.lemmas.Bool.Decides.{nat_tests}
use Rattle.exact_algebra.specs.Sums.{sum_to}
use Rattle.exact_algebra.proofs.RingLaws.{zero-*ℤ, one-*ℤ}
use Rattle.exact_algebra.proofs.Sums.{sum_to-nothing, sum_to-one}
use Rattle.exact_algebra.proofs.SumOrder.{sum_to_at_most}
use Rattle.corr_game.specs.declared.nodes.SetId.{SetId}
use Rattle.corr_game.specs.declared.nodes.SetInfo.{SetInfo}
use Rattle.corr_game.specs.declared.notions.Notion.TheVariants.{Efce, Efcce}
use Rattle.corr_game.specs.declared.sides.Side.{Side}
use Rattle.corr_game.specs.declared.sides.Side.TheVariants.{One, Two}
use Rattle.corr_game.specs.Game.{GameView, scale_of, sets_of}
use Rattle.corr_game.specs.Walk.{walk}
use Rattle.equilibrium.specs.declared.triggers.Trigger.{Trigger}
use Rattle.equilibrium.specs.declared.triggers.Trigger.TheVariants.{Told, Reached, Start}
use Rattle.equilibrium.specs.Deviation.{IsTriggerOf, deviated, deviated_pay, following, leaving}
use Rattle.equilibrium.specs.Distribution.{Entry, IsEntry, pay, total}
use Rattle.equilibrium.specs.Equilibrium.{GainsNoMore, IsEquilibriumList, no_slack}
use Rattle.equilibrium.specs.FullChoice.{IsFullChoice, graft}
use Rattle.equilibrium.specs.Reach.{leads}
use Rattle.equilibrium.specs.ReducedPlan.{IsReduced, names_some}
use Rattle.equilibrium.proofs.Splitting.{gains_split}

abbrev Plan : Type 0
Plan = List (Option ℕ)

-- an entry that names some action names one
pub named_one : (entry : Option (Option ℕ)) → names_some entry ≡ true → (action : ℕ) × (entry ≡ Some (Some action))
named_one None h = absurd (cc)
named_one (Some None) h = absurd (cc)
named_one (Some (Some action)) h = (action, refl)

same_number : (a : ℕ) → nat_eq a a ≡ true
same_number a = grind (arith, nat_tests)

other_number : (a b : ℕ) → b ≢ a → nat_eq a b ≡ false
other_number a b apart = grind (arith, nat_tests)

nothing_left : (a : ℤ) → a -ℤ a ≡ pos 0
nothing_left a = omega (arith, ints)

-- of a set's actions the plan names one, so the deviations told the others aren't met
told_once : (f : Plan → ℤ) (plan new : Plan) (n named : ℕ) → named < n
    → sum_to n (λ a. f (cond (nat_eq named a) new plan) -ℤ f plan) ≡ f new -ℤ f plan
told_once f plan new n named inside =
    let term = λ (a : ℕ). f (cond (nat_eq named a) new plan) -ℤ f plan in
    let here : term named ≡ f new -ℤ f plan = ap (λ (b : Bool). f (cond b new plan) -ℤ f plan) (same_number named) in
    let others : (a : ℕ) → a < n → a ≢ named → term a ≡ pos 0 =
    λ a h apart. ap (λ (b : Bool). f (cond b new plan) -ℤ f plan) (other_number named a apart) ∙ nothing_left (f plan) in
    sum_to-one n named term inside others ∙ here

info_at : (sets : List SetInfo) (k : ℕ) → k < length sets → (info : SetInfo) × (slice_get sets k ≡ Some info)
info_at [] k h = absurd (omega arith)
info_at (info ∷ sets) zero h = (info, refl)
info_at (info ∷ sets) (suc k) h = info_at sets k (omega arith)

-- what a number of plans gains by a deviation at a set is what it gains at the set's actions together
plan_split : (f : Plan → ℤ) (side : Side) (g : GameView) (set : SetId) (info : SetInfo) (choice : List ℕ) (plan : Plan)
    → IsReduced side g plan
    → slice_get (sets_of side g) set.0 ≡ Some info → set.0 < length (sets_of side g) → (led : Bool) → leads side g plan set.0 ≡ led
    → f (deviated side g (Reached set) choice plan) -ℤ f plan ≡ sum_to info.actions
    (λ a. f (deviated side g (Told set a) choice plan) -ℤ f plan)
plan_split f side g set info choice plan reduced there low false e =
    let nothing = nothing_left (f plan) in
    rw e (nothing ∙ sym (sum_to-nothing info.actions _ (λ a h. nothing)))
plan_split f side g set info choice plan reduced there low true e =
    let named = named_one (slice_get plan set.0) (reduced.where_led set.0 low ∙ e) in
    let inside : named.0 < info.actions = reduced.is_plan.in_range set.0 named.0 info named.1 there in
    rw (e, named.1) (sym (told_once f plan (graft side g set.0 choice plan) info.actions named.0 inside))

entry_split : (side : Side) (g : GameView) (set : SetId) (info : SetInfo) (choice : List ℕ) (entry : Entry) → IsEntry g entry
    → slice_get (sets_of side g) set.0 ≡ Some info → set.0 < length (sets_of side g)
    → deviated_pay side g (Reached set) choice entry -ℤ pay side g entry ≡ sum_to info.actions
    (λ a. deviated_pay side g (Told set a) choice entry -ℤ pay side g entry)
entry_split One g set info choice entry is there low = plan_split
    (λ plan. walk One g plan entry.two 0) One g set info choice entry.one is.one there low _ refl
entry_split Two g set info choice entry is there low = plan_split
    (λ plan. walk Two g entry.one plan 0) Two g set info choice entry.two is.two there low _ refl

-- without a slack to gain no more is not to get more
pub no_more : (l f s t : ℤ) → (pos 1 *ℤ l) ≤ℤ (pos 1 *ℤ f +ℤ pos 0 *ℤ s *ℤ t) → l ≤ℤ f
no_more l f s t h = omega (arith, ints, rw (zero-*ℤ s, zero-*ℤ t, one-*ℤ l, one-*ℤ f) at h)

pub no_more_back : (l f s t : ℤ) → l ≤ℤ f → (pos 1 *ℤ l) ≤ℤ (pos 1 *ℤ f +ℤ pos 0 *ℤ s *ℤ t)
no_more_back l f s t h = rw (zero-*ℤ s, zero-*ℤ t, one-*ℤ l, one-*ℤ f) (omega (arith, ints))

pub no_gain : (l f : ℤ) → l ≤ℤ f → (l -ℤ f) ≤ℤ pos 0
no_gain l f h = omega (arith, ints)

pub no_gain_together : (l f s z : ℤ) → l -ℤ f ≡ s → s ≤ℤ z → z ≡ pos 0 → l ≤ℤ f
no_gain_together l f s z split most none = omega (arith, ints)

reached_none : (side : Side) (g : GameView) (list : List Entry) → IsEquilibriumList Efce g no_slack list
    → (trigger : Trigger) (choice : List ℕ)
    → IsTriggerOf Efcce g side trigger → IsFullChoice side g choice → GainsNoMore side g no_slack list trigger choice
reached_none side g list eq (Told set action) choice is full = absurd is
reached_none side g list eq Start choice is full = absurd is
reached_none side g list eq (Reached set) choice is full =
    let info = info_at (sets_of side g) set.0 is in
    let f = following side g list in
    let split = gains_split info.0.actions (λ (e : Entry). pos e.weight) (pay side g) (deviated_pay side g (Reached set) choice)
    (λ (a : ℕ). deviated_pay side g (Told set a) choice) list
    (λ k d h. entry_split side g set info.0 choice _ (eq.entries k d h) info.1 is) in
    let each : (a : ℕ) → a < info.0.actions → (leaving side g (Told set a) choice list -ℤ f) ≤ℤ pos 0 =
    λ a h. no_gain _ f (no_more (leaving side g (Told set a) choice list) f (scale_of side g) (total list)
    (eq.none_improves side (Told set a) choice (info.0, info.1, h) full)) in
    let most = sum_to_at_most info.0.actions (λ (a : ℕ). leaving side g (Told set a) choice list -ℤ f) (λ a. pos 0) each in
    let none = sum_to-nothing info.0.actions (λ a. pos 0) (λ a h. refl) in
    no_more_back (leaving side g (Reached set) choice list) f (scale_of side g) (total list) (no_gain_together _ f _ _ split most none)

pub told_reached : (g : GameView) (list : List Entry) → IsEquilibriumList Efce g no_slack list → IsEquilibriumList Efcce g no_slack list
told_reached g list eq = record {
  entries = eq.entries;
  some_weight = eq.some_weight;
  none_improves = λ side trigger choice is full. reached_none side g list eq trigger choice is full;
}
