-- What plans get that agree at each set, and reduced plans set by set.
use Rattle.std.proofs.Common.{◌≡◌, ◌↔◌, ℕ, ◌<◌, true, false, List, Option, Some, None, length, slice_get, refl, ◌∙◌}
use Rattle.std.proofs.lemmas.Option.{slice_get-get_or, slice_get_within}
use Rattle.corr_game.specs.declared.nodes.SetId.{SetId}
use Rattle.corr_game.specs.declared.nodes.SetInfo.{SetInfo}
use Rattle.corr_game.specs.declared.sides.Side.{Side}
use Rattle.corr_game.specs.declared.sides.Side.TheVariants.{One, Two}
use Rattle.corr_game.specs.Game.{GameView, IsGame, sets_of}
use Rattle.corr_game.specs.Plan.{plan_of}
use Rattle.tree_recall.specs.Tree.{set_of}
use Rattle.equilibrium.proofs.Agreeing.{AgreeFrom, pay_alike}
use Rattle.equilibrium.specs.declared.triggers.Trigger.{Trigger}
use Rattle.equilibrium.specs.Deviation.{deviated, deviated_pay}
use Rattle.equilibrium.specs.Distribution.{Entry, pay}
use Rattle.equilibrium.proofs.LeafSums.{leaves_paid}
use Rattle.equilibrium.specs.Leaves.{AreOwn, leaves_pay}
use Rattle.equilibrium.specs.Reach.{leads}
use Rattle.equilibrium.specs.ReducedPlan.{IsReduced, names_some}
use Rattle.plain_programs.specs.PaidWith.{paid_with}
use Rattle.plain_programs.specs.ReducedAt.{IsReducedAt}

abbrev Plan : Type 0
Plan = List (Option ℕ)

abbrev Moves : Type 0
Moves = List (SetId × ℕ)

pub follows : (side : Side) (g : GameView) (entry : Entry) → paid_with side g (plan_of side entry.one entry.two) entry ≡ pay side g entry
follows One g entry = refl
follows Two g entry = refl

pub leaves : (side : Side) (g : GameView) (trigger : Trigger) (choice : List ℕ) (entry : Entry)
    → paid_with side g (deviated side g trigger choice (plan_of side entry.one entry.two)) entry
    ≡ deviated_pay side g trigger choice entry
leaves One g trigger choice entry = refl
leaves Two g trigger choice entry = refl

pub leaves_one : (g : GameView) (first second : ℕ → Moves) (plan : Plan) (entry : Entry) → IsGame g → AreOwn One g first
    → AreOwn Two g second → paid_with One g plan entry ≡ leaves_pay One g first second plan entry.two
leaves_one g first second plan entry rules a b = leaves_paid One g rules first second a b plan entry.two

pub leaves_two : (g : GameView) (first second : ℕ → Moves) (plan : Plan) (entry : Entry) → IsGame g → AreOwn One g first
    → AreOwn Two g second → paid_with Two g plan entry ≡ leaves_pay Two g first second entry.one plan
leaves_two g first second plan entry rules a b = leaves_paid Two g rules first second a b entry.one plan

pub get_alike : (side : Side) (g : GameView) (plan other : Plan) (entry : Entry) → IsGame g
    → ((n set : ℕ) → set_of g side n ≡ Some set → slice_get plan set ≡ slice_get other set)
    → paid_with side g plan entry ≡ paid_with side g other entry
get_alike One g plan other entry rules same = pay_alike One g rules plan entry.two other entry.two 0 rules.has_root agree
  where
    agree : AgreeFrom g 0 plan entry.two other entry.two
    agree One m set from at = same m set at
    agree Two m set from at = refl
get_alike Two g plan other entry rules same = pay_alike Two g rules entry.one plan entry.one other 0 rules.has_root agree
  where
    agree : AgreeFrom g 0 entry.one plan entry.one other
    agree One m set from at = refl
    agree Two m set from at = same m set at

pub set_by_set : (side : Side) (g : GameView) (plan : Plan) → IsReduced side g plan
    ↔ ((length plan ≡ length (sets_of side g)) × ((set : ℕ) → set < length (sets_of side g) → IsReducedAt side g plan set))
set_by_set side g plan = (
  λ reduced. (
    reduced.is_plan.per_set,
    λ set low. record {
      in_range = λ action info named at. reduced.is_plan.in_range set action info named at;
      where_led = reduced.where_led set low;
    },
  ),
  λ each. record {
    is_plan = record {
      per_set = each.0;
      in_range = λ set action info named at. (each.1 set (slice_get_within (sets_of side g) set info at)).in_range action info named at;
    };
    where_led = λ set low. (each.1 set low).where_led;
  },
)

some_named : (entry : Option (Option ℕ)) → names_some entry ≡ true → (action : ℕ) × (entry ≡ Some (Some action))
some_named None e = absurd (cc)
some_named (Some None) e = absurd (cc)
some_named (Some (Some action)) e = (action, refl)

none_named : (entry : Option (Option ℕ)) (there : Option ℕ) → names_some entry ≡ false → entry ≡ Some there → entry ≡ Some None
none_named None there e f = absurd (cc)
none_named (Some None) there e f = refl
none_named (Some (Some action)) there e f = absurd (cc)

pub named_where_led : (side : Side) (g : GameView) (plan : Plan) (set : ℕ) (info : SetInfo) → IsReducedAt side g plan set
    → slice_get (sets_of side g) set ≡ Some info → leads side g plan set ≡ true
    → (action : ℕ) × (slice_get plan set ≡ Some (Some action)) × (action < info.actions)
named_where_led side g plan set info is at led =
    let named = some_named (slice_get plan set) (is.where_led ∙ led) in
    (named.0, named.1, is.in_range named.0 info named.1 at)

pub none_where_not_led : (side : Side) (g : GameView) (plan : Plan) (set : ℕ) → IsReducedAt side g plan set → set < length plan
    → leads side g plan set ≡ false → slice_get plan set ≡ Some None
none_where_not_led side g plan set is low led =
    none_named (slice_get plan set) _ (is.where_led ∙ led) (slice_get-get_or plan set None low)
