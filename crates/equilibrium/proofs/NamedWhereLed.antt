-- A reduced plan names an action of the set's exactly where it leads, so where it plays an own sequence of the set.
use Rattle.std.proofs.Common.{◌≡◌, ◌↔◌, ℕ, zero, suc, ◌<◌, inl, inr, Bool, true, false, List, [], ◌∷◌}
use Rattle.std.proofs.Common.{length, Option, Some, None, slice_get}
use Rattle.std.proofs.Common.{refl, sym, ap, ◌∙◌, arith}
use Rattle.std.proofs.lemmas.Bool.{cases_Bool}
use Rattle.std.proofs.lemmas.Option.{slice_get_within}
use Rattle.corr_game.specs.declared.nodes.SetInfo.{SetInfo}
use Rattle.corr_game.specs.declared.sides.Side.{Side}
use Rattle.corr_game.specs.Game.{GameView, IsGame, sets_of}
use Rattle.equilibrium.specs.OwnSequence.{PlaysOwn}
use Rattle.equilibrium.specs.Reach.{leads}
use Rattle.equilibrium.specs.ReducedPlan.{IsReduced, names_some}
use Rattle.equilibrium.proofs.Descents.{leads_plays, plays_leads}
use Rattle.equilibrium.proofs.Nesting.{named_one}

abbrev Plan : Type 0
Plan = List (Option ℕ)

pub named_there : (side : Side) (g : GameView) → IsGame g → (plan : Plan) → IsReduced side g plan → (set : ℕ) (info : SetInfo)
    → slice_get (sets_of side g) set ≡ Some info
    → PlaysOwn side g plan set ↔ ((action : ℕ) × (slice_get plan set ≡ Some (Some action)) × (action < info.actions))
named_there side g rules plan reduced set info at =
    let low = slice_get_within (sets_of side g) set info at in (
      λ plays.
          let some = named_one (slice_get plan set) (reduced.where_led set low ∙ plays_leads side g rules plan set plays) in
          (some.0, some.1, reduced.is_plan.in_range set some.0 info some.1 at),
      λ named. leads_plays side g rules plan set (sym (reduced.where_led set low) ∙ ap names_some named.1),
    )

-- an entry that is there and names nothing
named_none : (plan : Plan) (set : ℕ) → set < length plan → names_some (slice_get plan set) ≡ false → slice_get plan set ≡ Some None
named_none [] set low h = absurd (omega arith)
named_none (None ∷ plan) zero low h = refl
named_none (Some action ∷ plan) zero low h = absurd (cc)
named_none (entry ∷ plan) (suc set) low h = named_none plan set (omega arith) h

apart : (b : Bool) → b ≡ true → b ≡ false → ⊥
apart b h k = cc

pub none_there : (side : Side) (g : GameView) → IsGame g → (plan : Plan) → IsReduced side g plan → (set : ℕ)
    → set < length (sets_of side g) → (PlaysOwn side g plan set → ⊥) ↔ (slice_get plan set ≡ Some None)
none_there side g rules plan reduced set low =
    let whole = reduced.is_plan.per_set in (
      λ never. elim (cases_Bool (leads side g plan set)) [
        | inl e ↦ absurd (never (leads_plays side g rules plan set e))
        | inr e ↦ named_none plan set (omega arith) (reduced.where_led set low ∙ e)
      ],
      λ none plays. apart (leads side g plan set) (plays_leads side g rules plan set plays)
          (sym (reduced.where_led set low) ∙ ap names_some none),
    )
