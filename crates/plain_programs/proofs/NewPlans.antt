-- A plan that is chosen anew at some sets is a plan, since a full choice names actions in range.
use Rattle.std.proofs.Common.{◌≡◌, ℕ, zero, suc, ◌+◌, ◌<◌, Bool, inl, inr, List, [], ◌∷◌, length, Option, Some, slice_get}
use Rattle.std.proofs.Common.{slice_index, refl, sym, ap, ◌∙◌, arith}
use Rattle.std.proofs.lemmas.Bool.{cases_Bool}
use Rattle.corr_game.specs.declared.sides.Side.{Side}
use Rattle.corr_game.specs.Game.{GameView}
use Rattle.corr_game.specs.Plan.{IsPlan}
use Rattle.equilibrium.specs.FullChoice.{IsFullChoice, chosen_anew}
use Rattle.equilibrium.proofs.Choosing.{chosen_there, kept_there}

length_anew : (anew : ℕ → Bool) (choice : List ℕ) (first : ℕ) (plan : List (Option ℕ))
    → length (chosen_anew anew choice first plan) ≡ length plan
length_anew anew choice first [] = refl
length_anew anew choice first (entry ∷ rest) = let more = length_anew anew choice (first + 1) rest in omega arith

action_at : (choice : List ℕ) (set : ℕ) → set < length choice → slice_get choice set ≡ Some (slice_index choice set)
action_at [] set h = absurd (omega arith)
action_at (action ∷ rest) zero h = refl
action_at (action ∷ rest) (suc set) h = action_at rest set (omega arith)

entry_inside : (plan : List (Option ℕ)) (set : ℕ) (entry : Option ℕ) → slice_get plan set ≡ Some entry → set < length plan
entry_inside [] set entry h = absurd (cc)
entry_inside (x ∷ xs) zero entry h = omega arith
entry_inside (x ∷ xs) (suc set) entry h = omega (arith, entry_inside xs set entry h)

same_action : (x y : ℕ) → Some (Some x) ≡ Some (Some y) → x ≡ y
same_action x y e = cc

pub anew_is_plan : (side : Side) (g : GameView) (anew : ℕ → Bool) (choice : List ℕ) (plan : List (Option ℕ)) → IsPlan side g plan
    → IsFullChoice side g choice → IsPlan side g (chosen_anew anew choice 0 plan)
anew_is_plan side g anew choice plan is full = record {
  per_set = length_anew anew choice 0 plan ∙ is.per_set;
  in_range = λ set action info e there. elim (cases_Bool (anew set)) [
    | inl new ↦
        let low : set < length plan = omega (arith, entry_inside _ set _ e, length_anew anew choice 0 plan) in
        let named = chosen_there anew choice 0 plan set set (omega arith) low new in
        let same : slice_index choice set ≡ action = same_action _ _ (sym named ∙ e) in
        let at = action_at choice set (omega (arith, full.per_set, is.per_set)) in
        full.in_range set action info (at ∙ ap (λ (x : ℕ). Some x) same) there
    | inr kept ↦ is.in_range set action info (sym (kept_there anew choice 0 plan set set (omega arith) kept) ∙ e) there
  ];
}
