-- A plan that names nothing is a plan of the game, and so is one with an action more that is its set's.
use Rattle.std.proofs.Common.{◌≡◌, ℕ, ◌<◌, List, Option, Some, None, length, replicate, set, slice_get, get_or, sym, ap, ◌∙◌, inl, inr, arith}
use Rattle.std.proofs.lemmas.Bool.{cases_eq}
use Rattle.std.proofs.lemmas.List.{length-set, length-replicate, get_or-replicate, get_or-set_same, get_or-set_other}
use Rattle.std.proofs.lemmas.Option.{slice_get_within, get_or_from_slice_get, slice_get-get_or}
use Rattle.corr_game.specs.declared.sides.Side.{Side}
use Rattle.corr_game.specs.Game.{GameView, sets_of}
use Rattle.corr_game.specs.Plan.{IsPlan}
use Rattle.plan_decompose.specs.Walk.{IsActionOf}

-- an entry is none, so it names no action
pub nothing_named : (n k action : ℕ) → slice_get (replicate {A = Option ℕ} n None) k ≡ Some (Some action) → ⊥
nothing_named n k action e =
    let none : Option ℕ = None in
    let plan : List (Option ℕ) = replicate n none in
    let low = slice_get_within plan k (Some action) e in
    let here : get_or plan k None ≡ Some action = get_or_from_slice_get plan k (Some action) None e in
    let there : get_or plan k None ≡ None = get_or-replicate n k None None (omega (arith, length-replicate n none)) in
    cc

pub no_choice : (side : Side) (g : GameView) (n : ℕ) (plan : List (Option ℕ)) → plan ≡ replicate n None → n ≡ length (sets_of side g) → IsPlan side g plan
no_choice side g n plan e count = rw e (record {
  per_set = length-replicate n None ∙ count;
  in_range = λ k action info h i. absurd (nothing_named n k action h);
})

pub one_choice_more : (side : Side) (g : GameView) (plan : List (Option ℕ)) (at action : ℕ) → IsPlan side g plan → at < length (sets_of side g) → IsActionOf side g at action
    → IsPlan side g (set plan at (Some action))
one_choice_more side g plan at action p low named = record {
  per_set = length-set plan at (Some action) ∙ p.per_set;
  in_range = λ k other info h i. elim (cases_eq k at) [
    | inl same ↦
        let there : get_or (set plan at (Some action)) at None ≡ Some action = get_or-set_same plan at (Some action) None (omega (arith, p.per_set)) in
        let here : get_or (set plan at (Some action)) k None ≡ Some other = get_or_from_slice_get (set plan at (Some action)) k (Some other) None h in
        let one : get_or (set plan at (Some action)) k None ≡ Some action = rw same there in
        let equal : action ≡ other = cc in
        rw (← equal) (named info (rw same at i))
    | inr apart ↦
        let room : k < length plan = omega (arith, slice_get_within (set plan at (Some action)) k (Some other) h, length-set plan at (Some action)) in
        let here = get_or_from_slice_get (set plan at (Some action)) k (Some other) None h in
        let old = get_or-set_other plan at k (Some action) None apart in
        p.in_range k other info (slice_get-get_or plan k None room ∙ ap Some (sym old ∙ here)) i
  ];
}
