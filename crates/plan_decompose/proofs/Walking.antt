-- A choice at an open set keeps what the walk knows of its player. What the plan played it still plays, and it plays one
-- sequence more, which ends with the new move: a set before which another move stands was led to before.
use Rattle.std.proofs.Common.{◌≡◌, ◌⊎◌, ℕ, ◌+◌, ◌<◌, zero, suc, List, [], ◌∷◌, Option, Some, None, length, set, slice_get, get_or, cond, refl, sym, ap, ◌∙◌, inl, inr, arith}
use Rattle.std.proofs.lemmas.Bool.{cases_eq}
use Rattle.std.proofs.lemmas.List.Sums.{sum_by-set}
use Rattle.std.proofs.lemmas.Option.{slice_get_within, get_or_from_slice_get}
use Rattle.corr_game.specs.declared.nodes.SetId.{SetId}
use Rattle.sequences.specs.declared.places.Place.{Place}
use Rattle.sequences.specs.Number.{SideView, IsSide, Ends, Plays, nothing, further, last_of}
use Rattle.plan_decompose.specs.Walk.{is_none, unchosen}

pub set_same : {X : Type 0} (xs : List X) (i : ℕ) (y : X) → i < length xs → slice_get (set xs i y) i ≡ Some y
set_same [] i y h = absurd (omega arith)
set_same (x ∷ xs) zero y h = refl
set_same (x ∷ xs) (suc i) y h = set_same xs i y (omega arith)

pub set_other : {X : Type 0} (xs : List X) (i j : ℕ) (y : X) → (j ≡ i → ⊥) → slice_get (set xs i y) j ≡ slice_get xs j
set_other [] i j y h = refl
set_other (x ∷ xs) zero zero y h = absurd (h refl)
set_other (x ∷ xs) zero (suc j) y h = refl
set_other (x ∷ xs) (suc i) zero y h = refl
set_other (x ∷ xs) (suc i) (suc j) y h = set_other xs i j y (λ e. h (ap suc e))

-- one set less is without an action
pub one_chosen : (actions : List (Option ℕ)) (at action : ℕ) → slice_get actions at ≡ Some None → unchosen (set actions at (Some action)) + 1 ≡ unchosen actions
one_chosen actions at action e =
    let before : get_or actions at None ≡ None = get_or_from_slice_get actions at None None e in
    let f : Option ℕ → ℕ = λ x. cond (is_none x) 1 0 in
    omega (arith, rw before at (sum_by-set f actions at (Some action) None (slice_get_within actions at None e)))

-- the sequence that a move ends is the one with that last move
pub last_is : (v : SideView) → IsSide v → (move : SetId × ℕ) (seq : ℕ) → Ends v.places move seq → last_of v seq ≡ Some move
last_is v side move zero h = absurd (omega (arith, side.numbered.own_before move.0.0 h.0 h.1, h.3))
last_is v side move (suc k) h = side.numbered.each_move move k (h.0, h.1, h.2, omega (arith, h.3))

-- what a plan plays it plays with one action more
pub plays_more : (v : SideView) (plan : List (Option ℕ)) (at action : ℕ) → slice_get plan at ≡ Some None → (seq : ℕ) → Plays v plan seq → Plays v (set plan at (Some action)) seq
plays_more v plan at action none _ nothing = nothing
plays_more v plan at action none _ (further seq move place e named here rest) =
    let apart : move.0.0 ≡ at → ⊥ = λ same. let clash : slice_get plan at ≡ Some (Some move.1) = rw same at named in cc in
    further seq move place e (set_other plan at move.0.0 (Some action) apart ∙ named) here (plays_more v plan at action none place.own rest)

-- each set with an action is led to
abbrev pub IsLed : SideView → List (Option ℕ) → Type 0
IsLed v plan = (set action : ℕ) (place : Place) → slice_get v.places set ≡ Some place → slice_get plan set ≡ Some (Some action) → Plays v plan place.own

-- and one action more adds only the sequence that its move ends
pub plays_less : (v : SideView) → IsSide v → (plan : List (Option ℕ)) (move : SetId × ℕ) (end : ℕ) → slice_get plan move.0.0 ≡ Some None → IsLed v plan → Ends v.places move end
    → (seq : ℕ) → Plays v (set plan move.0.0 (Some move.1)) seq → Plays v plan seq ⊎ (seq ≡ end)
plays_less v side plan move end none led ends _ nothing = inl nothing
plays_less v side plan move end none led ends _ (further zero last place e named here rest) = inl nothing
plays_less v side plan move end none led ends _ (further (suc k) last place e named here rest) =
    elim (cases_eq last.0.0 move.0.0) [
      | inl same ↦
          let at = side.numbered.each_last k last e in
          let after = set plan move.0.0 (Some move.1) in
          let one = ap (λ (n : ℕ). slice_get after n) (sym same) ∙ named in
          let two = set_same plan move.0.0 (Some move.1) (slice_get_within plan move.0.0 None none) in
          let action : last.1 ≡ move.1 = cc in
          let there = ap (λ (n : ℕ). slice_get v.places n) (sym same) ∙ at.1 in
          let places : at.0 ≡ ends.0 = cc (there, ends.1) in
          let first = ap (λ (x : Place). x.first) places in
          inr (omega (arith, at.3, ends.3, action, first))
      | inr apart ↦
          let old : slice_get plan last.0.0 ≡ Some (Some last.1) = sym (set_other plan move.0.0 last.0.0 (Some move.1) apart) ∙ named in
          inl (further (suc k) last place e old here (led last.0.0 last.1 place here old))
    ]
