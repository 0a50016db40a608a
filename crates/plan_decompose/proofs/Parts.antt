-- What a walk knows of one player: at the start, after a choice at an open set, and after the open sets have moved beside
-- another sequence.
use Rattle.std.proofs.Common.{◌≡◌, ℕ, ◌<◌, List, Option, Some, None, length, replicate, set, slice_get, refl, sym, ap, ◌∙◌, inl, inr, arith}
use Rattle.std.proofs.lemmas.Bool.{cases_eq}
use Rattle.std.proofs.lemmas.List.{length-set, length-replicate}
use Rattle.std.proofs.lemmas.Option.{slice_get_within}
use Rattle.corr_game.specs.declared.nodes.SetId.{SetId}
use Rattle.corr_game.specs.declared.sides.Side.{Side}
use Rattle.corr_game.specs.Game.{GameView, sets_of}
use Rattle.sequences.specs.declared.places.Place.{Place}
use Rattle.sequences.specs.Number.{SideView, IsSide, IsSideOf, Ends, Plays, nothing, further, count_of, side_of}
use Rattle.sequences.proofs.Adding.{within}
use Rattle.sequences.proofs.Holding.{plays-named}
use Rattle.connected_pairs.specs.Connected.{PairsView, other}
use Rattle.plan_decompose.specs.OpenSets.{AreMoved, AreOpened}
use Rattle.corr_game.specs.declared.sides.Side.TheVariants.{One, Two}
use Rattle.plan_decompose.specs.declared.opens.Open.{Open}
use Rattle.plan_decompose.specs.declared.walks.SideWalk.{SideWalk}
use Rattle.plan_decompose.specs.declared.walks.Walk.{Walk}
use Rattle.plan_decompose.specs.Reduced.{IsReduced}
use Rattle.plan_decompose.specs.Walk.{IsActionOf, IsFresh, IsOpenOf, IsPart, IsSideWalk, IsWalk, part_of}
use Rattle.plan_decompose.proofs.Choosing.{no_choice, nothing_named, one_choice_more}
use Rattle.plan_decompose.proofs.Walking.{set_same, set_other, last_is, plays_more, plays_less}

none_at : (n k : ℕ) → k < n → slice_get (replicate {A = Option ℕ} n None) k ≡ Some None
none_at n k low =
    let none : Option ℕ = None in
    let entry = within (replicate n none) k (omega (arith, length-replicate n none)) in
    elim entry.0 as (λ x. slice_get (replicate {A = Option ℕ} n None) k ≡ Some x → slice_get (replicate {A = Option ℕ} n None) k ≡ Some None) [
      | None ↦ λ e. e
      | Some x ↦ λ e. absurd (nothing_named n k x e)
    ] entry.1

only_empty : (v : SideView) (n seq : ℕ) → Plays v (replicate n None) seq → seq ≡ 0
only_empty v n _ nothing = refl
only_empty v n _ (further seq move place e named here rest) = absurd (nothing_named n move.0.0 move.1 named)

pub start_part : (side : Side) (g : GameView) (p : PairsView) → IsSideOf side g (side_of side p.seqs) → (n : ℕ) (beside : List (Option ℕ)) → n ≡ length (sets_of side g)
    → AreOpened (side_of side p.seqs) 0 0 (replicate n None) beside → IsPart side g p (replicate n None) beside
start_part side g p of n beside count opened =
    let v = side_of side p.seqs in
    let none : Option ℕ = None in
    let long = opened.as_many ∙ length-replicate n none in
    record {
      plan = no_choice side g n (replicate n None) refl count;
      per_set = long ∙ count;
      in_range = λ set t o.
          let place = within v.places set (omega (arith, slice_get_within beside set (Some t) o, long, count, of.per_set)) in
          elim (opened.each set place.0 place.1) [
            | inl here ↦ let same : t ≡ 0 = cc (o, here.1) in omega arith
            | inr apart ↦ absurd (nothing_named n set t (sym apart.1 ∙ o))
          ];
      led = λ set action place at e. absurd (nothing_named n set action e);
      waiting = λ set t place at o. elim (opened.each set place at) [
        | inl here ↦ (rw here.0 nothing, none_at n set (omega (arith, slice_get_within beside set (Some t) o, long)))
        | inr apart ↦ absurd (nothing_named n set t (sym apart.1 ∙ o))
      ];
      met = λ set place at r. elim (opened.each set place at) [
        | inl here ↦ inr (0, here.1)
        | inr apart ↦ absurd (apart.0 (only_empty v n place.own r))
      ];
    }

pub start_fresh : (side : Side) (g : GameView) (p : PairsView) → IsSideOf side g (side_of side p.seqs) → (n : ℕ) (beside : List (Option ℕ)) → n ≡ length (sets_of side g)
    → AreOpened (side_of side p.seqs) 0 0 (replicate n None) beside → IsFresh (side_of side p.seqs) (replicate n None) beside
start_fresh side g p of n beside count opened =
    let v = side_of side p.seqs in
    let none : Option ℕ = None in
    let long = opened.as_many ∙ length-replicate n none in
    record {
      only_empty = only_empty v n;
      at_first = λ set t place o at. elim (opened.each set place at) [
        | inl here ↦ here.0
        | inr apart ↦ absurd (nothing_named n set t (sym apart.1 ∙ o))
      ];
      beside_empty = λ set t o.
          let place = within v.places set (omega (arith, slice_get_within beside set (Some t) o, long, count, of.per_set)) in
          elim (opened.each set place.0 place.1) [
            | inl here ↦ (let same : t ≡ 0 = cc (o, here.1) in same)
            | inr apart ↦ absurd (nothing_named n set t (sym apart.1 ∙ o))
          ];
    }

pub moved_part : (side : Side) (g : GameView) (p : PairsView) (actions beside after : List (Option ℕ)) (from : Side) (settled t : ℕ) → IsPart side g p actions beside → AreMoved p from settled t beside after
    → t < count_of (side_of (other side) p.seqs) → IsPart side g p actions after
moved_part side g p actions beside after from settled t w moved low = record {
  plan = w.plan;
  per_set = moved.as_many ∙ w.per_set;
  in_range = λ set u o. elim (moved.each set (omega (arith, slice_get_within after set (Some u) o, moved.as_many))) [
    | inl new ↦ let same : u ≡ t = cc (o, new.2) in rw same low
    | inr same ↦ w.in_range set u (sym same.1 ∙ o)
  ];
  led = w.led;
  waiting = λ set u place at o. elim (moved.each set (omega (arith, slice_get_within after set (Some u) o, moved.as_many))) [
    | inl new ↦ w.waiting set new.1.0 place at new.1.1
    | inr same ↦ w.waiting set u place at (sym same.1 ∙ o)
  ];
  met = λ set place at r. elim (w.met set place at r) [
    | inl named ↦ inl named
    | inr here ↦ elim (moved.each set (slice_get_within beside set (Some here.0) here.1)) [
      | inl new ↦ inr (t, new.2)
      | inr same ↦ inr (here.0, same.1 ∙ here.1)
    ]
  ];
}

-- a set that is there and has no action is none
unnamed : (actions : List (Option ℕ)) (set : ℕ) → set < length actions → ((action : ℕ) → slice_get actions set ≡ Some (Some action) → ⊥) → slice_get actions set ≡ Some None
unnamed actions set low none =
    let entry = within actions set low in
    elim entry.0 as (λ x. slice_get actions set ≡ Some x → slice_get actions set ≡ Some None) [
      | None ↦ λ e. e
      | Some x ↦ λ e. absurd (none x e)
    ] entry.1

pub chosen_part : (side : Side) (g : GameView) (p : PairsView) → IsSideOf side g (side_of side p.seqs) → IsSide (side_of side p.seqs) → (actions beside after : List (Option ℕ)) (at : SetId) (t action seq : ℕ)
    → IsPart side g p actions beside → slice_get beside at.0 ≡ Some (Some t) → IsActionOf side g at.0 action → Ends (side_of side p.seqs).places (at, action) seq
    → AreOpened (side_of side p.seqs) seq t (set beside at.0 None) after → IsPart side g p (set actions at.0 (Some action)) after
chosen_part side g p of rules actions beside after at t action seq w is_open named ends opened =
    let v = side_of side p.seqs in
    let here = w.waiting at.0 t ends.0 ends.1 is_open in
    let none = here.1 in
    let low = slice_get_within actions at.0 None none in
    let last = last_is v rules (at, action) seq ends in
    let chosen = set actions at.0 (Some action) in
    let closed = set beside at.0 None in
    let is_chosen = set_same actions at.0 (Some action) low in
    let is_closed : slice_get closed at.0 ≡ Some None = set_same beside at.0 None (slice_get_within beside at.0 (Some t) is_open) in
    let old_apart : (k x : ℕ) → slice_get actions k ≡ Some (Some x) → k ≡ at.0 → ⊥ = λ k x e same. (let clash = ap (λ (n : ℕ). slice_get actions n) (sym same) ∙ e in cc (clash, none)) in
    let open_apart : (k x : ℕ) → slice_get closed k ≡ Some (Some x) → k ≡ at.0 → ⊥ = λ k x e same. (let clash = ap (λ (n : ℕ). slice_get closed n) (sym same) ∙ e in cc (clash, is_closed)) in
    let more = plays_more v actions at.0 action none in
    let played : Plays v chosen seq = further seq (at, action) ends.0 last is_chosen ends.1 (more ends.0.own here.0) in
    let unplayed : Plays v actions seq → ⊥ = λ r. (let clash = plays-named v actions seq r (at, action) last in cc (clash, none)) in
    let earlier = rules.numbered.own_before at.0 ends.0 ends.1 in
    record {
      plan = one_choice_more side g actions at.0 action w.plan (omega (arith, w.plan.per_set)) named;
      per_set = opened.as_many ∙ (length-set beside at.0 None ∙ w.per_set);
      in_range = λ k u o.
          let place = within v.places k (omega (arith, slice_get_within after k (Some u) o, opened.as_many, length-set beside at.0 None, w.per_set, of.per_set)) in
          elim (opened.each k place.0 place.1) [
            | inl new ↦ let same : u ≡ t = cc (o, new.1) in rw same (w.in_range at.0 t is_open)
            | inr old ↦
                let there = sym old.1 ∙ o in
                w.in_range k u (sym (set_other beside at.0 k None (open_apart k u there)) ∙ there)
          ];
      led = λ k x place there e. elim (cases_eq k at.0) [
        | inl same ↦
            let both = ap (λ (n : ℕ). slice_get v.places n) (sym same) ∙ there in
            let one : place ≡ ends.0 = cc (both, ends.1) in
            rw one (more ends.0.own here.0)
        | inr apart ↦ more place.own (w.led k x place there (sym (set_other actions at.0 k (Some action) apart) ∙ e))
      ];
      waiting = λ k u place there o. elim (opened.each k place there) [
        | inl new ↦
            let apart : k ≡ at.0 → ⊥ = λ same. (
            let both = ap (λ (n : ℕ). slice_get v.places n) (sym same) ∙ there in
            let one : place ≡ ends.0 = cc (both, ends.1) in
            omega (arith, ap (λ (x : Place). x.own) one, new.0, earlier, ends.3)) in
            let room : k < length actions = omega (arith, slice_get_within after k (Some u) o, opened.as_many, length-set beside at.0 None, w.per_set, w.plan.per_set) in
            (rw new.0 played, set_other actions at.0 k (Some action) apart ∙ unnamed actions k room (λ x e. unplayed (rw new.0 at (w.led k x place there e))))
        | inr old ↦
            let closed_here = sym old.1 ∙ o in
            let apart = open_apart k u closed_here in
            let before = w.waiting k u place there (sym (set_other beside at.0 k None apart) ∙ closed_here) in
            (more place.own before.0, set_other actions at.0 k (Some action) apart ∙ before.1)
      ];
      met = λ k place there r. elim (plays_less v rules actions (at, action) seq none w.led ends place.own r) [
        | inl old ↦ elim (w.met k place there old) [
          | inl done ↦ inl (done.0, set_other actions at.0 k (Some action) (old_apart k done.0 done.1) ∙ done.1)
          | inr left ↦ elim (cases_eq k at.0) [
            | inl same ↦ inl (action, ap (λ (n : ℕ). slice_get chosen n) same ∙ is_chosen)
            | inr apart ↦ elim (opened.each k place there) [
              | inl new ↦ inr (t, new.1)
              | inr still ↦ inr (left.0, still.1 ∙ (set_other beside at.0 k None apart ∙ left.1))
            ]
          ]
        ]
        | inr end ↦ elim (opened.each k place there) [
          | inl new ↦ inr (t, new.1)
          | inr old ↦ absurd (old.0 end)
        ]
      ];
    }

-- a player's part of a walk
pub part_known : (g : GameView) (p : PairsView) (walk : Walk) → IsWalk g p walk → (side : Side) → IsSideWalk side g p (part_of side walk)
part_known g p walk w One = w.one
part_known g p walk w Two = w.two

-- an open set is one of the game's
pub open_known : (g : GameView) (p : PairsView) (walk : Walk) → IsWalk g p walk → (at : Open) → IsOpenOf walk at → at.set.0 < length (sets_of at.side g)
open_known g p walk w at is_open =
    omega (arith, slice_get_within (part_of at.side walk).beside.items at.set.0 (Some at.beside) is_open, (part_known g p walk w at.side).per_set)

-- where no set is open, the plan is reduced
pub reduced : (side : Side) (g : GameView) (p : PairsView) (walk : SideWalk) → IsSideWalk side g p walk → ((set t : ℕ) → slice_get walk.beside.items set ≡ Some (Some t) → ⊥) → IsReduced (side_of side p.seqs) walk.actions.items
reduced side g p walk w closed = record {
  each = λ set place at r. elim (w.met set place at r) [
    | inl named ↦ named
    | inr left ↦ absurd (closed set left.0 left.1)
  ];
  none_else = w.led;
}
