-- The number from the last set back is the most that a choice gets in the decision of a player who leaves: the sets that it went over have
-- values, which some choice meets.
use Rattle.std.proofs.Common.{◌≡◌, ◌≢◌, ◌⊎◌, ◌↔◌, ℕ, ◌+◌, ◌<◌, ◌≤◌, inl, inr, Bool, true, false, ◌&&◌, nat_eq, cond, List, [], ◌∷◌, length}
use Rattle.std.proofs.Common.{Option, Some, None, slice_get, slice_index, ℤ, pos, ◌+ℤ◌, ◌-ℤ◌, ◌≤ℤ◌, refl, sym, ap, ap₂, subst, ◌∙◌, arith}
use Rattle.std.proofs.lemmas.Bool.{and_from, and_parts, cases_Bool, cases_eq, eqb-true, or_cases}
use Rattle.std.proofs.lemmas.Int.{ints}
use Rattle.std.proofs.lemmas.Option.{slice_get_within}
use Rattle.exact_algebra.specs.Sums.{sum_to}
use Rattle.exact_algebra.proofs.RingLaws.{+ℤ_comm, +ℤ_idr}
use Rattle.exact_algebra.proofs.Sums.{sum_to-nothing, sum_to-one, sum_to-same}
use Rattle.corr_game.specs.declared.nodes.SetId.{SetId}
use Rattle.corr_game.specs.Game.{GameView, IsGame, sets_of}
use Rattle.sequences.specs.declared.places.Place.{Place}
use Rattle.sequences.specs.Number.{Ends, IsOwn, side_of}
use Rattle.sequences.proofs.Adding.{within}
use Rattle.connected_pairs.specs.Connected.{IsPairs, IsPairsOf, PairsView}
use Rattle.incentive_rows.specs.declared.triggers.Trigger.{Trigger}
use Rattle.equilibrium_solutions.specs.Decision.{AreValues, Decision, GoesBack, IsChoice, IsDecision, after, at_start, gets}
use Rattle.equilibrium_solutions.specs.Decision.{is_given, takes}
use Rattle.equilibrium_solutions.specs.Departure.{OwnSequences, actions_there, before_play, departure, is_of}
use Rattle.equilibrium_solutions.proofs.Departing.{is_decision}
use Rattle.equilibrium_solutions.proofs.MoveNumbers.{IsNumberOf}
use Rattle.equilibrium_solutions.proofs.Numbers.{node_numbered, set_numbered}
use Rattle.equilibrium_solutions.proofs.Solving.{bounded_by_values}
use Rattle.equilibrium_solutions.proofs.Telescoping.{lost_together}
use Rattle.equilibrium_solutions.proofs.Under.{is_at, under_by_moves}
use Rattle.deviation_gains.specs.Leaving.{IsSolved, IsWorth, StandInRow, leads_to, own_there, paid_behind}
use Rattle.deviation_gains.proofs.GainNumbers.{ends_is_number, given_is_empty, inside_too}

abbrev Moves : Type 0
Moves = List (SetId × ℕ)

tested_nothing : (b : Bool) (x : ℤ) → (b ≡ true → x ≡ pos 0) → cond b x (pos 0) ≡ pos 0
tested_nothing true x h = h refl
tested_nothing false x h = refl

-- the most that a choice gets
pub record IsMost (d : Decision) (worth : ℤ) : Type 0 where
  pub bound : (choice : ℕ → ℕ) → IsChoice d choice → gets d choice ≤ℤ worth
  pub best : ℕ → ℕ
  pub in_range : IsChoice d best
  pub met : gets d best ≡ worth

-- values that a choice meets at each set inside, and the start leads to this
most_by_values : (d : Decision) → IsDecision d → (value : ℕ → ℤ) (choice : ℕ → ℕ) (worth : ℤ) → AreValues d value → IsChoice d choice
    → ((set : ℕ) → set < d.sets → d.inside set ≡ true → value set ≡ after d value set (choice set)) → at_start d value ≡ worth
    → IsMost d worth
most_by_values d rules value choice worth are is met start = record {
  bound = λ c h. subst (λ (z : ℤ). gets d c ≤ℤ z) start (bounded_by_values d rules value are c h);
  best = choice;
  in_range = is;
  met =
      let nothing = sum_to-nothing d.sets _ (λ set h. tested_nothing (d.inside set && takes d.inside choice (d.before_set set))
      (value set -ℤ after d value set (choice set))
      (λ e. no_loss _ _ (met set h (and_parts (d.inside set) (takes d.inside choice (d.before_set set)) e).0))) in
      alike (at_start d value) (gets d choice) _ (lost_together d rules choice value) nothing ∙ start;
}
  where
    no_loss : (v a : ℤ) → v ≡ a → v -ℤ a ≡ pos 0
    no_loss v a e = omega (arith, ints)

    alike : (s g l : ℤ) → l ≡ s -ℤ g → l ≡ pos 0 → g ≡ s
    alike s g l e h = omega (arith, ints)

module _ (g : GameView) (rules : IsGame g) (p : PairsView) (pairs : IsPairs p) (of : IsPairsOf g p) (trigger : Trigger)
    (own : OwnSequences trigger.side g) (pays : ℕ → ℤ) where
  abbrev pub leaving_there : Decision
  leaving_there = record {
    sets = length (sets_of trigger.side g);
    actions = λ set. actions_there (slice_get (sets_of trigger.side g) set);
    inside = λ set. is_of trigger.side g trigger.set set;
    before_set = own.set;
    leaves = length g.nodes;
    before_leaf = own.node;
    at_once = before_play trigger.set;
    pays = pays;
  }

  abbrev departing : Decision
  departing = departure g p trigger own (λ k. pos 0)

  same_back : (bound : ℕ) (moves : Moves) → GoesBack departing bound moves → GoesBack leaving_there bound moves
  same_back bound [] back = tt
  same_back bound (move ∷ moves) back = back

  pub decides : IsDecision leaving_there
  decides =
      let is = is_decision g rules p pairs of trigger own (λ k. pos 0) in
      record {
        each_set = λ set low. same_back set (own.set set) (is.each_set set low);
        each_leaf = λ leaf low. same_back (length (sets_of trigger.side g)) (own.node leaf) (is.each_leaf leaf low);
        stays = is.stays;
        some_action = is.some_action;
      }

  abbrev places : List Place
  places = (side_of trigger.side p.seqs).places

  abbrev paid : ℕ → ℤ
  paid = paid_behind (side_of trigger.side p.seqs).nodes pays (length g.nodes)

  own_number : (set : ℕ) → set < length (sets_of trigger.side g)
      → IsNumberOf (side_of trigger.side p.seqs) (own.set set) (own_there (slice_get places set))
  own_number set low =
      let v = side_of trigger.side p.seqs in
      let place = within v.places set (omega (arith, (of.sides trigger.side).per_set)) in
      let is : IsOwn v set place.0.own = (place.0, place.1, refl) in
      let Is : ℕ → Type 0 = IsNumberOf v (own.set set) in
      subst Is (sym (ap own_there place.1)) (set_numbered g rules p pairs of trigger.side own set place.0.own low is)

  -- what a move leads to
  after_is : (value : ℕ → ℤ) (set action : ℕ) (place : Place) → is_of trigger.side g trigger.set set ≡ true
      → slice_get places set ≡ Some place → action < place.actions
      → after leaving_there value set action ≡ leads_to places paid value (place.first + action)
  after_is value set action place is at low =
      let v = side_of trigger.side p.seqs in
      let end : Ends v.places (record { 0 = set }, action) (place.first + action) = (place, at, low, refl) in
      let sets = sum_to-same (length (sets_of trigger.side g)) _ _ (λ k h.
      ap (λ (b : Bool). cond b (value k) (pos 0))
      (inside_too (λ s. is_of trigger.side g trigger.set s) k set action (own.set k) (decides.stays k h) is
      ∙ ends_is_number v (pairs.sides trigger.side) set action (place.first + action) (own_there (slice_get places k)) end (own.set k)
      (own_number k h))) in
      let leaves = sum_to-same (length g.nodes) _ _ (λ n h.
      ap (λ (b : Bool). cond b (pays n) (pos 0))
      (ends_is_number v (pairs.sides trigger.side) set action (place.first + action) (slice_index v.nodes n) end (own.node n)
      (node_numbered g rules p pairs of trigger.side own n h))) in
      ap₂ (λ (x y : ℤ). x +ℤ y)
      (sets
      ∙ ap (λ (count : ℕ). sum_to count (λ k. cond (nat_eq (own_there (slice_get places k)) (place.first + action)) (value k) (pos 0)))
      (sym (of.sides trigger.side).per_set)) leaves
      ∙ +ℤ_comm (sum_to (length places) (λ k. cond (nat_eq (own_there (slice_get places k)) (place.first + action)) (value k) (pos 0)))
      (paid (place.first + action))

  -- what the start leads to, with no set to leave at
  start_is : (value : ℕ → ℤ) → trigger.set ≡ None → at_start leaving_there value ≡ leads_to places paid value 0
  start_is value none =
      let v = side_of trigger.side p.seqs in
      let all : (set : ℕ) → is_of trigger.side g trigger.set set ≡ true =
      λ set. ap (λ (t : Option SetId). is_of trigger.side g t set) none in
      let once : before_play trigger.set ≡ true = ap before_play none in
      let sets = sum_to-same (length (sets_of trigger.side g)) _ _ (λ k h.
      ap (λ (b : Bool). cond b (value k) (pos 0))
      (ap (λ (b : Bool). b && is_given (λ s. is_of trigger.side g trigger.set s) (own.set k)) (all k)
      ∙ given_is_empty v (pairs.sides trigger.side) (λ s. is_of trigger.side g trigger.set s) (own_there (slice_get places k)) all
      (own.set k) (own_number k h))) in
      let leaves = sum_to-same (length g.nodes) _ _ (λ n h.
      ap (λ (b : Bool). cond b (pays n) (pos 0))
      (ap (λ (b : Bool). b && is_given (λ s. is_of trigger.side g trigger.set s) (own.node n)) once
      ∙ given_is_empty v (pairs.sides trigger.side) (λ s. is_of trigger.side g trigger.set s) (slice_index v.nodes n) all (own.node n)
      (node_numbered g rules p pairs of trigger.side own n h))) in
      ap₂ (λ (x y : ℤ). x +ℤ y)
      (sets ∙ ap (λ (count : ℕ). sum_to count (λ k. cond (nat_eq (own_there (slice_get places k)) 0) (value k) (pos 0)))
      (sym (of.sides trigger.side).per_set)) leaves
      ∙ +ℤ_comm (sum_to (length places) (λ k. cond (nat_eq (own_there (slice_get places k)) 0) (value k) (pos 0))) (paid 0)

  -- ---- a trigger with a set

  abbrev inside : ℕ → Bool
  inside = λ s. is_of trigger.side g trigger.set s

  module _ (top : SetId) (at_top : trigger.set ≡ Some top) (low_top : top.0 < length (sets_of trigger.side g)) where
    under : (set : ℕ) → set < length (sets_of trigger.side g)
        → (inside set ≡ true) ↔ ((set ≡ top.0) ⊎ (is_at top.0 (own.set set) ≡ true))
    under set low =
        let by = under_by_moves g rules trigger.side own top.0 set low in
        let is : inside set ≡ is_of trigger.side g (Some top) set = ap (λ (t : Option SetId). is_of trigger.side g t set) at_top in
        (λ h. by.0 (sym is ∙ h), λ h. is ∙ by.1 h)

    -- moves at the trigger's set are made there, before the next set
    below : (bound : ℕ) (moves : Moves) → GoesBack leaving_there bound moves → bound ≤ length (sets_of trigger.side g)
        → is_at top.0 moves ≡ true → top.0 < bound
    below bound [] back low h = absurd (cc)
    below bound (move ∷ before) back low h = elim (or_cases (nat_eq move.0.0 top.0) (is_at top.0 before) h) [
      | inl here ↦ omega (arith, back.0, eqb-true move.0.0 top.0 here)
      | inr earlier ↦
          let Back : Moves → Type 0 = GoesBack leaving_there move.0.0 in
          let under_there : move.0.0 < length (sets_of trigger.side g) = omega (arith, back.0) in
          let rest = below move.0.0 before (subst Back back.2 (decides.each_set move.0.0 under_there)) (omega arith) earlier in
          omega (arith, rest, back.0)
    ]

    inside_below : (set : ℕ) → set < length (sets_of trigger.side g) → inside set ≡ true → top.0 ≤ set
    inside_below set low h = elim ((under set low).0 h) [
      | inl same ↦ omega (arith, same)
      | inr moved ↦ omega (arith, below set (own.set set) (decides.each_set set low) (omega arith) moved)
    ]

    given_top : (moves : Moves) → GoesBack leaving_there top.0 moves → is_given inside moves ≡ true
    given_top [] back = refl
    given_top (move ∷ before) back = elim (cases_Bool (inside move.0.0)) [
      | inl is ↦ absurd (omega (arith, back.0, inside_below move.0.0 (omega (arith, back.0, low_top)) is))
      | inr not ↦ ap (λ (b : Bool). cond b false true) not
    ]

    not_given : (k : ℕ) (moves : Moves) → k ≤ length (sets_of trigger.side g) → GoesBack leaving_there k moves → is_at top.0 moves ≡ true
        → is_given inside moves ≡ false
    not_given k [] low back h = absurd (cc)
    not_given k (move ∷ before) low back h =
        let under_there : move.0.0 < length (sets_of trigger.side g) = omega (arith, back.0) in
        let is : inside move.0.0 ≡ true = (under move.0.0 under_there).1
        (elim (or_cases (nat_eq move.0.0 top.0) (is_at top.0 before) h) [
          | inl here ↦ inl (eqb-true move.0.0 top.0 here)
          | inr earlier ↦ inr (ap (is_at top.0) back.2 ∙ earlier)
        ]) in
        ap (λ (b : Bool). cond b false true) is

    first_only : (k : ℕ) → k < length (sets_of trigger.side g) → k ≢ top.0 → (inside k && is_given inside (own.set k)) ≡ false
    first_only k low apart = elim (cases_Bool (inside k)) [
      | inr not ↦ ap (λ (b : Bool). b && is_given inside (own.set k)) not
      | inl is ↦ elim ((under k low).0 is) [
        | inl same ↦ absurd (apart same)
        | inr moved ↦
            ap (λ (b : Bool). b && is_given inside (own.set k)) is
            ∙ not_given k (own.set k) (omega arith) (decides.each_set k low) moved
      ]
    ]

    start_at : (value : ℕ → ℤ) → at_start leaving_there value ≡ value top.0
    start_at value =
        let term : ℕ → ℤ = λ k. cond (inside k && is_given inside (own.set k)) (value k) (pos 0) in
        let others : (k : ℕ) → k < length (sets_of trigger.side g) → k ≢ top.0 → term k ≡ pos 0 =
        λ k low apart. ap (λ (b : Bool). cond b (value k) (pos 0)) (first_only k low apart) in
        let here : term top.0 ≡ value top.0 =
        ap (λ (b : Bool). cond b (value top.0) (pos 0))
        (and_from (inside top.0) (is_given inside (own.set top.0)) ((under top.0 low_top).1 (inl refl))
        (given_top (own.set top.0) (decides.each_set top.0 low_top))) in
        let sets = sum_to-one (length (sets_of trigger.side g)) top.0 term low_top others ∙ here in
        let once : before_play trigger.set ≡ false = ap before_play at_top in
        let leaves = sum_to-nothing (length g.nodes) _ (λ n h.
        ap (λ (b : Bool). cond (b && is_given inside (own.node n)) (pays n) (pos 0)) once) in
        ap₂ (λ (x y : ℤ). x +ℤ y) sets leaves ∙ +ℤ_idr (value top.0)

  -- ---- values of the sets inside

  actions_are : (set : ℕ) (place : Place) → slice_get places set ≡ Some place
      → actions_there (slice_get (sets_of trigger.side g) set) ≡ place.actions
  actions_are set place at =
      let low : set < length (sets_of trigger.side g) =
      omega (arith, (of.sides trigger.side).per_set, slice_get_within places set place at) in
      let info = within (sets_of trigger.side g) set low in
      ap actions_there info.1 ∙ sym ((of.sides trigger.side).same_actions set place info.0 at info.1)

  most_of_solved : (value : ℕ → ℤ) (choice : ℕ → ℕ) (worth : ℤ)
      → ((set : ℕ) (place : Place) → slice_get places set ≡ Some place → inside set ≡ true → IsSolved places paid value choice set place)
      → at_start leaving_there value ≡ worth → IsMost leaving_there worth
  most_of_solved value choice worth solved start =
      let chosen : ℕ → ℕ = λ set. cond (inside set) (choice set) 0 in
      let place_at = λ (set : ℕ) (low : set < length (sets_of trigger.side g)).
      within places set (omega (arith, (of.sides trigger.side).per_set, low)) in
      most_by_values leaving_there decides value chosen worth
      (record {
        each = λ set action low is a.
            let place = place_at set low in
            let few : action < place.0.actions = omega (arith, a, actions_are set place.0 place.1) in
            rw (after_is value set action place.0 is place.1 few) ((solved set place.0 place.1 is).2 action few);
      })
      (λ set low.
      let place = place_at set low in
      let count = actions_are set place.0 place.1 in
      elim (cases_Bool (inside set)) [
        | inl is ↦ rw (is, count) (solved set place.0 place.1 is).0
        | inr not ↦ rw not (decides.some_action set low)
      ])
      (λ set low is.
      let place = place_at set low in
      let here = solved set place.0 place.1 is in
      rw is (here.1 ∙ sym (after_is value set (choice set) place.0 is place.1 here.0)))
      start

  -- the number from the last set back is the most that a choice gets
  pub most_of_worth : StandInRow places → (top : Option SetId) (worth : ℤ) → trigger.set ≡ top
      → ((set : SetId) → top ≡ Some set → set.0 < length (sets_of trigger.side g)) → IsWorth places paid top worth
      → IsMost leaving_there worth
  most_of_worth row None worth e known is =
      most_of_solved is.0 is.1 worth (λ set place at here. is.2 set place at (omega arith)) (start_is is.0 e ∙ sym is.3)
  most_of_worth row (Some top) worth e known is =
      let low = known top refl in
      let place = within places top.0 (omega (arith, (of.sides trigger.side).per_set, low)) in
      most_of_solved is.0 is.1 worth
      (λ set other at here.
      let under_there : set < length (sets_of trigger.side g) =
      omega (arith, (of.sides trigger.side).per_set, slice_get_within places set other at) in
      let from = inside_below top e low set under_there here in
      let behind : place.0.first ≤ other.first = elim (cases_eq set top.0) [
        | inl same ↦ omega (arith, same_first set other place.0 same at place.1)
        | inr apart ↦ omega (arith, row.in_row top.0 set place.0 other place.1 at (omega (arith, from, apart)))
      ] in
      is.2 place.0 place.1 set other at behind)
      (start_at top e low is.0 ∙ sym is.3)
    where
      same_first : (set : ℕ) (a b : Place) → set ≡ top.0 → slice_get places set ≡ Some a → slice_get places top.0 ≡ Some b
          → a.first ≡ b.first
      same_first set a b same at there =
          let moved : slice_get places top.0 ≡ Some a = ap (λ (k : ℕ). slice_get places k) (sym same) ∙ at in
          let one : a ≡ b = cc (moved, there) in
          ap (λ (q : Place). q.first) one
