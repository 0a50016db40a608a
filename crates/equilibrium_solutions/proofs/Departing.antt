-- A departure is a decision with perfect recall: own moves were made at sets met earlier, with own sequences that the moves before are;
-- and what comes behind a set of the trigger is under it.
use Rattle.std.proofs.Common.{◌≡◌, ℕ, ◌<◌, ◌≤◌, inl, inr, true, nat_eq, List, [], ◌∷◌, Option, Some, None}
use Rattle.std.proofs.Common.{length, slice_get, sum_by, take, ℤ, refl, ap, arith}
use Rattle.std.proofs.lemmas.Bool.{cases_lt, eq-eqb, or_left, or_right}
use Rattle.std.proofs.lemmas.List.{take-take}
use Rattle.std.proofs.lemmas.List.Sums.{sum_by-take-le}
use Rattle.std.proofs.lemmas.Option.{get_or_from_slice_get, slice_get_within}
use Rattle.corr_game.specs.declared.nodes.SetId.{SetId}
use Rattle.corr_game.specs.declared.nodes.SetInfo.{SetInfo}
use Rattle.corr_game.specs.declared.sides.Side.{Side}
use Rattle.corr_game.specs.Game.{GameView, IsGame, sets_of}
use Rattle.tree_recall.specs.OwnSequence.{IsOwnAt}
use Rattle.tree_recall.proofs.OwnSequences.{made_above, own_same}
use Rattle.sequences.specs.Number.{IsOwn, IsSide, IsSideOf, SideView, ends_before, last_of, side_of}
use Rattle.sequences.proofs.Adding.{within}
use Rattle.connected_pairs.specs.Connected.{PairsView, IsPairs, IsPairsOf}
use Rattle.incentive_rows.specs.declared.triggers.Trigger.{Trigger}
use Rattle.equilibrium_solutions.specs.Decision.{GoesBack, IsDecision, StaysInside}
use Rattle.equilibrium_solutions.specs.Departure.{OwnSequences, actions_there, departure, is_of}
use Rattle.equilibrium_solutions.proofs.MoveNumbers.{IsNumberOf, move_ends}
use Rattle.equilibrium_solutions.proofs.Numbers.{node_numbered, set_numbered}
use Rattle.equilibrium_solutions.proofs.SetNodes.{has_node, set_is_own}
use Rattle.equilibrium_solutions.proofs.Under.{is_at, under_by_moves}

abbrev Moves : Type 0
Moves = List (SetId × ℕ)

pub ends_rise : (sets : List SetInfo) (a b : ℕ) → a ≤ b → ends_before sets a ≤ ends_before sets b
ends_rise sets a b low =
    let actions = λ (info : SetInfo). info.actions in
    let part = ap (sum_by actions) (take-take a b sets low) in
    omega (arith, part, sum_by-take-le actions (take b sets) a)

-- a move's sequence is numbered before those that end at a set whose own sequence ends with it, so its set comes before that one
earlier_set : (side : Side) (g : GameView) (v : SideView) → IsSide v → IsSideOf side g v → (set own : ℕ) (move : SetId × ℕ)
    → IsOwn v set own → last_of v own ≡ Some move → move.0.0 < set
earlier_set side g v rules of set own move o e = elim (cases_lt move.0.0 set) [
  | inl less ↦ less
  | inr more ↦
      let end = move_ends v rules move own e in
      let here = of.in_turn set o.0 o.1 in
      let there = of.in_turn move.0.0 end.0 end.1 in
      absurd (omega (arith, rules.numbered.own_before set o.0 o.1, o.2, end.3, here, there, ends_rise (sets_of side g) set move.0.0 more))
]

-- and it takes an action of its set
action_in : (side : Side) (g : GameView) (v : SideView) → IsSide v → IsSideOf side g v → (seq : ℕ) (move : SetId × ℕ)
    → last_of v seq ≡ Some move → (move.0.0 < length (sets_of side g)) × (move.1 < actions_there (slice_get (sets_of side g) move.0.0))
action_in side g v rules of seq move e =
    let end = move_ends v rules move seq e in
    let low : move.0.0 < length (sets_of side g) = omega (arith, of.per_set, slice_get_within v.places move.0.0 end.0 end.1) in
    let info = within (sets_of side g) move.0.0 low in
    let same = of.same_actions move.0.0 end.0 info.0 end.1 info.1 in
    (low, rw info.1 (omega (arith, end.2, same)))

module _ (g : GameView) (rules : IsGame g) (p : PairsView) (pairs : IsPairs p) (of : IsPairsOf g p) where
  -- before an own move came those before its set
  moves_before : (side : Side) (own : OwnSequences side g) (n : ℕ) (move : SetId × ℕ) (before : Moves)
      → IsOwnAt g side n (move ∷ before) → own.set move.0.0 ≡ before
  moves_before side own n move before is =
      let above = made_above g side n (move ∷ before) is move before refl in
      own_same g rules side above.0 (own.set move.0.0) before (set_is_own side g own above.0 move.0.0 above.2) above.3

  module _ (trigger : Trigger) (own : OwnSequences trigger.side g) (x : ℕ → ℤ) where
    goes_back : (n bound seq : ℕ) (moves : Moves) → IsOwnAt g trigger.side n moves → IsNumberOf (side_of trigger.side p.seqs) moves seq
        → ((move : SetId × ℕ) → last_of (side_of trigger.side p.seqs) seq ≡ Some move → move.0.0 < bound)
        → GoesBack (departure g p trigger own x) bound moves
    goes_back n bound seq [] is k low = tt
    goes_back n bound seq (move ∷ before) is k low = (
      low move k.0,
      (action_in trigger.side g (side_of trigger.side p.seqs) (pairs.sides trigger.side) (of.sides trigger.side) seq move k.0).1,
      moves_before trigger.side own n move before is,
    )

    set_back : (set : ℕ) → set < length (sets_of trigger.side g) → GoesBack (departure g p trigger own x) set (own.set set)
    set_back set low =
        let v = side_of trigger.side p.seqs in
        let node = has_node trigger.side g rules set low in
        let place = within v.places set (omega (arith, (of.sides trigger.side).per_set)) in
        let o : IsOwn v set place.0.own = (place.0, place.1, refl) in
        goes_back node.0 set place.0.own (own.set set) (set_is_own trigger.side g own node.0 set node.1)
        (set_numbered g rules p pairs of trigger.side own set place.0.own low o)
        (λ move e. earlier_set trigger.side g v (pairs.sides trigger.side) (of.sides trigger.side) set place.0.own move o e)

    leaf_back : (n : ℕ) → n < length g.nodes → GoesBack (departure g p trigger own x) (length (sets_of trigger.side g)) (own.node n)
    leaf_back n low =
        let v = side_of trigger.side p.seqs in
        goes_back n (length (sets_of trigger.side g)) _ (own.node n) (own.each_node.each n low)
        (node_numbered g rules p pairs of trigger.side own n low)
        (λ move e. (action_in trigger.side g v (pairs.sides trigger.side) (of.sides trigger.side) _ move e).0)

    stays_under : (top : Option SetId) (set : ℕ) (moves : Moves) → set < length (sets_of trigger.side g) → own.set set ≡ moves
        → GoesBack (departure g p trigger own x) set moves → StaysInside (is_of trigger.side g top) set moves
    stays_under top set [] low e back = tt
    stays_under None set (move ∷ before) low e back = λ h. refl
    stays_under (Some top) set (move ∷ before) low e back = λ h.
        let moved : is_at top.0 (move ∷ before) ≡ true =
        elim ((under_by_moves g rules trigger.side own top.0 move.0.0 (omega (arith, back.0))).0 h) [
          | inl same ↦ or_left (nat_eq move.0.0 top.0) (is_at top.0 before) (eq-eqb move.0.0 top.0 same)
          | inr earlier ↦ or_right (nat_eq move.0.0 top.0) (is_at top.0 before) (rw back.2 at earlier)
        ] in
        (under_by_moves g rules trigger.side own top.0 set low).1 (inr (rw e moved))

    pub is_decision : IsDecision (departure g p trigger own x)
    is_decision = record {
      each_set = set_back;
      each_leaf = leaf_back;
      stays = λ set low. stays_under trigger.set set (own.set set) low refl (set_back set low);
      some_action = λ set low.
          let info = within (sets_of trigger.side g) set low in
          let same = get_or_from_slice_get (sets_of trigger.side g) set info.0 info.0 info.1 in
          rw info.1 (rw same at (rules.each_set trigger.side set info.0 low).0);
    }
