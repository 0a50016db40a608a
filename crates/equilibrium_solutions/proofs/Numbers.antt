-- Numbers of nodes, sets and moves against own sequences: each is the number of its own sequence's moves. So what the program says by
-- number, the departure says by moves.
use Rattle.std.proofs.Common.{◌≡◌, ◌↔◌, ℕ, ◌<◌, inl, inr, true, ◌&&◌, List, [], ◌∷◌, Option, Some, None}
use Rattle.std.proofs.Common.{length, slice_get, slice_index, refl, subst, arith}
use Rattle.std.proofs.lemmas.Option.{slice_get-get_or, slice_get_within}
use Rattle.corr_game.specs.declared.nodes.SetId.{SetId}
use Rattle.corr_game.specs.declared.notions.Notion.{Notion}
use Rattle.corr_game.specs.declared.notions.Notion.TheVariants.{Efce, Efcce, Nfcce}
use Rattle.corr_game.specs.declared.sides.Side.{Side}
use Rattle.corr_game.specs.Game.{GameView, IsGame, sets_of}
use Rattle.tree_recall.specs.OwnSequence.{IsOwnAt, latest}
use Rattle.tree_recall.proofs.OwnSequences.{made_above}
use Rattle.sequences.specs.Number.{AreAtNodes, AreOwn, SideView, Ends, HasNumber, IsOwn, IsSide, IsSideOf, Plays, last_of, side_of}
use Rattle.sequences.proofs.Adding.{within}
use Rattle.connected_pairs.specs.Connected.{PairsView, IsPairs, IsPairsOf}
use Rattle.equilibrium.specs.Leaves.{names_all}
use Rattle.equilibrium.specs.Reach.{names}
use Rattle.incentive_rows.specs.declared.triggers.Trigger.{Trigger}
use Rattle.incentive_rows.specs.Trigger.{Follows, HasSet}
use Rattle.equilibrium_solutions.specs.Departure.{OwnSequences, has_followed, is_of}
use Rattle.equilibrium_solutions.specs.Values.{IsProgramTrigger}
use Rattle.equilibrium_solutions.proofs.SetNodes.{has_node, set_is_own}
use Rattle.equilibrium_solutions.proofs.Under.{under_by_moves}
use Rattle.equilibrium_solutions.proofs.MoveNumbers.{IsNumberOf, begins_by_moves, ends_with_move, holds_by_moves, last_move, plays_by_moves}

abbrev Moves : Type 0
Moves = List (SetId × ℕ)

-- the number with a node's last own move is that of its own sequence
own_numbered : (side : Side) (g : GameView) (v : SideView) → IsSide v → IsSideOf side g v → (n : ℕ) (moves : Moves) (seq : ℕ)
    → IsOwnAt g side n moves → HasNumber v.places (latest moves) seq → IsNumberOf v moves seq
unfolding AreOwn
own_numbered side g v rules of n [] seq own h = h
own_numbered side g v rules of n (move ∷ moves) seq own h =
    let above = made_above g side n (move ∷ moves) own move moves refl in
    let place = h.0 in
    let before = of.own_of_tree above.0 move.0.0 place (latest moves) above.2 h.1 (moves, above.3, refl) in (
      ends_with_move v rules move seq h,
      place.own,
      (place, h.1, refl),
      own_numbered side g v rules of above.0 moves place.own above.3 before,
    )

module _ (g : GameView) (rules : IsGame g) (p : PairsView) (pairs : IsPairs p) (of : IsPairsOf g p) (side : Side)
    (own : OwnSequences side g) where
  pub node_numbered : (n : ℕ) → n < length g.nodes
      → IsNumberOf (side_of side p.seqs) (own.node n) (slice_index (side_of side p.seqs).nodes n)
  unfolding AreAtNodes
  node_numbered n low =
      let v = side_of side p.seqs in
      let there = slice_get-get_or v.nodes n 0 (omega (arith, (of.sides side).per_node)) in
      let is = own.each_node.each n low in
      own_numbered side g v (pairs.sides side) (of.sides side) n (own.node n) (slice_index v.nodes n) is
      ((of.sides side).at_nodes n (slice_index v.nodes n) (latest (own.node n)) there (own.node n, is, refl))

  pub set_numbered : (set seq : ℕ) → set < length (sets_of side g) → IsOwn (side_of side p.seqs) set seq
      → IsNumberOf (side_of side p.seqs) (own.set set) seq
  unfolding AreOwn
  set_numbered set seq low o =
      let v = side_of side p.seqs in
      let node = has_node side g rules set low in
      let is = set_is_own side g own node.0 set node.1 in
      let number = (of.sides side).own_of_tree node.0 set o.0 (latest (own.set set)) node.1 o.1 (own.set set, is, refl) in
      let P : ℕ → Type 0 = IsNumberOf v (own.set set) in
      subst P o.2 (own_numbered side g v (pairs.sides side) (of.sides side) node.0 (own.set set) o.0.own is number)

  pub move_numbered : (set action seq : ℕ) → Ends (side_of side p.seqs).places (record { 0 = set }, action) seq
      → IsNumberOf (side_of side p.seqs) ((record { 0 = set }, action) ∷ own.set set) seq
  move_numbered set action seq e =
      let v = side_of side p.seqs in
      let low : set < length (sets_of side g) = omega (arith, (of.sides side).per_set, slice_get_within v.places set e.0 e.1) in
      let o : IsOwn v set e.0.own = (e.0, e.1, refl) in
      (ends_with_move v (pairs.sides side) (record { 0 = set }, action) seq e, e.0.own, o, set_numbered set e.0.own low o)

  -- last moves
  pub node_last : (n : ℕ) → n < length g.nodes
      → last_of (side_of side p.seqs) (slice_index (side_of side p.seqs).nodes n) ≡ latest (own.node n)
  node_last n low = last_move (side_of side p.seqs) (pairs.sides side) (own.node n) _ (node_numbered n low)

  pub set_last : (set seq : ℕ) → set < length (sets_of side g) → IsOwn (side_of side p.seqs) set seq
      → last_of (side_of side p.seqs) seq ≡ latest (own.set set)
  set_last set seq low o = last_move (side_of side p.seqs) (pairs.sides side) (own.set set) seq (set_numbered set seq low o)

  -- a trigger's sets are the same by number and by moves
  pub of_set : (top : Option SetId) (set : ℕ) → set < length (sets_of side g)
      → HasSet (side_of side p.seqs) top set ↔ (is_of side g top set ≡ true)
  of_set None set low = (λ h. refl, λ h. tt)
  of_set (Some top) set low =
      let v = side_of side p.seqs in
      let moves = under_by_moves g rules side own top.0 set low in
      let place = within v.places set (omega (arith, (of.sides side).per_set)) in (
        λ h. elim h [
          | inl same ↦ moves.1 (inl same)
          | inr held ↦
              let number = set_numbered set held.0.own low (held.0, held.1, refl) in
              moves.1 (inr ((holds_by_moves v (pairs.sides side) top.0 (own.set set) held.0.own number).0 held.2))
        ],
        λ h. elim (moves.0 h) [
          | inl same ↦ inl same
          | inr moved ↦
              let number = set_numbered set place.0.own low (place.0, place.1, refl) in
              inr (place.0, place.1, (holds_by_moves v (pairs.sides side) top.0 (own.set set) place.0.own number).1 moved)
        ],
      )

  -- and so is following
  pub followed_by : (notion : Notion) (trigger : Trigger) (n : ℕ) → IsProgramTrigger notion g p side trigger → n < length g.nodes
      → Follows (side_of side p.seqs) trigger (slice_index (side_of side p.seqs).nodes n)
      ↔ (has_followed trigger.set trigger.action (own.node n) ≡ true)
  followed_by Efce trigger n is low =
      let v = side_of side p.seqs in
      let at = is.5 in
      let end = ends_with_move v (pairs.sides side) (record { 0 = is.0 }, is.1) trigger.seq at.3 in
      rw (at.1, at.2)
      (begins_by_moves v (pairs.sides side) is.0 is.1 trigger.seq (own.node n) (slice_index v.nodes n) (node_numbered n low) end)
  followed_by Efcce trigger n is low =
      let v = side_of side p.seqs in
      let at = is.5 in
      rw (at.1, at.2) (holds_by_moves v (pairs.sides side) is.0 (own.node n) (slice_index v.nodes n) (node_numbered n low))
  followed_by Nfcce trigger n is low = rw is (λ h. refl, λ h. tt)

  -- and so is what a plan plays
  pub node_plays : (plan : List (Option ℕ)) (n : ℕ) → n < length g.nodes
      → Plays (side_of side p.seqs) plan (slice_index (side_of side p.seqs).nodes n) ↔ (names_all plan (own.node n) ≡ true)
  node_plays plan n low = plays_by_moves (side_of side p.seqs) (pairs.sides side) plan (own.node n) _ (node_numbered n low)

  pub set_plays : (plan : List (Option ℕ)) (set seq : ℕ) → set < length (sets_of side g) → IsOwn (side_of side p.seqs) set seq
      → Plays (side_of side p.seqs) plan seq ↔ (names_all plan (own.set set) ≡ true)
  set_plays plan set seq low o =
      plays_by_moves (side_of side p.seqs) (pairs.sides side) plan (own.set set) seq (set_numbered set seq low o)

  pub move_plays : (plan : List (Option ℕ)) (set action seq : ℕ) → Ends (side_of side p.seqs).places (record { 0 = set }, action) seq
      → Plays (side_of side p.seqs) plan seq ↔ ((names action (slice_get plan set) && names_all plan (own.set set)) ≡ true)
  move_plays plan set action seq e =
      plays_by_moves (side_of side p.seqs) (pairs.sides side) plan ((record { 0 = set }, action) ∷ own.set set) seq
      (move_numbered set action seq e)
