-- With perfect recall a set is under another one exactly where it is that set or its own sequence has a move there: the moves of an own
-- sequence are at nodes above, and each own node above has its move in it.
use Rattle.std.proofs.Common.{◌≡◌, ◌⊎◌, ◌↔◌, ℕ, ◌<◌, inl, inr, Bool, true, nat_eq, List, [], ◌∷◌, Some, None}
use Rattle.std.proofs.Common.{length, refl, ap, ◌∙◌}
use Rattle.std.proofs.lemmas.Bool.{cases_Bool, eq-eqb, eqb-true, or_left, or_right}
use Rattle.corr_game.specs.declared.nodes.SetId.{SetId}
use Rattle.corr_game.specs.declared.sides.Side.{Side}
use Rattle.corr_game.specs.Game.{GameView, IsGame, sets_of}
use Rattle.tree_recall.specs.OwnSequence.{IsOwnAt}
use Rattle.tree_recall.specs.Tree.{IsAbove, further, parent, set_of}
use Rattle.tree_recall.proofs.Kids.{above_joined}
use Rattle.tree_recall.proofs.OwnSequences.{GoesOn, made_above, own_of_kid}
use Rattle.equilibrium.specs.FullChoice.{is_under}
use Rattle.equilibrium.specs.Reach.{is_below}
use Rattle.equilibrium.proofs.NodesBelow.{above_is_below, below_is_above}
use Rattle.equilibrium_solutions.specs.Departure.{OwnSequences, is_move, some_move}
use Rattle.equilibrium_solutions.proofs.SetNodes.{has_node, set_is_own}

abbrev Moves : Type 0
Moves = List (SetId × ℕ)

-- some of these moves is at this set
abbrev pub is_at : ℕ → Moves → Bool
is_at set moves = some_move (is_move set None) moves

module _ (g : GameView) (rules : IsGame g) (side : Side) (set : ℕ) where
  at_kid : (m action : ℕ) (before seq : Moves) → GoesOn g side m action before seq → is_at set before ≡ true → is_at set seq ≡ true
  at_kid m action before seq (inl here) h = rw here.2 (or_right (nat_eq here.0.0 set) (is_at set before) h)
  at_kid m action before seq (inr away) h = rw away.1 h

  at_parent : (m action : ℕ) (before seq : Moves) → GoesOn g side m action before seq → set_of g side m ≡ Some set → is_at set seq ≡ true
  at_parent m action before seq (inl here) at =
      let same : here.0.0 ≡ set = cc (here.1, at) in
      rw here.2 (or_left (nat_eq here.0.0 set) (is_at set before) (eq-eqb here.0.0 set same))
  at_parent m action before seq (inr away) at = absurd (cc (away.0, at))

  -- an own sequence has a move at each own set above
  pub has_move : (m n : ℕ) (seq : Moves) → IsAbove g m n → IsOwnAt g side n seq → set_of g side m ≡ Some set → is_at set seq ≡ true
  has_move m _ seq (parent action n e) own at =
      let parts = own_of_kid g rules side m action n e seq own in
      at_parent m action parts.0 seq parts.2 at
  has_move m _ seq (further between action n up e) own at =
      let parts = own_of_kid g rules side between action n e seq own in
      at_kid between action parts.0 seq parts.2 (has_move m between parts.0 up parts.1 at)

  -- and each of its moves is at an own node above
  pub move_above : (n : ℕ) (seq : Moves) → IsOwnAt g side n seq → is_at set seq ≡ true
      → (m : ℕ) × IsAbove g m n × (set_of g side m ≡ Some set)
  move_above n [] own h = absurd (cc)
  move_above n (move ∷ before) own h =
      let above = made_above g side n (move ∷ before) own move before refl in
      elim (cases_Bool (nat_eq move.0.0 set)) [
        | inl here ↦ (above.0, above.1, above.2 ∙ ap (λ (x : ℕ). Some x) (eqb-true move.0.0 set here))
        | inr away ↦
            let earlier = move_above above.0 before above.3 (rw away at h) in
            (earlier.0, above_joined g rules earlier.0 above.0 n earlier.1 above.1, earlier.2)
      ]

module _ (g : GameView) (rules : IsGame g) (side : Side) (own : OwnSequences side g) where
  pub below_by_moves : (above set : ℕ) → set < length (sets_of side g)
      → (is_below side g above set ≡ true) ↔ (is_at above (own.set set) ≡ true)
  below_by_moves above set low = (
    λ h.
        let nodes = below_is_above side g rules above set h in
        has_move g rules side above nodes.0 nodes.1 (own.set set) nodes.4 (set_is_own side g own nodes.1 set nodes.3) nodes.2,
    λ h.
        let node = has_node side g rules set low in
        let top = move_above g rules side above node.0 (own.set set) (set_is_own side g own node.0 set node.1) h in
        above_is_below side g rules above set (top.0, node.0, top.2, node.1, top.1),
  )

  pub under_by_moves : (above set : ℕ) → set < length (sets_of side g)
      → (is_under side g above set ≡ true) ↔ ((set ≡ above) ⊎ (some_move (is_move above None) (own.set set) ≡ true))
  under_by_moves above set low =
      let below = below_by_moves above set low in (
        λ h. elim (cases_Bool (nat_eq set above)) [
          | inl same ↦ inl (eqb-true set above same)
          | inr apart ↦ inr (below.0 (rw apart at h))
        ],
        λ h. elim h [
          | inl same ↦ or_left (nat_eq set above) (is_below side g above set) (eq-eqb set above same)
          | inr moved ↦ or_right (nat_eq set above) (is_below side g above set) (below.1 moved)
        ],
      )
