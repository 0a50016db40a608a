-- A leaf that counts in a departure lies below a node of the trigger's set. So the trigger's sequence, whose last move was made at that
-- node or above it, and the other player's sequence at the leaf are a relevant pair.
use Rattle.std.proofs.Common.{◌≡◌, ℕ, ◌<◌, inl, inr, Bool, true, false, cond, List, [], ◌∷◌, Option, Some}
use Rattle.std.proofs.Common.{length, slice_index, ℤ, refl, ap, ◌∙◌, arith}
use Rattle.std.proofs.lemmas.Bool.{cases_Bool}
use Rattle.std.proofs.lemmas.Option.{slice_get_within}
use Rattle.corr_game.specs.declared.nodes.SetId.{SetId}
use Rattle.corr_game.specs.declared.notions.Notion.{Notion}
use Rattle.corr_game.specs.declared.notions.Notion.TheVariants.{Efce, Efcce, Nfcce}
use Rattle.corr_game.specs.declared.sides.Side.{Side}
use Rattle.corr_game.specs.Game.{GameView, IsGame, sets_of}
use Rattle.tree_recall.specs.Tree.{IsAbove, set_of}
use Rattle.tree_recall.proofs.Kids.{above_joined}
use Rattle.tree_recall.proofs.OwnSequences.{made_above}
use Rattle.sequences.specs.Number.{count_of, last_of, side_of}
use Rattle.sequences.proofs.Holding.{own_in}
use Rattle.connected_pairs.specs.Connected.{PairsView, IsPairs, IsPairsOf, other}
use Rattle.connected_pairs.proofs.Indices.{move_in}
use Rattle.incentive_rows.specs.declared.triggers.Trigger.{Trigger}
use Rattle.incentive_rows.specs.Coefficient.{pair_column}
use Rattle.equilibrium_solutions.specs.Decision.{GoesBack, counts, is_given}
use Rattle.equilibrium_solutions.specs.Departure.{OwnSequences, before_play, departure, is_of}
use Rattle.equilibrium_solutions.specs.Values.{IsProgramTrigger}
use Rattle.equilibrium_solutions.proofs.SetNodes.{set_is_own}
use Rattle.equilibrium_solutions.proofs.Under.{move_above, under_by_moves}
use Rattle.equilibrium_solutions.proofs.MoveNumbers.{ends_with_move}
use Rattle.equilibrium_solutions.proofs.Numbers.{set_last}
use Rattle.equilibrium_solutions.proofs.Departing.{is_decision}
use Rattle.equilibrium_solutions.proofs.Relevance.{IsOnPath, node_low, node_on_path, own_on_path, path_column, path_down}

abbrev Moves : Type 0
Moves = List (SetId × ℕ)

-- own moves that aren't given end at a set inside
not_given : (inside : ℕ → Bool) (moves : Moves) → cond (is_given inside moves) false true ≡ true
    → (move : SetId × ℕ) × (before : Moves) × (moves ≡ move ∷ before) × (inside move.0.0 ≡ true)
not_given inside [] h = absurd (cc)
not_given inside (move ∷ before) h = elim (cases_Bool (inside move.0.0)) [
  | inl e ↦ (move, before, refl, e)
  | inr e ↦ absurd (outside (inside move.0.0) e h)
]
  where
    outside : (b : Bool) → b ≡ false → cond (cond b false true) false true ≡ true → ⊥
    outside true e h = absurd (cc)
    outside false e h = absurd (cc)

-- whether a leaf with these own moves counts for a trigger at this set
abbrev CountsAt : Side → GameView → Option SetId → Moves → Type 0
CountsAt side g top moves = cond (is_given (is_of side g top) moves) (before_play top) true ≡ true

module _ (g : GameView) (rules : IsGame g) (p : PairsView) (pairs : IsPairs p) (of : IsPairsOf g p) where
  -- a node of the set is above the leaf
  top_above : (trigger : Trigger) (own : OwnSequences trigger.side g) (x : ℕ → ℤ) (top : SetId) (n : ℕ) → n < length g.nodes
      → CountsAt trigger.side g (Some top) (own.node n)
      → (m : ℕ) × IsAbove g m n × (set_of g trigger.side m ≡ Some top.0)
  top_above trigger own x top n low h =
      let side = trigger.side in
      let parts = not_given (is_of side g (Some top)) (own.node n) h in
      let is = rw parts.2 at (own.each_node.each n low) in
      let above = made_above g side n (parts.0 ∷ parts.1) is parts.0 parts.1 refl in
      let back : GoesBack (departure g p trigger own x) (length (sets_of side g)) (parts.0 ∷ parts.1) =
      rw parts.2 at ((is_decision g rules p pairs of trigger own x).each_leaf n low) in
      elim ((under_by_moves g rules side own top.0 parts.0.0.0 back.0).0 parts.3) [
        | inl same ↦ (above.0, above.1, above.2 ∙ ap (λ (s : ℕ). Some s) same)
        | inr moved ↦
            let earlier = move_above g rules side top.0 above.0 (own.set parts.0.0.0)
            (set_is_own side g own above.0 parts.0.0.0 above.2) moved in
            (earlier.0, above_joined g rules earlier.0 above.0 n earlier.1 above.1, earlier.2)
      ]

  -- a trigger's sequence is one of the player's, and its last move is on the path to each leaf that counts
  pub trigger_on_path : (notion : Notion) (trigger : Trigger) (own : OwnSequences trigger.side g) (x : ℕ → ℤ) (n : ℕ)
      → IsProgramTrigger notion g p trigger.side trigger → n < length g.nodes → CountsAt trigger.side g trigger.set (own.node n)
      → (trigger.seq < count_of (side_of trigger.side p.seqs))
      × IsOnPath g trigger.side n (last_of (side_of trigger.side p.seqs) trigger.seq)
  trigger_on_path Efce trigger own x n is low h =
      let v = side_of trigger.side p.seqs in
      let at = is.5 in
      let top : SetId = record { 0 = is.0 } in
      let above = top_above trigger own x top n low (rw at.1 at h) in (
        move_in v (pairs.sides trigger.side) (top, is.1) trigger.seq at.3,
        rw (ends_with_move v (pairs.sides trigger.side) (top, is.1) trigger.seq at.3) (above.0, above.1, above.2),
      )
  trigger_on_path Efcce trigger own x n is low h =
      let v = side_of trigger.side p.seqs in
      let at = is.5 in
      let top : SetId = record { 0 = is.0 } in
      let above = top_above trigger own x top n low (rw at.1 at h) in
      let inside : is.0 < length (sets_of trigger.side g) =
      omega (arith, (of.sides trigger.side).per_set, slice_get_within v.places is.0 at.3.0 at.3.1) in (
        own_in v (pairs.sides trigger.side) is.0 trigger.seq at.3,
        rw (set_last g rules p pairs of trigger.side own is.0 trigger.seq inside at.3)
            (path_down g rules trigger.side above.0 n _ above.1
            (own_on_path g trigger.side above.0 (own.set is.0) (set_is_own trigger.side g own above.0 is.0 above.2))),
      )
  trigger_on_path Nfcce trigger own x n is low h =
      let none : trigger.seq ≡ 0 = ap (λ (t : Trigger). t.seq) is in
      rw none (omega arith, tt)

  -- a trigger's sequence and the other player's at a leaf that counts have a column
  pub left_relevant : (notion : Notion) (trigger : Trigger) (own : OwnSequences trigger.side g) → OwnSequences (other trigger.side) g
      → (x : ℕ → ℤ) (n : ℕ) → IsProgramTrigger notion g p trigger.side trigger → n < length g.nodes
      → counts (departure g p trigger own x) n ≡ true
      → (k : ℕ) × (pair_column p trigger.side trigger.seq (slice_index (side_of (other trigger.side) p.seqs).nodes n) ≡ Some k)
      × (k < length p.pairs)
  left_relevant notion trigger own beside x n is low h =
      let here = trigger_on_path notion trigger own x n is low h in
      path_column g rules p pairs of trigger.side trigger.seq _ n here.0 (node_low g rules p pairs of (other trigger.side) n low) here.1
      (node_on_path g rules p pairs of (other trigger.side) beside n low)
