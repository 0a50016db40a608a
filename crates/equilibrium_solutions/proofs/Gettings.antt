-- What is got behind a trigger for a full choice is what the choice gets in the trigger's departure, and so is what following gets there.
use Rattle.std.proofs.Common.{◌≡◌, ℕ, ◌<◌, true, cond, List, length, slice_get, slice_index, ℤ, pos, ◌*ℤ◌}
use Rattle.std.proofs.Common.{ap}
use Rattle.exact_algebra.specs.Sums.{sum_to}
use Rattle.exact_algebra.proofs.Sums.{sum_to-same}
use Rattle.corr_game.specs.declared.notions.Notion.{Notion}
use Rattle.corr_game.specs.declared.sides.Side.{Side}
use Rattle.corr_game.specs.Game.{GameView, IsGame}
use Rattle.tree_recall.specs.OwnSequence.{HasRecall}
use Rattle.sequences.specs.Number.{side_of}
use Rattle.connected_pairs.specs.Connected.{IsPairs, IsPairsOf, PairsView, other}
use Rattle.equilibrium.specs.declared.triggers.Trigger.{Trigger}
use Rattle.equilibrium.specs.Deviation.{IsTriggerOf}
use Rattle.equilibrium.specs.Distribution.{Entry}
use Rattle.equilibrium.specs.Leaves.{leaf_amount}
use Rattle.equilibrium_solutions.specs.ColumnSums.{AreColumnSums}
use Rattle.equilibrium_solutions.specs.Decision.{gets}
use Rattle.equilibrium_solutions.specs.Departure.{OwnSequences, departure, followed, has_followed}
use Rattle.equilibrium_solutions.specs.Values.{IsProgramTrigger, stands_for}
use Rattle.equilibrium_solutions.proofs.LeafColumns.{HasColumn, met_column, played_column}
use Rattle.equilibrium_solutions.proofs.ListGains.{met, played}
use Rattle.equilibrium_solutions.proofs.PlanMoves.{action_of, counted, taken, top_of}
use Rattle.equilibrium_solutions.proofs.Tests.{first_of, tested_alike}

module _ (g : GameView) (rules : IsGame g) (p : PairsView) (pairs : IsPairs p) (of : IsPairsOf g p) (side : Side) (recall : HasRecall g side)
    (own : OwnSequences side g) (others : OwnSequences (other side) g) (list : List Entry) (x : ℕ → ℤ) (sums : AreColumnSums p list x)
    (notion : Notion) (trigger : Trigger) (seq : ℕ) (of_notion : IsTriggerOf notion g side trigger)
    (is : IsProgramTrigger notion g p side (stands_for side trigger seq)) where
  pub got_is_gets : (choice : List ℕ)
      → ((n : ℕ) → n < length g.nodes → counted side g (top_of trigger) (own.node n) ≡ true
      → HasColumn p side seq (slice_index (side_of (other side) p.seqs).nodes n))
      → sum_to (length g.nodes) (λ n. cond (taken side g (top_of trigger) choice (own.node n))
      (leaf_amount side (slice_get g.nodes n) *ℤ met side g trigger others.node list n) (pos 0))
      ≡ gets (departure g p (stands_for side trigger seq) own x) (λ set. slice_index choice set)
  got_is_gets choice relevant =
      sum_to-same (length g.nodes) _ _ (λ n low.
      tested_alike (taken side g (top_of trigger) choice (own.node n)) _ _ (λ there.
      ap (λ (z : ℤ). leaf_amount side (slice_get g.nodes n) *ℤ z)
      (met_column g rules p pairs of side own others list x sums recall notion trigger seq of_notion is n low
      (relevant n low (first_of (counted side g (top_of trigger) (own.node n)) _ there)))))

  pub followed_is_followed : ((n : ℕ) → n < length g.nodes
      → HasColumn p side (slice_index (side_of side p.seqs).nodes n) (slice_index (side_of (other side) p.seqs).nodes n))
      → sum_to (length g.nodes) (λ n. cond (has_followed (top_of trigger) (action_of trigger) (own.node n))
      (leaf_amount side (slice_get g.nodes n) *ℤ played side own.node others.node list n) (pos 0))
      ≡ followed g p (stands_for side trigger seq) own x
  followed_is_followed relevant =
      sum_to-same (length g.nodes) _ _ (λ n low.
      ap (λ (z : ℤ). cond (has_followed (top_of trigger) (action_of trigger) (own.node n)) (leaf_amount side (slice_get g.nodes n) *ℤ z) (pos 0))
      (played_column g rules p pairs of side own others list x sums n low (relevant n low)))
