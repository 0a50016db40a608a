-- The weights of a list that come to a leaf stand in columns: of the entries that meet a trigger in that of the trigger's sequence, of those
-- that play the leaf's own moves in that of the leaf's two sequences.
use Rattle.std.proofs.Common.{◌≡◌, ◌↔◌, ℕ, ◌<◌, ◌&&◌, List, length, Some, slice_get, slice_index, ℤ}
use Rattle.corr_game.specs.declared.notions.Notion.{Notion}
use Rattle.corr_game.specs.declared.sides.Side.{Side}
use Rattle.corr_game.specs.Game.{GameView, IsGame}
use Rattle.corr_game.specs.Plan.{plan_of}
use Rattle.tree_recall.specs.OwnSequence.{HasRecall}
use Rattle.sequences.specs.Number.{side_of}
use Rattle.connected_pairs.specs.Connected.{IsPairs, IsPairsOf, PairsView, other}
use Rattle.equilibrium.specs.declared.triggers.Trigger.{Trigger}
use Rattle.equilibrium.specs.Deviation.{IsTriggerOf, meets}
use Rattle.equilibrium.specs.Distribution.{Entry}
use Rattle.equilibrium.specs.Leaves.{names_all}
use Rattle.incentive_rows.specs.Coefficient.{pair_column}
use Rattle.equilibrium_solutions.specs.ColumnSums.{AreColumnSums, SumsTo}
use Rattle.equilibrium_solutions.specs.Departure.{OwnSequences, beside_node, in_column}
use Rattle.equilibrium_solutions.specs.Values.{IsProgramTrigger, stands_for}
use Rattle.equilibrium_solutions.proofs.ListGains.{met, played}
use Rattle.equilibrium_solutions.proofs.Numbers.{node_plays}
use Rattle.equilibrium_solutions.proofs.Relevance.{pair_of}
use Rattle.equilibrium_solutions.proofs.TestedSums.{tested_sum, tests_of_plans}
use Rattle.equilibrium_solutions.proofs.Triggers.{meets_plays}

-- the pair of these sequences has a column
pub record HasColumn (p : PairsView) (side : Side) (own beside : ℕ) : Type 0 where
  pub column : ℕ
  pub there : pair_column p side own beside ≡ Some column
  pub pair : slice_get p.pairs column ≡ Some (pair_of side own beside)

sum_in_column : (p : PairsView) (side : Side) (own beside : ℕ) (list : List Entry) (x : ℕ → ℤ) → AreColumnSums p list x → HasColumn p side own beside
    → SumsTo p.seqs (pair_of side own beside) list (in_column x (pair_column p side own beside))
sum_in_column p side own beside list x sums has = rw has.there (sums has.column (pair_of side own beside) has.pair)

turned : {A B : Type 0} → A ↔ B → B ↔ A
turned {A} {B} h = (h.1, h.0)

module _ (g : GameView) (rules : IsGame g) (p : PairsView) (pairs : IsPairs p) (of : IsPairsOf g p) (side : Side)
    (own : OwnSequences side g) (others : OwnSequences (other side) g) (list : List Entry) (x : ℕ → ℤ) (sums : AreColumnSums p list x) where
  pub played_column : (n : ℕ) → n < length g.nodes
      → HasColumn p side (slice_index (side_of side p.seqs).nodes n) (slice_index (side_of (other side) p.seqs).nodes n)
      → played side own.node others.node list n ≡ beside_node p side x (slice_index (side_of side p.seqs).nodes n) n
  played_column n low has =
      let mine = slice_index (side_of side p.seqs).nodes n in
      let theirs = slice_index (side_of (other side) p.seqs).nodes n in
      tested_sum p.seqs (pair_of side mine theirs)
      (λ e. names_all (plan_of side e.one e.two) (own.node n) && names_all (plan_of (other side) e.one e.two) (others.node n)) list _
      (tests_of_plans p.seqs side mine theirs (λ plan. names_all plan (own.node n)) (λ plan. names_all plan (others.node n)) list
      (λ k e at. turned (node_plays g rules p pairs of side own (plan_of side e.one e.two) n low))
      (λ k e at. turned (node_plays g rules p pairs of (other side) others (plan_of (other side) e.one e.two) n low)))
      (sum_in_column p side mine theirs list x sums has)

  pub met_column : HasRecall g side → (notion : Notion) (trigger : Trigger) (seq : ℕ) → IsTriggerOf notion g side trigger
      → IsProgramTrigger notion g p side (stands_for side trigger seq) → (n : ℕ) → n < length g.nodes
      → HasColumn p side seq (slice_index (side_of (other side) p.seqs).nodes n)
      → met side g trigger others.node list n ≡ beside_node p side x seq n
  met_column recall notion trigger seq of_notion is n low has =
      let theirs = slice_index (side_of (other side) p.seqs).nodes n in
      tested_sum p.seqs (pair_of side seq theirs)
      (λ e. meets side g trigger (plan_of side e.one e.two) && names_all (plan_of (other side) e.one e.two) (others.node n)) list _
      (tests_of_plans p.seqs side seq theirs (λ plan. meets side g trigger plan) (λ plan. names_all plan (others.node n)) list
      (λ k e at. meets_plays g p pairs of side rules recall own notion trigger seq of_notion is (plan_of side e.one e.two))
      (λ k e at. turned (node_plays g rules p pairs of (other side) others (plan_of (other side) e.one e.two) n low)))
      (sum_in_column p side seq theirs list x sums has)
