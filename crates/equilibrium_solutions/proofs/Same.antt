-- A list is an equilibrium list exactly where its column sums extend to a solution of the notion's program: its triggers' sets have values
-- that are worth no more than following, and the program's rows say so.
use Rattle.std.proofs.Common.{◌≡◌, ◌↔◌, ℕ, ◌+◌, ◌<◌, ◌≤◌, true, List, All, length, Option, Some, None, slice_index, ℤ, pos, ◌*ℤ◌, ◌≤ℤ◌, ◌∙◌}
use Rattle.std.proofs.lemmas.Option.{slice_get_within}
use Rattle.exact_algebra.specs.Sums.{sum_to}
use Rattle.std.proofs.Common.{◌<ℤ◌, refl, sym, ap, subst, arith}
use Rattle.corr_game.specs.declared.notions.Notion.{Notion}
use Rattle.corr_game.specs.declared.notions.Notion.TheVariants.{Efce, Efcce, Nfcce}
use Rattle.corr_game.specs.declared.sides.Side.{Side}
use Rattle.corr_game.specs.declared.sides.Side.TheVariants.{One, Two}
use Rattle.corr_game.specs.Game.{GameView, IsGame}
use Rattle.tree_recall.specs.OwnSequence.{HasRecall}
use Rattle.sequences.specs.Number.{side_of}
use Rattle.sequences.proofs.Adding.{within}
use Rattle.connected_pairs.specs.Connected.{IsPairs, IsPairsOf, PairsView, other}
use Rattle.connected_pairs.proofs.Indices.{index_in}
use Rattle.lp_form.specs.Program.{LpView, joined, payoff_of, right_of}
use Rattle.lp_form.specs.Solutions.{IsSolution, paid}
use Rattle.equilibrium.specs.declared.triggers.Trigger.{Trigger}
use Rattle.equilibrium.specs.Deviation.{IsTriggerOf, following}
use Rattle.equilibrium.specs.Distribution.{Entry, IsEntry, total}
use Rattle.equilibrium.specs.Equilibrium.{GainsNoMore, IsEquilibriumList, no_slack}
use Rattle.equilibrium.specs.FullChoice.{IsFullChoice}
use Rattle.incentive_rows.specs.declared.triggers.Trigger.{Trigger as ProgramTrigger}
use Rattle.incentive_rows.specs.Standing.{HasRowsOf}
use Rattle.plan_polytope.specs.NotionProgram.{IsProgramOf}
use Rattle.plan_polytope.specs.Payoffs.{column_at}
use Rattle.plan_polytope.proofs.Units.{at}
use Rattle.equilibrium_solutions.specs.ColumnSums.{AreColumnSums, Extends, SumsTo}
use Rattle.equilibrium_solutions.specs.Decision.{gets}
use Rattle.equilibrium_solutions.specs.Departure.{OwnSequences, departure, followed, in_column}
use Rattle.equilibrium_solutions.specs.Values.{HasValues, IsProgramTrigger, stands_for}
use Rattle.equilibrium_solutions.proofs.Assembly.{solution_of_values}
use Rattle.equilibrium_solutions.proofs.BaseRows.{base_rows_met}
use Rattle.equilibrium_solutions.proofs.BlockRows.{RowsSay}
use Rattle.equilibrium_solutions.proofs.Improving.{gains_nothing, has_values, none_gains}
use Rattle.equilibrium_solutions.proofs.LeafColumns.{HasColumn, played_column}
use Rattle.equilibrium_solutions.proofs.Leaving.{left_relevant, trigger_on_path}
use Rattle.equilibrium_solutions.proofs.Numbers.{followed_by, node_last, of_set, set_last}
use Rattle.equilibrium_solutions.proofs.PaidLeaves.{paid_by_leaves}
use Rattle.equilibrium_solutions.proofs.Paying.{paid_is_following}
use Rattle.equilibrium_solutions.proofs.PlanMoves.{counted, top_of}
use Rattle.equilibrium_solutions.proofs.Recalled.{has_recall}
use Rattle.equilibrium_solutions.proofs.ReducedPlans.{entries_by}
use Rattle.equilibrium_solutions.proofs.Relevance.{column_pair, node_low, own_relevant}
use Rattle.equilibrium_solutions.proofs.RowMeaning.{HasColumns, Read, block_value, row_of_action, row_of_following}
use Rattle.equilibrium_solutions.proofs.SetNodes.{own_sequences}
use Rattle.equilibrium_solutions.proofs.SolutionValues.{values_of_solution}
use Rattle.equilibrium_solutions.proofs.SumRows.{sum_not_negative}
use Rattle.equilibrium_solutions.proofs.Triggers.{has_rows, is_trigger}

-- a program's trigger is one of its player's
trigger_side : (notion : Notion) (g : GameView) (p : PairsView) (side : Side) (trigger : ProgramTrigger)
    → IsProgramTrigger notion g p side trigger → trigger.side ≡ side
trigger_side Efce g p side trigger is = is.5.0
trigger_side Efcce g p side trigger is = is.5.0
trigger_side Nfcce g p side trigger is = ap (λ (t : ProgramTrigger). t.side) is

module _ (g : GameView) (rules : IsGame g) (recall : (side : Side) → HasRecall g side) (p : PairsView) (pairs : IsPairs p)
    (of : IsPairsOf g p) (notion : Notion) where
  abbrev own : (side : Side) → OwnSequences side g
  own side = own_sequences side g rules (recall side)

  at_own_side : (side : Side) (trigger : ProgramTrigger) → IsProgramTrigger notion g p side trigger
      → IsProgramTrigger notion g p trigger.side trigger
  at_own_side side trigger is =
      let P : Side → Type 0 = λ s. IsProgramTrigger notion g p s trigger in
      subst P (sym (trigger_side notion g p side trigger is)) is

  read_of : (side : Side) (trigger : ProgramTrigger) → IsProgramTrigger notion g p side trigger → Read g p trigger (own trigger.side)
  read_of side trigger is = record {
    nodes = node_last g rules p pairs of trigger.side (own trigger.side);
    sets = set_last g rules p pairs of trigger.side (own trigger.side);
    has = of_set g rules p pairs of trigger.side (own trigger.side) trigger.set;
    follows = λ n low. followed_by g rules p pairs of trigger.side (own trigger.side) notion trigger n (at_own_side side trigger is) low;
  }

  own_column : (side : Side) (n : ℕ) → n < length g.nodes
      → HasColumn p side (slice_index (side_of side p.seqs).nodes n) (slice_index (side_of (other side) p.seqs).nodes n)
  own_column side n low =
      let found = own_relevant g rules p pairs of side (own side) (own (other side)) n low in
      record {
        column = found.0;
        there = found.1;
        pair = column_pair g rules p pairs of side _ _ found.0 (node_low g rules p pairs of side n low)
            (node_low g rules p pairs of (other side) n low) found.1;
      }

  left_column : (side : Side) (mine : OwnSequences side g) (trigger : Trigger) (seq : ℕ) (x : ℕ → ℤ)
      → IsProgramTrigger notion g p side (stands_for side trigger seq)
      → (n : ℕ) → n < length g.nodes → counted side g (top_of trigger) (mine.node n) ≡ true
      → HasColumn p side seq (slice_index (side_of (other side) p.seqs).nodes n)
  left_column side mine trigger seq x is n low counts =
      let t = stands_for side trigger seq in
      let found = left_relevant g rules p pairs of notion t mine (own (other side)) x n is low counts in
      let on_path = trigger_on_path g rules p pairs of notion t mine x n is low counts in
      record {
        column = found.0;
        there = found.1;
        pair = column_pair g rules p pairs of side seq _ found.0 on_path.0 (node_low g rules p pairs of (other side) n low) found.1;
      }

  module _ (list : List Entry) (each : All (IsEntry g) list) (x : ℕ → ℤ) (sums : AreColumnSums p list x) (lp : LpView)
      (program : IsProgramOf g p notion lp) where
    -- what sums to a solution is an equilibrium list
    pub equilibrium_of_solution : pos 0 <ℤ total list → IsSolution lp (total list) x → IsEquilibriumList notion g no_slack list
    equilibrium_of_solution some solution = record {
      entries = each;
      some_weight = some;
      none_improves = λ side trigger choice is full.
          let rows = has_rows g p pairs of side notion trigger is in
          let has = values_of_solution g p notion lp (total list) x pairs of program solution side (stands_for side trigger rows.0) rows.1
          (own side) (read_of side (stands_for side trigger rows.0) rows.1) in
          none_gains g rules p pairs of side (recall side) (own side) (own (other side)) list each x sums (own_column side)
          notion trigger rows.0 is rows.1 (left_column side (own side) trigger rows.0 x rows.1) has choice full;
    }

    values_of_list : IsEquilibriumList notion g no_slack list → (side : Side) (trigger : ProgramTrigger)
        → IsProgramTrigger notion g p side trigger → HasValues g p trigger (own trigger.side) x
    values_of_list eq side trigger is =
        let left = is_trigger g p pairs of side notion trigger is in
        let P : ProgramTrigger → Type 0 = λ t. IsProgramTrigger notion g p side t in
        let Q : ProgramTrigger → Type 0 = λ t. HasValues g p t (own t.side) x in
        let here = subst P left.2 is in
        subst Q (sym left.2) (has_values g rules p pairs of side (recall side) (own side) (own (other side)) list each x sums
        (own_column side) notion left.0 trigger.seq left.1 here (left_column side (own side) left.0 trigger.seq x here)
        (λ choice full. eq.none_improves side left.0 choice left.1 full))

    rows_say : (side : Side) (trigger : ProgramTrigger) → IsProgramTrigger notion g p side trigger → (first values : ℕ)
        → (block : HasRowsOf g p trigger first values (length p.pairs + program.values) program.more.cols program.more)
        → values + block.value_count ≤ program.values → first + block.row_count < program.incentives → (y : ℕ → ℤ)
        → RowsSay g p trigger (own trigger.side) first values (length p.pairs + program.values) program.more.cols program.more block y
    rows_say side trigger is first values block low_values low_rows y =
        let floor = length p.pairs + program.values in
        let cols = program.more.cols in
        let room : HasColumns p first values floor cols block.value_count block.row_count = record {
          for_values = omega (arith, low_values);
          for_slacks = omega (arith, low_rows, program.all_columns);
        } in
        let read = read_of side trigger is in
        record {
          value = block_value p values floor block.sets y;
          stands = λ set place at. rw at refl;
          row_of_action = row_of_action g p trigger first values floor cols program.more block pairs of room (own trigger.side) read y;
          row_of_following = row_of_following g p trigger first values floor cols program.more block pairs of room (own trigger.side) read y;
        }

    -- an equilibrium list's sums extend to a solution
    pub solution_of_equilibrium : IsEquilibriumList notion g no_slack list
        → (y : ℕ → ℤ) × ((k : ℕ) → k < length p.pairs → y k ≡ x k) × IsSolution lp (total list) y
    solution_of_equilibrium eq =
        let reduced = entries_by g rules p pairs of recall list each in
        let count : length p.pairs ≤ program.base.cols = omega (arith, program.columns) in
        solution_of_values notion g p lp pairs program own x (values_of_list eq)
        (λ side trigger is set low. of_set g rules p pairs of trigger.side (own trigger.side) trigger.set set low)
        rows_say (total list)
        (λ k low. (let pair = within p.pairs k low in sum_not_negative p.seqs pair.0 list (x k) (sums k pair.0 pair.1)))
        (λ row low. base_rows_met g p pairs of x x (λ k h. refl) list reduced sums program.base program.correlation program.base.cols count
        row (right_of lp row) low (λ e. rw e program.right_sides.one) (λ h. program.right_sides.zeros row h))

    pub pays_following : (side : Side) → paid lp side x ≡ following side g list
    pays_following side =
        let width = program.more.cols in
        let wide : length p.pairs ≤ width = omega (arith, program.all_columns) in
        let inside : (n k : ℕ) → n < length g.nodes → column_at p n ≡ Some k → k < width =
        λ n k low e. (let here = index_in p pairs _ _ k e in omega (arith, here)) in
        let by_leaves = paid_by_leaves g p program.base program.payoffs side width x inside in
        let as_base : paid lp side x ≡ sum_to width (λ k. payoff_of side program.base k *ℤ x k) =
        rw program.parts (joined_pays side program.base program.more x) in
        as_base ∙ paid_is_following g rules side (own One).node (own Two).node (own One).each_node (own Two).each_node p list program.base width x
        by_leaves
        (λ n low. played_column g rules p pairs of One (own One) (own Two) list x sums n low (own_column One n low) ∙ at_found (column_at p n) x)
      where
        joined_pays : (s : Side) (base more : LpView) (y : ℕ → ℤ)
            → paid (joined base more) s y ≡ sum_to more.cols (λ k. payoff_of s base k *ℤ y k)
        joined_pays One base more y = refl
        joined_pays Two base more y = refl

        at_found : (found : Option ℕ) (y : ℕ → ℤ) → in_column y found ≡ at found y
        at_found None y = refl
        at_found (Some k) y = refl

-- ---- as laws

pub choice_gains : (notion : Notion) (g : GameView) (p : PairsView) (side : Side) (left : Trigger) (seq : ℕ) (mine : OwnSequences side g)
    (list : List Entry) (x : ℕ → ℤ) (choice : List ℕ) → IsGame g → IsPairs p → IsPairsOf g p → All (IsEntry g) list
    → AreColumnSums p list x → IsTriggerOf notion g side left → IsProgramTrigger notion g p side (stands_for side left seq)
    → GainsNoMore side g no_slack list left choice
    ↔ (gets (departure g p (stands_for side left seq) mine x) (λ set. slice_index choice set)
    ≤ℤ followed g p (stands_for side left seq) mine x)
choice_gains notion g p side left seq mine list x choice rules pairs of each sums of_notion is =
    let recall = has_recall g rules p pairs of in
    gains_nothing g rules p pairs of side (recall side) mine (own_sequences (other side) g rules (recall (other side))) list each x sums
    (own_column g rules recall p pairs of notion side) notion left seq of_notion is
    (left_column g rules recall p pairs of notion side mine left seq x is) choice

pub none_gains_where : (notion : Notion) (g : GameView) (p : PairsView) (side : Side) (left : Trigger) (seq : ℕ) (mine : OwnSequences side g)
    (list : List Entry) (x : ℕ → ℤ) → IsGame g → IsPairs p → IsPairsOf g p → All (IsEntry g) list → AreColumnSums p list x
    → IsTriggerOf notion g side left → IsProgramTrigger notion g p side (stands_for side left seq)
    → ((choice : List ℕ) → IsFullChoice side g choice → GainsNoMore side g no_slack list left choice)
    ↔ HasValues g p (stands_for side left seq) mine x
none_gains_where notion g p side left seq mine list x rules pairs of each sums of_notion is =
    let recall = has_recall g rules p pairs of in
    let theirs = own_sequences (other side) g rules (recall (other side)) in
    let columns = own_column g rules recall p pairs of notion side in
    let left_columns = left_column g rules recall p pairs of notion side mine left seq x is in (
      λ none. has_values g rules p pairs of side (recall side) mine theirs list each x sums columns notion left seq of_notion is left_columns none,
      λ has choice full. none_gains g rules p pairs of side (recall side) mine theirs list each x sums columns notion left seq of_notion is
          left_columns has choice full,
    )

pub same : (notion : Notion) (g : GameView) (p : PairsView) (lp : LpView) (list : List Entry) (x : ℕ → ℤ) → IsGame g → IsPairs p
    → IsPairsOf g p → IsProgramOf g p notion lp → All (IsEntry g) list → pos 0 <ℤ total list → AreColumnSums p list x
    → IsEquilibriumList notion g no_slack list ↔ ((y : ℕ → ℤ) × Extends p x y × IsSolution lp (total list) y)
same notion g p lp list x rules pairs of program each some sums =
    let recall = has_recall g rules p pairs of in (
      λ eq. solution_of_equilibrium g rules recall p pairs of notion list each x sums lp program eq,
      λ solved.
          let y = solved.0 in
          let sums_too : AreColumnSums p list y = λ k pair at.
          (let P : ℤ → Type 0 = SumsTo p.seqs pair list in
          subst P (sym (solved.1 k (slice_get_within p.pairs k pair at))) (sums k pair at)) in
          equilibrium_of_solution g rules recall p pairs of notion list each y sums_too lp program some solved.2,
    )

pub pays : (notion : Notion) (g : GameView) (p : PairsView) (lp : LpView) (list : List Entry) (x : ℕ → ℤ) → IsGame g → IsPairs p
    → IsPairsOf g p → IsProgramOf g p notion lp → All (IsEntry g) list → AreColumnSums p list x
    → (side : Side) → paid lp side x ≡ following side g list
pays notion g p lp list x rules pairs of program each sums =
    pays_following g rules (has_recall g rules p pairs of) p pairs of notion list each x sums lp program
