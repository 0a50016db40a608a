-- No full choice gains at a trigger exactly where the number from the last set back is at most what following pays.
use Rattle.std.proofs.Common.{◌≡◌, ◌↔◌, ℕ, ◌<◌, Bool, true, false, ◌&&◌, cond, List, All, length, Option, Some, None}
use Rattle.std.proofs.Common.{slice_get, slice_index, ℤ, pos, ◌*ℤ◌, ◌≤ℤ◌, refl, ap, ◌∙◌, arith}
use Rattle.std.proofs.lemmas.Bool.{and_from, and_parts}
use Rattle.std.proofs.lemmas.Int.{ints}
use Rattle.std.proofs.lemmas.Option.{slice_get_within}
use Rattle.exact_algebra.specs.Sums.{sum_over, sum_to}
use Rattle.exact_algebra.proofs.ListSums.{sum_over-nothing}
use Rattle.exact_algebra.proofs.RingLaws.{*ℤ-zero}
use Rattle.exact_algebra.proofs.Sums.{sum_to-same}
use Rattle.corr_game.specs.declared.nodes.SetId.{SetId}
use Rattle.corr_game.specs.declared.notions.Notion.{Notion}
use Rattle.corr_game.specs.declared.notions.Notion.TheVariants.{Efce, Efcce, Nfcce}
use Rattle.corr_game.specs.declared.sides.Side.{Side}
use Rattle.corr_game.specs.Game.{GameView, IsGame, sets_of}
use Rattle.corr_game.specs.Plan.{plan_of}
use Rattle.tree_recall.specs.OwnSequence.{HasRecall}
use Rattle.sequences.specs.Number.{side_of}
use Rattle.connected_pairs.specs.Connected.{IsPairs, IsPairsOf, PairsView, other}
use Rattle.equilibrium.specs.declared.triggers.Trigger.{Trigger}
use Rattle.equilibrium.specs.declared.triggers.Trigger.TheVariants.{Told, Reached, Start}
use Rattle.equilibrium.specs.Deviation.{IsTriggerOf, meets}
use Rattle.equilibrium.specs.Distribution.{Entry, IsEntry}
use Rattle.equilibrium.specs.Equilibrium.{GainsNoMore, no_slack}
use Rattle.equilibrium.specs.FullChoice.{IsFullChoice}
use Rattle.equilibrium.specs.Leaves.{leaf_amount, names_all}
use Rattle.equilibrium.specs.Reach.{leads, names}
use Rattle.equilibrium_solutions.specs.Decision.{IsChoice}
use Rattle.equilibrium_solutions.specs.Departure.{OwnSequences, has_followed}
use Rattle.equilibrium_solutions.specs.Values.{IsProgramTrigger, action_of, stands_for, top_of}
use Rattle.equilibrium_solutions.proofs.Improving.{actions_of, gets_same, info_at, listed, listed-at, listed-get, listed-length, read_at}
use Rattle.equilibrium_solutions.proofs.ListGains.{followed_behind, no_gain_where}
use Rattle.equilibrium_solutions.proofs.MoveNumbers.{IsNumberOf, holds_by_moves}
use Rattle.equilibrium_solutions.proofs.Numbers.{node_numbered, node_plays}
use Rattle.equilibrium_solutions.proofs.PlanMoves.{meets_where_followed, some_weaker, taken_there}
use Rattle.equilibrium_solutions.proofs.Triggers.{meets_plays}
use Rattle.deviation_gains.specs.Leaving.{IsPast, IsWorth, PlanTest, StandInRow, TellsFollowed, TellsLeft, paid_behind, paid_in_list}
use Rattle.deviation_gains.proofs.GainValues.{decides, leaving_there, most_of_worth}

abbrev Moves : Type 0
Moves = List (SetId × ℕ)

-- an entry's weight under a test of the node alone
pub node_tested : (test : Bool) (a : ℤ) (plays : Entry → Bool) (list : List Entry)
    → a *ℤ sum_over (λ e. cond (test && plays e) (pos e.weight) (pos 0)) list
    ≡ cond test (a *ℤ sum_over (λ e. cond (plays e) (pos e.weight) (pos 0)) list) (pos 0)
node_tested true a plays list = refl
node_tested false a plays list = ap (λ (z : ℤ). a *ℤ z) (sum_over-nothing list) ∙ *ℤ-zero a

-- a trigger's set is one of its player's
pub known_top : (notion : Notion) (g : GameView) (side : Side) (left : Trigger) → IsTriggerOf notion g side left → (set : SetId)
    → top_of left ≡ Some set → set.0 < length (sets_of side g)
known_top Efce g side (Told at action) is set e =
    let same : at.0 ≡ set.0 = (let one : at ≡ set = cc (e) in ap (λ (s : SetId). s.0) one) in
    omega (arith, same, slice_get_within (sets_of side g) at.0 is.0 is.1)
known_top Efce g side (Reached at) is set e = absurd is
known_top Efce g side Start is set e = absurd is
known_top Efcce g side (Told at action) is set e = absurd is
known_top Efcce g side (Reached at) is set e =
    let same : at.0 ≡ set.0 = (let one : at ≡ set = cc (e) in ap (λ (s : SetId). s.0) one) in
    omega (arith, same, is)
known_top Efcce g side Start is set e = absurd is
known_top Nfcce g side (Told at action) is set e = absurd is
known_top Nfcce g side (Reached at) is set e = absurd is
known_top Nfcce g side Start is set e = absurd (cc)

weaker : (top : Option SetId) (action : Option ℕ) (moves : Moves) → has_followed top action moves ≡ true
    → has_followed top None moves ≡ true
weaker None action moves h = refl
weaker (Some top) action moves h = some_weaker top.0 action moves h

stronger : (side : Side) (g : GameView) (left : Trigger) (plan : List (Option ℕ)) (moves : Moves) → meets side g left plan ≡ true
    → names_all plan moves ≡ true → has_followed (top_of left) None moves ≡ true
    → has_followed (top_of left) (action_of left) moves ≡ true
stronger side g (Told set action) plan moves met named h =
    taken_there side g plan set.0 action moves (and_parts (leads side g plan set.0) (names action (slice_get plan set.0)) met).1 named h
stronger side g (Reached set) plan moves met named h = h
stronger side g Start plan moves met named h = refl

module _ (g : GameView) (rules : IsGame g) (p : PairsView) (pairs : IsPairs p) (of : IsPairsOf g p) (side : Side)
    (recall : HasRecall g side) (own : OwnSequences side g) (others : OwnSequences (other side) g) (notion : Notion) (left : Trigger) (seq : ℕ)
    (of_notion : IsTriggerOf notion g side left) (is : IsProgramTrigger notion g p side (stands_for side left seq)) where
  -- by own sequences: whether a plan meets the trigger and the other's names the moves to a node
  abbrev pub left_test : PlanTest
  left_test = λ n plan against. meets side g left plan && names_all against (others.node n)

  -- whether the moves to a node have followed the trigger, and both plans name theirs
  abbrev pub followed_test : PlanTest
  followed_test = λ n plan against.
      has_followed (top_of left) (action_of left) (own.node n) && (names_all plan (own.node n) && names_all against (others.node n))

  pub tells_left : TellsLeft p.seqs side seq (length g.nodes) left_test
  tells_left n low plan against =
      let met = meets_plays g p pairs of side rules recall own notion left seq of_notion is plan in
      let there = node_plays g rules p pairs of (other side) others against n low in (
        λ h. (let both = and_parts (meets side g left plan) (names_all against (others.node n)) h in (met.0 both.0, there.1 both.1)),
        λ plays. and_from (meets side g left plan) (names_all against (others.node n)) (met.1 plays.0) (there.0 plays.1),
      )

  past_by : (top : Option SetId) (moves : Moves) (q : ℕ) → IsNumberOf (side_of side p.seqs) moves q
      → IsPast (side_of side p.seqs) top q ↔ (has_followed top None moves ≡ true)
  past_by None moves q k = (λ h. refl, λ h. tt)
  past_by (Some top) moves q k = holds_by_moves (side_of side p.seqs) (pairs.sides side) top.0 moves q k

  pub tells_followed : TellsFollowed p.seqs side (top_of left) seq (length g.nodes) followed_test
  tells_followed n low plan against =
      let moves = own.node n in
      let met = meets_plays g p pairs of side rules recall own notion left seq of_notion is plan in
      let here = node_plays g rules p pairs of side own plan n low in
      let there = node_plays g rules p pairs of (other side) others against n low in
      let past = past_by (top_of left) moves (slice_index (side_of side p.seqs).nodes n)
      (node_numbered g rules p pairs of side own n low) in
      let followed = has_followed (top_of left) (action_of left) moves in
      let mine = names_all plan moves in
      let theirs = names_all against (others.node n) in (
        λ h.
            let both = and_parts followed (mine && theirs) h in
            let named = and_parts mine theirs both.1 in (
              past.1 (weaker (top_of left) (action_of left) moves both.0),
              met.0 (meets_where_followed side g rules recall left plan n moves (own.each_node.each n low)
                  (and_from followed mine both.0 named.0)),
              here.1 named.0,
              there.1 named.1,
            ),
        λ plays.
            let named = here.0 plays.2 in
            and_from followed (mine && theirs) (stronger side g left plan moves (met.1 plays.1) named (past.0 plays.0))
            (and_from mine theirs named (there.0 plays.3)),
      )

  module _ (list : List Entry) (each : All (IsEntry g) list) where
    -- what following pays
    followed_sum : (choice : List ℕ)
        → sum_to (length g.nodes) (λ n. paid_in_list side g followed_test list n)
        ≡ followed_behind side g rules recall own others left choice list
    followed_sum choice =
        sum_to-same (length g.nodes) _ _ (λ n low. node_tested (has_followed (top_of left) (action_of left) (own.node n))
        (leaf_amount side (slice_get g.nodes n))
        (λ e. names_all (plan_of side e.one e.two) (own.node n) && names_all (plan_of (other side) e.one e.two) (others.node n)) list)

    pub none_gains_where : (best follows : ℤ) → StandInRow (side_of side p.seqs).places
        → IsWorth (side_of side p.seqs).places
        (paid_behind (side_of side p.seqs).nodes (paid_in_list side g left_test list) (length g.nodes)) (top_of left) best
        → follows ≡ sum_to (length g.nodes) (λ n. paid_in_list side g followed_test list n)
        → ((choice : List ℕ) → IsFullChoice side g choice → GainsNoMore side g no_slack list left choice) ↔ (best ≤ℤ follows)
    none_gains_where best follows row worth sum =
        let t = stands_for side left seq in
        let pays = paid_in_list side g left_test list in
        let d = leaving_there g rules p pairs of t own pays in
        let rules_d = decides g rules p pairs of t own pays in
        let most = most_of_worth g rules p pairs of t own pays row (top_of left) best refl (known_top notion g side left of_notion) worth in
        let choice = listed (length (sets_of side g)) most.best in
        let full : IsFullChoice side g choice = record {
          per_set = listed-length (length (sets_of side g)) most.best;
          in_range = λ set action info named there.
              let action_is = listed-get (length (sets_of side g)) most.best set action named in
              let low = slice_get_within (sets_of side g) set info there in
              let inside = most.in_range set low in
              let count = actions_of (sets_of side g) set info there in
              omega (arith, action_is, inside, count);
        } in (
          λ none.
              let same = gets_same d rules_d (λ set. slice_index choice set) most.best
              (λ set low. listed-at (length (sets_of side g)) most.best set low) in
              let no_more = (no_gain_where side g rules recall own others left choice list each).0 (none choice full) in
              at_most best _ _ _ follows most.met same no_more (sum ∙ followed_sum choice),
          λ over other_choice is_full.
              let in_range : IsChoice d (λ set. slice_index other_choice set) = λ set low.
              (let info = info_at (sets_of side g) set low in
              let named = read_at other_choice set (omega (arith, is_full.per_set)) in
              rw info.1 (is_full.in_range set (slice_index other_choice set) info.0 named info.1)) in
              let bound = most.bound (λ set. slice_index other_choice set) in_range in
              (no_gain_where side g rules recall own others left other_choice list each).1
              (under best _ follows _ bound over (sum ∙ followed_sum other_choice)),
        )
      where
        at_most : (b m l f r : ℤ) → m ≡ b → l ≡ m → l ≤ℤ f → r ≡ f → b ≤ℤ r
        at_most b m l f r e h k s = omega (arith, ints)

        under : (b l r f : ℤ) → l ≤ℤ b → b ≤ℤ r → r ≡ f → l ≤ℤ f
        under b l r f h k e = omega (arith, ints)
