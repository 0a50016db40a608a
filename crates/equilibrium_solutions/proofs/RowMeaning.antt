-- What the rows of a trigger's block say: a row of an action is its set's value less what the action leads to, the last row is what
-- following pays less what the start leads to, both less a slack.
use Rattle.std.proofs.Common.{◌≡◌, ◌≢◌, ◌↔◌, ℕ, ◌+◌, ◌<◌, ◌≤◌, Bool, true, false, ◌&&◌, cond, nat_eq, List, Option, Some, None, length}
use Rattle.std.proofs.Common.{slice_get, slice_index, ℤ, pos, ◌+ℤ◌, ◌-ℤ◌, ◌*ℤ◌, eq-eqb, ne_eqb, refl, sym, ap, subst, ◌∙◌, arith}
use Rattle.std.specs.Prelude.{Decides, unwrap_or}
use Rattle.std.proofs.lemmas.Bool.Decides.{Decides-eqb}
use Rattle.std.proofs.lemmas.Option.{slice_get_within}
use Rattle.exact_algebra.specs.Sums.{sum_to}
use Rattle.exact_algebra.proofs.RingTactic.{linear}
use Rattle.exact_algebra.proofs.Sums.{sum_to-difference, sum_to-nothing, sum_to-one}
use Rattle.corr_game.specs.declared.nodes.SetId.{SetId}
use Rattle.corr_game.specs.declared.nodes.SetInfo.{SetInfo}
use Rattle.corr_game.specs.Game.{GameView, sets_of}
use Rattle.tree_recall.specs.OwnSequence.{latest}
use Rattle.sequences.specs.Number.{IsOwn, last_of, side_of}
use Rattle.sequences.proofs.Adding.{within}
use Rattle.connected_pairs.specs.Connected.{PairsView, IsPairs, IsPairsOf}
use Rattle.lp_form.specs.Program.{LpView, coefficient}
use Rattle.incentive_rows.specs.declared.blocks.Columns.{Columns}
use Rattle.incentive_rows.specs.declared.places.SetPlace.{SetPlace}
use Rattle.incentive_rows.specs.declared.triggers.Trigger.{Trigger}
use Rattle.incentive_rows.specs.Coefficient.{IsLeafTerm, IsSetTerm, IsSlackTerm, row_at_move, row_left}
use Rattle.incentive_rows.specs.Standing.{HasRowsOf}
use Rattle.incentive_rows.specs.Term.{AreTerms, Both}
use Rattle.incentive_rows.specs.Trigger.{Follows, HasSet}
use Rattle.equilibrium_solutions.specs.Decision.{after, at_start, ends_with, is_given}
use Rattle.equilibrium_solutions.specs.Departure.{OwnSequences, before_play, departure, followed, has_followed, is_of, paid_followed}
use Rattle.equilibrium_solutions.specs.Departure.{paid_left}
use Rattle.equilibrium_solutions.proofs.RowPlaces.{LastIn, at_action, at_none, last_in, left_last, left_row, one_set, own_last, own_row}
use Rattle.equilibrium_solutions.proofs.RowPlaces.{row_inside, row_low}
use Rattle.equilibrium_solutions.proofs.RowSums.{Weighs, weighs_both, weighs_terms}
pub use Rattle.equilibrium_solutions.proofs.RowTerms.{over_floor}
use Rattle.equilibrium_solutions.proofs.RowTerms.{SetTests, leaf_weighs, set_weighs, slack_weighs}

-- sequences by number are the own sequences, and what a trigger has and who follows it is told by these
pub record Read (g : GameView) (p : PairsView) (trigger : Trigger) (own : OwnSequences trigger.side g) : Type 0 where
  pub nodes : (n : ℕ) → n < length g.nodes
      → last_of (side_of trigger.side p.seqs) (slice_index (side_of trigger.side p.seqs).nodes n) ≡ latest (own.node n)
  pub sets : (set seq : ℕ) → set < length (sets_of trigger.side g) → IsOwn (side_of trigger.side p.seqs) set seq
      → last_of (side_of trigger.side p.seqs) seq ≡ latest (own.set set)
  pub has : (set : ℕ) → set < length (sets_of trigger.side g)
      → HasSet (side_of trigger.side p.seqs) trigger.set set ↔ (is_of trigger.side g trigger.set set ≡ true)
  pub follows : (n : ℕ) → n < length g.nodes
      → Follows (side_of trigger.side p.seqs) trigger (slice_index (side_of trigger.side p.seqs).nodes n)
      ↔ (has_followed trigger.set trigger.action (own.node n) ≡ true)

-- the columns of a block's values stand before the floor, and those of its slacks are there
pub record HasColumns (p : PairsView) (first values floor cols value_count row_count : ℕ) : Type 0 where
  pub for_values : length p.pairs + values + value_count ≤ floor
  pub for_slacks : floor + 1 + first + row_count < cols

-- the values of a block's sets
abbrev pub block_value : PairsView → ℕ → ℕ → List (Option SetPlace) → (ℕ → ℤ) → ℕ → ℤ
block_value p values floor sets x set = over_floor x (length p.pairs + values) floor (slice_get sets set)

-- ---- a row by tests of its terms

module _ (g : GameView) (p : PairsView) (trigger : Trigger) (first values floor cols : ℕ) (more : LpView)
    (rows : HasRowsOf g p trigger first values floor cols more) (rules : IsPairs p) (whose : IsPairsOf g p)
    (room : HasColumns p first values floor cols rows.value_count rows.row_count) (own : OwnSequences trigger.side g)
    (read : Read g p trigger own) (x : ℕ → ℤ) where
  abbrev block_columns : Columns
  block_columns = record {
    values = length p.pairs + values;
    floor = floor;
    slacks = floor + 1 + first;
    all = cols;
  }

  abbrev row_at : List (SetId × ℕ) → Option ℕ
  row_at moves = row_at_move rows.sets (latest moves)

  abbrev is_inside : ℕ → Bool
  is_inside set = is_of trigger.side g trigger.set set

  -- the tests of row r: whether it is of an action at a set, that of own moves, where leaving pays behind own moves, and where a node's
  -- sequence follows
  record HasTests (r : ℕ) (here : ℕ → Bool) (above left : List (SetId × ℕ) → Bool) (follows : ℕ → Bool) : Type 0 where
    pub of_block : r ≤ rows.row_count
    pub of_action : (set : ℕ) (place : SetPlace) (info : SetInfo) → slice_get rows.sets set ≡ Some (Some place)
        → slice_get (sets_of trigger.side g) set ≡ Some info → Decides (here set) ((place.row ≤ r) × (r < place.row + info.actions))
    pub of_own : (moves : List (SetId × ℕ)) → LastIn trigger.side g (latest moves)
        → Decides (above moves) (r ≡ unwrap_or (row_at moves) rows.row_count)
    pub of_left : (moves : List (SetId × ℕ)) → LastIn trigger.side g (latest moves)
        → Decides (left moves) (row_left trigger.set rows.row_count (row_at moves) ≡ Some r)
    pub of_follows : (n : ℕ) → n < length g.nodes → Decides (follows n)
        (Follows (side_of trigger.side p.seqs) trigger (slice_index (side_of trigger.side p.seqs).nodes n) × (r ≡ rows.row_count))

  set_last : (set : ℕ) → set < length (sets_of trigger.side g) → LastIn trigger.side g (latest (own.set set))
  set_last set low =
      let place = within (side_of trigger.side p.seqs).places set (omega (arith, low, (whose.sides trigger.side).per_set)) in
      let at = read.sets set place.0.own low (place.0, place.1, refl) in
      subst (LastIn trigger.side g) at (last_in trigger.side g p rules whose place.0.own)

  node_last : (n : ℕ) → n < length g.nodes → LastIn trigger.side g (latest (own.node n))
  node_last n low =
      subst (LastIn trigger.side g) (read.nodes n low)
      (last_in trigger.side g p rules whose (slice_index (side_of trigger.side p.seqs).nodes n))

  module _ (r : ℕ) (here : ℕ → Bool) (above left : List (SetId × ℕ) → Bool) (follows : ℕ → Bool)
      (tests : HasTests r here above left follows) where
    abbrev gained : ℕ → ℤ
    gained set = cond (here set) (block_value p values floor rows.sets x set) (pos 0)

    abbrev spent : ℕ → ℤ
    spent set = cond (is_inside set && above (own.set set)) (block_value p values floor rows.sets x set) (pos 0)

    abbrev followed_there : ℕ → ℤ
    followed_there n = cond (follows n) (paid_followed g p trigger x n) (pos 0)

    abbrev left_there : ℕ → ℤ
    left_there n = cond (left (own.node n)) (paid_left g p trigger x n) (pos 0)

    each_set : (set : ℕ) → set < length (sets_of trigger.side g)
        → Weighs (λ k. IsSetTerm g p trigger rows.sets rows.row_count block_columns r k set) cols x (gained set -ℤ spent set)
    each_set set low =
        let info = within (sets_of trigger.side g) set low in
        let found = within rows.sets set (omega (arith, low, rows.placed.per_set)) in
        set_weighs g p trigger rows.sets rows.row_count block_columns r cols x set (latest (own.set set))
        (λ seq is. read.sets set seq low is) info.0 found.0 (here set) (is_inside set && above (own.set set)) info.1 found.1
        (λ place e. tests_of place info.0 (found.1 ∙ ap (λ (f : Option SetPlace). Some f) e) info.1)
      where
        tests_of : (place : SetPlace) (info : SetInfo) → slice_get rows.sets set ≡ Some (Some place)
            → slice_get (sets_of trigger.side g) set ≡ Some info
            → SetTests block_columns rows.sets rows.row_count r cols info.actions (latest (own.set set)) place (here set)
            (is_inside set && above (own.set set))
        tests_of place info at known =
            let yes : is_inside set ≡ true = (read.has set low).0 (rows.placed.each set place at).0 in
            let inner = tests.of_own (own.set set) (set_last set low) in
            record {
              of_action = tests.of_action set place info at known;
              of_own = rw yes inner;
              value_inside = omega (arith, room.for_values, room.for_slacks, (rows.placed.within set place info at known).0);
              floor_inside = omega (arith, room.for_slacks);
            }

    each_node : (n : ℕ) → n < length g.nodes
        → Weighs (λ k. IsLeafTerm g p trigger rows.sets rows.row_count r k n) cols x (followed_there n -ℤ left_there n)
    each_node n low =
        let node = within g.nodes n low in
        let last = node_last n low in
        let Left : Option (SetId × ℕ) → Type 0 =
        λ l. Decides (left (own.node n)) (row_left trigger.set rows.row_count (row_at_move rows.sets l) ≡ Some r) in
        leaf_weighs g p trigger rows.sets rows.row_count block_columns r cols x rules
        (omega (arith, room.for_values, room.for_slacks)) n (left (own.node n)) (follows n)
        (subst Left (sym (read.nodes n low)) (tests.of_left (own.node n) last)) (tests.of_follows n low) node.0 node.1

    row_product : sum_to cols (λ k. coefficient more (first + r) k *ℤ x k)
        ≡ sum_to (length (sets_of trigger.side g)) gained -ℤ sum_to (length (sets_of trigger.side g)) spent
        +ℤ (sum_to (length g.nodes) followed_there -ℤ sum_to (length g.nodes) left_there) -ℤ x (floor + 1 + first + r)
    row_product =
        let sets = length (sets_of trigger.side g) in
        let nodes = length g.nodes in
        let Set : ℕ → ℕ → ℤ → Type 0 = λ k. IsSetTerm g p trigger rows.sets rows.row_count block_columns r k in
        let Node : ℕ → ℕ → ℤ → Type 0 = λ k. IsLeafTerm g p trigger rows.sets rows.row_count r k in
        let Slack : ℕ → ℤ → Type 0 = λ k. IsSlackTerm block_columns (rows.row_count + 1) r k in
        let of_sets = weighs_terms Set cols x (λ j. gained j -ℤ spent j) sets each_set in
        let of_nodes = weighs_terms Node cols x (λ j. followed_there j -ℤ left_there j) nodes each_node in
        let of_slack = slack_weighs block_columns r cols x (rows.row_count + 1) (omega (arith, tests.of_block))
        (omega (arith, tests.of_block, room.for_slacks)) in
        let front = weighs_both (λ k. AreTerms (Set k) sets) Slack cols x _ _ of_sets of_slack in
        let whole = weighs_both (λ k. Both (AreTerms (Set k) sets) (Slack k)) (λ k. AreTerms (Node k) nodes) cols x _ _ front of_nodes in
        let product = whole.sum (λ k. coefficient more (first + r) k) (λ k. rows.terms r k tests.of_block) in
        let set_parts = sum_to-difference sets gained spent in
        let node_parts = sum_to-difference nodes followed_there left_there in
        omega (arith, linear, product, set_parts, node_parts)

  abbrev value : ℕ → ℤ
  value = block_value p values floor rows.sets x

  has_set : (set : ℕ) → set < length (sets_of trigger.side g)
      → Decides (is_inside set) (HasSet (side_of trigger.side p.seqs) trigger.set set)
  has_set set low = ((read.has set low).1, (read.has set low).0)

  -- ---- the row of an action

  module _ (set action : ℕ) (place : SetPlace) (info : SetInfo) (at : slice_get rows.sets set ≡ Some (Some place))
      (known : slice_get (sets_of trigger.side g) set ≡ Some info) (low : action < info.actions) where
    inside_block : place.row + action < rows.row_count
    inside_block =
        row_inside g p trigger.side trigger.set rows.sets rows.value_count rows.row_count rows.placed set action place info at known low

    latest_there : (moves : List (SetId × ℕ)) → LastIn trigger.side g (latest moves)
        → Decides (ends_with set action moves) (row_at moves ≡ Some (place.row + action))
    latest_there =
        at_action g p trigger.side trigger.set rows.sets rows.value_count rows.row_count rows.placed set action place info at known low

    same_set : (j : ℕ) (other : SetPlace) (i : SetInfo) → slice_get rows.sets j ≡ Some (Some other)
        → slice_get (sets_of trigger.side g) j ≡ Some i → j ≡ set
        → (other.row ≤ place.row + action) × (place.row + action < other.row + i.actions)
    same_set j other i there here same =
        let Place : ℕ → Type 0 = λ n. slice_get rows.sets n ≡ Some (Some other) in
        let Info : ℕ → Type 0 = λ n. slice_get (sets_of trigger.side g) n ≡ Some i in
        let there_too : slice_get rows.sets set ≡ Some (Some other) = subst Place same there in
        let here_too : slice_get (sets_of trigger.side g) set ≡ Some i = subst Info same here in
        let places : other ≡ place = cc (there_too, at) in
        let infos : i ≡ info = cc (here_too, known) in
        let numbers = ap (λ (q : SetPlace). q.row) places in
        let actions = ap (λ (q : SetInfo). q.actions) infos in
        (omega (arith, numbers), omega (arith, numbers, actions, low))

    action_tests : HasTests (place.row + action) (λ j. nat_eq j set) (ends_with set action) (ends_with set action) (λ n. false)
    action_tests = record {
      of_block = omega (arith, inside_block);
      of_action = λ j other i there here. (
        λ t. same_set j other i there here ((Decides-eqb j set).0 t),
        λ h. (Decides-eqb j set).1
            (one_set g p trigger.side trigger.set rows.sets rows.value_count rows.row_count rows.placed j set (place.row + action)
            other place i info there at here known h.0 h.1 (omega arith) (omega (arith, low))),
      );
      of_own = λ moves last.
          own_row (ends_with set action moves) (row_at moves) (place.row + action) rows.row_count inside_block (latest_there moves last);
      of_left = λ moves last.
          left_row trigger.set (ends_with set action moves) (row_at moves) (place.row + action) rows.row_count inside_block
          (latest_there moves last);
      of_follows = λ n within. (λ t. absurd (cc), λ h. absurd (omega (arith, h.1, inside_block)));
    }

    pub row_of_action : sum_to cols (λ k. coefficient more (first + (place.row + action)) k *ℤ x k)
        ≡ value set -ℤ after (departure g p trigger own x) value set action -ℤ x (floor + 1 + first + (place.row + action))
    row_of_action =
        let sets = length (sets_of trigger.side g) in
        let nodes = length g.nodes in
        let gains = λ (j : ℕ). cond (nat_eq j set) (value j) (pos 0) in
        let none : (j : ℕ) → j < sets → j ≢ set → gains j ≡ pos 0 = λ j h apart. (let t = ne_eqb j set apart in rw t refl) in
        let own_gain : gains set ≡ value set = (let t = eq-eqb set set refl in rw t refl) in
        let one = sum_to-one sets set gains (slice_get_within (sets_of trigger.side g) set info known) none in
        let nothing = sum_to-nothing nodes (λ n. pos 0) (λ n h. refl) in
        let spent = λ (j : ℕ). cond (is_inside j && ends_with set action (own.set j)) (value j) (pos 0) in
        let left = λ (n : ℕ). cond (ends_with set action (own.node n)) (paid_left g p trigger x n) (pos 0) in
        let product : sum_to cols (λ k. coefficient more (first + (place.row + action)) k *ℤ x k)
        ≡ sum_to sets gains -ℤ sum_to sets spent +ℤ (sum_to nodes (λ n. pos 0) -ℤ sum_to nodes left)
        -ℤ x (floor + 1 + first + (place.row + action)) =
        row_product (place.row + action) (λ j. nat_eq j set) (ends_with set action) (ends_with set action) (λ n. false) action_tests in
        let leads : after (departure g p trigger own x) value set action ≡ sum_to sets spent +ℤ sum_to nodes left = refl in
        omega (arith, linear, product, one, own_gain, nothing, leads)

  -- ---- the last row

  latest_given : (moves : List (SetId × ℕ)) → LastIn trigger.side g (latest moves)
      → Decides (is_given is_inside moves) (row_at moves ≡ None)
  latest_given = at_none g p trigger.side trigger.set rows.sets rows.value_count rows.row_count rows.placed is_inside has_set

  latest_low : (moves : List (SetId × ℕ)) → LastIn trigger.side g (latest moves) → (q : ℕ) → row_at moves ≡ Some q → q < rows.row_count
  latest_low moves = row_low g p trigger.side trigger.set rows.sets rows.value_count rows.row_count rows.placed (latest moves)

  following_tests : HasTests rows.row_count (λ j. false) (is_given is_inside) (λ moves. before_play trigger.set && is_given is_inside moves)
      (λ n. has_followed trigger.set trigger.action (own.node n))
  following_tests = record {
    of_block = omega arith;
    of_action = λ j other i there here. (λ t. absurd (cc), λ h. absurd (omega (arith, (rows.placed.within j other i there here).1, h.1)));
    of_own = λ moves last.
        own_last (is_given is_inside moves) (row_at moves) rows.row_count (latest_low moves last) (latest_given moves last);
    of_left = λ moves last.
        left_last trigger.set (is_given is_inside moves) (row_at moves) rows.row_count (latest_low moves last) (latest_given moves last);
    of_follows = λ n within. (λ t. ((read.follows n within).1 t, refl), λ h. (read.follows n within).0 h.0);
  }

  pub row_of_following : sum_to cols (λ k. coefficient more (first + rows.row_count) k *ℤ x k)
      ≡ followed g p trigger own x -ℤ at_start (departure g p trigger own x) value -ℤ x (floor + 1 + first + rows.row_count)
  row_of_following =
      let sets = length (sets_of trigger.side g) in
      let nodes = length g.nodes in
      let nothing = sum_to-nothing sets (λ j. pos 0) (λ j h. refl) in
      let spent = λ (j : ℕ). cond (is_inside j && is_given is_inside (own.set j)) (value j) (pos 0) in
      let left = λ (n : ℕ). cond (before_play trigger.set && is_given is_inside (own.node n)) (paid_left g p trigger x n) (pos 0) in
      let product : sum_to cols (λ k. coefficient more (first + rows.row_count) k *ℤ x k)
      ≡ sum_to sets (λ j. pos 0) -ℤ sum_to sets spent +ℤ (followed g p trigger own x -ℤ sum_to nodes left)
      -ℤ x (floor + 1 + first + rows.row_count) =
      row_product rows.row_count (λ j. false) (is_given is_inside) (λ moves. before_play trigger.set && is_given is_inside moves)
      (λ n. has_followed trigger.set trigger.action (own.node n)) following_tests in
      let leads : at_start (departure g p trigger own x) value ≡ sum_to sets spent +ℤ sum_to nodes left = refl in
      omega (arith, linear, product, nothing, leads)
