-- What each set and each leaf adds to the product of a block's row with a column of numbers, by tests of whether its terms stand there.
use Rattle.std.proofs.Common.{◌≡◌, ℕ, ◌+◌, ◌<◌, ◌≤◌, Bool, true, false, cond, List, Option, Some, None, length, slice_get, slice_index}
use Rattle.std.proofs.Common.{ℤ, pos, negsuc, ◌+ℤ◌, ◌-ℤ◌, ◌*ℤ◌, refl, sym, ap, subst, arith}
use Rattle.std.specs.Prelude.{Decides, unwrap_or}
use Rattle.exact_algebra.proofs.RingTactic.{ring_laws, linear}
use Rattle.corr_game.specs.declared.nodes.Node.{Node}
use Rattle.corr_game.specs.declared.nodes.Node.TheVariants.{Leaf, Chance, Choice}
use Rattle.corr_game.specs.declared.nodes.SetId.{SetId}
use Rattle.corr_game.specs.declared.nodes.SetInfo.{SetInfo}
use Rattle.corr_game.specs.declared.sides.Side.{Side}
use Rattle.corr_game.specs.declared.sides.Side.TheVariants.{One, Two}
use Rattle.corr_game.specs.Game.{GameView, sets_of}
use Rattle.corr_game.specs.Node.{amount_of}
use Rattle.sequences.specs.Number.{IsOwn, last_of, side_of}
use Rattle.connected_pairs.specs.Connected.{PairsView, IsPairs, other}
use Rattle.connected_pairs.proofs.Indices.{index_in}
use Rattle.equilibrium.specs.Leaves.{leaf_amount}
use Rattle.incentive_rows.specs.declared.blocks.Columns.{Columns}
use Rattle.incentive_rows.specs.declared.places.SetPlace.{SetPlace}
use Rattle.incentive_rows.specs.declared.triggers.Trigger.{Trigger}
use Rattle.incentive_rows.specs.Coefficient.{AtNode, AtSet, IsAboveTerm, IsLeafTerm, IsSetTerm, IsSlackTerm}
use Rattle.incentive_rows.specs.Coefficient.{IsValueTerm, pair_column, row_at_move, row_left}
use Rattle.incentive_rows.specs.Term.{Both, IsTerm}
use Rattle.incentive_rows.specs.Trigger.{Follows}
use Rattle.equilibrium_solutions.specs.Departure.{beside_node, in_column, paid_followed, paid_left}
use Rattle.equilibrium_solutions.proofs.RowSums.{StandsIn, Weighs, weighs_as, weighs_both, weighs_is, weighs_nothing, weighs_term}

-- a number over the floor for a set with a place, and 0 for another one
abbrev pub over_floor : (ℕ → ℤ) → ℕ → ℕ → Option (Option SetPlace) → ℤ
over_floor x values floor None = pos 0
over_floor x values floor (Some None) = pos 0
over_floor x values floor (Some (Some place)) = x (values + place.value) -ℤ x floor

-- ---- numbers under a test

taken : (test : Bool) (a b : ℤ) → cond test (pos 1 *ℤ a) (pos 0) +ℤ cond test (negsuc 0 *ℤ b) (pos 0) ≡ cond test (a -ℤ b) (pos 0)
taken true a b = omega (arith, linear)
taken false a b = refl

given : (test : Bool) (a b : ℤ) → cond test (negsuc 0 *ℤ a) (pos 0) +ℤ cond test (pos 1 *ℤ b) (pos 0) ≡ pos 0 -ℤ cond test (a -ℤ b) (pos 0)
given true a b = omega (arith, linear)
given false a b = refl

paid_both : (left follows : Bool) (amount a b : ℤ)
    → cond left ((pos 0 -ℤ amount) *ℤ a) (pos 0) +ℤ cond follows (amount *ℤ b) (pos 0)
    ≡ cond follows (amount *ℤ b) (pos 0) -ℤ cond left (amount *ℤ a) (pos 0)
paid_both true true amount a b = simp ring_laws (omega (arith, linear))
paid_both true false amount a b = simp ring_laws (omega (arith, linear))
paid_both false true amount a b = omega (arith, linear)
paid_both false false amount a b = refl

none_paid : (left follows : Bool) (a b : ℤ) → pos 0 ≡ cond follows (pos 0 *ℤ b) (pos 0) -ℤ cond left (pos 0 *ℤ a) (pos 0)
none_paid true true a b = omega (arith, linear)
none_paid true false a b = omega (arith, linear)
none_paid false true a b = omega (arith, linear)
none_paid false false a b = refl

nothing_over : (here above : Bool) → pos 0 ≡ cond here (pos 0) (pos 0) -ℤ cond above (pos 0) (pos 0)
nothing_over true true = refl
nothing_over true false = refl
nothing_over false true = refl
nothing_over false false = refl

-- ---- where terms stand

stands_at : (P : Type 0) (test : Bool) (col n : ℕ) → Decides test P → col < n → StandsIn (λ k. P × (k ≡ col)) test (Some col) n
stands_at P test col n d low = record {
  only = λ k h. (d.1 h.0, ap (λ (c : ℕ). Some c) (sym h.1));
  there = λ k t e. (d.0 t, let same : col ≡ k = cc in sym same);
  inside = λ k e. let same : col ≡ k = cc in omega (arith, same, low);
}

stands_between : (P Q : Type 0) (test : Bool) (col n : ℕ) → Decides test (P × Q) → col < n
    → StandsIn (λ k. P × Q × (k ≡ col)) test (Some col) n
stands_between P Q test col n d low = record {
  only = λ k h. (d.1 (h.0, h.1), ap (λ (c : ℕ). Some c) (sym h.2));
  there = λ k t e. ((d.0 t).0, (d.0 t).1, let same : col ≡ k = cc in sym same);
  inside = λ k e. let same : col ≡ k = cc in omega (arith, same, low);
}

stands_at_pair : (P : Type 0) (test : Bool) (col : Option ℕ) (n : ℕ) → Decides test P → ((k : ℕ) → col ≡ Some k → k < n)
    → StandsIn (λ k. P × (col ≡ Some k)) test col n
stands_at_pair P test col n d low = record {
  only = λ k h. (d.1 h.0, h.1);
  there = λ k t e. (d.0 t, e);
  inside = low;
}

stands_under : (P Q : Type 0) (test : Bool) (col : Option ℕ) (n : ℕ) → Decides test (P × Q) → ((k : ℕ) → col ≡ Some k → k < n)
    → StandsIn (λ k. P × Q × (col ≡ Some k)) test col n
stands_under P Q test col n d low = record {
  only = λ k h. (d.1 (h.0, h.1), h.2);
  there = λ k t e. ((d.0 t).0, (d.0 t).1, e);
  inside = low;
}

pair_in : (p : PairsView) → IsPairs p → (side : Side) (own beside n k : ℕ) → length p.pairs ≤ n
    → pair_column p side own beside ≡ Some k → k < n
pair_in p rules One own beside n k low e = omega (arith, index_in p rules own beside k e)
pair_in p rules Two own beside n k low e = omega (arith, index_in p rules beside own k e)

-- ---- sets

module _ (columns : Columns) (r n : ℕ) (x : ℕ → ℤ) where
  value_weighs : (actions : ℕ) (place : SetPlace) (test : Bool) → Decides test ((place.row ≤ r) × (r < place.row + actions))
      → columns.values + place.value < n → columns.floor < n
      → Weighs (λ k. IsValueTerm columns actions place r k) n x (cond test (x (columns.values + place.value) -ℤ x columns.floor) (pos 0))
  value_weighs actions place test d low floor_low =
      let P = place.row ≤ r in
      let Q = r < place.row + actions in
      let col = columns.values + place.value in
      let A : ℕ → ℤ → Type 0 = λ k. IsTerm (P × Q × (k ≡ col)) (pos 1) in
      let B : ℕ → ℤ → Type 0 = λ k. IsTerm (P × Q × (k ≡ columns.floor)) (negsuc 0) in
      let one = weighs_term (λ k. P × Q × (k ≡ col)) (pos 1) test (Some col) n x (stands_between P Q test col n d low) in
      let two = weighs_term (λ k. P × Q × (k ≡ columns.floor)) (negsuc 0) test (Some columns.floor) n x
      (stands_between P Q test columns.floor n d floor_low) in
      weighs_is (λ k. Both (A k) (B k)) n x _ _ (taken test (x col) (x columns.floor)) (weighs_both A B n x _ _ one two)

  above_weighs : (row : ℕ) (place : SetPlace) (test : Bool) → Decides test (r ≡ row) → columns.values + place.value < n → columns.floor < n
      → Weighs (λ k. IsAboveTerm columns row place r k) n x
      (pos 0 -ℤ cond test (x (columns.values + place.value) -ℤ x columns.floor) (pos 0))
  above_weighs row place test d low floor_low =
      let P = r ≡ row in
      let col = columns.values + place.value in
      let A : ℕ → ℤ → Type 0 = λ k. IsTerm (P × (k ≡ col)) (negsuc 0) in
      let B : ℕ → ℤ → Type 0 = λ k. IsTerm (P × (k ≡ columns.floor)) (pos 1) in
      let one = weighs_term (λ k. P × (k ≡ col)) (negsuc 0) test (Some col) n x (stands_at P test col n d low) in
      let two = weighs_term (λ k. P × (k ≡ columns.floor)) (pos 1) test (Some columns.floor) n x
      (stands_at P test columns.floor n d floor_low) in
      weighs_is (λ k. Both (A k) (B k)) n x _ _ (given test (x col) (x columns.floor)) (weighs_both A B n x _ _ one two)

  pub slack_weighs : (rows : ℕ) → r < rows → columns.slacks + r < n
      → Weighs (λ k. IsSlackTerm columns rows r k) n x (pos 0 -ℤ x (columns.slacks + r))
  slack_weighs rows low inside =
      let P = r < rows in
      let Stands : ℕ → Type 0 = λ k. P × (k ≡ columns.slacks + r) in
      let known : Decides true P = (λ t. low, λ h. refl) in
      let less : negsuc 0 *ℤ x (columns.slacks + r) ≡ pos 0 -ℤ x (columns.slacks + r) = omega (arith, linear) in
      weighs_is (λ k. IsTerm (Stands k) (negsuc 0)) n x _ _ less
      (weighs_term Stands (negsuc 0) true (Some (columns.slacks + r)) n x (stands_at P true (columns.slacks + r) n known inside))

-- the tests of a set's terms in a row: whether the row is of one of its actions, and whether it is that of the set's own sequence
pub record SetTests (columns : Columns) (sets : List (Option SetPlace)) (follow : ℕ) (r n : ℕ) (actions : ℕ) (last : Option (SetId × ℕ))
    (place : SetPlace) (here above : Bool) : Type 0 where
  pub of_action : Decides here ((place.row ≤ r) × (r < place.row + actions))
  pub of_own : Decides above (r ≡ unwrap_or (row_at_move sets last) follow)
  pub value_inside : columns.values + place.value < n
  pub floor_inside : columns.floor < n

module _ (g : GameView) (p : PairsView) (trigger : Trigger) (sets : List (Option SetPlace)) (follow : ℕ) (columns : Columns) (r n : ℕ)
    (x : ℕ → ℤ) where
  module _ (set : ℕ) (last : Option (SetId × ℕ))
      (owns : (seq : ℕ) → IsOwn (side_of trigger.side p.seqs) set seq → last_of (side_of trigger.side p.seqs) seq ≡ last) where
    at_set_weighs : (info : SetInfo) (found : Option SetPlace) (here above : Bool)
        → ((place : SetPlace) → found ≡ Some place → SetTests columns sets follow r n info.actions last place here above)
        → Weighs (λ k. AtSet p trigger sets follow columns set info found r k) n x
        (cond here (over_floor x columns.values columns.floor (Some found)) (pos 0)
        -ℤ cond above (over_floor x columns.values columns.floor (Some found)) (pos 0))
    at_set_weighs info None here above tests =
        weighs_is (λ k v. v ≡ pos 0) n x _ _ (nothing_over here above) (weighs_nothing n x)
    at_set_weighs info (Some place) here above tests =
        let t = tests place refl in
        let row = unwrap_or (row_at_move sets last) follow in
        let over = x (columns.values + place.value) -ℤ x columns.floor in
        let A : ℕ → ℤ → Type 0 = λ k. IsValueTerm columns info.actions place r k in
        let B : ℕ → ℤ → Type 0 = λ k. IsAboveTerm columns row place r k in
        let C : ℕ → ℤ → Type 0 = λ k. AtSet p trigger sets follow columns set info (Some place) r k in
        let both = weighs_both A B n x _ _ (value_weighs columns r n x info.actions place here t.of_action t.value_inside t.floor_inside)
        (above_weighs columns r n x row place above t.of_own t.value_inside t.floor_inside) in
        let same : cond here over (pos 0) +ℤ (pos 0 -ℤ cond above over (pos 0)) ≡ cond here over (pos 0) -ℤ cond above over (pos 0) =
        omega (arith, linear) in
        let fixed : (k : ℕ) (v : ℤ) → C k v → Both (A k) (B k) v = λ k v h.
        (let Own : Option (SetId × ℕ) → Type 0 =
        λ l. Both (A k) (λ w. IsAboveTerm columns (unwrap_or (row_at_move sets l) follow) place r k w) v in
        subst Own (owns h.0 h.1) h.2) in
        weighs_as C (λ k. Both (A k) (B k)) n x _ fixed (weighs_is (λ k. Both (A k) (B k)) n x _ _ same both)

    pub set_weighs : (info : SetInfo) (found : Option SetPlace) (here above : Bool) → slice_get (sets_of trigger.side g) set ≡ Some info
        → slice_get sets set ≡ Some found
        → ((place : SetPlace) → found ≡ Some place → SetTests columns sets follow r n info.actions last place here above)
        → Weighs (λ k. IsSetTerm g p trigger sets follow columns r k set) n x
        (cond here (over_floor x columns.values columns.floor (slice_get sets set)) (pos 0)
        -ℤ cond above (over_floor x columns.values columns.floor (slice_get sets set)) (pos 0))
    set_weighs info found here above known at tests =
        let A : ℕ → ℤ → Type 0 = λ k. IsSetTerm g p trigger sets follow columns r k set in
        let B : ℕ → ℤ → Type 0 = λ k. AtSet p trigger sets follow columns set info found r k in
        let fixed : (k : ℕ) (v : ℤ) → A k v → B k v = λ k v h.
        (let infos : h.0 ≡ info = cc (h.2, known) in
        let places : h.1 ≡ found = cc (h.3, at) in
        let P : SetInfo → Type 0 = λ i. AtSet p trigger sets follow columns set i h.1 r k v in
        let Q : Option SetPlace → Type 0 = λ f. AtSet p trigger sets follow columns set info f r k v in
        subst Q places (subst P infos h.4)) in
        rw at (weighs_as A B n x _ fixed (at_set_weighs info found here above tests))

  -- ---- leaves

  -- the player's sequence at a node
  abbrev own_seq : ℕ → ℕ
  own_seq j = slice_index (side_of trigger.side p.seqs).nodes j

  module _ (rules : IsPairs p) (inside : length p.pairs ≤ n) (j : ℕ) (left follows : Bool)
      (of_left : Decides left (row_left trigger.set follow (row_at_move sets (last_of (side_of trigger.side p.seqs) (own_seq j))) ≡ Some r))
      (of_follows : Decides follows (Follows (side_of trigger.side p.seqs) trigger (own_seq j) × (r ≡ follow))) where
    node_weighs : (node : Node) → Weighs (λ k. AtNode p trigger sets follow j node r k) n x
        (cond follows (leaf_amount trigger.side (Some node) *ℤ beside_node p trigger.side x (own_seq j) j) (pos 0)
        -ℤ cond left (leaf_amount trigger.side (Some node) *ℤ beside_node p trigger.side x trigger.seq j) (pos 0))
    node_weighs (Leaf pay) =
        let s = side_of trigger.side p.seqs in
        let seq = own_seq j in
        let beside = slice_index (side_of (other trigger.side) p.seqs).nodes j in
        let amount = amount_of trigger.side pay in
        let one = pair_column p trigger.side trigger.seq beside in
        let two = pair_column p trigger.side seq beside in
        let P = row_left trigger.set follow (row_at_move sets (last_of s seq)) ≡ Some r in
        let F = Follows s trigger seq in
        let Q = r ≡ follow in
        let A : ℕ → ℤ → Type 0 = λ k. IsTerm (P × (one ≡ Some k)) (pos 0 -ℤ amount) in
        let B : ℕ → ℤ → Type 0 = λ k. IsTerm (F × Q × (two ≡ Some k)) amount in
        let low : (own k : ℕ) → pair_column p trigger.side own beside ≡ Some k → k < n =
        λ own k e. pair_in p rules trigger.side own beside n k inside e in
        let first = weighs_term (λ k. P × (one ≡ Some k)) (pos 0 -ℤ amount) left one n x
        (stands_at_pair P left one n of_left (low trigger.seq)) in
        let second = weighs_term (λ k. F × Q × (two ≡ Some k)) amount follows two n x
        (stands_under F Q follows two n of_follows (low seq)) in
        weighs_is (λ k. Both (A k) (B k)) n x _ _ (paid_both left follows amount (in_column x one) (in_column x two))
        (weighs_both A B n x _ _ first second)
    node_weighs (Chance kids) =
        weighs_is (λ k v. v ≡ pos 0) n x _ _ (none_paid left follows (beside_node p trigger.side x trigger.seq j)
        (beside_node p trigger.side x (own_seq j) j)) (weighs_nothing n x)
    node_weighs (Choice side set kids) =
        weighs_is (λ k v. v ≡ pos 0) n x _ _ (none_paid left follows (beside_node p trigger.side x trigger.seq j)
        (beside_node p trigger.side x (own_seq j) j)) (weighs_nothing n x)

    pub leaf_weighs : (node : Node) → slice_get g.nodes j ≡ Some node → Weighs (λ k. IsLeafTerm g p trigger sets follow r k j) n x
        (cond follows (paid_followed g p trigger x j) (pos 0) -ℤ cond left (paid_left g p trigger x j) (pos 0))
    leaf_weighs node known =
        let A : ℕ → ℤ → Type 0 = λ k. IsLeafTerm g p trigger sets follow r k j in
        let B : ℕ → ℤ → Type 0 = λ k. AtNode p trigger sets follow j node r k in
        let fixed : (k : ℕ) (v : ℤ) → A k v → B k v = λ k v h.
        (let nodes : h.0 ≡ node = cc (h.1, known) in
        let P : Node → Type 0 = λ m. AtNode p trigger sets follow j m r k v in
        subst P nodes h.2) in
        rw known (weighs_as A B n x _ fixed (node_weighs node))
