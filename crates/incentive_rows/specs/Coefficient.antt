-- The coefficients of one trigger's rows (von Stengel and Forges 2008; Farina, Bianchi and Sandholm 2020): per action of
-- each of its sets a row in which the set's value is what the action leads to, and a row in which following the mediator
-- is worth what the trigger's top sets and leaves are. A value stands over the floor; each row has a slack.
use Rattle.std.specs.Prelude.{◌≡◌, ℕ, ◌+◌, ◌<◌, ◌≤◌, List, length, Option, Some, None, slice_get, slice_index, unwrap_or, ℤ, pos, negsuc, ◌-ℤ◌}
use Rattle.corr_game.specs.declared.nodes.Node.{Node}
use Rattle.corr_game.specs.declared.nodes.Node.TheVariants.{Leaf, Chance, Choice}
use Rattle.corr_game.specs.declared.nodes.SetId.{SetId}
use Rattle.corr_game.specs.declared.nodes.SetInfo.{SetInfo}
use Rattle.corr_game.specs.declared.sides.Side.{Side}
use Rattle.corr_game.specs.declared.sides.Side.TheVariants.{One, Two}
use Rattle.corr_game.specs.Game.{GameView, sets_of}
use Rattle.corr_game.specs.Node.{amount_of}
use Rattle.sequences.specs.Number.{IsOwn, last_of, side_of}
use Rattle.connected_pairs.specs.Connected.{PairsView, index_of, other}
use Rattle.incentive_rows.specs.declared.blocks.Columns.{Columns}
use Rattle.incentive_rows.specs.declared.leaves.Paid.{Paid}
use Rattle.incentive_rows.specs.declared.places.SetPlace.{SetPlace}
use Rattle.incentive_rows.specs.declared.triggers.Trigger.{Trigger}
use Rattle.incentive_rows.specs.Term.{AreTerms, Both, IsTerm}
use Rattle.incentive_rows.specs.Trigger.{Follows}

-- a number at one place
abbrev pub IsAt : ℕ → ℕ → ℤ → ℕ → ℕ → ℤ → Type 0
IsAt row col value r k = IsTerm ((r ≡ row) × (k ≡ col)) value

-- the column of a pair of sequences, the player's own first
abbrev pub pair_column : PairsView → Side → ℕ → ℕ → Option ℕ
pair_column p One own beside = index_of p own beside
pair_column p Two own beside = index_of p beside own

-- a number in a row at a pair of sequences, where that is relevant
abbrev pub IsAtPair : PairsView → Side → ℕ → ℕ → ℕ → ℤ → ℕ → ℕ → ℤ → Type 0
IsAtPair p side row own beside value r k = IsTerm ((r ≡ row) × (pair_column p side own beside ≡ Some k)) value

-- the row of an action at a set's place
abbrev pub row_from : Option (Option SetPlace) → ℕ → Option ℕ
row_from None action = None
row_from (Some None) action = None
row_from (Some (Some place)) action = Some (place.row + action)

-- the row at a sequence's last move, if that is at one of the trigger's sets
abbrev pub row_at_move : List (Option SetPlace) → Option (SetId × ℕ) → Option ℕ
row_at_move sets None = None
row_at_move sets (Some move) = row_from (slice_get sets move.0.0) move.1

-- where leaving pays what a sequence leads to: in its row, or with no set to leave at in the follow row
abbrev pub row_left : Option SetId → ℕ → Option ℕ → Option ℕ
row_left top follow (Some row) = Some row
row_left None follow None = Some follow
row_left (Some set) follow None = None

-- what leaving pays at a leaf stands against the value, beside the trigger's sequence
abbrev pub IsLeft : PairsView → Trigger → List (Option SetPlace) → ℕ → Paid → ℕ → ℕ → ℤ → Type 0
IsLeft p trigger sets follow paid r k =
    IsTerm ((row_left trigger.set follow (row_at_move sets (last_of (side_of trigger.side p.seqs) paid.own)) ≡ Some r) × (pair_column p trigger.side trigger.seq paid.beside ≡ Some k))
    (pos 0 -ℤ paid.amount)

-- what following pays at a leaf stands in the follow row
abbrev pub IsFollowed : PairsView → Trigger → ℕ → Paid → ℕ → ℕ → ℤ → Type 0
IsFollowed p trigger follow paid r k =
    IsTerm (Follows (side_of trigger.side p.seqs) trigger paid.own × (r ≡ follow) × (pair_column p trigger.side paid.own paid.beside ≡ Some k)) paid.amount

-- both of them
abbrev pub IsPaidTerm : PairsView → Trigger → List (Option SetPlace) → ℕ → Paid → ℕ → ℕ → ℤ → Type 0
IsPaidTerm p trigger sets follow paid r k =
    Both (IsLeft p trigger sets follow paid r k) (IsFollowed p trigger follow paid r k)

-- a leaf by the sequences that lead to it and what it pays a player
abbrev pub paid_of : PairsView → Side → ℕ → ℤ → Paid
paid_of p side n amount = record {
  own = slice_index (side_of side p.seqs).nodes n;
  beside = slice_index (side_of (other side) p.seqs).nodes n;
  amount = amount;
}

-- the terms of a node: a leaf's, and none else
abbrev pub AtNode : PairsView → Trigger → List (Option SetPlace) → ℕ → ℕ → Node → ℕ → ℕ → ℤ → Type 0
AtNode p trigger sets follow n (Leaf pay) r k v = IsPaidTerm p trigger sets follow (paid_of p trigger.side n (amount_of trigger.side pay)) r k v
AtNode p trigger sets follow n (Chance kids) r k v = v ≡ pos 0
AtNode p trigger sets follow n (Choice side set kids) r k v = v ≡ pos 0

-- the terms of the node with this number
abbrev pub IsLeafTerm : GameView → PairsView → Trigger → List (Option SetPlace) → ℕ → ℕ → ℕ → ℕ → ℤ → Type 0
IsLeafTerm g p trigger sets follow r k n v = (node : Node) × (slice_get g.nodes n ≡ Some node) × AtNode p trigger sets follow n node r k v

-- a set's value stands over the floor in the row of each of its actions
abbrev pub IsValueTerm : Columns → ℕ → SetPlace → ℕ → ℕ → ℤ → Type 0
IsValueTerm columns actions place r k =
    Both (IsTerm ((place.row ≤ r) × (r < place.row + actions) × (k ≡ columns.values + place.value)) (pos 1)) (IsTerm ((place.row ≤ r) × (r < place.row + actions) × (k ≡ columns.floor)) (negsuc 0))

-- and is taken away in the row of its own sequence, which is the follow row where that isn't one of the trigger's
abbrev pub IsAboveTerm : Columns → ℕ → SetPlace → ℕ → ℕ → ℤ → Type 0
IsAboveTerm columns row place r k =
    Both (IsAt row (columns.values + place.value) (negsuc 0) r k) (IsAt row columns.floor (pos 1) r k)

-- the terms of a set: none where it isn't one of the trigger's
abbrev pub AtSet : PairsView → Trigger → List (Option SetPlace) → ℕ → Columns → ℕ → SetInfo → Option SetPlace → ℕ → ℕ → ℤ → Type 0
AtSet p trigger sets follow columns set info None r k v = v ≡ pos 0
AtSet p trigger sets follow columns set info (Some place) r k v =
    (own : ℕ) × IsOwn (side_of trigger.side p.seqs) set own
    × Both (IsValueTerm columns info.actions place r k) (IsAboveTerm columns (unwrap_or (row_at_move sets (last_of (side_of trigger.side p.seqs) own)) follow) place r k) v

-- the terms of the set with this number
abbrev pub IsSetTerm : GameView → PairsView → Trigger → List (Option SetPlace) → ℕ → Columns → ℕ → ℕ → ℕ → ℤ → Type 0
IsSetTerm g p trigger sets follow columns r k set v =
    (info : SetInfo) × (place : Option SetPlace) × (slice_get (sets_of trigger.side g) set ≡ Some info) × (slice_get sets set ≡ Some place) × AtSet p trigger sets follow columns set info place r k v

-- a row's own slack
abbrev pub IsSlackTerm : Columns → ℕ → ℕ → ℕ → ℤ → Type 0
IsSlackTerm columns rows r k = IsTerm ((r < rows) × (k ≡ columns.slacks + r)) (negsuc 0)

-- a coefficient is the sum of the terms of all sets, of the slack and of all nodes
abbrev pub IsCoefficient : GameView → PairsView → Trigger → List (Option SetPlace) → ℕ → Columns → ℕ → ℕ → ℤ → Type 0
IsCoefficient g p trigger sets follow columns r k =
    Both
    (Both (AreTerms (IsSetTerm g p trigger sets follow columns r k) (length (sets_of trigger.side g))) (IsSlackTerm columns (follow + 1) r k))
    (AreTerms (IsLeafTerm g p trigger sets follow r k) (length g.nodes))
