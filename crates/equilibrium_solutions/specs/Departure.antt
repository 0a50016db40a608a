-- What a player decides who leaves the mediator at a trigger, the other player being told what the pairs of sequences weigh (von Stengel
-- and Forges 2008; Farina, Bianchi and Sandholm 2020).
use Rattle.std.specs.Prelude.{◌≡◌, ℕ, Bool, true, false, ◌&&◌, ◌||◌, nat_eq, cond, List, [], ◌∷◌, length, Option, Some, None}
use Rattle.std.specs.Prelude.{slice_get, slice_index, ℤ, pos, ◌*ℤ◌}
use Rattle.exact_algebra.specs.Sums.{sum_to}
use Rattle.corr_game.specs.declared.nodes.SetId.{SetId}
use Rattle.corr_game.specs.declared.nodes.SetInfo.{SetInfo}
use Rattle.corr_game.specs.declared.sides.Side.{Side}
use Rattle.corr_game.specs.Game.{GameView, sets_of}
use Rattle.tree_recall.specs.Tree.{set_of}
use Rattle.sequences.specs.Number.{side_of}
use Rattle.connected_pairs.specs.Connected.{PairsView, other}
use Rattle.equilibrium.specs.FullChoice.{is_under}
use Rattle.equilibrium.specs.Leaves.{AreOwn, leaf_amount}
use Rattle.incentive_rows.specs.declared.triggers.Trigger.{Trigger}
use Rattle.incentive_rows.specs.Coefficient.{pair_column}
use Rattle.equilibrium_solutions.specs.Decision.{Decision}

-- a player's own sequences, of each node and of each set
pub record OwnSequences (side : Side) (g : GameView) : Type 0 where
  pub node : ℕ → List (SetId × ℕ)
  pub set : ℕ → List (SetId × ℕ)
  pub each_node : AreOwn side g node
  pub each_set : (n at : ℕ) → set_of g side n ≡ Some at → set at ≡ node n

-- the number in a column, and 0 where there is none
abbrev pub in_column : (ℕ → ℤ) → Option ℕ → ℤ
in_column x None = pos 0
in_column x (Some k) = x k

-- the number at a sequence of a player and the other player's sequence at a node
abbrev pub beside_node : PairsView → Side → (ℕ → ℤ) → ℕ → ℕ → ℤ
beside_node p side x seq n = in_column x (pair_column p side seq (slice_index (side_of (other side) p.seqs).nodes n))

-- what a leaf pays a player who left at a trigger, and a player who follows: its amount, as often as the two sequences weigh
abbrev pub paid_left : GameView → PairsView → Trigger → (ℕ → ℤ) → ℕ → ℤ
paid_left g p trigger x n = leaf_amount trigger.side (slice_get g.nodes n) *ℤ beside_node p trigger.side x trigger.seq n

abbrev pub paid_followed : GameView → PairsView → Trigger → (ℕ → ℤ) → ℕ → ℤ
paid_followed g p trigger x n =
    leaf_amount trigger.side (slice_get g.nodes n)
    *ℤ beside_node p trigger.side x (slice_index (side_of trigger.side p.seqs).nodes n) n

-- whether a set is one of a trigger's: its own or one below, or any where it has none
abbrev pub is_of : Side → GameView → Option SetId → ℕ → Bool
is_of side g None set = true
is_of side g (Some top) set = is_under side g top.0 set

-- whether a trigger stands before play begins
abbrev pub before_play : Option SetId → Bool
before_play None = true
before_play (Some top) = false

-- how many actions a set has that may be there
abbrev pub actions_there : Option SetInfo → ℕ
actions_there None = 0
actions_there (Some info) = info.actions

-- the decision of a player who leaves at a trigger
abbrev pub departure : (g : GameView) → PairsView → (trigger : Trigger) → OwnSequences trigger.side g → (ℕ → ℤ) → Decision
departure g p trigger own x = record {
  sets = length (sets_of trigger.side g);
  actions = λ set. actions_there (slice_get (sets_of trigger.side g) set);
  inside = λ set. is_of trigger.side g trigger.set set;
  before_set = own.set;
  leaves = length g.nodes;
  before_leaf = own.node;
  at_once = before_play trigger.set;
  pays = λ n. paid_left g p trigger x n;
}

-- whether a move is at a set, and takes an action where one is asked for
abbrev pub is_move : ℕ → Option ℕ → SetId × ℕ → Bool
is_move set None move = nat_eq move.0.0 set
is_move set (Some action) move = nat_eq move.0.0 set && nat_eq move.1 action

abbrev pub some_move : (SetId × ℕ → Bool) → List (SetId × ℕ) → Bool
some_move test [] = false
some_move test (move ∷ before) = test move || some_move test before

-- whether own moves have followed a trigger: one of them is at its set and takes its action, where it has them
abbrev pub has_followed : Option SetId → Option ℕ → List (SetId × ℕ) → Bool
has_followed None action moves = true
has_followed (Some top) action moves = some_move (is_move top.0 action) moves

-- what following pays behind a trigger
abbrev pub followed : (g : GameView) → PairsView → (trigger : Trigger) → OwnSequences trigger.side g → (ℕ → ℤ) → ℤ
followed g p trigger own x =
    sum_to (length g.nodes)
    (λ n. cond (has_followed trigger.set trigger.action (own.node n)) (paid_followed g p trigger x n) (pos 0))
