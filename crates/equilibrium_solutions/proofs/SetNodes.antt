-- A player's own sequences, of each node and, with perfect recall, of each set: that of the set's first node. Each set has a node, since
-- sets are numbered in the order of their first nodes.
use Rattle.std.proofs.Common.{◌≡◌, ℕ, suc, ◌<◌, ◌≤◌, inl, inr, Bool, List, [], ◌∷◌, Option, Some, None}
use Rattle.std.proofs.Common.{length, slice_get, refl, sym, ap, subst, ◌∙◌, arith}
use Rattle.std.proofs.lemmas.Bool.{cases_eq}
use Rattle.exact_algebra.proofs.FiniteChoice.{FirstBelow, first, no_first, first_below}
use Rattle.corr_game.specs.declared.nodes.Node.{Node}
use Rattle.corr_game.specs.declared.nodes.SetId.{SetId}
use Rattle.corr_game.specs.declared.sides.Side.{Side}
use Rattle.corr_game.specs.Game.{GameView, IsGame, sets_of}
use Rattle.corr_game.specs.Node.{set_at}
use Rattle.corr_game.specs.Sets.{AreInOrder, IsMetOrNext, met_with}
use Rattle.tree_recall.specs.OwnSequence.{HasRecall, IsOwnAt}
use Rattle.tree_recall.specs.Tree.{set_of, set_there}
use Rattle.tree_recall.proofs.Kids.{set_node}
use Rattle.equilibrium.specs.Leaves.{AreOwn}
use Rattle.equilibrium.specs.Reach.{is_set}
use Rattle.equilibrium.proofs.Descents.{is_set-here, is_set-same}
use Rattle.equilibrium.proofs.OwnSteps.{owns}
use Rattle.equilibrium_solutions.specs.Departure.{OwnSequences}

abbrev Moves : Type 0
Moves = List (SetId × ℕ)

-- the own sequence at the first node that passes a test
at_first : (ℕ → Moves) → (test : ℕ → Bool) (n : ℕ) → FirstBelow test n → Moves
at_first node test n (first k low h before) = node k
at_first node test n (no_first none) = []

-- with recall it is that of each node of the set
first_alike : (side : Side) (g : GameView) → HasRecall g side → (node : ℕ → Moves) → AreOwn side g node → (n set : ℕ)
    → set_of g side n ≡ Some set
    → (found : FirstBelow (λ m. is_set set (set_of g side m)) (length g.nodes))
    → at_first node (λ m. is_set set (set_of g side m)) (length g.nodes) found ≡ node n
unfolding HasRecall at_first
first_alike side g recall node own n set at (first k low h before) =
    let there : set_of g side k ≡ Some set = is_set-same set (set_of g side k) h in
    recall k n set (node k) (node n) there at (own.each k low) (own.each n (set_node g side n set at).0)
first_alike side g recall node own n set at (no_first none) =
    let passes = is_set-here set (set_of g side n) at in
    let fails = none n (set_node g side n set at).0 in
    absurd (cc)

pub own_sequences : (side : Side) (g : GameView) → IsGame g → HasRecall g side → OwnSequences side g
own_sequences side g rules recall =
    let own = owns side g rules in
    record {
      node = own.0;
      set = λ set. at_first own.0 (λ m. is_set set (set_of g side m)) (length g.nodes)
          (first_below (λ m. is_set set (set_of g side m)) (length g.nodes));
      each_node = own.1;
      each_set = λ n at e. first_alike side g recall own.0 own.1 n at e (first_below (λ m. is_set at (set_of g side m)) (length g.nodes));
    }

-- some node of a list is of this set
abbrev IsAmong : Side → List Node → ℕ → Type 0
IsAmong side nodes set = (k : ℕ) × (set_there side (slice_get nodes k) ≡ Some set)

node_next : (side : Side) (met : ℕ) (node : Node) (nodes : List Node) (set : ℕ) (there : Option ℕ) → set_at side node ≡ there
    → met ≤ set → (met_with met there ≤ set → IsAmong side nodes set) → IsMetOrNext met there → IsAmong side (node ∷ nodes) set
node_next side met node nodes set None e low later is = let rest = later low in (suc rest.0, rest.1)
node_next side met node nodes set (Some at) e low later is = elim (cases_eq at set) [
  | inl same ↦ (0, e ∙ ap (λ (x : ℕ). Some x) same)
  | inr apart ↦ let rest = later (omega arith) in (suc rest.0, rest.1)
]

-- a set that isn't met before these nodes and is one of those met at the end has one of them
node_among : (side : Side) (met : ℕ) (nodes : List Node) (count set : ℕ) → AreInOrder side met nodes count → met ≤ set → set < count
    → IsAmong side nodes set
unfolding AreInOrder
node_among side met [] count set order low high = absurd (omega arith)
node_among side met (node ∷ nodes) count set order low high =
    let there = set_at side node in
    node_next side met node nodes set there refl low (λ h. node_among side (met_with met there) nodes count set order.1 h high) order.0

pub has_node : (side : Side) (g : GameView) → IsGame g → (set : ℕ) → set < length (sets_of side g)
    → (n : ℕ) × (set_of g side n ≡ Some set)
has_node side g rules set low = node_among side 0 g.nodes (length (sets_of side g)) set (rules.in_order side) (omega arith) low

module _ (side : Side) (g : GameView) (own : OwnSequences side g) where
  -- a set's own sequence is one of each of its nodes
  pub set_is_own : (n set : ℕ) → set_of g side n ≡ Some set → IsOwnAt g side n (own.set set)
  set_is_own n set at =
      let P : Moves → Type 0 = IsOwnAt g side n in
      subst P (sym (own.each_set n set at)) (own.each_node.each n (set_node g side n set at).0)
