-- A tree as the list of its nodes in preorder: where the nodes below a node end, kids in a row, and depth.
use Rattle.std.specs.Prelude.{◌≡◌, ℕ, ◌+◌, List, [], ◌∷◌, true, false, eqb, nat_lt, count_by}
use Rattle.std.specs.List.{range_with_len}
use Rattle.corr_game.specs.declared.nodes.Node.{Node}
use Rattle.corr_game.specs.Node.{kids_of}

-- A value for each node number, from the last node of the list to the first: `step` gives a node's value from those
-- of the nodes behind it. The list's first node has the number `at`.
unfoldable pub from_last : {A : Type 0} → (ℕ → Node → (ℕ → A) → A) → A → ℕ → List Node → ℕ → A
from_last step none at [] n = none
from_last step none at (node ∷ rest) n =
    elim (eqb n at) [ true ↦ step at node (from_last step none (at + 1) rest) | false ↦ from_last step none (at + 1) rest n ]

-- the node after a row of subtrees, where the row begins at `start` and `ends` says where each subtree ends
abbrev pub row_end : ℕ → List ℕ → (ℕ → ℕ) → ℕ
row_end start [] ends = start
row_end start (kid ∷ kids) ends = row_end (ends kid) kids ends

-- the subtrees of the kids stand in a row from `start` on, each where the one before ends
abbrev pub InRow : ℕ → List ℕ → (ℕ → ℕ) → Type 0
InRow start [] ends = Unit {0}
InRow start (kid ∷ kids) ends = (kid ≡ start) × InRow (ends kid) kids ends

-- the first node after node n that isn't below it
unfoldable pub end_of : List Node → ℕ → ℕ
end_of nodes = from_last (λ n node ends. row_end (n + 1) (kids_of node) ends) 0 0 nodes

-- the number of nodes above node n: the root has depth 0
unfoldable pub depth_of : List Node → ℕ → ℕ
depth_of nodes n = count_by (λ m. nat_lt n (end_of nodes m)) (range_with_len 0 n)
