-- A game as lists, and the rules that such lists keep: a finite tree of two players with information sets, as in
-- von Stengel and Forges 2008, within this project's limits.
use Rattle.std.specs.Prelude.{◌≡◌, ℕ, ◌+◌, ◌^◌, ◌<◌, ◌≤◌, List, length, map, All, nat_eq, Some, slice_get, ℤ, pos, ◌≤ℤ◌, unsigned_abs}
use Rattle.std.specs.List.{IsDistinct}
use Rattle.corr_game.specs.declared.nodes.Node.{Node}
use Rattle.corr_game.specs.declared.nodes.Node.TheVariants.{Leaf, Chance, Choice}
use Rattle.corr_game.specs.declared.nodes.SetInfo.{SetInfo}
use Rattle.corr_game.specs.declared.sides.Side.{Side}
use Rattle.corr_game.specs.declared.sides.Side.TheVariants.{One, Two}
use Rattle.corr_game.specs.Node.{kids_of}
use Rattle.corr_game.specs.Preorder.{InRow, end_of, depth_of}
use Rattle.corr_game.specs.Sets.{AreInOrder}

-- the nodes in file order, the sets of each player and the two scales
pub record GameView : Type 0 where
  pub nodes : List Node
  pub one : List SetInfo
  pub two : List SetInfo
  pub scale_one : ℤ
  pub scale_two : ℤ

-- the sets of a player
abbrev pub sets_of : Side → GameView → List SetInfo
sets_of One g = g.one
sets_of Two g = g.two

-- by how much a player's payoffs were multiplied
abbrev pub scale_of : Side → GameView → ℤ
scale_of One g = g.scale_one
scale_of Two g = g.scale_two

-- kids stand behind their node and in the list
abbrev pub AreBehind : ℕ → ℕ → List ℕ → Type 0
AreBehind count n kids = All (λ kid. (n < kid) × (kid < count)) kids

-- an amount is within 2^28; a chance node has 1 to 64 kids, a choice node as many as its set has actions
abbrev pub IsNode : GameView → ℕ → Node → Type 0
IsNode g n (Leaf pay) = (unsigned_abs pay.one ≤ 2 ^ 28) × (unsigned_abs pay.two ≤ 2 ^ 28)
IsNode g n (Chance kids) = (1 ≤ length kids) × (length kids ≤ 64) × AreBehind (length g.nodes) n kids
IsNode g n (Choice side set kids) =
    (set.0 < length (sets_of side g))
    × ((info : SetInfo) → slice_get (sets_of side g) set.0 ≡ Some info → length kids ≡ info.actions)
    × AreBehind (length g.nodes) n kids

-- a set has 1 to 64 actions and a number of the file below 2^31
abbrev pub IsSet : SetInfo → Type 0
IsSet info = (1 ≤ info.actions) × (info.actions ≤ 64) × (info.file < 2 ^ 31)

-- a scale is 1 to 2^24
abbrev pub IsScale : ℤ → Type 0
IsScale scale = (pos 1 ≤ℤ scale) × (scale ≤ℤ pos (2 ^ 24))

-- the rules of a game
pub record IsGame (g : GameView) : Type 0 where
  pub has_root : 0 < length g.nodes
  pub at_most : length g.nodes ≤ 4096
  pub each_node : (n : ℕ) (node : Node) → slice_get g.nodes n ≡ Some node → IsNode g n node
  pub in_row : (n : ℕ) (node : Node) → slice_get g.nodes n ≡ Some node → InRow (n + 1) (kids_of node) (end_of g.nodes)
  pub one_tree : end_of g.nodes 0 ≡ length g.nodes
  pub not_deep : (n : ℕ) → n < length g.nodes → depth_of g.nodes n ≤ 256
  pub each_set : (side : Side) → All IsSet (sets_of side g)
  pub in_order : (side : Side) → AreInOrder side 0 g.nodes (length (sets_of side g))
  pub own_files : (side : Side) → IsDistinct nat_eq (map (λ (info : SetInfo). info.file) (sets_of side g))
  pub each_scale : (side : Side) → IsScale (scale_of side g)
