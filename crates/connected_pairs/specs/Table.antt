-- Connected sets (von Stengel and Forges 2008), and the table of them in rows of player 1's sets while it fills.
use Rattle.std.specs.Prelude.{◌≡◌, ◌⊎◌, ◌↔◌, ℕ, ◌+◌, ◌*◌, ◌<◌, ◌≤◌, Bool, true, false, List, length, Some, slice_index_or}
use Rattle.corr_game.specs.declared.sides.Side.{Side}
use Rattle.corr_game.specs.declared.sides.Side.TheVariants.{One, Two}
use Rattle.corr_game.specs.Game.{GameView}
use Rattle.tree_recall.specs.Tree.{set_of, IsAbove}

-- sets of player 1 and of player 2 are connected: a node of one is above a node of the other
abbrev pub AreConnected : GameView → ℕ → ℕ → Type 0
AreConnected g one two = (m : ℕ) × (n : ℕ) × (set_of g One m ≡ Some one) × (set_of g Two n ≡ Some two) × (IsAbove g m n ⊎ IsAbove g n m)

-- the other player
abbrev pub other : Side → Side
other One = Two
other Two = One

-- this player's, of a set of player 1 and one of player 2
abbrev pub of_side : Side → ℕ → ℕ → ℕ
of_side One one two = one
of_side Two one two = two

-- these are sets of player 1 and of player 2
abbrev pub AreSets : GameView → ℕ → ℕ → Type 0
AreSets g one two = (one < length g.one) × (two < length g.two)

-- the table says that two sets are connected
abbrev pub IsMarked : GameView → List Bool → ℕ → ℕ → Type 0
IsMarked g table one two = slice_index_or table (one * length g.two + two) false ≡ true

-- the table says of each two sets whether they are connected
abbrev pub IsTable : GameView → List Bool → Type 0
IsTable g table = (one two : ℕ) → AreSets g one two → IsMarked g table one two ↔ AreConnected g one two

-- one of two sets is this set of this player, and the other's has a node from `first` to before `end`
abbrev pub HasNodeIn : GameView → Side → ℕ → ℕ → ℕ → ℕ → ℕ → Type 0
HasNodeIn g side set first end one two =
    (of_side side one two ≡ set) × ((n : ℕ) × (first ≤ n) × (n < end) × (set_of g (other side) n ≡ Some (of_side (other side) one two)))

-- the table marks what it did, and this set with each of the other player's that has a node from `first` to before `end`
pub record IsMarkedBelow (g : GameView) (side : Side) (set first end : ℕ) (old new : List Bool) : Type 0 where
  pub kept : (one two : ℕ) → AreSets g one two → IsMarked g old one two → IsMarked g new one two
  pub added : (one two : ℕ) → AreSets g one two → HasNodeIn g side set first end one two → IsMarked g new one two
  pub only : (one two : ℕ) → AreSets g one two → IsMarked g new one two → IsMarked g old one two ⊎ HasNodeIn g side set first end one two
