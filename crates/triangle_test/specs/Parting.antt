-- Where two nodes part: at the last node above both.
use Rattle.std.specs.Prelude.{◌≡◌, ℕ, ◌+◌, ◌<◌, ◌≤◌, List, length, Some, slice_get}
use Rattle.corr_game.specs.declared.sides.Side.{Side}
use Rattle.corr_game.specs.Game.{GameView}
use Rattle.tree_recall.specs.Tree.{kid_of, set_of}
use Rattle.triangle_test.specs.PublicChance.{IsAtOrBelow, IsChance}

-- so many first kids have at most this number, and the next has a greater one
abbrev pub AreUpTo : List ℕ → ℕ → ℕ → Type 0
AreUpTo kids n count =
    (count ≤ length kids) × ((j kid : ℕ) → slice_get kids j ≡ Some kid → j < count → kid ≤ n)
    × ((kid : ℕ) → slice_get kids count ≡ Some kid → n < kid)

-- this is the last kid up to one number, and up to another
abbrev pub IsCommonKid : List ℕ → ℕ → ℕ → ℕ → Type 0
IsCommonKid kids first second kid =
    (k : ℕ) × (slice_get kids k ≡ Some kid) × AreUpTo kids first (k + 1) × AreUpTo kids second (k + 1)

-- nature moves at some node that is this one or below it, and two nodes are at or below two different kids of that node
abbrev pub PartAtChance : GameView → ℕ → ℕ → ℕ → Type 0
PartAtChance g above first second =
    (chance : ℕ) × (i : ℕ) × (j : ℕ) × (a : ℕ) × (b : ℕ) × IsAtOrBelow g above chance × IsChance g chance
    × (kid_of g chance i ≡ Some a) × (kid_of g chance j ≡ Some b) × (a ≡ b → ⊥) × IsAtOrBelow g a first × IsAtOrBelow g b second

-- the next node of a node's set
abbrev pub IsNextOfSet : GameView → ℕ → ℕ → Type 0
IsNextOfSet g n next =
    (n < next) × (side : Side) × (set : ℕ) × (set_of g side n ≡ Some set) × (set_of g side next ≡ Some set)
    × ((m : ℕ) → n < m → m < next → set_of g side m ≡ Some set → ⊥)

-- a node and the next of its set part at a chance node
abbrev pub PartsFromNext : GameView → ℕ → Type 0
PartsFromNext g n = (next : ℕ) × IsNextOfSet g n next × PartAtChance g 0 n next

-- no further node is of a node's set
abbrev pub IsLastOfSet : GameView → ℕ → Type 0
IsLastOfSet g n = (side : Side) (set m : ℕ) → set_of g side n ≡ Some set → n < m → set_of g side m ≡ Some set → ⊥

-- a node that is no chance node is this one or below it
abbrev pub IsUnder : GameView → ℕ → ℕ → Type 0
IsUnder g above n = IsAtOrBelow g above n × (IsChance g n → ⊥)
