-- The information sets of one player, numbered in the order of their first nodes.
use Rattle.std.specs.Prelude.{◌≡◌, ℕ, ◌+◌, ◌≤◌, max, List, [], ◌∷◌, Option, Some, None}
use Rattle.corr_game.specs.declared.nodes.Node.{Node}
use Rattle.corr_game.specs.declared.sides.Side.{Side}
use Rattle.corr_game.specs.Node.{set_at}

-- a set that is named is one of those met before, or the next one
abbrev pub IsMetOrNext : ℕ → Option ℕ → Type 0
IsMetOrNext met None = Unit {0}
IsMetOrNext met (Some set) = set ≤ met

-- how many sets are met once this one is
abbrev pub met_with : ℕ → Option ℕ → ℕ
met_with met None = met
met_with met (Some set) = max met (set + 1)

-- with `met` sets met before these nodes, the player's sets come in order of number, and `count` are met at the end
unfoldable pub AreInOrder : Side → ℕ → List Node → ℕ → Type 0
AreInOrder side met [] count = met ≡ count
AreInOrder side met (node ∷ rest) count =
    IsMetOrNext met (set_at side node) × AreInOrder side (met_with met (set_at side node)) rest count
