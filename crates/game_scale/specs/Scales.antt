-- The scale of a player: the least number that makes whole what the player is paid at each leaf, weighed by the
-- probability of its path, as payoffs of the sequence form are (von Stengel 1996).
use Rattle.std.specs.Prelude.{◌≡◌, ℕ, ◌<◌, ◌^◌, List, length, Some, slice_get, ℤ, pos, ◌*ℤ◌, ◌<ℤ◌, ◌≤ℤ◌}
use Rattle.corr_num.specs.Fraction.{Fraction}
use Rattle.corr_game.specs.declared.sides.Side.{Side}
use Rattle.efg_reader.specs.declared.raw_game.RawNode.{RawNode}
use Rattle.game_scale.specs.Paths.{PathView, IsLeaf, weighted}

-- a fraction times a scale is this whole number
abbrev pub IsTimes : ℤ → Fraction → ℤ → Type 0
IsTimes scale number whole = whole *ℤ number.den ≡ number.num *ℤ scale

-- a fraction times a scale is whole
abbrev pub MakesWhole : ℤ → Fraction → Type 0
MakesWhole scale number = (whole : ℤ) × IsTimes scale number whole

-- the scale makes whole what a player is paid at each leaf before node `end`
abbrev pub MakesAllWhole : Side → List RawNode → List PathView → ℕ → ℤ → Type 0
MakesAllWhole side nodes paths end scale =
    (n : ℕ) (node : RawNode) (path : PathView) → n < end → slice_get nodes n ≡ Some node → IsLeaf node.shape → slice_get paths n ≡ Some path → MakesWhole scale (weighted side path)

-- the least positive number that makes whole what a player is paid at the leaves
pub record IsLeastScale (side : Side) (nodes : List RawNode) (paths : List PathView) (scale : ℤ) : Type 0 where
  pub positive : pos 0 <ℤ scale
  pub whole : MakesAllWhole side nodes paths (length nodes) scale
  pub least : (other : ℤ) → pos 0 <ℤ other → MakesAllWhole side nodes paths (length nodes) other → scale ≤ℤ other

-- every number that makes whole what a player is paid at the leaves is over 2^24
abbrev pub IsScaleTooLarge : Side → List RawNode → List PathView → Type 0
IsScaleTooLarge side nodes paths = (scale : ℤ) → pos 0 <ℤ scale → MakesAllWhole side nodes paths (length nodes) scale → pos (2 ^ 24) <ℤ scale

-- the scale of each player, within 2^24
abbrev pub AreScales : List RawNode → List PathView → (Side → ℤ) → Type 0
AreScales nodes paths scale = (side : Side) → IsLeastScale side nodes paths (scale side) × (scale side ≤ℤ pos (2 ^ 24))
