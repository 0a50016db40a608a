-- What is asked of each side and its two neighbours, once every side follows the one before it.
use Rattle.std.specs.Prelude.{◌≡◌, ◌≢◌, ◌⊎◌, ℕ, suc, List, length, slice_get, Some}
use Rattle.plane_hull.specs.Belt.{GoesRoundOnce, HasAxes, IsAxis, IsNext, MayFollow, PointsDiffer}
use Rattle.plane_hull.specs.declared.sides.Point.{Point}
use Rattle.plane_hull.specs.declared.sides.SideRow.{SideRow}

-- a side has its direction alone, or shares it with one neighbour at another corner, as it must unless it is an axis
pub record PairsWith (before here behind : SideRow) : Type 0 where
  pub not_three : before.dir ≡ here.dir → here.dir ≡ behind.dir → ⊥
  pub parts : here.dir ≡ behind.dir → here.corner ≢ behind.corner
  pub twin : IsAxis here.dir ⊎ ((before.dir ≡ here.dir) ⊎ (here.dir ≡ behind.dir))

-- the side with this number does so with the sides before and behind it
abbrev pub PairsUp : List SideRow → ℕ → Type 0
PairsUp sides number =
    (j k : ℕ) (before here behind : SideRow) → IsNext (length sides) j number → IsNext (length sides) number k
    → slice_get sides j ≡ Some before → slice_get sides number ≡ Some here → slice_get sides k ≡ Some behind
    → PairsWith before here behind

-- the rules on the belt as a whole
pub record IsWhole (points : List Point) (sides : List SideRow) : Type 0 where
  pub axes : HasAxes sides
  pub closes : (k : ℕ) (last first : SideRow) → suc k ≡ length sides
      → slice_get sides k ≡ Some last → slice_get sides 0 ≡ Some first
      → MayFollow (length points) k last first × PointsDiffer points last first
  pub once : GoesRoundOnce (length points) sides
  pub pairs : (k : ℕ) → PairsUp sides k
