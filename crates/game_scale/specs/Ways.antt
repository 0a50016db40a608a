-- The way to a node, before its own payoffs: the probability of its path, and what the nodes above it pay.
use Rattle.std.specs.Prelude.{◌≡◌, ℕ, ◌<◌, ◌⊎◌, List, Some, slice_get}
use Rattle.corr_num.specs.Fraction.{Fraction, IsReduced, fraction_sum, fraction_product}
use Rattle.efg_reader.specs.declared.raw_game.RawNode.{RawNode}
use Rattle.game_scale.specs.declared.ways.Way.{Way}
use Rattle.game_scale.specs.Paths.{PathView}

-- the path to a node at the end of this way
pub record IsAlong (way : Way) (node : RawNode) (path : PathView) : Type 0 where
  pub chance : path.chance ≡ way.chance
  pub one : IsReduced path.one (fraction_sum way.one node.one)
  pub two : IsReduced path.two (fraction_sum way.two node.two)

-- the way that leads on from a path with this probability
pub record IsLed (path : PathView) (prob : Fraction) (way : Way) : Type 0 where
  pub chance : IsReduced way.chance (fraction_product path.chance prob)
  pub one : way.one ≡ path.one
  pub two : way.two ≡ path.two

-- node m is none of the first kids, and its way is as it was
pub record IsKept (kids : List ℕ) (bound m : ℕ) (old : List Way) (way : Way) : Type 0 where
  pub same : slice_get old m ≡ Some way
  pub apart : (k : ℕ) → k < bound → slice_get kids k ≡ Some m → ⊥

-- node m is a kid, and its way leads on from the path
pub record IsPassed (leads : ℕ → Fraction → Type 0) (kids : List ℕ) (m : ℕ) (path : PathView) (way : Way) : Type 0 where
  pub k : ℕ
  pub prob : Fraction
  pub kid : slice_get kids k ≡ Some m
  pub with : leads k prob
  pub led : IsLed path prob way

-- the ways to the first kids lead on from the path, and the others are as they were
abbrev pub ArePassed : (ℕ → Fraction → Type 0) → List ℕ → ℕ → PathView → List Way → List Way → Type 0
ArePassed leads kids bound path old new = (m : ℕ) (way : Way) → slice_get new m ≡ Some way → IsKept kids bound m old way ⊎ IsPassed leads kids m path way
