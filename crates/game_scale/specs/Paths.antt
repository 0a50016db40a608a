-- The path to a node of a game tree: the probability with which chance plays along it, and what its nodes pay
-- (Kuhn 1953, "Extensive games and the problem of information").
use Rattle.std.specs.Prelude.{◌≡◌, ℕ, ◌^◌, ◌≤◌, List, length, Some, slice_get, pos, ◌≤ℤ◌, unsigned_abs}
use Rattle.corr_num.specs.Fraction.{Fraction, IsLowest, IsReduced, fraction_sum, fraction_product}
use Rattle.corr_game.specs.declared.sides.Side.{Side}
use Rattle.corr_game.specs.declared.sides.Side.TheVariants.{One, Two}
use Rattle.corr_game.specs.Node.{kids_of}
use Rattle.efg_reader.specs.RawGame.{RawGameView, IsLimited, bare_node}
use Rattle.efg_reader.specs.declared.raw_game.RawNode.{RawNode}
use Rattle.efg_reader.specs.declared.raw_game.Shape.{Shape}
use Rattle.efg_reader.specs.declared.raw_game.Shape.TheVariants.{Leaf, Chance, Choice}

-- the probability of a path, and the sum of what its nodes pay each player
pub record PathView : Type 0 where
  pub chance : Fraction
  pub one : Fraction
  pub two : Fraction

-- the sum of what the nodes pay a player
abbrev pub payoff_of : Side → PathView → Fraction
payoff_of One path = path.one
payoff_of Two path = path.two

-- what the path pays a player, weighed by its probability
abbrev pub weighted : Side → PathView → Fraction
weighted side path = fraction_product path.chance (payoff_of side path)

-- a probability is from 0 to 1
abbrev pub IsChance : Fraction → Type 0
IsChance number = (pos 0 ≤ℤ number.num) × (number.num ≤ℤ number.den)

-- the denominator of a path's probability is at most 2^40
abbrev pub IsFine : Fraction → Type 0
IsFine number = unsigned_abs number.den ≤ 2 ^ 40

-- the probability is not too fine and the sums are within the limits
pub record IsWithin (path : PathView) : Type 0 where
  pub chance : IsFine path.chance
  pub one : IsLimited path.one
  pub two : IsLimited path.two

-- the numbers of a path that is within the limits, in lowest terms
pub record IsPathView (path : PathView) : Type 0 where
  pub within : IsWithin path
  pub probability : IsChance path.chance
  pub chance : IsLowest path.chance
  pub one : IsLowest path.one
  pub two : IsLowest path.two

-- 0 and 1 as fractions
abbrev pub nothing : Fraction
nothing = record { num = pos 0; den = pos 1 }

abbrev pub certain : Fraction
certain = record { num = pos 1; den = pos 1 }

-- nothing more happens at a node
abbrev pub IsLeaf : Shape → Type 0
IsLeaf shape = shape ≡ Leaf

-- a node leads to its kid number k with this probability, where it is reached and players choose so
abbrev pub LeadsWith : Shape → ℕ → Fraction → Type 0
LeadsWith Leaf k prob = ⊥
LeadsWith (Chance kids probs) k prob = slice_get probs k ≡ Some prob
LeadsWith (Choice side set kids) k prob = prob ≡ certain

-- a node is reached from the path before it with this probability, and adds what it pays itself
pub record IsReached (path before : PathView) (prob : Fraction) (node : RawNode) : Type 0 where
  pub chance : IsReduced path.chance (fraction_product before.chance prob)
  pub one : IsReduced path.one (fraction_sum before.one node.one)
  pub two : IsReduced path.two (fraction_sum before.two node.two)

-- the start of play, before the root
abbrev pub before_root : PathView
before_root = record { chance = certain; one = nothing; two = nothing }

-- the path to a node: that of the root, or one kid further than a path
pub data IsPath (raw : RawGameView) : ℕ → PathView → Type 0 where
  root : (node : RawNode) (path : PathView) → slice_get raw.nodes 0 ≡ Some node → IsReached path before_root certain node → IsPath raw 0 path
  further : (n k kid : ℕ) (node below : RawNode) (prob : Fraction) (path longer : PathView)
      → IsPath raw n path → slice_get raw.nodes n ≡ Some node → slice_get (kids_of (bare_node node.shape)) k ≡ Some kid
      → LeadsWith node.shape k prob → slice_get raw.nodes kid ≡ Some below → IsReached longer path prob below → IsPath raw kid longer

-- the path to each node
pub record ArePaths (raw : RawGameView) (paths : List PathView) : Type 0 where
  pub per_node : length paths ≡ length raw.nodes
  pub each : (n : ℕ) (path : PathView) → slice_get paths n ≡ Some path → IsPath raw n path × IsWithin path
