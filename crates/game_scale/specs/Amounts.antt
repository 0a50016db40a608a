-- The amounts of a game: what a leaf pays a player, weighed by the probability of its path (von Stengel 1996) and scaled.
use Rattle.std.specs.Prelude.{◌≡◌, ℕ, ◌<◌, ◌^◌, ◌≤◌, List, Some, slice_get, ℤ, unsigned_abs}
use Rattle.corr_game.specs.declared.nodes.Node.{Node}
use Rattle.corr_game.specs.declared.nodes.Node.TheVariants as node
use Rattle.corr_game.specs.declared.payoffs.Pay.{Pay}
use Rattle.corr_game.specs.declared.sides.Side.{Side}
use Rattle.corr_game.specs.declared.sides.Side.TheVariants.{One, Two}
use Rattle.corr_game.specs.Node.{amount_of}
use Rattle.efg_reader.specs.declared.raw_game.RawNode.{RawNode}
use Rattle.efg_reader.specs.declared.raw_game.Shape.{Shape}
use Rattle.efg_reader.specs.declared.raw_game.Shape.TheVariants as shape
use Rattle.game_scale.specs.declared.scales.Scales.{Scales}
use Rattle.game_scale.specs.Paths.{PathView, weighted}
use Rattle.game_scale.specs.Scales.{IsTimes}

-- the scale of a player
abbrev pub scale_in : Scales → Side → ℤ
scale_in scales One = scales.one
scale_in scales Two = scales.two

-- the amounts of a leaf are what its path pays, scaled, and within 2^28
abbrev pub IsPaid : (Side → ℤ) → PathView → Pay → Type 0
IsPaid scale path pay = (side : Side) → IsTimes (scale side) (weighted side path) (amount_of side pay) × (unsigned_abs (amount_of side pay) ≤ 2 ^ 28)

-- what a path pays a player, scaled, is over 2^28
abbrev pub IsOverpaid : (Side → ℤ) → PathView → Type 0
IsOverpaid scale path = (side : Side) × (amount : ℤ) × IsTimes (scale side) (weighted side path) amount × (2 ^ 28 < unsigned_abs amount)

-- a node of the game for one of the file: a leaf gets its amounts, and other nodes stay as they are
abbrev pub IsScaledNode : (Side → ℤ) → PathView → Shape → Node → Type 0
IsScaledNode scale path shape.Leaf scaled = (pay : Pay) × (scaled ≡ node.Leaf pay) × IsPaid scale path pay
IsScaledNode scale path (shape.Chance kids probs) scaled = scaled ≡ node.Chance kids
IsScaledNode scale path (shape.Choice side set kids) scaled = scaled ≡ node.Choice side set kids

-- each node of the game is scaled from that of the file
abbrev pub AreScaledNodes : (Side → ℤ) → List RawNode → List PathView → List Node → Type 0
AreScaledNodes scale nodes paths scaled =
    (n : ℕ) (raw : RawNode) (path : PathView) (own : Node) → slice_get nodes n ≡ Some raw → slice_get paths n ≡ Some path → slice_get scaled n ≡ Some own → IsScaledNode scale path raw.shape own
