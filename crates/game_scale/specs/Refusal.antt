-- Why a game has no amounts within the limits of this project: the first path, scale or amount that is beyond them.
use Rattle.std.specs.Prelude.{◌≡◌, ℕ, ◌<◌, List, Some, slice_get, ℤ, pos, ◌^◌, ◌≤ℤ◌}
use Rattle.corr_game.specs.declared.payoffs.Pay.{Pay}
use Rattle.corr_game.specs.declared.sides.Side.{Side}
use Rattle.corr_game.specs.declared.sides.Side.TheVariants.{One, Two}
use Rattle.efg_reader.specs.RawGame.{RawGameView}
use Rattle.efg_reader.specs.declared.raw_game.RawNode.{RawNode}
use Rattle.game_scale.specs.declared.refusal.ScaleRefusal.{ScaleRefusal}
use Rattle.game_scale.specs.declared.refusal.ScaleRefusal.TheVariants.{PathTooFine, ScaleTooLarge, AmountTooLarge, NoMemory}
use Rattle.game_scale.specs.Amounts.{IsPaid, IsOverpaid}
use Rattle.game_scale.specs.Paths.{PathView, IsPath, IsLeaf, IsWithin}
use Rattle.game_scale.specs.Scales.{IsLeastScale, IsScaleTooLarge}

-- node n is the first whose path is beyond the limits
pub record IsPathTooFine (raw : RawGameView) (n : ℕ) : Type 0 where
  pub path : PathView
  pub reached : IsPath raw n path
  pub beyond : IsWithin path → ⊥
  pub before : (m : ℕ) → m < n → (earlier : PathView) × IsPath raw m earlier × IsWithin earlier

-- the refusal of paths; memory may run out
abbrev pub IsPathRefusal : RawGameView → ScaleRefusal → Type 0
IsPathRefusal raw (PathTooFine node) = IsPathTooFine raw node
IsPathRefusal raw NoMemory = Unit {0}
IsPathRefusal raw other = ⊥

-- node n is the first leaf at which an amount is over 2^28
pub record IsAmountTooLarge (scale : Side → ℤ) (nodes : List RawNode) (paths : List PathView) (n : ℕ) : Type 0 where
  pub raw : RawNode
  pub path : PathView
  pub node : slice_get nodes n ≡ Some raw
  pub reached : slice_get paths n ≡ Some path
  pub leaf : IsLeaf raw.shape
  pub over : IsOverpaid scale path
  pub before : (m : ℕ) (earlier : RawNode) (on : PathView) → m < n → slice_get nodes m ≡ Some earlier → slice_get paths m ≡ Some on → IsLeaf earlier.shape → (pay : Pay) × IsPaid scale on pay

-- the refusal of nodes that are scaled; memory may run out
abbrev pub IsAmountRefusal : (Side → ℤ) → List RawNode → List PathView → ScaleRefusal → Type 0
IsAmountRefusal scale nodes paths (AmountTooLarge node) = IsAmountTooLarge scale nodes paths node
IsAmountRefusal scale nodes paths NoMemory = Unit {0}
IsAmountRefusal scale nodes paths other = ⊥

-- the refusal of scales, player 1's first
abbrev pub IsScaleRefusal : List RawNode → List PathView → ScaleRefusal → Type 0
IsScaleRefusal nodes paths (ScaleTooLarge One) = IsScaleTooLarge One nodes paths
IsScaleRefusal nodes paths (ScaleTooLarge Two) = IsScaleTooLarge Two nodes paths × ((scale : ℤ) × IsLeastScale One nodes paths scale × (scale ≤ℤ pos (2 ^ 24)))
IsScaleRefusal nodes paths other = ⊥
