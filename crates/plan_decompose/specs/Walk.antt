-- The walk that chooses two plans, set by set.
use Rattle.std.specs.Prelude.{ℕ, ◌≡◌, ◌+◌, ◌<◌, ◌⊎◌, List, length, Bool, true, false, count_by, Option, Some, None, slice_get}
use Rattle.corr_game.specs.declared.nodes.SetInfo.{SetInfo}
use Rattle.corr_game.specs.declared.sides.Side.{Side}
use Rattle.corr_game.specs.declared.sides.Side.TheVariants.{One, Two}
use Rattle.corr_game.specs.Game.{GameView, sets_of}
use Rattle.corr_game.specs.Plan.{IsPlan}
use Rattle.sequences.specs.declared.places.Place.{Place}
use Rattle.sequences.specs.Number.{SideView, Plays, count_of, side_of}
use Rattle.connected_pairs.specs.Connected.{PairsView, other}
use Rattle.plan_decompose.specs.declared.opens.Open.{Open}
use Rattle.plan_decompose.specs.declared.walks.SideWalk.{SideWalk}
use Rattle.plan_decompose.specs.declared.walks.Walk.{Walk}

-- an action is one of the set's
abbrev pub IsActionOf : Side → GameView → ℕ → ℕ → Type 0
IsActionOf side g set action = (info : SetInfo) → slice_get (sets_of side g) set ≡ Some info → action < info.actions

-- an entry of a list is there and isn't none
abbrev pub IsNamed : List (Option ℕ) → ℕ → Type 0
IsNamed list set = (x : ℕ) × (slice_get list set ≡ Some (Some x))

-- whether an entry is none
abbrev pub is_none : Option ℕ → Bool
is_none None = true
is_none (Some x) = false

-- the number of sets with no action
abbrev pub unchosen : List (Option ℕ) → ℕ
unchosen actions = count_by is_none actions

-- The actions so far make a plan, and they lead to each set that has one; a set to which they lead has an action or is
-- open. An open set stands beside one of the other player's sequences.
pub record IsPart (side : Side) (g : GameView) (p : PairsView) (actions beside : List (Option ℕ)) : Type 0 where
  pub plan : IsPlan side g actions
  pub per_set : length beside ≡ length (sets_of side g)
  pub in_range : (set t : ℕ) → slice_get beside set ≡ Some (Some t) → t < count_of (side_of (other side) p.seqs)
  pub led : (set action : ℕ) (place : Place) → slice_get (side_of side p.seqs).places set ≡ Some place → slice_get actions set ≡ Some (Some action)
      → Plays (side_of side p.seqs) actions place.own
  pub waiting : (set t : ℕ) (place : Place) → slice_get (side_of side p.seqs).places set ≡ Some place → slice_get beside set ≡ Some (Some t)
      → Plays (side_of side p.seqs) actions place.own × (slice_get actions set ≡ Some None)
  pub met : (set : ℕ) (place : Place) → slice_get (side_of side p.seqs).places set ≡ Some place → Plays (side_of side p.seqs) actions place.own
      → IsNamed actions set ⊎ IsNamed beside set

-- one player's part of a walk
abbrev pub IsSideWalk : Side → GameView → PairsView → SideWalk → Type 0
IsSideWalk side g p walk = IsPart side g p walk.actions.items walk.beside.items

-- at the start a plan plays the empty sequence alone, and the open sets come first and stand beside the empty sequence
pub record IsFresh (v : SideView) (actions beside : List (Option ℕ)) : Type 0 where
  pub only_empty : (seq : ℕ) → Plays v actions seq → seq ≡ 0
  pub at_first : (set t : ℕ) (place : Place) → slice_get beside set ≡ Some (Some t) → slice_get v.places set ≡ Some place → place.own ≡ 0
  pub beside_empty : (set t : ℕ) → slice_get beside set ≡ Some (Some t) → t ≡ 0

-- both players' parts
pub record IsWalk (g : GameView) (p : PairsView) (walk : Walk) : Type 0 where
  pub one : IsSideWalk One g p walk.one
  pub two : IsSideWalk Two g p walk.two

-- the number of sets of both players that have no action
abbrev pub unsettled : Walk → ℕ
unsettled walk = unchosen walk.one.actions.items + unchosen walk.two.actions.items

-- a player's part of a walk
abbrev pub part_of : Side → Walk → SideWalk
part_of One walk = walk.one
part_of Two walk = walk.two

-- a set is open, beside this sequence
abbrev pub IsOpenOf : Walk → Open → Type 0
IsOpenOf walk at = slice_get (part_of at.side walk).beside.items at.set.0 ≡ Some (Some at.beside)

-- no set is open
abbrev pub NoneOpen : Walk → Type 0
NoneOpen walk = (side : Side) (set t : ℕ) → slice_get (part_of side walk).beside.items set ≡ Some (Some t) → ⊥
