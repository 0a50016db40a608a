-- What holds between the two players' parts of a walk while it goes on.
use Rattle.std.specs.Prelude.{ℕ, ◌≡◌, ◌⊎◌, ℤ, Bool, true, List, Option, Some, slice_get}
use Rattle.corr_game.specs.declared.nodes.SetId.{SetId}
use Rattle.corr_game.specs.declared.sides.Side.{Side}
use Rattle.corr_game.specs.declared.sides.Side.TheVariants.{One}
use Rattle.sequences.specs.declared.places.Place.{Place}
use Rattle.sequences.specs.Number.{SideView, Plays, last_of, side_of}
use Rattle.connected_pairs.specs.Connected.{PairsView, IsPrefix, IsTouched, are_connected, other, touches}
use Rattle.plan_decompose.specs.declared.opens.Open.{Open}
use Rattle.plan_decompose.specs.declared.walks.Walk.{Walk}
use Rattle.plan_decompose.specs.Solution.{ArePositive, value_of}
use Rattle.plan_decompose.specs.Walk.{IsOpenOf, part_of}

-- a set is open, beside this sequence
abbrev pub Waits : List (Option ℕ) → ℕ → ℕ → Type 0
Waits beside set t = slice_get beside set ≡ Some (Some t)

-- each open set of v stands beside a sequence that w's plan plays; it is the own sequence of each open set of w that is
-- connected to it, and each sequence that w's plan plays and that ends at a set connected to it is a prefix
pub record IsHalf (v w : SideView) (join : ℕ → ℕ → Bool) (open_v plan_w open_w : List (Option ℕ)) : Type 0 where
  pub played : (i t : ℕ) → Waits open_v i t → Plays w plan_w t
  pub alike : (i t k u : ℕ) (place : Place) → Waits open_v i t → Waits open_w k u → join i k ≡ true → slice_get w.places k ≡ Some place → place.own ≡ t
  pub lies : (i t y : ℕ) (move : SetId × ℕ) → Waits open_v i t → Plays w plan_w y → last_of w y ≡ Some move → join i move.0.0 ≡ true → IsPrefix w y t

-- both halves, and the relevant pairs that both plans play are positive
pub record IsFair (p : PairsView) (values : List ℤ) (walk : Walk) : Type 0 where
  pub one : IsHalf p.seqs.one p.seqs.two (λ i k. are_connected p i k) walk.one.beside.items walk.two.actions.items walk.two.beside.items
  pub two : IsHalf p.seqs.two p.seqs.one (λ k i. are_connected p i k) walk.two.beside.items walk.one.actions.items walk.one.beside.items
  pub positive : ArePositive p.seqs.one p.seqs.two (λ i k. are_connected p i k) (λ x y. value_of p values One x y) walk.one.actions.items walk.two.actions.items

-- of the open sets this one alone is connected to a set
abbrev pub IsOnlyJoined : (ℕ → Bool) → List (Option ℕ) → ℕ → Type 0
IsOnlyJoined joined beside k = (joined k ≡ true) × ((l t : ℕ) → Waits beside l t → joined l ≡ true → l ≡ k)

-- no open set is connected to a set, or two are
abbrev pub IsNotOne : (ℕ → Bool) → List (Option ℕ) → Type 0
IsNotOne joined beside =
    ((l t : ℕ) → Waits beside l t → joined l ≡ true → ⊥)
    ⊎ ((k : ℕ) × ((l : ℕ) × ((k ≡ l → ⊥) × ((t : ℕ) × Waits beside k t) × ((u : ℕ) × Waits beside l u) × (joined k ≡ true) × (joined l ≡ true))))

-- an open set is the only one that is connected to a first one, or it is that one where not exactly one is
abbrev pub IsNext : PairsView → Walk → Open → Type 0
IsNext p walk at = (first : Open) × (IsOpenOf walk first
    × (((at ≡ first) × IsNotOne (touches p first.side first.set.0) (part_of (other first.side) walk).beside.items)
    ⊎ ((at.side ≡ other first.side) × IsOnlyJoined (touches p first.side first.set.0) (part_of (other first.side) walk).beside.items at.set.0)))

-- the longest part of a sequence that is empty or ends at a set connected to this one
pub record IsLongest (p : PairsView) (side : Side) (set seq near : ℕ) : Type 0 where
  pub prefix : IsPrefix (side_of side p.seqs) near seq
  pub touched : IsTouched p side set (last_of (side_of side p.seqs) near)
  pub longest : (part : ℕ) → IsPrefix (side_of side p.seqs) part seq → IsTouched p side set (last_of (side_of side p.seqs) part) → IsPrefix (side_of side p.seqs) part near

-- an open set is the centre of its star: no open set that is connected to it is connected to another open one
abbrev pub IsCentre : PairsView → Walk → Open → Type 0
IsCentre p walk at = (k u j s : ℕ) → Waits (part_of (other at.side) walk).beside.items k u → touches p at.side at.set.0 k ≡ true
    → Waits (part_of at.side walk).beside.items j s → touches p at.side j k ≡ true → j ≡ at.set.0
