-- What leaving the mediator pays at the leaves of a list of weighted pairs of plans, and what the sets behind a sequence are worth then
-- (von Stengel and Forges 2008).
use Rattle.std.specs.Prelude.{◌≡◌, ◌↔◌, ℕ, ◌+◌, ◌<◌, ◌≤◌, Bool, true, nat_eq, cond, List, length, Option, Some, None}
use Rattle.std.specs.Prelude.{slice_get, slice_index, slice_index_or, ℤ, pos, ◌+ℤ◌, ◌*ℤ◌, ◌≤ℤ◌}
use Rattle.exact_algebra.specs.Sums.{sum_over, sum_to}
use Rattle.corr_game.specs.declared.nodes.SetId.{SetId}
use Rattle.corr_game.specs.declared.plans.Pair.{Pair}
use Rattle.corr_game.specs.declared.sides.Side.{Side}
use Rattle.corr_game.specs.Game.{GameView}
use Rattle.corr_game.specs.Plan.{plan_of}
use Rattle.sequences.specs.declared.places.Place.{Place}
use Rattle.sequences.specs.Number.{Holds, Plays, SeqsView, SideView, side_of}
use Rattle.connected_pairs.specs.Connected.{other}
use Rattle.equilibrium.specs.Distribution.{Entry}
use Rattle.equilibrium.specs.Leaves.{leaf_amount}

-- a test of two plans at a node, the player's own first
abbrev pub PlanTest : Type 0
PlanTest = ℕ → List (Option ℕ) → List (Option ℕ) → Bool

-- what a pair, and an entry, weighs where its plans pass a test
abbrev pub weight_of_pair : Side → (List (Option ℕ) → List (Option ℕ) → Bool) → Pair → ℤ
weight_of_pair side passes pair =
    cond (passes (plan_of side pair.one pair.two) (plan_of (other side) pair.one pair.two)) pair.weight (pos 0)

abbrev pub weight_of_entry : Side → (List (Option ℕ) → List (Option ℕ) → Bool) → Entry → ℤ
weight_of_entry side passes e =
    cond (passes (plan_of side e.one e.two) (plan_of (other side) e.one e.two)) (pos e.weight) (pos 0)

-- what a node pays: a leaf its amount, as often as the pair, or the list's entries, weigh that pass the test there
abbrev pub paid_in_pair : Side → GameView → PlanTest → Pair → ℕ → ℤ
paid_in_pair side g passes pair n = leaf_amount side (slice_get g.nodes n) *ℤ weight_of_pair side (passes n) pair

abbrev pub paid_in_list : Side → GameView → PlanTest → List Entry → ℕ → ℤ
paid_in_list side g passes list n =
    leaf_amount side (slice_get g.nodes n) *ℤ sum_over (λ e. weight_of_entry side (passes n) e) list

-- what the nodes before this one pay whose own sequence has this number
abbrev pub paid_behind : List ℕ → (ℕ → ℤ) → ℕ → ℕ → ℤ
paid_behind nodes pays count seq = sum_to count (λ n. cond (nat_eq (slice_index nodes n) seq) (pays n) (pos 0))

-- each number has grown by that of its index
abbrev pub GrowBy : (ℕ → ℤ) → List ℤ → List ℤ → Type 0
GrowBy more old new = (q : ℕ) → q < length old → slice_index_or new q (pos 0) ≡ slice_index_or old q (pos 0) +ℤ more q

-- a test says at each node whether a plan plays the trigger's sequence and the other's plan the node's
abbrev pub TellsLeft : SeqsView → Side → ℕ → ℕ → PlanTest → Type 0
TellsLeft s side seq count passes =
    (n : ℕ) → n < count → (plan against : List (Option ℕ))
    → (passes n plan against ≡ true)
    ↔ (Plays (side_of side s) plan seq × Plays (side_of (other side) s) against (slice_index (side_of (other side) s).nodes n))

-- a sequence holds a choice at a set, if there is one
abbrev pub IsPast : SideView → Option SetId → ℕ → Type 0
IsPast v None seq = Unit {0}
IsPast v (Some top) seq = Holds v top.0 seq

-- a node is past a trigger's set, a plan plays the trigger's sequence and the node's, and the other's plan the other's
abbrev pub FollowsTo : SeqsView → Side → Option SetId → ℕ → ℕ → List (Option ℕ) → List (Option ℕ) → Type 0
FollowsTo s side top seq n plan against =
    IsPast (side_of side s) top (slice_index (side_of side s).nodes n) × Plays (side_of side s) plan seq
    × Plays (side_of side s) plan (slice_index (side_of side s).nodes n)
    × Plays (side_of (other side) s) against (slice_index (side_of (other side) s).nodes n)

-- a test says that at each node
abbrev pub TellsFollowed : SeqsView → Side → Option SetId → ℕ → ℕ → PlanTest → Type 0
TellsFollowed s side top seq count passes =
    (n : ℕ) → n < count → (plan against : List (Option ℕ)) → (passes n plan against ≡ true) ↔ FollowsTo s side top seq n plan against

-- the number of a set's own sequence
abbrev pub own_there : Option Place → ℕ
own_there None = 0
own_there (Some place) = place.own

-- what a sequence leads to: what is paid right behind it, and the values of the sets whose own sequence it is
abbrev pub leads_to : List Place → (ℕ → ℤ) → (ℕ → ℤ) → ℕ → ℤ
leads_to places paid value seq =
    paid seq +ℤ sum_to (length places) (λ set. cond (nat_eq (own_there (slice_get places set)) seq) (value set) (pos 0))

-- a set's value is that of an action, and no other action leads to more
abbrev pub IsSolved : List Place → (ℕ → ℤ) → (ℕ → ℤ) → (ℕ → ℕ) → ℕ → Place → Type 0
IsSolved places paid value choice set place =
    (choice set < place.actions) × (value set ≡ leads_to places paid value (place.first + choice set))
    × ((action : ℕ) → action < place.actions → leads_to places paid value (place.first + action) ≤ℤ value set)

-- the same of the sets whose sequences stand from this number on
abbrev pub AreSolved : List Place → (ℕ → ℤ) → (ℕ → ℤ) → (ℕ → ℕ) → ℕ → Type 0
AreSolved places paid value choice from =
    (set : ℕ) (place : Place) → slice_get places set ≡ Some place → from ≤ place.first → IsSolved places paid value choice set place

-- each set has an action, and the sets' sequences stand in a row
pub record StandInRow (places : List Place) : Type 0 where
  pub some_action : (set : ℕ) (place : Place) → slice_get places set ≡ Some place → 1 ≤ place.actions
  pub in_row : (j k : ℕ) (a b : Place) → slice_get places j ≡ Some a → slice_get places k ≡ Some b → j < k → a.first + a.actions ≤ b.first

-- a number is what the empty sequence leads to, or what a set is worth, when its sets are solved
abbrev pub IsWorth : List Place → (ℕ → ℤ) → Option SetId → ℤ → Type 0
IsWorth places paid None worth =
    (value : ℕ → ℤ) × (choice : ℕ → ℕ) × AreSolved places paid value choice 0 × (worth ≡ leads_to places paid value 0)
IsWorth places paid (Some top) worth =
    (value : ℕ → ℤ) × (choice : ℕ → ℕ)
    × ((place : Place) → slice_get places top.0 ≡ Some place → AreSolved places paid value choice place.first) × (worth ≡ value top.0)

-- a set's sequences all stand before this number
abbrev pub IsLeft : List Place → ℕ → Option SetId → Type 0
IsLeft places from None = Unit {0}
IsLeft places from (Some top) = (place : Place) × (slice_get places top.0 ≡ Some place) × (place.first + place.actions ≤ from)

-- the numbers at the sequences before those of the sets that were gone over, whose values are known
pub record IsGoneOver (places : List Place) (paid : ℕ → ℤ) (left : List ℤ) : Type 0 where
  pub value : ℕ → ℤ
  pub choice : ℕ → ℕ
  pub none_yet : (set : ℕ) (place : Place) → slice_get places set ≡ Some place → place.first < length left → value set ≡ pos 0
  pub whole : (set : ℕ) (place : Place) → slice_get places set ≡ Some place → place.first < length left
      → place.first + place.actions ≤ length left
  pub solved : AreSolved places paid value choice (length left)
  pub each : (seq : ℕ) → seq < length left → slice_index_or left seq (pos 0) ≡ leads_to places paid value seq
