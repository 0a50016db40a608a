-- A decision problem of one player with perfect recall, and values of its sets by which it is solved from the last set back (Kuhn 1953;
-- Bellman 1957).
use Rattle.std.specs.Prelude.{◌≡◌, ℕ, ◌<◌, ◌≤◌, Bool, true, false, ◌&&◌, nat_eq, cond, List, [], ◌∷◌, ℤ, pos, ◌+ℤ◌, ◌≤ℤ◌}
use Rattle.exact_algebra.specs.Sums.{sum_to}
use Rattle.corr_game.specs.declared.nodes.SetId.{SetId}

-- the player's sets with their numbers of actions, and the leaves; the player chooses at the sets inside, and what came before them is
-- given; own moves before each set and leaf, the latest first; what the leaves pay, those before any set inside too where `at_once`
pub record Decision : Type 0 where
  pub sets : ℕ
  pub actions : ℕ → ℕ
  pub inside : ℕ → Bool
  pub before_set : ℕ → List (SetId × ℕ)
  pub leaves : ℕ
  pub before_leaf : ℕ → List (SetId × ℕ)
  pub at_once : Bool
  pub pays : ℕ → ℤ

-- own moves end at a set with a smaller number than this, with one of its actions, and go on as those before it
abbrev pub GoesBack : Decision → ℕ → List (SetId × ℕ) → Type 0
GoesBack d bound [] = Unit {0}
GoesBack d bound (move ∷ before) = (move.0.0 < bound) × (move.1 < d.actions move.0.0) × (d.before_set move.0.0 ≡ before)

-- what comes behind a set inside is inside
abbrev pub StaysInside : (ℕ → Bool) → ℕ → List (SetId × ℕ) → Type 0
StaysInside inside set [] = Unit {0}
StaysInside inside set (move ∷ before) = inside move.0.0 ≡ true → inside set ≡ true

-- perfect recall; each set has an action
pub record IsDecision (d : Decision) : Type 0 where
  pub each_set : (set : ℕ) → set < d.sets → GoesBack d set (d.before_set set)
  pub each_leaf : (leaf : ℕ) → leaf < d.leaves → GoesBack d d.sets (d.before_leaf leaf)
  pub stays : (set : ℕ) → set < d.sets → StaysInside d.inside set (d.before_set set)
  pub some_action : (set : ℕ) → set < d.sets → 1 ≤ d.actions set

-- whether the latest own move takes this action at this set
abbrev pub ends_with : ℕ → ℕ → List (SetId × ℕ) → Bool
ends_with set action [] = false
ends_with set action (move ∷ before) = nat_eq move.0.0 set && nat_eq move.1 action

-- whether the latest own move is given: there is none, or it is at a set that isn't inside
abbrev pub is_given : (ℕ → Bool) → List (SetId × ℕ) → Bool
is_given inside [] = true
is_given inside (move ∷ before) = cond (inside move.0.0) false true

-- the values of the sets inside that come next where the latest own moves are of a kind, and what leaves of another kind pay
abbrev pub led_to : Decision → (ℕ → ℤ) → (List (SetId × ℕ) → Bool) → (List (SetId × ℕ) → Bool) → ℤ
led_to d value next paid =
    sum_to d.sets (λ set. cond (d.inside set && next (d.before_set set)) (value set) (pos 0))
    +ℤ sum_to d.leaves (λ leaf. cond (paid (d.before_leaf leaf)) (d.pays leaf) (pos 0))

-- what an action at a set leads to
abbrev pub after : Decision → (ℕ → ℤ) → ℕ → ℕ → ℤ
after d value set action = led_to d value (ends_with set action) (ends_with set action)

-- what the start leads to
abbrev pub at_start : Decision → (ℕ → ℤ) → ℤ
at_start d value = led_to d value (is_given d.inside) (λ before. d.at_once && is_given d.inside before)

-- no action at a set inside leads to more than the set's value
pub record AreValues (d : Decision) (value : ℕ → ℤ) : Type 0 where
  pub each : (set action : ℕ) → set < d.sets → d.inside set ≡ true → action < d.actions set → after d value set action ≤ℤ value set

-- an action at each set
abbrev pub IsChoice : Decision → (ℕ → ℕ) → Type 0
IsChoice d choice = (set : ℕ) → set < d.sets → choice set < d.actions set

-- whether a choice takes each of these moves that is at a set inside
abbrev pub takes : (ℕ → Bool) → (ℕ → ℕ) → List (SetId × ℕ) → Bool
takes inside choice [] = true
takes inside choice (move ∷ before) = cond (inside move.0.0) (nat_eq (choice move.0.0) move.1) true && takes inside choice before

-- whether a leaf counts: those behind a set inside do, and the others where they are paid at once
abbrev pub counts : Decision → ℕ → Bool
counts d leaf = cond (is_given d.inside (d.before_leaf leaf)) d.at_once true

-- what a choice gets: what the leaves pay that it leads to
abbrev pub gets : Decision → (ℕ → ℕ) → ℤ
gets d choice = sum_to d.leaves (λ leaf. cond (counts d leaf && takes d.inside choice (d.before_leaf leaf)) (d.pays leaf) (pos 0))
