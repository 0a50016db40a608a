-- To which sets a plan leads, and which sets lie below others, as walks down the tree (Kuhn 1953; von Stengel and Forges 2008).
use Rattle.std.specs.Prelude.{ℕ, ◌+◌, Bool, true, false, ◌&&◌, ◌||◌, nat_eq, cond, List, [], ◌∷◌, Option, Some, None, slice_get}
use Rattle.corr_game.specs.declared.nodes.Node.{Node}
use Rattle.corr_game.specs.declared.nodes.Node.TheVariants.{Leaf, Chance, Choice}
use Rattle.corr_game.specs.declared.sides.Side.{Side}
use Rattle.corr_game.specs.Game.{GameView}
use Rattle.corr_game.specs.Node.{kids_of, same_side, set_at}
use Rattle.corr_game.specs.Preorder.{from_last}

-- whether some kid to which an allowed action leads has a property; the first kid's action is this one
abbrev pub some_kid : (ℕ → Bool) → (ℕ → Bool) → ℕ → List ℕ → Bool
some_kid allowed has action [] = false
some_kid allowed has action (kid ∷ kids) = allowed action && has kid || some_kid allowed has (action + 1) kids

-- whether a set that may be there is this one
abbrev pub is_set : ℕ → Option ℕ → Bool
is_set set None = false
is_set set (Some at) = nat_eq at set

-- a node is of the set, or an allowed action leads to a kid from which one comes to it
abbrev pub comes_step : (Node → ℕ → Bool) → Side → ℕ → Node → (ℕ → Bool) → Bool
comes_step allowed side set node comes = is_set set (set_at side node) || some_kid (allowed node) comes 0 (kids_of node)

-- whether one comes from node n to a node of a player's set by a walk down the tree along allowed actions
unfoldable pub comes_to : (Node → ℕ → Bool) → Side → GameView → ℕ → ℕ → Bool
comes_to allowed side g set = from_last (λ n node comes. comes_step allowed side set node comes) false 0 g.nodes

-- whether an entry of a plan names this action
abbrev pub names : ℕ → Option (Option ℕ) → Bool
names action None = false
names action (Some None) = false
names action (Some (Some named)) = nat_eq named action

-- a player's plan allows the action that it names where the player moves, and each action of chance and of the other player
abbrev pub allows : Side → List (Option ℕ) → Node → ℕ → Bool
allows side plan (Leaf pay) action = true
allows side plan (Chance kids) action = true
allows side plan (Choice mover set kids) action = cond (same_side side mover) (names action (slice_get plan set.0)) true

-- whether a plan leads to a set of its player: chance and the other player may move so that some node of it is reached
abbrev pub leads : Side → GameView → List (Option ℕ) → ℕ → Bool
leads side g plan set = comes_to (allows side plan) side g set 0

-- whether one of these nodes is of set `above` and has a node of the other set below it
abbrev pub has_below : Side → GameView → ℕ → ℕ → List Node → Bool
has_below side g above set [] = false
has_below side g above set (node ∷ nodes) =
    is_set above (set_at side node) && some_kid (λ action. true) (comes_to (λ at action. true) side g set) 0 (kids_of node)
    || has_below side g above set nodes

-- whether a set is below another one of its player: some node of it is below some node of that
abbrev pub is_below : Side → GameView → ℕ → ℕ → Bool
is_below side g above set = has_below side g above set g.nodes
