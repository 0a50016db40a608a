-- Leaves whose own sequences two plans play, and what these pay (von Stengel 1996).
use Rattle.std.specs.Prelude.{ℕ, ◌<◌, Bool, true, ◌&&◌, cond, List, [], ◌∷◌, length, Option, Some, None, slice_get, ℤ, pos}
use Rattle.exact_algebra.specs.Sums.{sum_to}
use Rattle.corr_game.specs.declared.nodes.Node.{Node}
use Rattle.corr_game.specs.declared.nodes.Node.TheVariants.{Leaf, Chance, Choice}
use Rattle.corr_game.specs.declared.nodes.SetId.{SetId}
use Rattle.corr_game.specs.declared.sides.Side.{Side}
use Rattle.corr_game.specs.Game.{GameView}
use Rattle.corr_game.specs.Node.{amount_of}
use Rattle.tree_recall.specs.OwnSequence.{IsOwnAt}
use Rattle.equilibrium.specs.Reach.{names}

-- an own sequence of a player for each node
pub record AreOwn (side : Side) (g : GameView) (own : ℕ → List (SetId × ℕ)) : Type 0 where
  pub each : (n : ℕ) → n < length g.nodes → IsOwnAt g side n (own n)

-- whether a plan names each move of a sequence
abbrev pub names_all : List (Option ℕ) → List (SetId × ℕ) → Bool
names_all plan [] = true
names_all plan (move ∷ moves) = names move.1 (slice_get plan move.0.0) && names_all plan moves

-- a leaf's amount, and 0 at any other node
abbrev pub leaf_amount : Side → Option Node → ℤ
leaf_amount side None = pos 0
leaf_amount side (Some (Leaf pay)) = amount_of side pay
leaf_amount side (Some (Chance kids)) = pos 0
leaf_amount side (Some (Choice mover set kids)) = pos 0

-- the sum of the amounts of those leaves whose two own sequences are named by the players' plans
abbrev pub leaves_pay : Side → GameView → (ℕ → List (SetId × ℕ)) → (ℕ → List (SetId × ℕ)) → List (Option ℕ) → List (Option ℕ) → ℤ
leaves_pay side g first second one two =
    sum_to (length g.nodes)
    (λ n. cond (names_all one (first n) && names_all two (second n)) (leaf_amount side (slice_get g.nodes n)) (pos 0))
