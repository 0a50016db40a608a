-- The tree that the list of a game's nodes stands for: who moves where, kids, and nodes above others, as in von Stengel
-- and Forges 2008.
use Rattle.std.specs.Prelude.{◌≡◌, ℕ, Option, Some, None, slice_get}
use Rattle.corr_game.specs.declared.nodes.Node.{Node}
use Rattle.corr_game.specs.declared.sides.Side.{Side}
use Rattle.corr_game.specs.Game.{GameView}
use Rattle.corr_game.specs.Node.{kids_of, set_at}

-- the set of a node that may be there, where this player moves
abbrev pub set_there : Side → Option Node → Option ℕ
set_there side None = None
set_there side (Some node) = set_at side node

-- the kid of a node that may be there, by action
abbrev pub kid_there : ℕ → Option Node → Option ℕ
kid_there action None = None
kid_there action (Some node) = slice_get (kids_of node) action

-- the set at node n where this player moves, and none at any other node
abbrev pub set_of : GameView → Side → ℕ → Option ℕ
set_of g side n = set_there side (slice_get g.nodes n)

-- the kid of node n to which an action leads
abbrev pub kid_of : GameView → ℕ → ℕ → Option ℕ
kid_of g n action = kid_there action (slice_get g.nodes n)

-- node m is above node n: n is one of its kids, or a kid of a node that m is above
pub data IsAbove (g : GameView) (m : ℕ) : ℕ → Type 0 where
  parent : (action n : ℕ) → kid_of g m action ≡ Some n → IsAbove g m n
  further : (between action n : ℕ) → IsAbove g m between → kid_of g between action ≡ Some n → IsAbove g m n
