-- A game has the tree and the information sets (Kuhn 1953) of the game that its file says.
use Rattle.std.specs.Prelude.{◌≡◌, map, pos}
use Rattle.corr_game.specs.declared.nodes.Node.{Node}
use Rattle.corr_game.specs.declared.nodes.Node.TheVariants.{Leaf, Chance, Choice}
use Rattle.corr_game.specs.Game.{GameView}
use Rattle.efg_reader.specs.RawGame.{RawGameView, bare_nodes}

-- the same node, where nothing is paid
abbrev pub without_pay : Node → Node
without_pay (Leaf pay) = Leaf (record { one = pos 0; two = pos 0 })
without_pay (Chance kids) = Chance kids
without_pay (Choice side set kids) = Choice side set kids

-- the nodes without what they pay, and the sets, are those of the file
pub record HasTreeOf (raw : RawGameView) (g : GameView) : Type 0 where
  pub nodes : map without_pay g.nodes ≡ bare_nodes raw.nodes
  pub one : g.one ≡ raw.one
  pub two : g.two ≡ raw.two
