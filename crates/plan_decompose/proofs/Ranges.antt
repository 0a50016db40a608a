-- A prefix of a sequence of the player's is one of the player's, and an action of an open set is a move.
use Rattle.std.proofs.Common.{ℕ, ◌<◌, length, arith}
use Rattle.corr_game.specs.declared.nodes.SetId.{SetId}
use Rattle.corr_game.specs.declared.sides.Side.{Side}
use Rattle.corr_game.specs.Game.{GameView, sets_of}
use Rattle.sequences.specs.Number.{SideView, IsSide, IsSideOf, IsAt, count_of}
use Rattle.sequences.proofs.Adding.{within}
use Rattle.sequences.proofs.Holding.{own_lower}
use Rattle.connected_pairs.specs.Connected.{IsPrefix, itself, longer}
use Rattle.connected_pairs.proofs.Indices.{is_at}
use Rattle.plan_decompose.specs.Walk.{IsActionOf}

pub prefix_in : (v : SideView) → IsSide v → (part seq : ℕ) → IsPrefix v part seq → seq < count_of v → part < count_of v
prefix_in v side part _ itself low = low
prefix_in v side part _ (longer seq own move e o rest) low =
    prefix_in v side part own rest (omega (arith, own_lower v side seq move own e o))

pub is_move : (side : Side) (g : GameView) (v : SideView) → IsSideOf side g v → (set : SetId) (action : ℕ) → set.0 < length v.places → IsActionOf side g set.0 action → IsAt v.places (set, action)
is_move side g v of set action low named =
    let info = within (sets_of side g) set.0 (omega (arith, of.per_set)) in
    is_at side g v of set action info.0 info.1 (named info.0 info.1)
