-- A set that has an own sequence among the sequences of a game is one of the game's.
use Rattle.std.proofs.Common.{ℕ, ◌<◌, length, arith}
use Rattle.std.proofs.lemmas.Option.{slice_get_within}
use Rattle.corr_game.specs.declared.sides.Side.{Side}
use Rattle.corr_game.specs.Game.{GameView, sets_of}
use Rattle.sequences.specs.Number.{IsOwn, side_of}
use Rattle.connected_pairs.specs.Connected.{PairsView, IsPairsOf}

pub own_in : (side : Side) (g : GameView) (p : PairsView) → IsPairsOf g p → (set own : ℕ) → IsOwn (side_of side p.seqs) set own → set < length (sets_of side g)
own_in side g p whose set own is =
    let within : set < length (side_of side p.seqs).places = slice_get_within (side_of side p.seqs).places set is.0 is.1 in
    omega (arith, within, (whose.sides side).per_set)
