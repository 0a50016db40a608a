-- A leaf as the incentive rows see it, with the sequences of both players that lead to it.
use Rattle.std.specs.Prelude.{◌<◌, ◌≤◌, ◌^◌, unsigned_abs}
use Rattle.corr_game.specs.declared.sides.Side.{Side}
use Rattle.sequences.specs.Number.{SeqsView, count_of, side_of}
use Rattle.connected_pairs.specs.Connected.{other}
use Rattle.incentive_rows.specs.declared.leaves.Paid.{Paid}

-- a leaf's sequences are both players', and what it pays is an amount
abbrev pub IsPaid : SeqsView → Side → Paid → Type 0
IsPaid s side paid = (paid.own < count_of (side_of side s)) × (paid.beside < count_of (side_of (other side) s)) × (unsigned_abs paid.amount ≤ 2 ^ 28)
