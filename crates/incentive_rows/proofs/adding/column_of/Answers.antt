-- The index of a relevant pair is one of the list.
use Rattle.std.proofs.Common.{◌≡◌, ℕ, ◌<◌, Option, Some, None, IfSome, length, sym}
use Rattle.connected_pairs.specs.Connected.{index_of, PairsView, IsPairs}
use Rattle.connected_pairs.proofs.Indices.{index_in}
use Rattle.incentive_rows.proofs.adding.column_of.Goals as goal

in_list : (p : PairsView) → IsPairs p → (one two : ℕ) (found : Option ℕ) → found ≡ index_of p one two → IfSome found (λ col. col < length p.pairs)
in_list p rules one two None e = tt
in_list p rules one two (Some col) e = index_in p rules one two col (sym e)

pub returns-in-One-clause-in_range : goal.returns-in-One-clause-in_range
returns-in-One-clause-in_range c =
    in_list c.args.pairs.now c.requires.rules c.args.own c.args.beside c.index_of.result c.index_of.ensures.value

pub returns-in-Two-clause-in_range : goal.returns-in-Two-clause-in_range
returns-in-Two-clause-in_range c =
    in_list c.args.pairs.now c.requires.rules c.args.beside c.args.own c.index_of-in-Two.result c.index_of-in-Two.ensures.value
