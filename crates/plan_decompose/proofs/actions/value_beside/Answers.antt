-- Whichever player's sequence it is, the index found is that of a relevant pair.
use Rattle.std.proofs.Common.{◌≡◌, Some, arith}
use Rattle.connected_pairs.specs.Connected.{index_of}
use Rattle.connected_pairs.proofs.Indices.{index_in}
use Rattle.plan_decompose.proofs.actions.value_beside.Goals as goal
use Rattle.plan_decompose.proofs.actions.value_beside.Goals.{in-One, in-Two}

pub bounds-values-k : goal.bounds-values-k
bounds-values-k c =
    let p = c.args.pairs.now in
    elim c.match-seq.branch [
      | in-One w ↦
          let here : index_of p c.args.seq.1 c.args.beside ≡ Some c.in-Some.k = cc (w.index_of-index.ensures.value, w.index-is, c.in-Some.is) in
          omega (arith, index_in p w.index_of-index.ensures.rules c.args.seq.1 c.args.beside c.in-Some.k here, c.requires.per_pair)
      | in-Two w ↦
          let here : index_of p c.args.beside c.args.seq.1 ≡ Some c.in-Some.k = cc (w.index_of-index-in-Two.ensures.value, w.index-is, c.in-Some.is) in
          omega (arith, index_in p w.index_of-index-in-Two.ensures.rules c.args.beside c.args.seq.1 c.in-Some.k here, c.requires.per_pair)
    ]
