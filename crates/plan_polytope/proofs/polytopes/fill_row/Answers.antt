-- Each action of a set of the game is a move, and a move more is filled; the own sequence comes last.
use Rattle.std.proofs.Common.{rules, arith}
use Rattle.sequences.specs.Number.{side_of}
use Rattle.connected_pairs.proofs.Indices.{is_at}
use Rattle.plan_polytope.proofs.Filling.{move_more, row_filled}
use Rattle.plan_polytope.proofs.polytopes.fill_row.Goals as goal

pub number-seq-requires : goal.number-seq-requires
number-seq-requires c =
    let row = c.args.row.now in
    rw c.seqs-seqs.ensures
    (is_at row.side c.args.game.now (side_of row.side c.args.pairs.now.seqs) (c.requires.whose.sides row.side) row.set c.loop-action.action c.set.result.now c.set.ensures.item (omega arith))

pub loop-action-preserved : goal.loop-action-preserved
loop-action-preserved c =
    let ends = rw c.seqs-seqs.ensures at c.number-seq.ensures in (
      search rules,
      search rules,
      c.in_ok-place.ensures.units,
      move_more c.args.pairs.now c.args.row.now c.args.at c.loop-action.action c.number-seq.result c.args.lp.now c.loop-action.lp c.place.new.lp ends c.loop-action.invariant.3 c.in_ok-place.ensures.put,
    )

pub returns-clause-row : goal.returns-clause-row
returns-clause-row c =
    let own = rw c.seqs-seqs.ensures at c.own-own.ensures.number in
    let row = c.args.row.now in
    row_filled c.args.pairs.now c.requires.rules row c.args.at c.loop-action.action c.own-own.result c.args.lp.now c.loop-action.lp c.place-2.new.lp c.requires.known.1
    (λ place e. omega (arith, (c.requires.whose.sides row.side).same_actions row.set.0 place c.set.result.now e c.set.ensures.item))
    own c.loop-action.invariant.3 c.in_ok-place-2.ensures.put
