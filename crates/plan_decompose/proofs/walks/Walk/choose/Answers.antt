-- The open set's player has made a choice; the other player's open sets have moved beside it.
use Rattle.std.proofs.Common.{refl, arith}
use Rattle.corr_game.specs.declared.sides.Side.TheVariants.{One, Two}
use Rattle.sequences.specs.Number.{side_of}
use Rattle.connected_pairs.proofs.Indices.{move_in}
use Rattle.plan_decompose.proofs.Going.{fair_after_one, fair_after_two}
use Rattle.plan_decompose.proofs.Parts.{moved_part, open_known}
use Rattle.plan_decompose.proofs.Ranges.{is_move}
use Rattle.plan_decompose.proofs.walks.Walk.choose.Goals as goal

pub number-seq-requires : goal.number-seq-requires
number-seq-requires c =
    let at = c.args.at in
    let of = c.requires.whose.sides at.side in
    let known = open_known c.args.game.now c.args.pairs.now c.args.self.now c.requires.before at c.requires.is_open in
    rw c.seqs.ensures (is_move at.side c.args.game.now (side_of at.side c.args.pairs.now.seqs) of at.set c.args.action (omega (arith, known, of.per_set)) c.requires.named)

pub move_beside-requires-clause-known : goal.move_beside-requires-clause-known
move_beside-requires-clause-known c =
    open_known c.args.game.now c.args.pairs.now c.args.self.now c.requires.before c.args.at c.requires.is_open

pub move_beside-requires-in-Two-clause-known : goal.move_beside-requires-in-Two-clause-known
move_beside-requires-in-Two-clause-known c =
    open_known c.args.game.now c.args.pairs.now c.args.self.now c.requires.before c.args.at c.requires.is_open

pub returns-in-One-clause-walk : goal.returns-in-One-clause-walk
returns-in-One-clause-walk c =
    let p = c.args.pairs.now in
    let old = c.args.self.now in
    let ends = rw (c.in-One.is, c.seqs.ensures) at c.number-seq.ensures in
    record {
      one = rw c.in-One.is at c.choose.ensures.walk;
      two = moved_part Two c.args.game.now p old.two.actions.items old.two.beside.items c.move_beside.new.beside.items c.args.at.side c.args.at.set.0 c.number-seq.result c.requires.before.two c.move_beside.ensures
          (move_in p.seqs.one (c.requires.rules.sides One) (c.args.at.set, c.args.action) c.number-seq.result ends);
    }

pub returns-in-Two-clause-walk : goal.returns-in-Two-clause-walk
returns-in-Two-clause-walk c =
    let p = c.args.pairs.now in
    let old = c.args.self.now in
    let ends = rw (c.in-Two.is, c.seqs.ensures) at c.number-seq.ensures in
    record {
      one = moved_part One c.args.game.now p old.one.actions.items old.one.beside.items c.move_beside-in-Two.new.beside.items c.args.at.side c.args.at.set.0 c.number-seq.result c.requires.before.one c.move_beside-in-Two.ensures
          (move_in p.seqs.two (c.requires.rules.sides Two) (c.args.at.set, c.args.action) c.number-seq.result ends);
      two = rw c.in-Two.is at c.choose-in-Two.ensures.walk;
    }

pub returns-in-One-clause-fair : goal.returns-in-One-clause-fair
returns-in-One-clause-fair c = λ values near s fair centre longest gain.
    let at = c.args.at in
    let found = rw c.seqs.ensures at c.number-seq.ensures in
    let ends = rw c.in-One.is at found in
    fair_after_one c.args.game.now c.args.pairs.now values c.requires.whose c.requires.rules s c.args.self.now _ at.set at.beside c.args.action c.number-seq.result near c.requires.before fair (rw c.in-One.is at c.requires.is_open) ends
    c.choose.ensures.chosen (rw c.in-One.is at c.choose.ensures.opened) refl (rw c.in-One.is at c.move_beside.ensures) (rw c.in-One.is at longest) (rw c.in-One.is at (gain c.number-seq.result found)) (rw c.in-One.is at centre)

pub returns-in-Two-clause-fair : goal.returns-in-Two-clause-fair
returns-in-Two-clause-fair c = λ values near s fair centre longest gain.
    let at = c.args.at in
    let found = rw c.seqs.ensures at c.number-seq.ensures in
    let ends = rw c.in-Two.is at found in
    fair_after_two c.args.game.now c.args.pairs.now values c.requires.whose c.requires.rules s c.args.self.now _ at.set at.beside c.args.action c.number-seq.result near c.requires.before fair (rw c.in-Two.is at c.requires.is_open) ends
    c.choose-in-Two.ensures.chosen (rw c.in-Two.is at c.choose-in-Two.ensures.opened) refl (rw c.in-Two.is at c.move_beside-in-Two.ensures) (rw c.in-Two.is at longest) (rw c.in-Two.is at (gain c.number-seq.result found)) (rw c.in-Two.is at centre)
