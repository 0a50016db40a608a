-- One set more is numbered; the numbers stay below 4096, since a player has fewer actions than the game has nodes.
use Rattle.std.proofs.Common.{refl, arith}
use Rattle.corr_game.specs.Game.{sets_of}
use Rattle.sequences.proofs.Few.{few_actions}
use Rattle.sequences.proofs.Adding.{taken, part-few, own_low, added, no_part, whole}
use Rattle.tree_recall.specs.LastMove.{moves_of}
use Rattle.sequences.proofs.Owned.{recall_more, none_recalled, own_of_tree}
use Rattle.sequences.proofs.numbers.number.Goals as goal

pub number_of-own-requires : goal.number_of-own-requires
number_of-own-requires c =
    let few = few_actions c.args.side c.args.game.now c.sets-set-end.ensures.rules in
    let below = c.requires.earlier c.args.side c.loop-set.set c.last.result c.last.ensures in
    rw c.deref.ensures.value (taken (sets_of c.args.side c.args.game.now) c.loop-set.set c.loop-set.places.items c.loop-set.lasts.items c.last.result c.loop-set.invariant.part (omega arith) few below)

pub overflow_cast-first : goal.overflow_cast-first
overflow_cast-first c =
    let few = few_actions c.args.side c.args.game.now c.sets-set-end.ensures.rules in
    omega (arith, part-few (sets_of c.args.side c.args.game.now) c.loop-set.set c.loop-set.places.items c.loop-set.lasts.items c.loop-set.invariant.part few)

pub overflow_add-first : goal.overflow_add-first
overflow_add-first c =
    let few = few_actions c.args.side c.args.game.now c.sets-set-end.ensures.rules in
    omega (arith, part-few (sets_of c.args.side c.args.game.now) c.loop-set.set c.loop-set.places.items c.loop-set.lasts.items c.loop-set.invariant.part few)

pub loop-set-preserved : goal.loop-set-preserved
loop-set-preserved c =
    let sets = sets_of c.args.side c.args.game.now in
    let moves = moves_of c.args.side c.args.recalled.now in
    let p = c.loop-set.invariant in
    let found = rw c.deref.ensures.value at c.number_of-own.ensures in
    let own = own_low c.loop-set.places.items c.loop-set.lasts.items c.last.result c.number_of-own.result p.part.numbered found in
    rw (c.in_ok-push.ensures.items, c.in_ok-add_moves.ensures) record {
      part = added sets (record { 0 = c.loop-set.set }) c.loop-set.places.items c.loop-set.lasts.items _ c.set.result.now p.part (omega arith) c.set.ensures.item own (omega arith) refl;
      recalled = recall_more moves c.loop-set.places.items c.loop-set.set _ c.last.result p.recalled p.part.count c.last.ensures found;
    }

pub loop-set-init : goal.loop-set-init
loop-set-init c = rw (c.new-places.ensures.items, c.new-lasts.ensures.items) record {
  part = no_part (sets_of c.args.side c.args.game.now);
  recalled = none_recalled (moves_of c.args.side c.args.recalled.now);
}

pub returns-clause-numbering : goal.returns-clause-numbering
returns-clause-numbering c =
    let few = few_actions c.args.side c.args.game.now c.sets-set-end.ensures.rules in
    whole (sets_of c.args.side c.args.game.now) c.loop-set.set c.loop-set.places.items c.loop-set.lasts.items c.loop-set.invariant.part (omega arith) few

pub returns-clause-own_of_tree : goal.returns-clause-own_of_tree
returns-clause-own_of_tree c =
    own_of_tree c.args.side c.args.game.now (moves_of c.args.side c.args.recalled.now) c.loop-set.places.items (c.requires.of_tree c.args.side) c.loop-set.invariant.recalled
