-- The table is over the sets of the game, and so over the places of its sequences.
use Rattle.std.proofs.Common.{◌∙◌, sym}
use Rattle.corr_game.specs.declared.sides.Side.TheVariants.{One, Two}
use Rattle.connected_pairs.proofs.Listing.{whole}
use Rattle.connected_pairs.specs.Connected.{IsPairs, PairsView}
use Rattle.connected_pairs.proofs.Closing.{pairs_of}
use Rattle.connected_pairs.proofs.pairs.Pairs.of.Goals as goal

pub relevant_pairs-requires-clause-all_sets : goal.relevant_pairs-requires-clause-all_sets
relevant_pairs-requires-clause-all_sets c =
    rw (c.deref.ensures.value, (c.requires.sides One).per_set, (c.requires.sides Two).per_set) c.in_ok-table.ensures.size

pub relevant_pairs-requires-clause-wide : goal.relevant_pairs-requires-clause-wide
relevant_pairs-requires-clause-wide c = c.sets-width.ensures.count ∙ sym (c.requires.sides Two).per_set

pub invariant_of-result : goal.invariant_of-result
invariant_of-result c = (
  whole c.args.game.now c.args.seqs c.in_ok-table.table.items c.in_ok-listed.listed.pairs.items c.in_ok-listed.listed.places.items
      (rw (← c.seqs.view_is) c.seqs.invariant.0) (rw (← c.seqs.view_is) c.seqs.invariant.1) c.requires c.in_ok-table.ensures.size (rw c.deref.ensures.value at c.in_ok-listed.ensures),
  c.sets-width.ensures.count ∙ sym (c.requires.sides Two).per_set,
  c.count-columns.ensures.count,
)

pub returns : goal.returns
returns c =
    let p : PairsView = record { seqs = c.args.seqs; table = c.in_ok-table.table.items; pairs = c.in_ok-listed.listed.pairs.items; places = c.in_ok-listed.listed.places.items } in
    let rules : IsPairs p = whole c.args.game.now c.args.seqs c.in_ok-table.table.items c.in_ok-listed.listed.pairs.items c.in_ok-listed.listed.places.items
    (rw (← c.seqs.view_is) c.seqs.invariant.0) (rw (← c.seqs.view_is) c.seqs.invariant.1) c.requires c.in_ok-table.ensures.size (rw c.deref.ensures.value at c.in_ok-listed.ensures) in
    pairs_of c.args.game.now c.sets-width.ensures.rules p rules c.requires.sides c.in_ok-table.ensures.connected
