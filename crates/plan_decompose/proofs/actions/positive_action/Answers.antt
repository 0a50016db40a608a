-- Each action of a set of the game is a move, and a prefix of a sequence is a sequence.
use Rattle.std.proofs.Common.{◌≡◌, ◌≤ℤ◌, pos, ℕ, ap, inl, inr, arith}
use Rattle.std.proofs.lemmas.Bool.{cases_eq}
use Rattle.std.proofs.lemmas.Int.{ints, to_z-of_z}
use Rattle.corr_game.specs.declared.nodes.SetId.{SetId}
use Rattle.sequences.specs.declared.places.Place.{Place}
use Rattle.sequences.specs.Number.{SideView, Ends, side_of}
use Rattle.connected_pairs.specs.Connected.{other}
use Rattle.connected_pairs.proofs.Indices.{is_at}
use Rattle.plan_decompose.proofs.Ranges.{prefix_in}
use Rattle.plan_decompose.proofs.actions.positive_action.Goals as goal

pub number-seq-requires : goal.number-seq-requires
number-seq-requires c =
    let at = c.args.at in
    rw c.seqs.ensures
    (is_at at.side c.args.game.now (side_of at.side c.args.pairs.now.seqs) (c.requires.whose.sides at.side) at.set c.loop-action.action c.set.result.now c.set.ensures.item (omega arith))

pub value_beside-requires-clause-beside_in : goal.value_beside-requires-clause-beside_in
value_beside-requires-clause-beside_in c =
    let at = c.args.at in
    let v = side_of (other at.side) c.args.pairs.now.seqs in
    prefix_in v (c.requires.rules.sides (other at.side)) c.longest_relevant_prefix-beside.result at.beside (rw c.other_side.ensures at c.longest_relevant_prefix-beside.ensures.prefix) c.requires.beside_in

same_end : (v : SideView) (move : SetId × ℕ) (a b : ℕ) → Ends v.places move a → Ends v.places move b → a ≡ b
same_end v move a b e f =
    let place : e.0 ≡ f.0 = cc (e.1, f.1) in
    omega (arith, ap (λ (p : Place). p.first) place, e.3, f.3)

pub loop-action-preserved : goal.loop-action-preserved
loop-action-preserved c = λ action seq low ends.
    let p = c.args.pairs.now in
    let at = c.args.at in
    elim (cases_eq action c.loop-action.action) [
      | inl same ↦
          let here = rw c.seqs.ensures at c.number-seq.ensures in
          let there = rw same at ends in
          let end = same_end (side_of at.side p.seqs) (at.set, c.loop-action.action) seq c.number-seq.result there here in
          let none : c.value_beside.result ≤ℤ pos 0 = grind (arith, ints, to_z-of_z) in
          rw (end, ← c.value_beside.ensures) none
      | inr apart ↦ c.loop-action.invariant action seq (omega arith) ends
    ]

pub returns-clause-stuck : goal.returns-clause-stuck
returns-clause-stuck c =
    let p = c.args.pairs.now in
    let at = c.args.at in
    let near = c.longest_relevant_prefix-beside in (
      near.result,
      record {
        prefix = rw c.other_side.ensures at near.ensures.prefix;
        touched = rw c.other_side.ensures at near.ensures.relevant;
        longest = rw c.other_side.ensures at near.ensures.longest;
      },
      λ action seq ends. c.loop-action.invariant action seq (omega (arith, ends.2, (c.requires.whose.sides at.side).same_actions at.set.0 ends.0 c.set.result.now ends.1 c.set.ensures.item)) ends,
    )
