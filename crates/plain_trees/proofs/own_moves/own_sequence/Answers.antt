-- Each step goes up to the node right above, and the last one reached is the root.
use Rattle.std.proofs.Common.{◌≡◌, ℕ, List, [], inl, inr, sym, subst, arith}
use Rattle.std.proofs.lemmas.Bool.{cases_lt}
use Rattle.corr_game.specs.declared.nodes.SetId.{SetId}
use Rattle.tree_recall.specs.OwnSequence.{IsOwnAt, at_root}
use Rattle.tree_recall.proofs.Kids.{has_parent, kid_below}
use Rattle.plain_trees.proofs.Sequences.{append_none}
use Rattle.plain_trees.proofs.own_moves.own_sequence.Goals as goal

pub loop-step-smaller : goal.loop-step-smaller
loop-step-smaller c =
    let step = c.in-Some.step in
    (kid_below c.args.game.now c.len.ensures.rules step.from step.action c.loop-step.at c.in-Some.ensures.some).0

pub loop-step-preserved : goal.loop-step-preserved
loop-step-preserved c =
    let g = c.args.game.now in
    let step = c.in-Some.step in
    record {
      inside = (kid_below g c.len.ensures.rules step.from step.action c.loop-step.at c.in-Some.ensures.some).2;
      so_far = λ rest own.
          let added = c.in_ok-add_move.ensures c.loop-step.at rest c.in-Some.ensures.some own in
          let P : List (SetId × ℕ) → Type 0 = λ moves. IsOwnAt g c.args.side c.args.n moves in
          subst P (sym added.2) (c.loop-step.invariant.so_far added.0 added.1);
    }

pub returns : goal.returns
returns c =
    let g = c.args.game.now in
    let so_far = c.loop-step.invariant.so_far in
    let root : c.loop-step.at ≡ 0 = elim (cases_lt 0 c.loop-step.at) [
      | inl low ↦
          let above = has_parent g c.len.ensures.rules c.loop-step.at low c.loop-step.invariant.inside in
          absurd (c.in_default.ensures.none above.0 above.1 above.2)
      | inr none ↦ omega arith
    ] in
    let own : IsOwnAt g c.args.side c.loop-step.at [] = rw root at_root in
    let P : List (SetId × ℕ) → Type 0 = λ moves. IsOwnAt g c.args.side c.args.n moves in
    subst P (append_none c.loop-step.moves.items) (so_far [] own)
