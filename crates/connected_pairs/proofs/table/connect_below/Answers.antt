-- The entry of two sets is in the table, and marking it marks those two sets alone.
use Rattle.std.proofs.Common.{◌≡◌, ℕ, true, ◌+◌, ◌*◌, Some, length, sym, ap, ◌∙◌, arith}
use Rattle.std.proofs.lemmas.List.{length-set}
use Rattle.std.proofs.lemmas.Nat.{mul-add-lt}
use Rattle.tree_recall.specs.Tree.{set_of}
use Rattle.connected_pairs.specs.Table.{of_side, other}
use Rattle.connected_pairs.proofs.Marking.{two_sets, below_passed, below_marked, below_all}
use Rattle.connected_pairs.proofs.table.connect_below.Goals as goal
use Rattle.connected_pairs.proofs.table.connect_below.Goals.{in-None, in-Some}

pub index_mut-requires : goal.index_mut-requires
index_mut-requires c =
    let g = c.args.game.now in
    let known = rw c.other.ensures at c.in-Some.ensures.known in
    let sets = two_sets g c.args.above.0 c.args.above.1.0 c.in-Some.set.0 c.requires.known known in
    let at = c.cell.ensures sets.0 sets.1 sets.3 sets.4 in
    omega (arith, at, ap (λ (w : ℕ). sets.0 * w) c.sets-width.ensures.count, mul-add-lt sets.0 (length g.two) sets.1 (length g.one) sets.2.0 sets.2.1, c.loop-n.table.ok.0, c.loop-n.invariant.size, c.requires.all_sets)

pub loop-n-preserved : goal.loop-n-preserved
loop-n-preserved c =
    let g = c.args.game.now in
    let side = c.args.above.0 in
    let table = c.loop-n.table.items in
    let p = c.loop-n.invariant in
    elim c.match-own_set.branch [
      | in-None w ↦
          let apart = rw c.other.ensures at w.in-None.ensures.at in
          rw w.table-is record { size = p.size; near = omega arith; below = below_passed g side c.args.above.1.0 c.args.first c.loop-n.n c.args.table.now.items table p.below (sym apart) }
      | in-Some w ↦
          let here = rw c.other.ensures at w.in-Some.ensures.at in
          let known = rw c.other.ensures at w.in-Some.ensures.known in
          let sets = two_sets g side c.args.above.1.0 w.in-Some.set.0 c.requires.known known in
          let at = w.cell.ensures sets.0 sets.1 sets.3 sets.4 in
          let index : w.cell.result ≡ sets.0 * length g.two + sets.1 = omega (arith, at, ap (λ (x : ℕ). sets.0 * x) c.sets-width.ensures.count) in
          let size : length table ≡ length g.one * length g.two = p.size ∙ c.requires.all_sets in
          let beside : set_of g (other side) c.loop-n.n ≡ Some (of_side (other side) sets.0 sets.1) = sym here ∙ ap Some (sym sets.4) in
          rw w.table-is record {
            size = length-set table w.cell.result true ∙ p.size;
            near = omega arith;
            below = below_marked g side c.args.above.1.0 c.args.first c.loop-n.n w.cell.result sets.0 sets.1 c.args.table.now.items table p.below size (omega arith) sets.2 sets.3 beside index;
          }
    ]

pub returns-clause-below : goal.returns-clause-below
returns-clause-below c =
    below_all c.args.game.now c.args.above.0 c.args.above.1.0 c.args.first c.loop-n.n c.args.end c.args.table.now.items c.loop-n.table.items c.loop-n.invariant.below c.loop-n-test.false c.loop-n.invariant.near
