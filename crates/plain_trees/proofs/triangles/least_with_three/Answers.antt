-- No set so far is the last of a triangle that begins so, and the last is one of the sets.
use Rattle.std.proofs.Common.{below_more, arith, ◌∷◌, []}
use Rattle.triangle_test.specs.declared.triangles.Quad.{Quad}
use Rattle.triangle_test.proofs.Ruled.{ruled_out}
use Rattle.plain_trees.proofs.Leasts.{least_more, least_whole, none_whole, none_with_three}
use Rattle.plain_trees.proofs.triangles.least_with_three.Goals as goal

pub returns-then-branch-clause-some : goal.returns-then-branch-clause-some
returns-then-branch-clause-some c =
    let quad : Quad = record {
      one_a = c.args.one_a;
      one_b = c.args.one_b;
      two_a = c.args.two_a;
      two_b = record
          { 0 = c.loop-two_b.two_b };
    } in
    least_more c.args.game.now (c.args.one_a.0 ∷ c.args.one_b.0 ∷ c.args.two_a.0 ∷ []) c.loop-two_b.two_b quad
    (least_whole c.args.game.now quad (c.in_ok-is_triangle.ensures.0 c.if-branch.true)) c.loop-two_b.invariant

pub loop-two_b-preserved : goal.loop-two_b-preserved
loop-two_b-preserved c =
    let quad : Quad = record {
      one_a = c.args.one_a;
      one_b = c.args.one_b;
      two_a = c.args.two_a;
      two_b = record
          { 0 = c.loop-two_b.two_b };
    } in
    below_more _ _ c.loop-two_b.invariant
    (none_whole c.args.game.now quad (λ t. ruled_out _ c.if-branch.false (c.in_ok-is_triangle.ensures.1 t)))

pub returns-clause-none : goal.returns-clause-none
returns-clause-none c =
    none_with_three c.args.game.now c.sets-two_b-end.ensures.rules c.loop-two_b.two_b c.args.one_a.0 c.args.one_b.0 c.args.two_a.0
    (omega (arith, c.sets-two_b-end.ensures.count)) c.loop-two_b.invariant
