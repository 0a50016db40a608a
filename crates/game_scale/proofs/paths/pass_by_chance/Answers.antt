-- One kid more.
use Rattle.std.proofs.Common.{◌≡◌, ℕ, length, slice_get, slice_set, Some, refl, subst, arith}
use Rattle.std.proofs.Math.ListN.{length-set}
use Rattle.game_scale.specs.Ways.{ArePassed}
use Rattle.game_scale.proofs.Passing.{number_at, passed_more}
use Rattle.game_scale.proofs.paths.pass_by_chance.Goals as goal

pub loop-k-preserved : goal.loop-k-preserved
loop-k-preserved c =
    let before = c.loop-k.invariant in
    let kid = number_at c.args.kids.now c.loop-k.k c.at-in-loop-k.result.now (omega arith) c.at-in-loop-k.ensures.item in
    record {
      count = simp length-set before.count;
      each = passed_more (λ k prob. slice_get c.args.probs.now k ≡ Some prob) c.args.kids.now c.loop-k.k c.at-in-loop-k.result.now c.args.path.now c.at.result.now c.args.ways.now.items c.loop-k.ways.items (slice_set c.loop-k.ways.items c.at-in-loop-k.result.now c.by_chance.result) c.by_chance.result before.each refl kid c.at.ensures.item c.by_chance.ensures;
    }

pub returns-clause-each : goal.returns-clause-each
returns-clause-each c =
    let all : c.loop-k.k ≡ length c.args.kids.now = omega arith in
    subst (λ (k : ℕ). ArePassed (λ j prob. slice_get c.args.probs.now j ≡ Some prob) c.args.kids.now k c.args.path.now c.args.ways.now.items c.loop-k.ways.items) all c.loop-k.invariant.each
