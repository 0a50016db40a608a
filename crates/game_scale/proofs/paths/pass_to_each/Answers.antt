-- One kid more.
use Rattle.std.proofs.Common.{◌≡◌, slice_set, refl, arith}
use Rattle.std.proofs.Math.ListN.{length-set}
use Rattle.game_scale.specs.Paths.{certain}
use Rattle.game_scale.proofs.Passing.{number_at, passed_more}
use Rattle.game_scale.proofs.paths.pass_to_each.Goals as goal

pub loop-k-preserved : goal.loop-k-preserved
loop-k-preserved c =
    let before = c.loop-k.invariant in
    let kid = number_at c.args.kids.now c.loop-k.k c.at.result.now (omega arith) c.at.ensures.item in
    record {
      count = simp length-set before.count;
      each = passed_more (λ k prob. prob ≡ certain) c.args.kids.now c.loop-k.k c.at.result.now c.args.path.now certain c.args.ways.now.items c.loop-k.ways.items (slice_set c.loop-k.ways.items c.at.result.now c.by_choice.result) c.by_choice.result before.each refl kid refl c.by_choice.ensures;
    }
