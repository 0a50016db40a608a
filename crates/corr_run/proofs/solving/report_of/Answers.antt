-- The scales are those of the game, and the notions stand in order.
use Rattle.corr_game.specs.declared.sides.Side.TheVariants.{One, Two}
use Rattle.corr_run.proofs.Ordering.{in_order, some_block}
use Rattle.corr_run.proofs.Scales.{scale_kept}
use Rattle.corr_run.proofs.solving.report_of.Goals as goal

pub of-requires : goal.of-requires
of-requires c =
    let rules = c.scale.ensures.rules in
    let selected = c.requires.selected in
    record {
      scale_one = scale_kept c.scale.result (rw c.scale.ensures.number (rules.each_scale One));
      scale_two = scale_kept c.scale-2.result (rw c.scale-2.ensures.number (rules.each_scale Two));
      a_block = some_block selected.0 c.args.blocks selected.1 selected.2;
      blocks = in_order selected.0 c.args.blocks c.requires.whole selected.2;
    }
