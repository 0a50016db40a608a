-- The blocks are those of the game, or there is a first refusal.
use Rattle.corr_run.proofs.solving.solve_file.Goals as goal

pub returns-in_ok-blocks-in-Ok : goal.returns-in_ok-blocks-in-Ok
returns-in_ok-blocks-in-Ok c = record {
  g = c.in-Ok.ready.game;
  p = c.in-Ok.ready.pairs;
  game = c.in-Ok.ensures.game;
  ranges = c.report_of.ensures.ranges;
  scales = c.report_of.ensures.scales;
  blocks = rw c.report_of.ensures.same c.in_ok-blocks-in-Ok.ensures.notions;
  right = rw c.report_of.ensures.same c.in_ok-blocks-in-Ok.ensures.right;
}

pub returns-in-Err-Refused : goal.returns-in-Err-Refused
returns-in-Err-Refused c = rw c.in-Err-Refused.field-0-is (rw c.in-Err-Refused.field-0-is at c.in-Err-Refused.ensures.refused)
