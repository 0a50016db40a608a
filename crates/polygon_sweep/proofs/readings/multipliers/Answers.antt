-- Each turn adds the next entry.
use Rattle.corr_num.proofs.PrintedTerms.{narrow_returned}
use Rattle.polygon_sweep.proofs.Certifying.{entries_more, none_read}
use Rattle.polygon_sweep.proofs.readings.multipliers.Goals as goal

pub loop-col-init : goal.loop-col-init
loop-col-init g c = none_read _ _ _ _ c.in_ok-list.ensures.empty

pub loop-col-preserved : goal.loop-col-preserved
loop-col-preserved g c =
    let pushed = rw (narrow_returned c.entry.result c.entry.ensures.narrow) at c.in_ok-push.ensures.ok in
    entries_more _ _ _ _ _ _ _ c.loop-col.invariant pushed c.entry.ensures.value c.entry.ensures.narrow
