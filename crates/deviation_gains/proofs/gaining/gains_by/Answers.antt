-- The number from the last set back is the most that leaving pays.
use Rattle.std.proofs.Common.{rules, FitsSigned}
use Rattle.std.specs.Int.{w128}
use Rattle.std.proofs.lemmas.Int.{to_z-of_z}
use Rattle.equilibrium.specs.Distribution.{entries_of}
use Rattle.deviation_gains.specs.Gains.{NoneGains}
use Rattle.deviation_gains.proofs.GainTriggers.{answered, one_trigger}
use Rattle.deviation_gains.proofs.gaining.gains_by.Goals as goal

pub returns : goal.returns
returns c =
    record {
      exact = λ notion left given of_notion is top.
          let g = c.args.game.now in
          let p = c.args.pairs.now in
          let side = c.args.trigger.now.side in
          let seq = c.args.trigger.now.seq in
          let list = c.args.list.now in
          let best = c.in_ok-best.best in
          let follows = c.followed.result in
          let fits_best : FitsSigned w128 best = search rules in
          let fits_follows : FitsSigned w128 follows = search rules in
          let worth = rw top at c.in_ok-best.ensures.worth in
          let sum = rw top at c.followed.ensures.value in
          rw (to_z-of_z w128 best fits_best, to_z-of_z w128 follows fits_follows)
          (answered follows best (NoneGains side g (entries_of list) left)
          (one_trigger g p c.requires.whose side list given notion left seq best follows of_notion is
          (λ passes tells row. worth passes tells given.ranges row)
          (λ passes tells. sum passes tells given.ranges)));
    }
