-- The plan leads to a set where it plays the set's own sequence.
use Rattle.std.proofs.Common.{◌<◌, ◌↔◌, IsTrue, true, false, nat_lt, arith}
use Rattle.std.proofs.lemmas.Bool.Decides.{nat_tests}
use Rattle.deviation_gains.proofs.PlannedPlans.{leads_is, none_fits, none_led, some_fits}
use Rattle.deviation_gains.proofs.planned.fits_set.Goals as goal

pub returns-in-None : goal.returns-in-None
returns-in-None c =
    let leading = leads_is c.args.game.now c.args.pairs.now c.requires.rules c.requires.table c.requires.whose c.args.side c.args.plan.now
    c.args.set.0 c.own.result (rw c.seqs-seqs.ensures at c.own.ensures.number) c.plays-led_to.result
    (rw c.seqs-seqs.ensures at c.plays-led_to.ensures) in
    none_fits c.args.side c.args.game.now c.args.plan.now c.args.set.0 c.in-None.ensures.entry c.plays-led_to.result leading

pub returns-then-led_to : goal.returns-then-led_to
returns-then-led_to c =
    let leading = leads_is c.args.game.now c.args.pairs.now c.requires.rules c.requires.table c.requires.whose c.args.side c.args.plan.now
    c.args.set.0 c.own.result (rw c.seqs-seqs.ensures at c.own.ensures.number) true (rw c.seqs-seqs.ensures at c.if-led_to.ensures) in
    let test : IsTrue (nat_lt c.in-Some.action c.set.result.now.actions) ↔ (c.in-Some.action < c.set.result.now.actions) =
    (λ h. grind (arith, nat_tests), λ h. grind (arith, nat_tests)) in
    some_fits c.args.side c.args.game.now c.args.plan.now c.args.set.0 c.in-Some.action c.in-Some.ensures.entry c.set.result.now
    c.set.ensures.item leading (nat_lt c.in-Some.action c.set.result.now.actions) test

pub returns-else-led_to : goal.returns-else-led_to
returns-else-led_to c =
    let leading = leads_is c.args.game.now c.args.pairs.now c.requires.rules c.requires.table c.requires.whose c.args.side c.args.plan.now
    c.args.set.0 c.own.result (rw c.seqs-seqs.ensures at c.own.ensures.number) false (rw c.seqs-seqs.ensures at c.if-led_to.ensures) in
    (λ h. absurd (cc (h, c.if-led_to.false)), λ fits. absurd (none_led c.args.side c.args.game.now c.args.plan.now c.args.set.0 c.in-Some.action c.in-Some.ensures.entry leading fits))
