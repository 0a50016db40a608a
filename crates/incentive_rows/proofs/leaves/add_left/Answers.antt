-- The amount is taken away in the row that the leaf's sequence has, if it has one.
use Rattle.std.proofs.Common.{◌≡◌, w64, to_z, of_z, refl, inr, arith}
use Rattle.incentive_rows.specs.Coefficient.{IsLeft}
use Rattle.incentive_rows.proofs.Terms.{changes_as, changes_none, narrow, term_as}
use Rattle.incentive_rows.proofs.leaves.add_left.Goals as goal

pub returns-in-None-clause-changes : goal.returns-in-None-clause-changes
returns-in-None-clause-changes c =
    changes_none (IsLeft c.args.pairs.now c.args.trigger.now c.args.places.now.sets.items c.args.places.now.rows c.args.paid.now) c.args.lp.now (λ r k. inr (λ h. absurd (cc (c.in-None.ensures.value, h.0)), refl))

pub returns-in_ok-add_at_pair-in-Some-clause-changes : goal.returns-in_ok-add_at_pair-in-Some-clause-changes
returns-in_ok-add_at_pair-in-Some-clause-changes c =
    let number : to_z w64 (of_z w64 c.opposite.result) ≡ c.opposite.result = narrow c.opposite.result (omega (arith, c.opposite.ensures.small)) in
    let amount : to_z w64 (of_z w64 c.args.paid.now.amount) ≡ c.args.paid.now.amount = narrow c.args.paid.now.amount (omega (arith, c.requires.paid.2)) in
    let put = rw (number, c.opposite.ensures.value, amount) at c.in_ok-add_at_pair-in-Some.ensures.changes in
    changes_as put (λ r k v t. term_as (λ h. ((cc (c.in-Some.ensures.value, h.0)), h.1)) (λ h. ((cc (c.in-Some.ensures.value, h.0)), h.1)) t)
