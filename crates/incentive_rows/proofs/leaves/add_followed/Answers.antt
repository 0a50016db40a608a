-- The amount stands in the follow row where the leaf is followed.
use Rattle.std.proofs.Common.{◌≡◌, w64, to_z, of_z, refl, inr, arith}
use Rattle.incentive_rows.specs.Coefficient.{IsFollowed}
use Rattle.incentive_rows.proofs.Terms.{changes_as, changes_none, narrow, term_as}
use Rattle.incentive_rows.proofs.leaves.add_followed.Goals as goal

pub returns-in_ok-add_at_pair-clause-changes : goal.returns-in_ok-add_at_pair-clause-changes
returns-in_ok-add_at_pair-clause-changes c =
    let says = rw c.seqs.ensures at c.follows.ensures in
    let number : to_z w64 (of_z w64 c.args.paid.now.amount) ≡ c.args.paid.now.amount = narrow c.args.paid.now.amount (omega (arith, c.requires.paid.2)) in
    let put = rw number at c.in_ok-add_at_pair.ensures.changes in
    changes_as put (λ r k v t. term_as (λ h. (says.0 c.if-follows.true, h.0, h.1)) (λ h. (h.1, h.2)) t)

pub returns-else-follows-clause-changes : goal.returns-else-follows-clause-changes
returns-else-follows-clause-changes c =
    let says = rw c.seqs.ensures at c.follows.ensures in
    changes_none (IsFollowed c.args.pairs.now c.args.trigger.now c.args.places.now.rows c.args.paid.now) c.args.lp.now (λ r k. inr (λ h. absurd (cc (says.1 h.0, c.if-follows.false)), refl))
