-- A set that the trigger lacks counts for nothing.
use Rattle.std.proofs.Common.{refl, inr}
use Rattle.incentive_rows.proofs.sizes.size_of_set.Goals as goal

pub returns-else-is_set_of-clause-values : goal.returns-else-is_set_of-clause-values
returns-else-is_set_of-clause-values c =
    let says = rw c.seqs.ensures at c.is_set_of.ensures in
    (c.set.result.now, c.set.ensures.item, inr (λ h. absurd (cc (says.1 h, c.if-is_set_of.false)), refl))
