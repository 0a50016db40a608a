-- The numbers that are handed on fit, so the coefficient is raised by the value.
use Rattle.std.proofs.Common.{◌≡◌, ◌≤◌, ◌^◌, ◌+ℤ◌, w64, to_z, of_z, arith}
use Rattle.std.specs.Prelude.{unsigned_abs}
use Rattle.std.proofs.lemmas.Int.{to_z-of_z}
use Rattle.lp_form.specs.Program.{coefficient}
use Rattle.incentive_rows.proofs.Terms.{narrow, placed_at}
use Rattle.incentive_rows.proofs.adding.add.Goals as goal

pub returns-clause-changes : goal.returns-clause-changes
returns-clause-changes c =
    let value : to_z w64 (of_z w64 c.args.value) ≡ c.args.value = to_z-of_z w64 c.args.value c.ranges.value in
    let before : unsigned_abs c.coef.result ≤ 2 ^ 43 = rw c.coef.ensures.value (c.requires.room c.args.row c.args.col) in
    let old : to_z w64 (of_z w64 c.coef.result) ≡ c.coef.result = narrow c.coef.result (omega arith) in
    let sum = rw (old, value) at c.raised-total.ensures.sum in
    let bound = rw (old, value) at c.raised-total.ensures.bound in
    let total : to_z w64 (of_z w64 c.raised-total.result) ≡ c.raised-total.result = narrow c.raised-total.result (omega (arith, bound)) in
    let raised : coefficient c.set.new.self c.args.row c.args.col ≡ coefficient c.args.lp.now c.args.row c.args.col +ℤ c.args.value = cc (c.in_ok-set.ensures.placed, total, sum, c.coef.ensures.value) in
    placed_at c.args.lp.now c.set.new.self c.args.row c.args.col c.args.value raised c.in_ok-set.ensures.others
