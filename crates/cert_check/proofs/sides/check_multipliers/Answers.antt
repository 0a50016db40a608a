-- The rules in their order: one number a row, then the columns, then the first number.
use Rattle.std.proofs.Common.{rules, Bool, true, false, refl, arith, length, pos, ◌<◌, ◌≡◌, ℤ, ◌≤ℤ◌, ◌<ℤ◌, IsTrue, FitsSigned, get_or}
use lib.Signed.{le_z, lt_z}
use Rattle.std.specs.Int.{w128}
use Rattle.std.proofs.lemmas.Int.{ints, to_z-of_z}
use Rattle.report_form.specs.declared.verdicts.Cause.TheVariants as cause
use Rattle.cert_check.specs.Certified.{whole_of}
use Rattle.cert_check.specs.Ends.{IsBreak}
use Rattle.cert_check.specs.SideRules.{EmptyRule, IsFirstCause, empty_rules}
use Rattle.cert_check.proofs.CheckedSides.{above_first, empty_true, sign_first, width_first}
use Rattle.column_sums.proofs.RestOfRow.{get_default}
use Rattle.cert_check.proofs.RuleEnds.{break_of, error_named}
use Rattle.cert_check.proofs.sides.check_multipliers.Goals as goal

-- the tests on signs
above_0 : (x : ℤ) → IsTrue (lt_z (pos 0) x) → pos 0 <ℤ x
above_0 x h = omega (arith, ints)

above_test : (x : ℤ) → pos 0 <ℤ x → IsTrue (lt_z (pos 0) x)
above_test x h = by (lt_z (pos 0) x) refl
  where
    by : (test : Bool) → lt_z (pos 0) x ≡ test → IsTrue test
    by true e = refl
    by false e = absurd (omega (arith, ints))

at_most_test : (x : ℤ) → x ≤ℤ pos 0 → IsTrue (le_z x (pos 0))
at_most_test x h = by (le_z x (pos 0)) refl
  where
    by : (test : Bool) → le_z x (pos 0) ≡ test → IsTrue test
    by true e = refl
    by false e = absurd (omega (arith, ints))

pub returns-clause-held : goal.returns-clause-held
returns-clause-held c =
    empty_true c.args.program.now.base c.args.program.now.more c.args.list.now c.in_ok-products.products.items c.in_ok-products.ensures.products
    (search rules)
    (λ k inside. c.loop-col.invariant k (omega (arith, inside, c.loop-col-test.false, c.len-col-end.ensures, c.in_ok-products.ensures.count)))
    (let fits : FitsSigned w128 c.at.result.now = search rules in
    above_0 (get_or c.args.list.now 0 (pos 0)) (rw (to_z-of_z w128 c.at.result.now fits, c.at.ensures.item) at c.in_ok-keep-4.ensures.holds))

pub returns-in_err-keep-2-clause-broken : goal.returns-in_err-keep-2-clause-broken
returns-in_err-keep-2-clause-broken c =
    let products = c.in_ok-products.products.items in
    let col = c.loop-col.col in
    let ends = c.in_err-keep-2.ensures.broken in
    let inside : col < length products = omega (arith, c.loop-col-test.true, c.len-col-end.ensures) in
    let here = get_default products col c.index.result.now inside c.index.ensures in
    let fits : FitsSigned w128 c.index.result.now = search rules in
    let Broken = IsFirstCause (EmptyRule (whole_of c.args.program.now) c.args.list.now) (empty_rules (whole_of c.args.program.now)) in
    error_named _ _ (IsBreak Broken) c.from_residual-in_err-keep-2.ensures.1
    (break_of Broken c.in_err-keep-2.field-0.0 cause.Width ends.0
    (width_first c.args.program.now.base c.args.program.now.more c.args.list.now products c.in_ok-products.ensures.products col
    (omega (arith, inside, c.in_ok-products.ensures.count))
    (search rules)
    c.loop-col.invariant
    (λ narrow. ends.1 (c.narrow.ensures.1 (rw (to_z-of_z w128 c.index.result.now fits, here) narrow)))))

pub returns-in_err-keep-3-clause-broken : goal.returns-in_err-keep-3-clause-broken
returns-in_err-keep-3-clause-broken c =
    let products = c.in_ok-products.products.items in
    let col = c.loop-col.col in
    let ends = c.in_err-keep-3.ensures.broken in
    let inside : col < length products = omega (arith, c.loop-col-test.true, c.len-col-end.ensures) in
    let here = get_default products col c.index.result.now inside c.index.ensures in
    let also = get_default products col c.index-in-loop-col.result.now inside c.index-in-loop-col.ensures in
    let fits : FitsSigned w128 c.index.result.now = search rules in
    let also_fits : FitsSigned w128 c.index-in-loop-col.result.now = search rules in
    let Broken = IsFirstCause (EmptyRule (whole_of c.args.program.now) c.args.list.now) (empty_rules (whole_of c.args.program.now)) in
    let narrow = rw (to_z-of_z w128 c.index.result.now fits, here) at (c.narrow.ensures.0 c.in_ok-keep-2.ensures.holds) in
    error_named _ _ (IsBreak Broken) c.from_residual-in_err-keep-3.ensures.1
    (break_of Broken c.in_err-keep-3.field-0.0 cause.Sign ends.0
    (sign_first c.args.program.now.base c.args.program.now.more c.args.list.now products c.in_ok-products.ensures.products col
    (omega (arith, inside, c.in_ok-products.ensures.count))
    (search rules)
    c.loop-col.invariant
    narrow
    (λ most. ends.1 (rw (to_z-of_z w128 c.index-in-loop-col.result.now also_fits, also) (at_most_test (get_or products col (pos 0)) most)))))

pub returns-in_err-keep-4-clause-broken : goal.returns-in_err-keep-4-clause-broken
returns-in_err-keep-4-clause-broken c =
    let ends = c.in_err-keep-4.ensures.broken in
    let Broken = IsFirstCause (EmptyRule (whole_of c.args.program.now) c.args.list.now) (empty_rules (whole_of c.args.program.now)) in
    error_named _ _ (IsBreak Broken) c.from_residual-in_err-keep-4.ensures.1
    (break_of Broken c.in_err-keep-4.field-0.0 cause.Sign ends.0
    (above_first c.args.program.now.base c.args.program.now.more c.args.list.now c.in_ok-products.products.items c.in_ok-products.ensures.products
    (search rules)
    (λ k inside. c.loop-col.invariant k (omega (arith, inside, c.loop-col-test.false, c.len-col-end.ensures, c.in_ok-products.ensures.count)))
    (λ above.
    let fits : FitsSigned w128 c.at.result.now = search rules in
    ends.1 (rw (to_z-of_z w128 c.at.result.now fits, c.at.ensures.item) (above_test (get_or c.args.list.now 0 (pos 0)) above)))))
