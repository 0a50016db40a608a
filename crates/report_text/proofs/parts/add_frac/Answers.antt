-- Whether the denominator is 1 decides which of the two forms is added.
use Rattle.std.proofs.Common.{◌≡◌, ◌≢◌, ◌<◌, ◌^◌, ℤ, pos, unsigned_abs, ◌∙◌, true, to_z, of_z, arith}
use Rattle.std.specs.Int.{w128}
use Rattle.std.proofs.lemmas.Int.{to_z-of_z, fits_signed_from_abs}
use Rattle.report_text.proofs.Fractions.{whole_text, parts_text}
use Rattle.report_text.proofs.parts.add_frac.Goals as goal

back : (z : ℤ) → unsigned_abs z < 2 ^ 126 → to_z w128 (of_z w128 z) ≡ z
back z h = to_z-of_z w128 z (fits_signed_from_abs w128 z (omega (arith, h)))

pub returns-then-is_whole-clause-ok : goal.returns-then-is_whole-clause-ok
returns-then-is_whole-clause-ok c =
    let num : to_z w128 (of_z w128 c.num.result) ≡ c.args.value.now.num = back c.num.result c.num.ensures.bound ∙ c.num.ensures.value in
    let added = rw num at c.add_number.ensures.ok in
    rw (whole_text c.args.value.now (c.is_whole.ensures.0 c.if-is_whole.true)) added

pub returns-else-is_whole-clause-ok : goal.returns-else-is_whole-clause-ok
returns-else-is_whole-clause-ok c =
    let num : to_z w128 (of_z w128 c.num-else-is_whole.result) ≡ c.args.value.now.num = back c.num-else-is_whole.result c.num-else-is_whole.ensures.bound ∙ c.num-else-is_whole.ensures.value in
    let den : to_z w128 (of_z w128 c.den.result) ≡ c.args.value.now.den = back c.den.result c.den.ensures.bound ∙ c.den.ensures.value in
    let differs : c.args.value.now.den ≢ pos 1 = λ e. let h : c.is_whole.result ≡ true = c.is_whole.ensures.1 e in cc in
    let added = rw (num, den) at c.add_quotient.ensures.ok in
    rw (parts_text c.args.value.now differs) added

pub returns-else-is_whole-clause-err : goal.returns-else-is_whole-clause-err
returns-else-is_whole-clause-err c =
    let num : to_z w128 (of_z w128 c.num-else-is_whole.result) ≡ c.args.value.now.num = back c.num-else-is_whole.result c.num-else-is_whole.ensures.bound ∙ c.num-else-is_whole.ensures.value in
    let den : to_z w128 (of_z w128 c.den.result) ≡ c.args.value.now.den = back c.den.result c.den.ensures.bound ∙ c.den.ensures.value in
    let differs : c.args.value.now.den ≢ pos 1 = λ e. let h : c.is_whole.result ≡ true = c.is_whole.ensures.1 e in cc in
    let added = rw (num, den) at c.add_quotient.ensures.err in
    rw (parts_text c.args.value.now differs) added
