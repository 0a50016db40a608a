-- The greatest common divisor is 1.
use Rattle.std.proofs.Common.{unsigned_abs}
use Rattle.std.specs.Int.{IsGcd}
use Rattle.std.proofs.lemmas.Bool.{eqb-false, eqb-true}
use Rattle.std.proofs.lemmas.Int.{to_z-of_z}
use Rattle.std.proofs.lemmas.Nat.Gcd.{same_from_IsGcd}
use Rattle.report_reader.proofs.words.are_coprime.Goals as goal

divisor_is : (c : goal.After-gcd) → IsGcd (unsigned_abs c.args.a) (unsigned_abs c.args.b) c.gcd.result
divisor_is c =
    let a_fits = c.ranges.a in
    let b_fits = c.ranges.b in
    let a_is = simp to_z-of_z at c.unsigned_abs.ensures.value in
    let b_is = simp to_z-of_z at c.unsigned_abs-2.ensures.value in
    rw (a_is, b_is) at c.gcd.ensures

pub returns-clause-coprime : goal.returns-clause-coprime
returns-clause-coprime c t = rw (eqb-true c.gcd.result 1 t) at (divisor_is c)

pub returns-clause-other : goal.returns-clause-other
returns-clause-other c f coprime =
    eqb-false c.gcd.result 1 f (same_from_IsGcd (unsigned_abs c.args.a) (unsigned_abs c.args.b) c.gcd.result 1 (divisor_is c) coprime)
