-- The number that is tested is the one that is read.
use Rattle.std.proofs.Common.{ℤ, unsigned_abs, refl, sym, subst, arith}
use Rattle.std.specs.Int.{IsGcd, w128}
use Rattle.std.proofs.lemmas.Int.{to_z-of_z}
use Rattle.corr_num.specs.Narrow.{Narrow}
use Rattle.corr_num.proofs.PrintedTerms.{narrow_returned}
use Rattle.std.specs.Fmt.{signed_decimal}
use Rattle.report_reader.proofs.CutReading.{piece_of}
use Rattle.report_reader.proofs.Numerals.{signed_some}
use Rattle.report_reader.proofs.Stopping.{stop_signed}
use Rattle.report_reader.proofs.lines.read_coprime.Goals as goal

pub returns-clause-coprime : goal.returns-clause-coprime
returns-clause-coprime c = rw (to_z-of_z w128 c.args.a c.ranges.a) at (c.if-not-are_coprime.ensures.coprime refl)

pub returns-then-not-are_coprime-clause-refused : goal.returns-then-not-are_coprime-clause-refused
returns-then-not-are_coprime-clause-refused c =
    let number = narrow_returned c.in-Some.b c.in-Some.ensures.below in
    let none = rw (to_z-of_z w128 c.args.a c.ranges.a, number) at (c.if-not-are_coprime.ensures.other refl) in
    stop_signed (λ b. Narrow b × IsGcd (unsigned_abs c.args.a) (unsigned_abs b) 1) c.args.pieces.now c.in-Some.b
    c.next.ensures.first c.in-Some.ensures.text (omega (arith, c.in-Some.ensures.below))
    (λ b good. (
      omega (arith, good.0),
      λ same.
          none (subst (λ (z : ℤ). IsGcd (unsigned_abs c.args.a) (unsigned_abs z) 1) (sym same) good.1),
    ))

pub returns-clause-piece : goal.returns-clause-piece
returns-clause-piece c =
    rw (narrow_returned c.in-Some.b c.in-Some.ensures.below)
    (piece_of (signed_decimal c.in-Some.b) c.next.ensures.first c.in-Some.ensures.text
    (signed_some c.in-Some.b (omega (arith, c.in-Some.ensures.below))) c.pass.ensures.piece)
