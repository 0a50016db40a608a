-- A scale fits its word, so that nothing is lost where it is handed on.
use Rattle.std.proofs.Common.{ℤ, to_z, of_z, FitsSigned, arith}
use Rattle.std.specs.Int.{w64}
use Rattle.std.proofs.lemmas.Int.{fits_signed_from_abs, ints, to_z-of_z}
use Rattle.report_form.specs.Ranges.{IsScale}

pub scale_kept : (z : ℤ) → IsScale z → IsScale (to_z w64 (of_z w64 z))
scale_kept z h =
    let fits : FitsSigned w64 z = fits_signed_from_abs w64 z (omega (arith, ints, h.0, h.1)) in
    simp to_z-of_z h
