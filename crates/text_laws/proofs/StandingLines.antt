-- The lines that stand alone, byte by byte.
use Rattle.std.proofs.Common.{◌≡◌, ℕ, ◌^◌, List, get_or, refl, ap, arith}
use Rattle.std.specs.Fmt.{digits}
use Rattle.report_form.specs.declared.refusals.Refusal.{Refusal}
use Rattle.report_form.specs.declared.refusals.Refusal.TheVariants.{InputTooLong}
use Rattle.report_text.specs.PartText.{behind_space}
use Rattle.report_text.specs.RefusalText.{cause_text, refusal_text}
use Rattle.corr_run.specs.Lines.{report_too_long_line, too_long_line, usage_line}

pub too_long_names_its_limit : too_long_line ≡ refusal_text (InputTooLong (2 ^ 22))
unfolding too_long_line refusal_text cause_text behind_space digits
too_long_names_its_limit = refl

pub report_too_long_names_its_limit : report_too_long_line ≡ refusal_text (InputTooLong (2 ^ 30))
unfolding report_too_long_line refusal_text cause_text behind_space digits
report_too_long_names_its_limit = refl

pub usage_is_no_refusal : (refusal : Refusal) → refusal_text refusal ≡ usage_line → ⊥
unfolding usage_line refusal_text
usage_is_no_refusal refusal e =
    let first : 114 ≡ 117 = ap (λ (bs : List ℕ). get_or bs 0 0) e in
    absurd (omega (arith, first))

pub limits_differ : too_long_line ≡ report_too_long_line → ⊥
unfolding too_long_line report_too_long_line
limits_differ e =
    let digit : 52 ≡ 49 = ap (λ (bs : List ℕ). get_or bs 21 0) e in
    absurd (omega (arith, digit))
