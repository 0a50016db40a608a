-- The rule that fails is told by its text: the sum of its bytes is that of no other's.
use Rattle.std.proofs.Common.{◌≡◌, ℕ, ◌+◌, ◌-◌, nat_eq, cond, List, [], ◌∷◌, ◌++◌, codes, refl, sym, ap, ◌∙◌}
use Rattle.answer_text.specs.VerdictText.{cause_text}
use Rattle.report_form.specs.declared.verdicts.Cause.{Cause}
use Rattle.report_form.specs.declared.verdicts.Cause.TheVariants as cause
use Rattle.corr_game.specs.declared.sides.Side.TheVariants.{One, Two}
use Rattle.report_text.specs.NameText.{player_name}

abbrev bytes_sum : List ℕ → ℕ
bytes_sum [] = 0
bytes_sum (byte ∷ rest) = byte + bytes_sum rest

abbrev told : ℕ → Cause
told sum =
    cond (nat_eq sum 395) cause.Plan (cond (nat_eq sum 516) cause.Total (cond (nat_eq sum 512) cause.Width (
    cond (nat_eq sum 522) cause.Point (cond (nat_eq sum 1149) (cause.Gain One) (cond (nat_eq sum 1150) (cause.Gain Two) (
    cond (nat_eq sum 391) cause.Belt (cond (nat_eq sum 610) cause.Length cause.Sign)))))))

back : (broken : Cause) → told (bytes_sum (cause_text broken)) ≡ broken
unfolding cause_text player_name
back cause.Plan = refl
back cause.Total = refl
back cause.Width = refl
back cause.Point = refl
back (cause.Gain One) = refl
back (cause.Gain Two) = refl
back cause.Belt = refl
back cause.Length = refl
back cause.Sign = refl

pub one_cause : (a b : Cause) → cause_text a ≡ cause_text b → a ≡ b
one_cause a b e = sym (back a) ∙ ap (λ (text : List ℕ). told (bytes_sum text)) e ∙ back b

-- the same at the end of a line
abbrev told_in_line : List ℕ → Cause
told_in_line line = told (bytes_sum line - 10)

back_in_line : (broken : Cause) → told_in_line (cause_text broken ++ codes "\n") ≡ broken
unfolding cause_text player_name
back_in_line cause.Plan = refl
back_in_line cause.Total = refl
back_in_line cause.Width = refl
back_in_line cause.Point = refl
back_in_line (cause.Gain One) = refl
back_in_line (cause.Gain Two) = refl
back_in_line cause.Belt = refl
back_in_line cause.Length = refl
back_in_line cause.Sign = refl

pub one_cause_a_line : (a b : Cause) → cause_text a ++ codes "\n" ≡ cause_text b ++ codes "\n" → a ≡ b
one_cause_a_line a b e = sym (back_in_line a) ∙ ap told_in_line e ∙ back_in_line b
