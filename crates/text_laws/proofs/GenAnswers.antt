-- One answer to a generated game: by cases on its size.
use Rattle.std.proofs.Common.{◌≡◌, ℕ, ◌≤◌, List, refl, sym, ◌∙◌, inl, inr, arith}
use Rattle.std.proofs.lemmas.Bool.{cases_lt}
use Rattle.game_gen.specs.declared.kinds.Kind.{Kind}
use Rattle.game_gen.specs.GameText.{game_text, greatest}
use Rattle.report_form.specs.declared.refusals.Refusal.TheVariants.{TooLarge}
use Rattle.report_text.specs.RefusalText.{refusal_text}
use Rattle.corr_run.specs.declared.status.Status.{Status}
use Rattle.corr_run.specs.declared.status.Status.TheVariants.{Written, Refused}
use Rattle.corr_run.specs.GenAnswer.{GenAnswer, written, too_large}

pub gen_once : (kind : Kind) (n seed : ℕ) (t u : List ℕ) (a b : Status) → GenAnswer kind n seed t a → GenAnswer kind n seed u b
    → (t ≡ u) × (a ≡ b)
gen_once kind n seed t u a b (written h text status) (written more other ended) = (text ∙ sym other, status ∙ sym ended)
gen_once kind n seed t u a b (written h text status) (too_large more other ended) = absurd (omega (arith, h, more))
gen_once kind n seed t u a b (too_large h text status) (written more other ended) = absurd (omega (arith, h, more))
gen_once kind n seed t u a b (too_large h text status) (too_large more other ended) = (text ∙ sym other, status ∙ sym ended)

pub gen_some : (kind : Kind) (n seed : ℕ) → (text : List ℕ) × (status : Status) × GenAnswer kind n seed text status
gen_some kind n seed = elim (cases_lt (greatest kind) n) [
  | inl large ↦ (refusal_text (TooLarge (greatest kind)), Refused, too_large large refl refl)
  | inr within ↦ (game_text kind n seed, Written, written within refl refl)
]

pub written_within : (kind : Kind) (n seed : ℕ) (text : List ℕ) → GenAnswer kind n seed text Written → n ≤ greatest kind
written_within kind n seed text (written h is_text is_status) = h
written_within kind n seed text (too_large h is_text is_status) = absurd (cc is_status)
