-- What `work` refuses, and that `solve` refuses the same of the generated file: by cases.
use Rattle.std.proofs.Common.{◌≡◌, ℕ, ◌^◌, ◌<◌, ◌≤◌, List, length, refl, sym, ap, ◌∙◌, arith}
use Rattle.corr_game.specs.declared.payoffs.Pay.{Pay}
use Rattle.one_node_file.specs.FirstForm.{HasFirstForm}
use Rattle.game_gen.specs.declared.kinds.Kind.{Kind}
use Rattle.game_gen.specs.GameText.{game_text, greatest}
use Rattle.report_form.specs.declared.refusals.Refusal.{Refusal}
use Rattle.report_form.specs.declared.refusals.Refusal.TheVariants.{TooLarge}
use Rattle.report_text.specs.RefusalText.{refusal_text}
use Rattle.command_words.specs.declared.commands.Notions.{Notions}
use Rattle.command_words.specs.Selection.{selected}
use Rattle.run_laws.proofs.OneRefusal.{first_once, fitting_alone}
use Rattle.corr_run.specs.declared.status.Status.{Status}
use Rattle.corr_run.specs.declared.status.Status.TheVariants.{Refused}
use Rattle.corr_run.specs.FirstRefusal.{IsFirstRefusal}
use Rattle.corr_run.specs.Lines.{too_long_line}
use Rattle.corr_run.specs.SolveAnswer.{SolveAnswer}
use Rattle.corr_run.specs.SolveAnswer as solved
use Rattle.corr_run.specs.WorkAnswer.{IsSolvable, WorkAnswer, too_large, too_long, refused, summed}
use Rattle.text_laws.proofs.SolveAnswers.{no_refused_status}

large_as : (kind : Kind) (n seed : ℕ) (notions : Notions) (u : List ℕ) (status : Status) → greatest kind < n
    → WorkAnswer kind n seed notions u status → (u ≡ refusal_text (TooLarge (greatest kind))) × (status ≡ Refused)
large_as kind n seed notions u status large (too_large h is_text is_status) = (is_text, is_status)
large_as kind n seed notions u status large (too_long h long is_text is_status) = absurd (omega (arith, large, h))
large_as kind n seed notions u status large (refused h refusal first is_text is_status) = absurd (omega (arith, large, h.within))
large_as kind n seed notions u status large (summed h report on is_text has_status) = absurd (omega (arith, large, h.within))

long_as : (kind : Kind) (n seed : ℕ) (notions : Notions) (u : List ℕ) (status : Status) → n ≤ greatest kind
    → 2 ^ 22 < length (game_text kind n seed) → WorkAnswer kind n seed notions u status → (u ≡ too_long_line) × (status ≡ Refused)
long_as kind n seed notions u status within long (too_large h is_text is_status) = absurd (omega (arith, within, h))
long_as kind n seed notions u status within long (too_long h more is_text is_status) = (is_text, is_status)
long_as kind n seed notions u status within long (refused h refusal first is_text is_status) = absurd (omega (arith, long, h.short))
long_as kind n seed notions u status within long (summed h report on is_text has_status) = absurd (omega (arith, long, h.short))

refused_as : (kind : Kind) (n seed : ℕ) (notions : Notions) (refusal : Refusal) (u : List ℕ) (status : Status)
    → IsSolvable kind n seed → IsFirstRefusal (selected notions) (game_text kind n seed) refusal
    → WorkAnswer kind n seed notions u status → (u ≡ refusal_text refusal) × (status ≡ Refused)
refused_as kind n seed notions refusal u status fits first (too_large h is_text is_status) = absurd (omega (arith, fits.within, h))
refused_as kind n seed notions refusal u status fits first (too_long h long is_text is_status) = absurd (omega (arith, fits.short, long))
refused_as kind n seed notions refusal u status fits first (refused h other of is_text is_status) =
    (is_text ∙ ap refusal_text (first_once (selected notions) (game_text kind n seed) other refusal of first), is_status)
refused_as kind n seed notions refusal u status fits first (summed h report on is_text has_status) =
    absurd (fitting_alone (selected notions) (game_text kind n seed) on.g on.p refusal on.game first)

pub work_refused_once : (kind : Kind) (n seed : ℕ) (notions : Notions) (t u : List ℕ) (status : Status)
    → WorkAnswer kind n seed notions t Refused → WorkAnswer kind n seed notions u status → (u ≡ t) × (status ≡ Refused)
work_refused_once kind n seed notions t u status (too_large h is_text is_status) y =
    let other = large_as kind n seed notions u status h y in
    (other.0 ∙ sym is_text, other.1)
work_refused_once kind n seed notions t u status (too_long h long is_text is_status) y =
    let other = long_as kind n seed notions u status h long y in
    (other.0 ∙ sym is_text, other.1)
work_refused_once kind n seed notions t u status (refused h refusal first is_text is_status) y =
    let other = refused_as kind n seed notions refusal u status h first y in
    (other.0 ∙ sym is_text, other.1)
work_refused_once kind n seed notions t u status (summed h report on is_text has_status) y =
    absurd (no_refused_status report.blocks has_status)

pub solve_refuses_work : (kind : Kind) (n seed : ℕ) (notions : Notions) (text : List ℕ) → n ≤ greatest kind
    → SolveAnswer notions (game_text kind n seed) text Refused → WorkAnswer kind n seed notions text Refused
solve_refuses_work kind n seed notions text within (solved.too_long h is_text is_status) = too_long within h is_text refl
solve_refuses_work kind n seed notions text within (solved.one_node h pay form is_text is_status) = absurd (cc is_status)
solve_refuses_work kind n seed notions text within (solved.refused general refusal first is_text is_status) =
    refused (record { within = within; short = general.short }) refusal first is_text refl
solve_refuses_work kind n seed notions text within (solved.reported general report on is_text has_status) =
    absurd (no_refused_status report.blocks has_status)

pub work_refuses_solve : (kind : Kind) (n seed : ℕ) (notions : Notions) (text : List ℕ) → n ≤ greatest kind
    → ((pay : Pay) → HasFirstForm (game_text kind n seed) pay → ⊥) → WorkAnswer kind n seed notions text Refused
    → SolveAnswer notions (game_text kind n seed) text Refused
work_refuses_solve kind n seed notions text within other (too_large h is_text is_status) = absurd (omega (arith, within, h))
work_refuses_solve kind n seed notions text within other (too_long h long is_text is_status) = solved.too_long long is_text refl
work_refuses_solve kind n seed notions text within other (refused h refusal first is_text is_status) =
    solved.refused (record { short = h.short; other = other }) refusal first is_text refl
work_refuses_solve kind n seed notions text within other (summed h report on is_text has_status) =
    absurd (no_refused_status report.blocks has_status)
