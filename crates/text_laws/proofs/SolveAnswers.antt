-- One answer to an input that is too long, that is one terminal node, or that is refused: by cases, as bytes have one first refusal.
use Rattle.std.proofs.Common.{◌≡◌, ℕ, ◌^◌, ◌<◌, ◌≤◌, List, length, sym, ap, ◌∙◌, inl, inr, arith}
use Rattle.corr_game.specs.declared.payoffs.Pay.{Pay}
use Rattle.one_node_file.proofs.Again.{read_again}
use Rattle.one_node_file.specs.FirstForm.{HasFirstForm}
use Rattle.report_form.specs.declared.refusals.Refusal.{Refusal}
use Rattle.report_form.specs.declared.reports.NamedBlock.{NamedBlock}
use Rattle.report_text.specs.RefusalText.{refusal_text}
use Rattle.command_words.specs.declared.commands.Notions.{Notions}
use Rattle.command_words.specs.Selection.{selected}
use Rattle.run_laws.proofs.OneRefusal.{first_once, fitting_alone}
use Rattle.corr_run.specs.declared.status.Status.{Status}
use Rattle.corr_run.specs.declared.status.Status.TheVariants.{Solved, Refused}
use Rattle.corr_run.specs.FirstRefusal.{IsFirstRefusal}
use Rattle.corr_run.specs.Lines.{too_long_line}
use Rattle.corr_run.specs.OneNode.{one_node_report}
use Rattle.corr_run.specs.Reports.{HasStatus}
use Rattle.corr_run.specs.SolveAnswer.{IsGeneral, SolveAnswer, too_long, one_node, refused, reported}

-- a report that was written is no refusal
pub no_refused_status : (blocks : List NamedBlock) → HasStatus blocks Refused → ⊥
no_refused_status blocks (inl whole) = absurd (cc whole.1)
no_refused_status blocks (inr wide) = absurd (cc wide.1)

pub one_pay : (bytes : List ℕ) (a b : Pay) → HasFirstForm bytes a → HasFirstForm bytes b → a ≡ b
one_pay bytes a b x y =
    let first = read_again x.parts a bytes x.says x.are_tokens in
    let second = read_again y.parts b bytes y.says y.are_tokens in
    cc (first, second)

pub long_once : (notions : Notions) (input text : List ℕ) (status : Status) → 2 ^ 22 < length input
    → SolveAnswer notions input text status → (text ≡ too_long_line) × (status ≡ Refused)
long_once notions input text status long (too_long h is_text is_status) = (is_text, is_status)
long_once notions input text status long (one_node h pay form is_text is_status) = absurd (omega (arith, long, h))
long_once notions input text status long (refused general refusal first is_text is_status) = absurd (omega (arith, long, general.short))
long_once notions input text status long (reported general report on is_text has_status) = absurd (omega (arith, long, general.short))

pub node_once : (notions : Notions) (input text : List ℕ) (status : Status) (pay : Pay) → length input ≤ 2 ^ 22
    → HasFirstForm input pay → SolveAnswer notions input text status → (text ≡ one_node_report notions pay) × (status ≡ Solved)
node_once notions input text status pay short form (too_long h is_text is_status) = absurd (omega (arith, short, h))
node_once notions input text status pay short form (one_node h other same is_text is_status) =
    (is_text ∙ ap (one_node_report notions) (one_pay input other pay same form), is_status)
node_once notions input text status pay short form (refused general refusal first is_text is_status) = absurd (general.other pay form)
node_once notions input text status pay short form (reported general report on is_text has_status) = absurd (general.other pay form)

refused_as : (notions : Notions) (input : List ℕ) (refusal : Refusal) (u : List ℕ) (status : Status) → IsGeneral input
    → IsFirstRefusal (selected notions) input refusal → SolveAnswer notions input u status
    → (u ≡ refusal_text refusal) × (status ≡ Refused)
refused_as notions input refusal u status general first (too_long h is_text is_status) = absurd (omega (arith, general.short, h))
refused_as notions input refusal u status general first (one_node h pay form is_text is_status) = absurd (general.other pay form)
refused_as notions input refusal u status general first (refused again other of is_text is_status) =
    (is_text ∙ ap refusal_text (first_once (selected notions) input other refusal of first), is_status)
refused_as notions input refusal u status general first (reported again report on is_text has_status) =
    absurd (fitting_alone (selected notions) input on.g on.p refusal on.game first)

pub solve_refused_once : (notions : Notions) (input t u : List ℕ) (status : Status) → SolveAnswer notions input t Refused
    → SolveAnswer notions input u status → (u ≡ t) × (status ≡ Refused)
solve_refused_once notions input t u status (too_long h is_text is_status) y =
    let other = long_once notions input u status h y in
    (other.0 ∙ sym is_text, other.1)
solve_refused_once notions input t u status (one_node h pay form is_text is_status) y = absurd (cc is_status)
solve_refused_once notions input t u status (refused general refusal first is_text is_status) y =
    let other = refused_as notions input refusal u status general first y in
    (other.0 ∙ sym is_text, other.1)
solve_refused_once notions input t u status (reported general report on is_text has_status) y =
    absurd (no_refused_status report.blocks has_status)
