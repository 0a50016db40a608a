-- Texts tell what they are of by single bytes.
use Rattle.std.proofs.Common.{◌≡◌, ℕ, nat_eq, cond, Bool, true, false, List, get_or, refl, sym, ap, ◌∙◌, arith}
use Rattle.answer_text.specs.SummaryText.{head_text, summary_text}
use Rattle.answer_text.specs.VerdictText.{verdict_text}
use Rattle.report_form.specs.declared.verdicts.Verdict.{Verdict}
use Rattle.report_form.specs.declared.verdicts.Verdict.TheVariants.{Yes, Partial, NoScale, No}
use Rattle.cert_check.specs.Certified.{is_too_wide}
use Rattle.corr_game.specs.declared.notions.Notion.{Notion}
use Rattle.corr_game.specs.declared.notions.Notion.TheVariants.{Efce, Efcce, Nfcce}
use Rattle.corr_run.specs.CheckAnswer.{verdict_status}
use Rattle.corr_run.specs.declared.status.Status.{Status}
use Rattle.corr_run.specs.declared.status.Status.TheVariants as status
use Rattle.game_gen.specs.declared.kinds.Kind.{Kind}
use Rattle.report_form.specs.declared.refusals.Refusal.{Refusal}
use Rattle.report_form.specs.declared.reports.Block.{Block}
use Rattle.report_form.specs.declared.reports.Block.TheVariants.{Found, Empty, TooWide}
use Rattle.report_form.specs.declared.reports.NamedBlock.{NamedBlock}
use Rattle.report_form.specs.View.{ReportView}
use Rattle.report_text.specs.NameText.{notion_name}
use Rattle.report_text.specs.RefusalText.{refusal_text}
use Rattle.report_text.specs.ReportText.{block_text, named_block_text, report_text}

abbrev byte_at : ℕ → List ℕ → ℕ
byte_at k text = get_or text k 0

refusal_first : (refusal : Refusal) → byte_at 0 (refusal_text refusal) ≡ 114
unfolding refusal_text
refusal_first refusal = refl

report_first : (report : ReportView) → byte_at 0 (report_text report) ≡ 99
unfolding report_text
report_first report = refl

summary_first : (kind : Kind) (n seed : ℕ) (blocks : List NamedBlock) → byte_at 0 (summary_text kind n seed blocks) ≡ 119
unfolding summary_text head_text
summary_first kind n seed blocks = refl

abbrev first_status : ℕ → Status
first_status byte = cond (nat_eq byte 121) status.Yes (cond (nat_eq byte 112) status.TooWide status.No)

verdict_first : (given : Verdict) (blocks : List NamedBlock) → first_status (byte_at 0 (verdict_text given blocks)) ≡ verdict_status given
unfolding verdict_text
verdict_first Yes blocks = refl
verdict_first Partial blocks = refl
verdict_first NoScale blocks = refl
verdict_first (No notion at broken) blocks = refl

pub verdicts_told : (a b : Verdict) (blocks others : List NamedBlock) → verdict_text a blocks ≡ verdict_text b others
    → verdict_status a ≡ verdict_status b
verdicts_told a b blocks others e =
    sym (verdict_first a blocks) ∙ ap (λ (text : List ℕ). first_status (byte_at 0 text)) e ∙ verdict_first b others

verdict_high : (given : Verdict) (blocks : List NamedBlock) → byte_at 0 (verdict_text given blocks) ≡ 114 → ⊥
unfolding verdict_text
verdict_high Yes blocks e = absurd (omega (arith, e))
verdict_high Partial blocks e = absurd (omega (arith, e))
verdict_high NoScale blocks e = absurd (omega (arith, e))
verdict_high (No notion at broken) blocks e = absurd (omega (arith, e))

pub no_refused_verdict : (refusal : Refusal) (given : Verdict) (blocks : List NamedBlock)
    → refusal_text refusal ≡ verdict_text given blocks → ⊥
no_refused_verdict refusal given blocks e = verdict_high given blocks (sym (ap (byte_at 0) e) ∙ refusal_first refusal)

pub no_refused_report : (refusal : Refusal) (report : ReportView) → refusal_text refusal ≡ report_text report → ⊥
no_refused_report refusal report e =
    absurd (omega (arith, ap (byte_at 0) e, refusal_first refusal, report_first report))

pub no_refused_summary : (refusal : Refusal) (kind : Kind) (n seed : ℕ) (blocks : List NamedBlock)
    → refusal_text refusal ≡ summary_text kind n seed blocks → ⊥
no_refused_summary refusal kind n seed blocks e =
    absurd (omega (arith, ap (byte_at 0) e, refusal_first refusal, summary_first kind n seed blocks))

-- the notion that a block's text names
abbrev told_notion : List ℕ → Notion
told_notion text = cond (nat_eq (byte_at 7 text) 110) Nfcce (cond (nat_eq (byte_at 10 text) 101) Efce Efcce)

notion_back : (notion : Notion) (block : Block) → told_notion (named_block_text (record { notion = notion; block = block })) ≡ notion
unfolding named_block_text notion_name
notion_back Efce block = refl
notion_back Efcce block = refl
notion_back Nfcce block = refl

pub notions_told : (a b : NamedBlock) → named_block_text a ≡ named_block_text b → a.notion ≡ b.notion
notions_told a b e = sym (notion_back a.notion a.block) ∙ ap told_notion e ∙ notion_back b.notion b.block

abbrev told_wide : List ℕ → Bool
told_wide text = cond (nat_eq (byte_at 1 text) 116) true false

wide_back : (block : Block) → told_wide (block_text block) ≡ is_too_wide block
unfolding block_text
wide_back (Found corners sides) = refl
wide_back (Empty multipliers) = refl
wide_back (TooWide basis place) = refl

pub wide_told : (a b : Block) → block_text a ≡ block_text b → is_too_wide a ≡ is_too_wide b
wide_told a b e = sym (wide_back a) ∙ ap told_wide e ∙ wide_back b
