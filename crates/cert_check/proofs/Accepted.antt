-- A true report is accepted: its blocks are gone through for one that is too wide.
use Rattle.std.proofs.Common.{◌≡◌, ◌⊎◌, inl, inr, ℕ, suc, List, [], ◌∷◌, Some, All, slice_get, refl}
use Rattle.std.proofs.lemmas.List.Elements.{All-nil, All-cons}
use Rattle.corr_game.specs.Game.{GameView}
use Rattle.connected_pairs.specs.Connected.{PairsView}
use Rattle.report_form.specs.declared.reports.Block.{Block}
use Rattle.report_form.specs.declared.reports.Block.TheVariants.{Found, Empty, TooWide}
use Rattle.report_form.specs.declared.reports.NamedBlock.{NamedBlock}
use Rattle.report_form.specs.View.{ReportView}
use Rattle.report_form.specs.declared.verdicts.Verdict.TheVariants.{Partial, Yes}
use Rattle.cert_check.specs.Truth.{IsTooWide, IsTrueReport, IsVerdictOn, partly, whole}
use Rattle.cert_check.proofs.Elements.{all_at}

-- a block is too wide or isn't
wide_or_not : (named : NamedBlock) (block : Block) → named.block ≡ block → IsTooWide named ⊎ (IsTooWide named → ⊥)
wide_or_not named (TooWide basis place) e = inl (basis, place, e)
wide_or_not named (Found corners sides) e = inr (λ wide. absurd (cc (wide.2, e)))
wide_or_not named (Empty multipliers) e = inr (λ wide. absurd (cc (wide.2, e)))

some_or_none : (blocks : List NamedBlock) → ((k : ℕ) × (named : NamedBlock) × (slice_get blocks k ≡ Some named) × IsTooWide named)
    ⊎ All (λ named. IsTooWide named → ⊥) blocks
some_or_none [] = inr (All-nil (λ named. IsTooWide named → ⊥))
some_or_none (named ∷ rest) = elim (wide_or_not named named.block refl) [
  | inl wide ↦ inl (0, named, refl, wide)
  | inr narrow ↦ elim (some_or_none rest) [
    | inl later ↦ inl (suc later.0, later.1, later.2, later.3)
    | inr none ↦ inr (All-cons (λ x. IsTooWide x → ⊥) named rest narrow none)
  ]
]

module _ (g : GameView) (p : PairsView) (report : ReportView) where
  pub accepted : IsTrueReport g p report → IsVerdictOn g p report Yes ⊎ IsVerdictOn g p report Partial
  accepted holds = elim (some_or_none report.blocks) [
    | inl wide ↦ inr (partly holds wide.0 wide.1 wide.2 wide.3)
    | inr none ↦ inl (whole holds none)
  ]

  pub not_both : IsVerdictOn g p report Yes → IsVerdictOn g p report Partial → ⊥
  not_both (whole holds none) (partly _ k named there wide) = all_at (λ x. IsTooWide x → ⊥) report.blocks k named none there wide

  pub holds_back : IsVerdictOn g p report Yes ⊎ IsVerdictOn g p report Partial → IsTrueReport g p report
  holds_back (inl (whole holds none)) = holds
  holds_back (inr (partly holds k named there wide)) = holds
