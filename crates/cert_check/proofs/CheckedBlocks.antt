-- The rules of a block, and blocks one behind the other, put together from their parts.
use Rattle.std.proofs.Common.{◌≡◌, inl, inr, Bool, true, false, ℕ, suc, ◌+◌, ◌≤◌, List, [], ◌∷◌, All, Some, length, get_or, refl, subst, ℤ, pos, ◌<ℤ◌, arith}
use Rattle.std.specs.Prelude.{slice_get}
use Rattle.std.proofs.lemmas.Bool.{cases_lt}
use Rattle.std.proofs.lemmas.Int.{ints}
use Rattle.std.proofs.lemmas.List.Elements.{All-nil, All-cons}
use Rattle.std.proofs.lemmas.Option.{slice_get-get_or}
use Rattle.corr_game.specs.declared.notions.Notion.{Notion}
use Rattle.corr_game.specs.Game.{GameView}
use Rattle.connected_pairs.specs.Connected.{PairsView}
use Rattle.lp_form.specs.Certificates.{ShowEmpty}
use Rattle.lp_form.specs.Program.{LpView}
use Rattle.plan_polytope.specs.NotionProgram.{IsProgramOf}
use Rattle.plane_hull.specs.Belt.{IsBelt}
use Rattle.plane_hull.specs.BeltFault.{IsFaultOf}
use Rattle.plane_hull.specs.declared.sides.SideRow.{SideRow}
use Rattle.report_form.specs.Certified.{IsCertified}
use Rattle.report_form.specs.Points.{points_of}
use Rattle.report_form.specs.Ranges.{IsBlock, IsReport}
use Rattle.report_form.specs.View.{ReportView}
use Rattle.report_form.specs.declared.reports.Block.{Block}
use Rattle.report_form.specs.declared.reports.Block.TheVariants.{Found, Empty, TooWide}
use Rattle.report_form.specs.declared.reports.Corner.{Corner}
use Rattle.report_form.specs.declared.reports.NamedBlock.{NamedBlock}
use Rattle.cert_check.specs.Certified.{IsCertifiedBlock, NoneTooWide, is_too_wide}
use Rattle.cert_check.specs.Rules.{AllHold, by_column}
use Rattle.cert_check.specs.Scales.{HasScales}
use Rattle.cert_check.specs.SideRules.{CertificateRule, EmptyRule, IsFirstCause, SideRule, above, empty_rules, side_rules, sign, width}
use Rattle.cert_check.specs.Truth.{AreBefore, IsBlockFault, IsFaultIn, IsTooWide, IsTrueBlock, IsTrueCorner, IsTrueOf, IsTrueSide, IsVerdictOn, at_belt, at_multipliers, at_side, broken, partly, whole}
use Rattle.report_form.specs.declared.verdicts.Cause.{Cause}
use Rattle.report_form.specs.declared.verdicts.Cause.TheVariants as causes
use Rattle.report_form.specs.declared.verdicts.Item.{Item}
use Rattle.report_form.specs.declared.verdicts.Item.TheVariants as item
use Rattle.report_form.specs.declared.verdicts.Verdict.TheVariants.{No, Partial, Yes}
use Rattle.cert_check.proofs.FirstBroken.{back_holds, front_holds, second_holds}

-- ---- what the rules show

side_certified : (g : GameView) (lp : LpView) (corners : List Corner) (side : SideRow) → pos 0 <ℤ side.den → IsTrueSide g lp corners side
    → IsCertified g lp corners side
side_certified g lp corners side positive holds = record {
  multipliers = record {
    positive = positive;
    first_each = holds.0.0;
    second_each = holds.0.1;
    not_below = λ col within. second_holds (SideRule g lp corners side) width sign 0 lp.cols col holds.1.1 (omega arith) (omega arith);
  };
  corner = holds.1.0.corner;
  at = holds.1.0.at;
  point = holds.1.0.point;
}

empty_shown : (lp : LpView) (multipliers : List ℤ) → AllHold (EmptyRule lp multipliers) (empty_rules lp) → ShowEmpty lp multipliers
empty_shown lp multipliers holds =
    let columns : List CertificateRule = by_column width sign 0 lp.cols in
    let front : AllHold (EmptyRule lp multipliers) columns = front_holds (EmptyRule lp multipliers) columns (above ∷ []) holds.1 in
    let back : AllHold (EmptyRule lp multipliers) (above ∷ []) = back_holds (EmptyRule lp multipliers) columns (above ∷ []) holds.1 in
    record {
      one_each = holds.0;
      above = back.0;
      not_above = λ col within. second_holds (EmptyRule lp multipliers) width sign 0 lp.cols col front (omega arith) (omega arith);
    }

-- ---- one element more

pub one_before : {A : Type 0} (P : A → Type 0) (xs : List A) (k : ℕ) (found : A) → AreBefore P xs k → slice_get xs k ≡ Some found → P found
    → AreBefore P xs (k + 1)
one_before P xs k found before at is j x low here = elim (cases_lt j k) [
  | inl inside ↦ before j x inside here
  | inr last ↦
      let equal : j ≡ k = omega arith in
      let both : slice_get xs k ≡ Some x = subst (λ (n : ℕ). slice_get xs n ≡ Some x) equal here in
      let same : found ≡ x = cc (at, both) in
      subst P same is
]

pub all_before : {A : Type 0} (P : A → Type 0) (xs : List A) (k : ℕ) → length xs ≤ k → AreBefore P xs k → All P xs
all_before P xs k count before j d inside = before j (get_or xs j d) (omega arith) (slice_get-get_or xs j d inside)

-- ---- faults of a block

pub side_fault : (g : GameView) (lp : LpView) (notion : Notion) (corners : List Corner) (sides : List SideRow) (k : ℕ) (side : SideRow)
    → IsBelt (points_of corners) sides → slice_get sides k ≡ Some side → AreBefore (IsTrueSide g lp corners) sides k
    → (cause : Cause) → IsFirstCause (SideRule g lp corners side) (side_rules lp) cause → All (IsTrueCorner g notion) corners
    → IsBlockFault g lp notion (Found corners sides) (item.Side k) cause
side_fault g lp notion corners sides k side belt there before cause fails good =
    subst (λ (c : Cause). IsBlockFault g lp notion (Found corners sides) (item.Side k) c) fails.1
    (at_side corners sides k side fails.0 good belt there before fails.2)

pub belt_fault : (g : GameView) (lp : LpView) (notion : Notion) (corners : List Corner) (sides : List SideRow) (at : Item) (cause : Cause)
    → (side : ℕ) × (at ≡ item.Belt side) × (cause ≡ causes.Belt) × IsFaultOf (points_of corners) sides side
    → All (IsTrueCorner g notion) corners → IsBlockFault g lp notion (Found corners sides) at cause
belt_fault g lp notion corners sides at cause fails good =
    rw (fails.1, fails.2) (at_belt corners sides fails.0 good fails.3)

pub empty_fault : (g : GameView) (lp : LpView) (notion : Notion) (multipliers : List ℤ) (cause : Cause)
    → IsFirstCause (EmptyRule lp multipliers) (empty_rules lp) cause → IsBlockFault g lp notion (Empty multipliers) item.Multipliers cause
empty_fault g lp notion multipliers cause fails =
    subst (λ (c : Cause). IsBlockFault g lp notion (Empty multipliers) item.Multipliers c) fails.1 (at_multipliers multipliers fails.0 fails.2)

-- ---- blocks

pub true_certified : (g : GameView) (p : PairsView) (notion : Notion) (block : Block) → IsBlock block → (lp : LpView) → IsProgramOf g p notion lp
    → IsTrueBlock g lp notion block → IsCertifiedBlock g p notion block
true_certified g p notion (Found corners sides) ranges lp of holds = (
  lp,
  of,
  λ k d inside.
      let den = (ranges.3 k d inside).2.0 in
      side_certified g lp corners (get_or sides k d) (omega (arith, ints, den)) (holds.2 k d inside),
)
true_certified g p notion (Empty multipliers) ranges lp of holds = (lp, of, empty_shown lp multipliers holds)
true_certified g p notion (TooWide basis place) ranges lp of holds = tt

wide_is : (named : NamedBlock) (block : Block) → named.block ≡ block → is_too_wide block ≡ false → IsTooWide named → ⊥
wide_is named (TooWide basis place) e narrow wide = absurd (cc narrow)
wide_is named (Found corners sides) e narrow wide = absurd (cc (wide.2, e))
wide_is named (Empty multipliers) e narrow wide = absurd (cc (wide.2, e))

is_wide : (named : NamedBlock) (block : Block) → named.block ≡ block → (is_too_wide block ≡ false → ⊥) → IsTooWide named
is_wide named (TooWide basis place) e wide = (basis, place, e)
is_wide named (Found corners sides) e wide = absurd (wide refl)
is_wide named (Empty multipliers) e wide = absurd (wide refl)

some_wide : (blocks : List NamedBlock) → (NoneTooWide blocks → ⊥)
    → (k : ℕ) × (named : NamedBlock) × (slice_get blocks k ≡ Some named) × IsTooWide named
some_wide [] some = absurd (some (All-nil (λ named. is_too_wide named.block ≡ false)))
some_wide (named ∷ rest) some =
    by (is_too_wide named.block) refl
    (λ e. some_wide rest (λ none. some (All-cons (λ (x : NamedBlock). is_too_wide x.block ≡ false) named rest e none)))
  where
    by : (test : Bool) → is_too_wide named.block ≡ test
        → (is_too_wide named.block ≡ false → (k : ℕ) × (next : NamedBlock) × (slice_get rest k ≡ Some next) × IsTooWide next)
        → (k : ℕ) × (next : NamedBlock) × (slice_get (named ∷ rest) k ≡ Some next) × IsTooWide next
    by true e later = (0, named, refl, is_wide named named.block refl (λ f. absurd (cc (e, f))))
    by false e later = let there = later e in (suc there.0, there.1, there.2, there.3)

module _ (g : GameView) (p : PairsView) (report : ReportView) (scales : HasScales g report) (ranges : IsReport report) where
  pub whole_verdict : All (IsTrueOf g p) report.blocks → NoneTooWide report.blocks → IsVerdictOn g p report Yes
  whole_verdict holds none =
      whole (record { ranges = ranges; scales = scales; blocks = holds })
      (λ k d inside. wide_is (get_or report.blocks k d) (get_or report.blocks k d).block refl (none k d inside))

  pub partly_verdict : All (IsTrueOf g p) report.blocks → (NoneTooWide report.blocks → ⊥) → IsVerdictOn g p report Partial
  partly_verdict holds some =
      let wide = some_wide report.blocks some in
      partly (record { ranges = ranges; scales = scales; blocks = holds }) wide.0 wide.1 wide.2 wide.3

  pub no_verdict : (k : ℕ) (named : NamedBlock) → slice_get report.blocks k ≡ Some named → AreBefore (IsTrueOf g p) report.blocks k
      → (at : Item) (cause : Cause) → IsFaultIn g p named.notion named.block at cause → IsVerdictOn g p report (No named.notion at cause)
  no_verdict k named there before at cause fault = broken scales k named fault.0 at cause there before fault.1 fault.2
