-- A report has one verdict: a notion has one program, so what is true or broken of one that is the notion's is so of every other.
use Rattle.std.proofs.Common.{◌≡◌, inl, inr, ℕ, ◌<◌, List, [], ◌∷◌, ◌++◌, ℤ, pos, ◌*ℤ◌, ◌-ℤ◌, Some, length, slice_get, slice_index_or}
use Rattle.std.proofs.Common.{refl, sym, ap, ap₂, subst, ◌∙◌}
use Rattle.std.proofs.lemmas.Bool.{cases_order}
use Rattle.exact_algebra.specs.Sums.{sum_to}
use Rattle.exact_algebra.proofs.Sums.{sum_to-same}
use Rattle.corr_game.specs.declared.notions.Notion.{Notion}
use Rattle.corr_game.specs.declared.sides.Side.{Side}
use Rattle.corr_game.specs.declared.sides.Side.TheVariants.{One, Two}
use Rattle.corr_game.specs.Game.{GameView}
use Rattle.connected_pairs.specs.Connected.{PairsView}
use Rattle.lp_form.specs.Certificates.{left_over, times_column}
use Rattle.lp_form.specs.Program.{LpView, coefficient, payoff_of}
use Rattle.plan_polytope.specs.NotionProgram.{IsProgramOf}
use Rattle.plan_polytope.proofs.OneProgram.{one_coefficient, one_cols, one_count, one_payoff}
use Rattle.plane_hull.specs.declared.sides.SideRow.{SideRow}
use Rattle.report_form.specs.declared.reports.Block.{Block}
use Rattle.report_form.specs.declared.reports.Corner.{Corner}
use Rattle.report_form.specs.declared.reports.NamedBlock.{NamedBlock}
use Rattle.report_form.specs.View.{ReportView}
use Rattle.report_form.specs.declared.verdicts.Cause.{Cause}
use Rattle.report_form.specs.declared.verdicts.Item.{Item}
use Rattle.report_form.specs.declared.verdicts.Verdict.{Verdict}
use Rattle.report_form.specs.declared.verdicts.Verdict.TheVariants.{No}
use Rattle.cert_check.specs.Rules.{AllHold, IsFirstBroken, by_column}
use Rattle.cert_check.specs.SideRules.{CertificateRule, EmptyRule, SideRule, above, empty_rules, per_row, point, side_rules, sign, width}
use Rattle.cert_check.specs.Truth.{AreBefore, IsBlockFault, IsTrueOf, IsTrueReport, IsVerdictOn}
use Rattle.cert_check.specs.Truth.{at_belt, at_corner, at_multipliers, at_side, broken, other_scales, partly, whole}
use Rattle.cert_check.proofs.Accepted.{not_both}
use Rattle.cert_check.proofs.Elements.{all_at}
use Rattle.cert_check.proofs.Faultless.{no_fault}
use Rattle.cert_check.proofs.OneFault.{one_block_fault}

-- rules that hold alike are broken alike
all_alike : {R : Type 0} (Holds Other : R → Type 0) → ((rule : R) → Holds rule → Other rule) → (rules : List R)
    → AllHold Holds rules → AllHold Other rules
all_alike Holds Other there [] all = tt
all_alike Holds Other there (rule ∷ rest) all = (there rule all.0, all_alike Holds Other there rest all.1)

broken_alike : {R : Type 0} (Holds Other : R → Type 0) → ((rule : R) → Holds rule → Other rule) → ((rule : R) → Other rule → Holds rule)
    → (rules : List R) (rule : R) → IsFirstBroken Holds rules rule → IsFirstBroken Other rules rule
broken_alike Holds Other there back [] rule first = first
broken_alike Holds Other there back (next ∷ rest) rule (inl here) = inl (here.0, λ holds. here.1 (back next holds))
broken_alike Holds Other there back (next ∷ rest) rule (inr later) =
    inr (there next later.0, broken_alike Holds Other there back rest rule later.1)

-- programs of one size with the same coefficients and payoffs
record AreAlike (a b : LpView) : Type 0 where
  pub cols : a.cols ≡ b.cols
  pub rows : length a.rows ≡ length b.rows
  pub coefficients : (row col : ℕ) → row < length a.rows → coefficient a row col ≡ coefficient b row col
  pub payoffs : (side : Side) (col : ℕ) → payoff_of side a col ≡ payoff_of side b col

alike : (g : GameView) (p : PairsView) (notion : Notion) (a b : LpView) → IsProgramOf g p notion a → IsProgramOf g p notion b → AreAlike a b
alike g p notion a b x y = record {
  cols = one_cols g p notion a b x y;
  rows = one_count g p notion a b x y;
  coefficients = one_coefficient g p notion a b x y;
  payoffs = one_payoff g p notion a b x y;
}

module _ (a b : LpView) (same : AreAlike a b) where
  times_alike : (multipliers : List ℤ) (col : ℕ) → times_column a multipliers col ≡ times_column b multipliers col
  times_alike multipliers col =
      sum_to-same (length a.rows) _ _
      (λ row low. ap (λ (z : ℤ). slice_index_or multipliers row (pos 0) *ℤ z) (same.coefficients row col low))
      ∙ ap (λ (n : ℕ). sum_to n (λ row. slice_index_or multipliers row (pos 0) *ℤ coefficient b row col)) same.rows

  left_alike : (side : Side) (den : ℤ) (multipliers : List ℤ) (col : ℕ)
      → left_over a side den multipliers col ≡ left_over b side den multipliers col
  left_alike side den multipliers col =
      ap₂ (λ (u v : ℤ). u -ℤ den *ℤ v) (times_alike multipliers col) (same.payoffs side col)

  side_alike : (g : GameView) (corners : List Corner) (side : SideRow) (rule : CertificateRule) → SideRule g a corners side rule
      → SideRule g b corners side rule
  side_alike g corners side per_row h = (h.0 ∙ same.rows, h.1 ∙ same.rows)
  side_alike g corners side point h = h
  side_alike g corners side (width col) h =
      rw (← left_alike One side.den side.first col, ← left_alike Two side.den side.second col) h
  side_alike g corners side (sign col) h =
      rw (← left_alike One side.den side.first col, ← left_alike Two side.den side.second col) h
  side_alike g corners side above h = tt

  empty_alike : (multipliers : List ℤ) (rule : CertificateRule) → EmptyRule a multipliers rule → EmptyRule b multipliers rule
  empty_alike multipliers per_row h = h ∙ same.rows
  empty_alike multipliers point h = tt
  empty_alike multipliers (width col) h = rw (← times_alike multipliers col) h
  empty_alike multipliers (sign col) h = rw (← times_alike multipliers col) h
  empty_alike multipliers above h = h

  rules_alike : side_rules a ≡ side_rules b
  rules_alike = ap (λ (n : ℕ). per_row ∷ point ∷ by_column width sign 0 n) same.cols

  empty_rules_alike : empty_rules a ≡ empty_rules b
  empty_rules_alike = ap (λ (n : ℕ). per_row ∷ by_column width sign 0 n ++ above ∷ []) same.cols

-- a fault of one program of a notion is one of any other
fault_alike : (g : GameView) (notion : Notion) (a b : LpView) → AreAlike a b → AreAlike b a → (block : Block) (at : Item) (cause : Cause)
    → IsBlockFault g a notion block at cause → IsBlockFault g b notion block at cause
fault_alike g notion a b same back _ _ _ (at_corner corners sides k corner cause there before fails) =
    at_corner corners sides k corner cause there before fails
fault_alike g notion a b same back _ _ _ (at_belt corners sides side good fault) = at_belt corners sides side good fault
fault_alike g notion a b same back _ _ _ (at_side corners sides k side rule good belt there before fails) =
    let Breaks : List CertificateRule → Type 0 = λ rules. IsFirstBroken (SideRule g b corners side) rules rule in
    let Hold : SideRow → List CertificateRule → Type 0 = λ row rules. AllHold (SideRule g b corners row) rules in
    at_side corners sides k side rule good belt there
    (λ j row low here. subst (Hold row) (rules_alike a b same)
    (all_alike (SideRule g a corners row) (SideRule g b corners row) (side_alike a b same g corners row) (side_rules a)
    (before j row low here)))
    (subst Breaks (rules_alike a b same) (broken_alike (SideRule g a corners side) (SideRule g b corners side)
    (side_alike a b same g corners side) (side_alike b a back g corners side) (side_rules a) rule fails))
fault_alike g notion a b same back _ _ _ (at_multipliers multipliers rule fails) =
    let Breaks : List CertificateRule → Type 0 = λ rules. IsFirstBroken (EmptyRule b multipliers) rules rule in
    at_multipliers multipliers rule (subst Breaks (empty_rules_alike a b same)
    (broken_alike (EmptyRule a multipliers) (EmptyRule b multipliers)
    (empty_alike a b same multipliers) (empty_alike b a back multipliers) (empty_rules a) rule fails))

module _ (g : GameView) (p : PairsView) (report : ReportView) where
  moved : (notion : Notion) (a b : LpView) → IsProgramOf g p notion a → IsProgramOf g p notion b
      → (block : Block) (at : Item) (cause : Cause) → IsBlockFault g a notion block at cause → IsBlockFault g b notion block at cause
  moved notion a b x y = fault_alike g notion a b (alike g p notion a b x y) (alike g p notion b a y x)

  -- a block that is true of its notion's program has no fault of it
  none_of : (named : NamedBlock) (lp : LpView) (at : Item) (cause : Cause) → IsTrueOf g p named → IsProgramOf g p named.notion lp
      → IsBlockFault g lp named.notion named.block at cause → ⊥
  none_of named lp at cause holds of fault =
      no_fault g holds.0 named.notion named.block at cause holds.2 (moved named.notion lp holds.0 of holds.1 named.block at cause fault)

  none_in : IsTrueReport g p report → (k : ℕ) (named : NamedBlock) (lp : LpView) (at : Item) (cause : Cause)
      → slice_get report.blocks k ≡ Some named → IsProgramOf g p named.notion lp → IsBlockFault g lp named.notion named.block at cause → ⊥
  none_in holds k named lp at cause there of fault =
      none_of named lp at cause (all_at (IsTrueOf g p) report.blocks k named holds.blocks there) of fault

  same_no : (named : NamedBlock) (at other : Item) (one two : Cause) → (at ≡ other) × (one ≡ two)
      → No named.notion at one ≡ No named.notion other two
  same_no named at other one two same = ap₂ (λ (i : Item) (c : Cause). No named.notion i c) same.0 same.1

  first_same : (k j : ℕ) (named next : NamedBlock) (lp lq : LpView) (at other : Item) (one two : Cause)
      → slice_get report.blocks k ≡ Some named → AreBefore (IsTrueOf g p) report.blocks k → IsProgramOf g p named.notion lp
      → IsBlockFault g lp named.notion named.block at one
      → slice_get report.blocks j ≡ Some next → AreBefore (IsTrueOf g p) report.blocks j → IsProgramOf g p next.notion lq
      → IsBlockFault g lq next.notion next.block other two
      → No named.notion at one ≡ No next.notion other two
  first_same k j named next lp lq at other one two there before of fault here earlier its fails = elim (cases_order k j) [
    | inl same ↦
        let both : slice_get report.blocks j ≡ Some named = rw same at there in
        let alike_blocks : next ≡ named = cc (both, here) in
        let P : NamedBlock → Type 0 = λ x. IsProgramOf g p x.notion lq in
        let F : NamedBlock → Type 0 = λ x. IsBlockFault g lq x.notion x.block other two in
        let mine = subst P alike_blocks its in
        let other_fault = moved named.notion lq lp mine of named.block other two (subst F alike_blocks fails) in
        let pair = one_block_fault g lp named.notion named.block at other one two fault other_fault in
        same_no named at other one two pair ∙ ap (λ (x : NamedBlock). No x.notion other two) (sym alike_blocks)
    | inr apart ↦ elim apart [
      | inl low ↦ absurd (none_of named lp at one (earlier k named low there) of fault)
      | inr low ↦ absurd (none_of next lq other two (before j next low here) its fails)
    ]
  ]

  pub one_verdict : (v w : Verdict) → IsVerdictOn g p report v → IsVerdictOn g p report w → v ≡ w
  one_verdict _ _ (other_scales h) (other_scales k) = refl
  one_verdict _ _ (other_scales h) (broken scales k named lp at cause there before of fault) = absurd (h scales)
  one_verdict _ _ (other_scales h) (partly holds k named there wide) = absurd (h holds.scales)
  one_verdict _ _ (other_scales h) (whole holds none) = absurd (h holds.scales)
  one_verdict _ _ (broken scales k named lp at cause there before of fault) (other_scales h) = absurd (h scales)
  one_verdict _ _ (broken scales k named lp at cause there before of fault) (broken also j next lq other two here earlier its fails) =
      first_same k j named next lp lq at other cause two there before of fault here earlier its fails
  one_verdict _ _ (broken scales k named lp at cause there before of fault) (partly holds j next here wide) =
      absurd (none_in holds k named lp at cause there of fault)
  one_verdict _ _ (broken scales k named lp at cause there before of fault) (whole holds none) =
      absurd (none_in holds k named lp at cause there of fault)
  one_verdict _ _ (partly holds k named there wide) (other_scales h) = absurd (h holds.scales)
  one_verdict _ _ (partly holds k named there wide) (broken scales j next lq other two here earlier its fails) =
      absurd (none_in holds j next lq other two here its fails)
  one_verdict _ _ (partly holds k named there wide) (partly also j next here large) = refl
  one_verdict _ _ (partly holds k named there wide) (whole also none) =
      absurd (not_both g p report (whole also none) (partly holds k named there wide))
  one_verdict _ _ (whole holds none) (other_scales h) = absurd (h holds.scales)
  one_verdict _ _ (whole holds none) (broken scales j next lq other two here earlier its fails) =
      absurd (none_in holds j next lq other two here its fails)
  one_verdict _ _ (whole holds none) (partly also j next here large) =
      absurd (not_both g p report (whole holds none) (partly also j next here large))
  one_verdict _ _ (whole holds none) (whole also never) = refl
