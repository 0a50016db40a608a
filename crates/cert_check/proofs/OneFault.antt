-- A block has one fault of a program: what is before the first fault is true, so no other one is there.
use Rattle.std.proofs.Common.{◌≡◌, inl, inr, ℕ, ◌<◌, List, Some, slice_get, refl, ap, subst}
use Rattle.std.proofs.lemmas.Bool.{cases_order}
use Rattle.corr_game.specs.declared.notions.Notion.{Notion}
use Rattle.corr_game.specs.Game.{GameView}
use Rattle.lp_form.specs.Program.{LpView}
use Rattle.plane_hull.proofs.OneFault.{one_fault}
use Rattle.report_form.specs.declared.reports.Block.{Block}
use Rattle.report_form.specs.Points.{points_of}
use Rattle.report_form.specs.declared.verdicts.Cause.{Cause}
use Rattle.report_form.specs.declared.verdicts.Item.{Item}
use Rattle.report_form.specs.declared.verdicts.Item.TheVariants as item
use Rattle.cert_check.specs.CornerRules.{CornerRule, corner_rules}
use Rattle.cert_check.specs.Rules.{AllHold, IsFirstBroken}
use Rattle.cert_check.specs.SideRules.{EmptyRule, SideRule, cause_of, empty_rules, side_rules}
use Rattle.cert_check.specs.Truth.{AreBefore, IsBlockFault, IsTrueCorner, at_belt, at_corner, at_multipliers, at_side}
use Rattle.cert_check.proofs.Elements.{all_at}
use Rattle.cert_check.proofs.FirstBroken.{none_broken, one_broken}

-- of two elements of which each is the first with a broken rule
module _ {A R : Type 0} (Holds : A → R → Type 0) (rules : List R) (xs : List A) where
  abbrev IsFirst : ℕ → A → R → Type 0
  IsFirst k x rule = (slice_get xs k ≡ Some x) × AreBefore (λ y. AllHold (Holds y) rules) xs k × IsFirstBroken (Holds x) rules rule

  not_sooner : (k j : ℕ) (x y : A) (one two : R) → IsFirst k x one → IsFirst j y two → k < j → ⊥
  not_sooner k j x y one two first second low = none_broken (Holds x) rules one (second.1 k x low first.0) first.2

  pub one_first : (k j : ℕ) (x y : A) (one two : R) → IsFirst k x one → IsFirst j y two → (k ≡ j) × (one ≡ two)
  one_first k j x y one two first second = elim (cases_order k j) [
    | inl same ↦
        let there : slice_get xs j ≡ Some x = rw same at first.0 in
        let alike : x ≡ y = cc (there, second.0) in
        let P : A → Type 0 = λ z. IsFirstBroken (Holds z) rules one in
        (same, one_broken (Holds y) rules one two (subst P alike first.2) second.2)
    | inr apart ↦ elim apart [
      | inl low ↦ absurd (not_sooner k j x y one two first second low)
      | inr low ↦ absurd (not_sooner j k y x two one second first low)
    ]
  ]

abbrev AreOne : Item → Item → Cause → Cause → Type 0
AreOne at other one two = (at ≡ other) × (one ≡ two)

module _ (g : GameView) (lp : LpView) (notion : Notion) where
  pub one_block_fault : (block : Block) (at other : Item) (one two : Cause) → IsBlockFault g lp notion block at one
      → IsBlockFault g lp notion block other two → AreOne at other one two
  one_block_fault _ _ _ _ _ (at_corner corners sides k corner one there before broken) (at_corner _ _ j next two here earlier fails) =
      let same = one_first (CornerRule g notion) corner_rules corners k j corner next one two (there, before, broken)
      (here, earlier, fails) in
      (ap (λ (n : ℕ). item.Corner n) same.0, same.1)
  one_block_fault _ _ _ _ _ (at_corner corners sides k corner one there before broken) (at_belt _ _ side good fault) =
      absurd (none_broken (CornerRule g notion corner) corner_rules one (all_at (IsTrueCorner g notion) corners k corner good there) broken)
  one_block_fault _ _ _ _ _ (at_corner corners sides k corner one there before broken)
      (at_side _ _ j side rule good belt here earlier fails) =
      absurd (none_broken (CornerRule g notion corner) corner_rules one (all_at (IsTrueCorner g notion) corners k corner good there) broken)
  one_block_fault _ _ _ _ _ (at_belt corners sides side good fault) (at_corner _ _ j next two here earlier fails) =
      absurd (none_broken (CornerRule g notion next) corner_rules two (all_at (IsTrueCorner g notion) corners j next good here) fails)
  one_block_fault _ _ _ _ _ (at_belt corners sides side good fault) (at_belt _ _ later fine broken) =
      (ap (λ (n : ℕ). item.Belt n) (one_fault (points_of corners) sides side later fault broken), refl)
  one_block_fault _ _ _ _ _ (at_belt corners sides side good fault) (at_side _ _ j next rule fine belt here earlier fails) =
      absurd (fault.no_belt belt)
  one_block_fault _ _ _ _ _ (at_side corners sides k side rule good belt there before broken)
      (at_corner _ _ j next two here earlier fails) =
      absurd (none_broken (CornerRule g notion next) corner_rules two (all_at (IsTrueCorner g notion) corners j next good here) fails)
  one_block_fault _ _ _ _ _ (at_side corners sides k side rule good belt there before broken) (at_belt _ _ later fine fault) =
      absurd (fault.no_belt belt)
  one_block_fault _ _ _ _ _ (at_side corners sides k side rule good belt there before broken)
      (at_side _ _ j next other fine round here earlier fails) =
      let same = one_first (SideRule g lp corners) (side_rules lp) sides k j side next rule other (there, before, broken)
      (here, earlier, fails) in
      (ap (λ (n : ℕ). item.Side n) same.0, ap cause_of same.1)
  one_block_fault _ _ _ _ _ (at_multipliers multipliers rule broken) (at_multipliers _ other fails) =
      (refl, ap cause_of (one_broken (EmptyRule lp multipliers) (empty_rules lp) rule other broken fails))
