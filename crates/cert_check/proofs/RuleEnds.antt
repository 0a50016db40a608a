-- What the parts of the checker say where they end, handed on.
use Rattle.std.proofs.Common.{◌≡◌, ℤ, inl, inr, refl, sym, Result, Ok, Err, IfErr, [], ◌∷◌, List, ℕ}
use Rattle.std.specs.Result.{IsErrAnd}
use Rattle.corr_game.specs.Game.{GameView}
use Rattle.corr_game.specs.declared.sides.Side.TheVariants.{One, Two}
use Rattle.lp_form.specs.Certificates.{left_over}
use Rattle.lp_form.specs.Program.{LpView}
use Rattle.plane_hull.specs.declared.sides.SideRow.{SideRow}
use Rattle.report_form.specs.declared.reports.Corner.{Corner}
use Rattle.cert_check.specs.Certified.{FailsAt, Passes}
use Rattle.cert_check.specs.Ends.{IsBreak, IsFaultWith, placed}
use Rattle.cert_check.specs.SideRules.{IsFirstCause, SideRule, sign, width}
use Rattle.cert_check.specs.declared.faults.RuleEnd.{RuleEnd}
use Rattle.cert_check.specs.declared.faults.RuleEnd.TheVariants.{Broken, NoMemory}
use Rattle.cert_check.specs.declared.faults.BlockEnd.{BlockEnd}
use Rattle.cert_check.specs.declared.faults.BlockEnd.TheVariants as block
use Rattle.report_form.specs.declared.verdicts.Cause.{Cause}
use Rattle.report_form.specs.declared.verdicts.Item.{Item}

pub error_named : {A E : Type 0} (r : Result A E) (x : E) (P : E → Type 0) → IsErrAnd r (λ e. e ≡ x) → P x → IfErr r P
error_named (Ok a) x P is h = absurd is
error_named (Err e) x P is h = rw is h

pub break_for : (P Q : Cause → Type 0) (end : RuleEnd) → ((cause : Cause) → P cause → Q cause) → IsBreak P end → IsBreak Q end
break_for P Q (Broken cause) there h = there cause h
break_for P Q NoMemory there h = tt

pub break_of : (P : Cause → Type 0) (end : RuleEnd) (cause : Cause) → end ≡ Broken cause → P cause → IsBreak P end
break_of P end cause is h = rw is h

pub fault_for : (P Q : Item → Cause → Type 0) (end : BlockEnd) → ((at : Item) (cause : Cause) → P at cause → Q at cause)
    → IsFaultWith P end → IsFaultWith Q end
fault_for P Q (block.Fault fault) there h = there fault.item fault.cause h
fault_for P Q block.NoMemory there h = tt

-- the end of a rule at an item is that of its block
pub fault_at : (P : Item → Cause → Type 0) (at : Item) (end : RuleEnd) (whole : BlockEnd) → whole ≡ placed at end → IsBreak (P at) end
    → IsFaultWith P whole
fault_at P at (Broken cause) whole is h = rw is h
fault_at P at NoMemory whole is h = rw is tt

module _ (g : GameView) (lp : LpView) (corners : List Corner) (side : SideRow) (column : ℕ) (x y : ℤ)
    (one : x ≡ left_over lp One side.den side.first column) (two : y ≡ left_over lp Two side.den side.second column) where
  pub column_holds : Passes side.dir x y → SideRule g lp corners side (width column) × SideRule g lp corners side (sign column)
  column_holds passes =
      let here : Passes side.dir (left_over lp One side.den side.first column) (left_over lp Two side.den side.second column) =
      rw (one, two) at passes in
      ((here.first, here.second), here.over)

  pub column_fails : (cause : Cause) → FailsAt side.dir x y cause
      → IsFirstCause (SideRule g lp corners side) (width column ∷ sign column ∷ []) cause
  column_fails cause (inl wide) = (width column, sym wide.0, inl (refl, rw (one, two) at wide.1))
  column_fails cause (inr below) = (
    sign column,
    sym below.0,
    inr (rw (one, two) at below.1, inl (refl, rw (one, two) at below.2)),
  )
