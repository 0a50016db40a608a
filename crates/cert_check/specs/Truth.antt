-- When a report is true of its game, and which verdict says so: the first rule that it breaks, in the order of its parts.
use Rattle.std.specs.Prelude.{◌≡◌, ℕ, ◌<◌, ℤ, List, All, Some, slice_get}
use Rattle.lp_form.specs.declared.places.Place.{Place}
use Rattle.corr_game.specs.declared.notions.Notion.{Notion}
use Rattle.corr_game.specs.Game.{GameView}
use Rattle.connected_pairs.specs.Connected.{PairsView}
use Rattle.lp_form.specs.Program.{LpView}
use Rattle.plan_polytope.specs.NotionProgram.{IsProgramOf}
use Rattle.plane_hull.specs.declared.sides.SideRow.{SideRow}
use Rattle.plane_hull.specs.Belt.{IsBelt}
use Rattle.plane_hull.specs.BeltFault.{IsFaultOf}
use Rattle.report_form.specs.declared.reports.Block.{Block}
use Rattle.report_form.specs.declared.reports.Block.TheVariants.{Found, Empty, TooWide as TooWideAt}
use Rattle.report_form.specs.declared.reports.Corner.{Corner}
use Rattle.report_form.specs.declared.reports.NamedBlock.{NamedBlock}
use Rattle.report_form.specs.Points.{points_of}
use Rattle.report_form.specs.Ranges.{IsReport}
use Rattle.report_form.specs.View.{ReportView}
use Rattle.report_form.specs.declared.verdicts.Cause.{Cause}
use Rattle.report_form.specs.declared.verdicts.Cause.TheVariants.{Belt}
use Rattle.report_form.specs.declared.verdicts.Item.{Item}
use Rattle.report_form.specs.declared.verdicts.Item.TheVariants as item
use Rattle.report_form.specs.declared.verdicts.Verdict.{Verdict}
use Rattle.report_form.specs.declared.verdicts.Verdict.TheVariants.{Yes, Partial, NoScale, No}
use Rattle.cert_check.specs.CornerRules.{CornerRule, corner_rules}
use Rattle.cert_check.specs.Rules.{AllHold, IsFirstBroken}
use Rattle.cert_check.specs.Scales.{HasScales}
use Rattle.cert_check.specs.SideRules.{CertificateRule, EmptyRule, SideRule, cause_of, empty_rules, side_rules}

-- all rules of a corner hold
abbrev pub IsTrueCorner : GameView → Notion → Corner → Type 0
IsTrueCorner g notion corner = AllHold (CornerRule g notion corner) corner_rules

-- all rules of a side hold
abbrev pub IsTrueSide : GameView → LpView → List Corner → SideRow → Type 0
IsTrueSide g lp corners side = AllHold (SideRule g lp corners side) (side_rules lp)

-- a block is true of the notion's program: its corners, its belt and its sides are, or its multipliers; nothing is asked of one that is
-- too wide
abbrev pub IsTrueBlock : GameView → LpView → Notion → Block → Type 0
IsTrueBlock g lp notion (Found corners sides) =
    All (IsTrueCorner g notion) corners × IsBelt (points_of corners) sides × All (IsTrueSide g lp corners) sides
IsTrueBlock g lp notion (Empty multipliers) = AllHold (EmptyRule lp multipliers) (empty_rules lp)
IsTrueBlock g lp notion (TooWideAt basis place) = Unit {0}

-- all before this place are so
abbrev pub AreBefore : {A : Type 0} → (A → Type 0) → List A → ℕ → Type 0
AreBefore P xs k = (j : ℕ) (x : _) → j < k → slice_get xs j ≡ Some x → P x

-- the first rule that a block breaks stands at this item and has this cause
pub data IsBlockFault (g : GameView) (lp : LpView) (notion : Notion) : Block → Item → Cause → Type 0 where
  at_corner : (corners : List Corner) (sides : List SideRow) (k : ℕ) (corner : Corner) (cause : Cause) → slice_get corners k ≡ Some corner
      → AreBefore (IsTrueCorner g notion) corners k → IsFirstBroken (CornerRule g notion corner) corner_rules cause
      → IsBlockFault g lp notion (Found corners sides) (item.Corner k) cause
  at_belt : (corners : List Corner) (sides : List SideRow) (side : ℕ) → All (IsTrueCorner g notion) corners
      → IsFaultOf (points_of corners) sides side → IsBlockFault g lp notion (Found corners sides) (item.Belt side) Belt
  at_side : (corners : List Corner) (sides : List SideRow) (k : ℕ) (side : SideRow) (rule : CertificateRule) → All (IsTrueCorner g notion) corners
      → IsBelt (points_of corners) sides → slice_get sides k ≡ Some side → AreBefore (IsTrueSide g lp corners) sides k
      → IsFirstBroken (SideRule g lp corners side) (side_rules lp) rule
      → IsBlockFault g lp notion (Found corners sides) (item.Side k) (cause_of rule)
  at_multipliers : (multipliers : List ℤ) (rule : CertificateRule) → IsFirstBroken (EmptyRule lp multipliers) (empty_rules lp) rule
      → IsBlockFault g lp notion (Empty multipliers) item.Multipliers (cause_of rule)

-- a named block is true of its notion's program
abbrev pub IsTrueOf : GameView → PairsView → NamedBlock → Type 0
IsTrueOf g p named = (lp : LpView) × IsProgramOf g p named.notion lp × IsTrueBlock g lp named.notion named.block

-- the first rule that a block breaks of its notion's program stands at this item and has this cause
abbrev pub IsFaultIn : GameView → PairsView → Notion → Block → Item → Cause → Type 0
IsFaultIn g p notion block at cause = (lp : LpView) × IsProgramOf g p notion lp × IsBlockFault g lp notion block at cause

-- nothing is said but that a tableau is too wide
abbrev pub IsTooWide : NamedBlock → Type 0
IsTooWide named = (basis : List ℕ) × (place : Place) × (named.block ≡ TooWideAt basis place)

-- a report is true: its numbers are in their ranges, its scales are the game's, and all its blocks are true
pub record IsTrueReport (g : GameView) (p : PairsView) (report : ReportView) : Type 0 where
  pub ranges : IsReport report
  pub scales : HasScales g report
  pub blocks : All (IsTrueOf g p) report.blocks

-- the verdict that a report gets
pub data IsVerdictOn (g : GameView) (p : PairsView) (report : ReportView) : Verdict → Type 0 where
  other_scales : (HasScales g report → ⊥) → IsVerdictOn g p report NoScale
  broken : HasScales g report → (k : ℕ) (named : NamedBlock) (lp : LpView) (at : Item) (cause : Cause) → slice_get report.blocks k ≡ Some named
      → AreBefore (IsTrueOf g p) report.blocks k → IsProgramOf g p named.notion lp → IsBlockFault g lp named.notion named.block at cause
      → IsVerdictOn g p report (No named.notion at cause)
  partly : IsTrueReport g p report → (k : ℕ) (named : NamedBlock) → slice_get report.blocks k ≡ Some named → IsTooWide named → IsVerdictOn g p report Partial
  whole : IsTrueReport g p report → All (λ named. IsTooWide named → ⊥) report.blocks → IsVerdictOn g p report Yes
