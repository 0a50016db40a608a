-- What an accepted report shows, block by block: sides that multipliers certify, and programs without a solution (the duality of linear
-- programs, Dantzig 1963).
use Rattle.std.specs.Prelude.{◌≡◌, ◌⊎◌, Bool, false, true, ℕ, ℤ, pos, ◌+ℤ◌, ◌*ℤ◌, ◌≤ℤ◌, List, Some, slice_get, All}
use Rattle.corr_game.specs.declared.notions.Notion.{Notion}
use Rattle.corr_game.specs.Game.{GameView}
use Rattle.corr_num.specs.Narrow.{Narrow}
use Rattle.connected_pairs.specs.Connected.{PairsView}
use Rattle.lp_form.specs.Certificates.{ShowEmpty}
use Rattle.lp_form.specs.Program.{LpView, joined}
use Rattle.plan_polytope.specs.NotionProgram.{IsProgramOf}
use Rattle.plane_hull.specs.declared.directions.Dir.{Dir}
use Rattle.report_form.specs.Certified.{IsCertified}
use Rattle.report_form.specs.declared.reports.Block.{Block}
use Rattle.report_form.specs.declared.reports.Block.TheVariants.{Found, Empty, TooWide}
use Rattle.report_form.specs.declared.reports.NamedBlock.{NamedBlock}
use Rattle.cert_check.specs.declared.programs.Program.{Program}
use Rattle.report_form.specs.declared.verdicts.Cause.{Cause}
use Rattle.report_form.specs.declared.verdicts.Cause.TheVariants.{Sign, Width}
use Rattle.report_form.specs.declared.verdicts.Verdict.{Verdict}
use Rattle.report_form.specs.declared.verdicts.Verdict.TheVariants.{Yes, Partial}

-- both parts as one program
abbrev pub whole_of : Program → LpView
whole_of program = joined program.base program.more

-- what is left of a column for both players is narrow, and 0 or more along the direction
pub record Passes (dir : Dir) (one two : ℤ) : Type 0 where
  pub first : Narrow one
  pub second : Narrow two
  pub over : pos 0 ≤ℤ (dir.a *ℤ one +ℤ dir.b *ℤ two)

-- the first of these that fails has this cause
abbrev pub FailsAt : Dir → ℤ → ℤ → Cause → Type 0
FailsAt dir one two cause =
    ((cause ≡ Width) × (Narrow one × Narrow two → ⊥))
    ⊎ ((cause ≡ Sign) × (Narrow one × Narrow two) × (pos 0 ≤ℤ (dir.a *ℤ one +ℤ dir.b *ℤ two) → ⊥))

-- what is certified of the notion's program: a polygon's sides, or that there is no solution
abbrev pub IsCertifiedBlock : GameView → PairsView → Notion → Block → Type 0
IsCertifiedBlock g p notion (Found corners sides) = (lp : LpView) × IsProgramOf g p notion lp × All (IsCertified g lp corners) sides
IsCertifiedBlock g p notion (Empty multipliers) = (lp : LpView) × IsProgramOf g p notion lp × ShowEmpty lp multipliers
IsCertifiedBlock g p notion (TooWide basis place) = Unit {0}

-- the same of each block
abbrev pub AreCertifiedBlocks : GameView → PairsView → List NamedBlock → Type 0
AreCertifiedBlocks g p blocks = (k : ℕ) (named : NamedBlock) → slice_get blocks k ≡ Some named → IsCertifiedBlock g p named.notion named.block

-- whether a block says that a tableau is too wide
abbrev pub is_too_wide : Block → Bool
is_too_wide (Found corners sides) = false
is_too_wide (Empty multipliers) = false
is_too_wide (TooWide basis place) = true

-- no block is
abbrev pub NoneTooWide : List NamedBlock → Type 0
NoneTooWide blocks = All (λ (named : NamedBlock). is_too_wide named.block ≡ false) blocks

-- no rule was found broken
abbrev pub IsAccepted : Verdict → Type 0
IsAccepted verdict = (verdict ≡ Yes) ⊎ (verdict ≡ Partial)
