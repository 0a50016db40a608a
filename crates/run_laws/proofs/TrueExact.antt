-- What a true block says is exact, whoever wrote it: its corners' rules make their pairs equilibrium lists, its sides are certified and a
-- belt, and its multipliers show that no list is an equilibrium.
use Rattle.std.proofs.Common.{ℕ, zero, suc, ◌+◌, ◌<◌, List, [], ◌∷◌, All, length, get_or, ℤ, pos, ◌<ℤ◌, arith}
use Rattle.std.proofs.lemmas.List.Elements.{All-map}
use Rattle.cert_check.specs.Rules.{AllHold}
use Rattle.cert_check.specs.SideRules.{EmptyRule, empty_rules}
use Rattle.cert_check.specs.Truth.{IsTooWide, IsTrueBlock, IsTrueCorner, IsTrueSide, IsVerdictOn, whole}
use Rattle.connected_pairs.specs.Connected.{IsPairs, IsPairsOf, PairsView}
use Rattle.corr_game.specs.Game.{GameView, IsGame}
use Rattle.corr_game.specs.declared.notions.Notion.{Notion}
use Rattle.corr_game.specs.declared.sides.Side.{Side}
use Rattle.corr_game.specs.declared.sides.Side.TheVariants.{One, Two}
use Rattle.equilibrium.specs.Distribution.{IsEntry, entries_of, entry_of}
use Rattle.equilibrium.specs.Equilibrium.{NoneImproves, no_slack}
use Rattle.lp_form.specs.Certificates.{ShowEmpty}
use Rattle.lp_form.specs.Program.{LpView}
use Rattle.notion_solve.proofs.ExactPolygons.{exact_polygon}
use Rattle.notion_solve.proofs.Inside.{over_one}
use Rattle.notion_solve.proofs.RightEmpty.{none_where_shown}
use Rattle.notion_solve.proofs.Rightness.{element}
use Rattle.notion_solve.proofs.Views.{magnitude_some}
use Rattle.notion_solve.specs.Exact.{IsExact, IsPaidCorner}
use Rattle.plan_polytope.specs.NotionProgram.{IsProgramOf}
use Rattle.plane_hull.specs.declared.sides.SideRow.{SideRow}
use Rattle.report_form.specs.Certified.{IsCertified}
use Rattle.report_form.specs.Ranges.{InOrderFrom, IsBlock, IsCorner, IsSide, notion_number}
use Rattle.report_form.specs.View.{ReportView}
use Rattle.report_form.specs.declared.reports.Block.{Block}
use Rattle.report_form.specs.declared.reports.Block.TheVariants.{Found, Empty, TooWide}
use Rattle.report_form.specs.declared.reports.Corner.{Corner}
use Rattle.report_form.specs.declared.reports.NamedBlock.{NamedBlock}
use Rattle.report_form.specs.declared.verdicts.Verdict.TheVariants.{Yes}

-- ---- corners

no_player_improves : (notion : Notion) (g : GameView) (corner : Corner) → IsTrueCorner g notion corner → (side : Side)
    → NoneImproves notion side g no_slack (entries_of corner.pairs)
no_player_improves notion g corner holds One = holds.1.1.1.1.0
no_player_improves notion g corner holds Two = holds.1.1.1.1.1.0

true_entries : (notion : Notion) (g : GameView) (corner : Corner) → IsCorner corner → IsTrueCorner g notion corner
    → All (IsEntry g) (entries_of corner.pairs)
true_entries notion g corner ranges holds =
    All-map (IsEntry g) entry_of corner.pairs
    (λ k d low.
    let reduced = holds.0 k d low in
    record {
      one = reduced.0;
      two = reduced.1;
      weighs = magnitude_some (get_or corner.pairs k d).weight (ranges.3 k d low).0.0;
    })

paid_corner : (notion : Notion) (g : GameView) (corner : Corner) → IsCorner corner → IsTrueCorner g notion corner
    → IsPaidCorner notion g corner
paid_corner notion g corner ranges holds =
    let total_is = holds.1.0 in
    record {
      equilibrium = record {
        entries = true_entries notion g corner ranges holds;
        some_weight = rw total_is (over_one ranges.0.0);
        none_improves = no_player_improves notion g corner holds;
      };
      total_is = total_is;
      point = holds.1.1.1.0;
    }

-- ---- blocks

module _ (side_certified : (g : GameView) (lp : LpView) (corners : List Corner) (side : SideRow) → pos 0 <ℤ side.den
    → IsTrueSide g lp corners side → IsCertified g lp corners side)
    (empty_shown : (lp : LpView) (multipliers : List ℤ) → AllHold (EmptyRule lp multipliers) (empty_rules lp) → ShowEmpty lp multipliers) where
  pub block_exact : (notion : Notion) (g : GameView) (p : PairsView) (lp : LpView) (block : Block) → IsGame g → IsPairs p → IsPairsOf g p
      → IsProgramOf g p notion lp → IsBlock block → IsTrueBlock g lp notion block → IsExact notion g block
  block_exact notion g p lp (Found corners sides) rules pairs of program ranges holds =
      exact_polygon notion g p lp rules pairs of program corners sides ranges
      (λ k side at.
      side_certified g lp corners side (over_one (element (IsSide (length corners)) sides k side ranges.3 at).2.0)
      (element (IsTrueSide g lp corners) sides k side holds.2 at))
      (λ k d low. paid_corner notion g (get_or corners k d) (ranges.2 k d low) (holds.0 k d low))
      holds.1
  block_exact notion g p lp (Empty multipliers) rules pairs of program ranges holds =
      none_where_shown notion g p lp multipliers rules pairs of program (empty_shown lp multipliers holds)
  block_exact notion g p lp (TooWide basis place) rules pairs of program ranges holds = tt

  block_ranges : (low : ℕ) (blocks : List NamedBlock) → InOrderFrom low blocks → All (λ named. IsBlock named.block) blocks
  block_ranges low blocks order k d inside = go low blocks k d order inside
    where
      go : (low : ℕ) (blocks : List NamedBlock) (k : ℕ) (d : NamedBlock) → InOrderFrom low blocks → k < length blocks
          → IsBlock (get_or blocks k d).block
      go low [] k d order inside = absurd (omega (arith, inside))
      go low (named ∷ rest) zero d order inside = order.1
      go low (named ∷ rest) (suc k) d order inside =
          go (notion_number named.notion + 1) rest k d order.2 (omega (arith, inside))

  pub yes_exact : (g : GameView) (p : PairsView) (report : ReportView) → IsGame g → IsPairs p → IsPairsOf g p → IsVerdictOn g p report Yes
      → All (λ named. IsExact named.notion g named.block × (IsTooWide named → ⊥)) report.blocks
  yes_exact g p report rules pairs of (whole true none) k d inside =
      let named = get_or report.blocks k d in
      let holds = true.blocks k d inside in (
        block_exact named.notion g p holds.0 named.block rules pairs of holds.1 (block_ranges 0 report.blocks true.ranges.blocks k d inside)
            holds.2,
        none k d inside,
      )
