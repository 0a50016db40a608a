-- What is right keeps all rules of the checker, one by one.
use Rattle.std.proofs.Common.{◌≡◌, ℕ, zero, suc, ◌+◌, ◌<◌, List, [], ◌∷◌, ◌++◌, All, Some, option_map, slice_get, get_or, subst, ◌∙◌, ap}
use Rattle.std.proofs.Common.{ℤ, arith}
use Rattle.std.proofs.lemmas.Option.{get_or_from_slice_get, slice_get-get_or, slice_get-map, slice_get_within}
use Rattle.deviation_gains.specs.Planned.{AreReduced}
use Rattle.cert_check.specs.Rules.{AllHold, by_column}
use Rattle.cert_check.specs.Scales.{HasScales}
use Rattle.cert_check.specs.SideRules.{EmptyRule, SideRule, above, empty_rules, per_row, sign, width}
use Rattle.cert_check.specs.Truth.{IsTrueBlock, IsTrueCorner, IsTrueReport, IsTrueSide}
use Rattle.connected_pairs.specs.Connected.{PairsView}
use Rattle.corr_game.specs.Game.{GameView}
use Rattle.corr_game.specs.declared.notions.Notion.{Notion}
use Rattle.corr_game.specs.declared.plans.Pair.{Pair}
use Rattle.corr_game.specs.declared.sides.Side.TheVariants.{One, Two}
use Rattle.equilibrium.specs.Distribution.{IsEntry, entries_of, entry_of}
use Rattle.lp_form.specs.Program.{LpView}
use Rattle.notion_solve.specs.Right.{IsRight, IsRightCorner, IsRightEmpty, IsRightFor}
use Rattle.notion_solve.specs.Shown.{IsShownSide}
use Rattle.plane_hull.specs.declared.sides.SideRow.{SideRow}
use Rattle.report_form.specs.Ranges.{IsReport}
use Rattle.report_form.specs.View.{ReportView}
use Rattle.report_form.specs.declared.reports.Block.{Block}
use Rattle.report_form.specs.declared.reports.Block.TheVariants.{Found, Empty, TooWide}
use Rattle.report_form.specs.declared.reports.Corner.{Corner}

element : {X : Type 0} (P : X → Type 0) (xs : List X) (k : ℕ) (x : X) → All P xs → slice_get xs k ≡ Some x → P x
element P xs k x all at = subst (λ y. P y) (get_or_from_slice_get xs k x x at) (all k x (slice_get_within xs k x at))

-- ---- rules in a list

all_append : {R : Type 0} (Holds : R → Type 0) (front back : List R) → AllHold Holds front → AllHold Holds back
    → AllHold Holds (front ++ back)
all_append Holds [] back first second = second
all_append Holds (rule ∷ front) back first second = (first.0, all_append Holds front back first.1 second)

columns_hold : {R : Type 0} (Holds : R → Type 0) (one two : ℕ → R) (first count : ℕ)
    → ((col : ℕ) → col < first + count → Holds (one col) × Holds (two col))
    → AllHold Holds (by_column one two first count)
columns_hold Holds one two first zero each = tt
columns_hold Holds one two first (suc count) each =
    let here = each first (omega arith) in
    (here.0, (here.1, columns_hold Holds one two (first + 1) count (λ col below. each col (omega (arith, below)))))

all_columns_hold : {R : Type 0} (Holds : R → Type 0) (one two : ℕ → R) (count : ℕ)
    → ((col : ℕ) → col < count → Holds (one col) × Holds (two col))
    → AllHold Holds (by_column one two 0 count)
all_columns_hold Holds one two count each = columns_hold Holds one two 0 count (λ col below. each col (omega (arith, below)))

-- ---- corners, sides, multipliers

reduced_pairs : (g : GameView) (pairs : List Pair) → All (IsEntry g) (entries_of pairs) → All (AreReduced g) pairs
reduced_pairs g pairs entries k d inside =
    let at = slice_get-get_or pairs k d inside in
    let entry = element (IsEntry g) (entries_of pairs) k (entry_of (get_or pairs k d)) entries
    (slice_get-map entry_of pairs k ∙ ap (λ c. option_map entry_of c) at) in
    (entry.one, entry.two)

corner_true : (notion : Notion) (g : GameView) (p : PairsView) (corner : Corner) → IsRightCorner notion g p corner
    → IsTrueCorner g notion corner
corner_true notion g p corner right = (
  reduced_pairs g corner.pairs right.equilibrium.entries,
  (
    right.total_is,
    (
      (right.narrow One, right.narrow Two),
      (right.point, (right.equilibrium.none_improves One, (right.equilibrium.none_improves Two, tt))),
    ),
  ),
)

side_true : (g : GameView) (lp : LpView) (corners : List Corner) (side : SideRow) → IsShownSide g lp corners side
    → IsTrueSide g lp corners side
side_true g lp corners side right =
    let certified = right.certified in (
      (certified.multipliers.first_each, certified.multipliers.second_each),
      (
        record { corner = certified.corner; at = certified.at; point = certified.point },
        all_columns_hold (SideRule g lp corners side) width sign lp.cols
            (λ col below. (((right.narrow col below).one, (right.narrow col below).two), certified.multipliers.not_below col below)),
      ),
    )

empty_true : (notion : Notion) (g : GameView) (lp : LpView) (multipliers : List ℤ) → IsRightEmpty notion g lp multipliers
    → AllHold (EmptyRule lp multipliers) (empty_rules lp)
empty_true notion g lp multipliers right =
    let shown = right.shown in
    all_append (EmptyRule lp multipliers) (per_row ∷ by_column width sign 0 lp.cols) (above ∷ []) (
      shown.one_each,
      all_columns_hold (EmptyRule lp multipliers) width sign lp.cols
          (λ col below. (right.columns col below, shown.not_above col below)),
    )
    (shown.above, tt)

-- ---- blocks and reports

pub blocks_true : (notion : Notion) (g : GameView) (p : PairsView) (lp : LpView) (block : Block) → IsRight notion g p lp block
    → IsTrueBlock g lp notion block
blocks_true notion g p lp (Found corners sides) right = (
  λ k d inside. corner_true notion g p (get_or corners k d) (right.each_corner k d inside),
  right.strict.belt,
  λ k d inside. side_true g lp corners (get_or sides k d) (right.each_side k d inside),
)
blocks_true notion g p lp (Empty multipliers) right = empty_true notion g lp multipliers right
blocks_true notion g p lp (TooWide basis place) right = tt

pub reports_true : (g : GameView) (p : PairsView) (report : ReportView) → IsReport report → HasScales g report
    → All (λ named. IsRightFor g p named.notion named.block) report.blocks → IsTrueReport g p report
reports_true g p report ranges scales blocks = record {
  ranges = ranges;
  scales = scales;
  blocks = λ k d inside.
      let right = blocks k d inside in
      let named = get_or report.blocks k d in
      (right.0, right.1, blocks_true named.notion g p right.0 named.block right.3);
}
