-- Pairs of plans that are drawn, and corners that they spread.
use Rattle.std.proofs.Common.{◌≡◌, ℕ, ◌+◌, ◌++◌, ◌≤◌, All, List, Some, length, slice_get, slice_index_or, ℤ, sym, subst, ◌∙◌, arith}
use Rattle.std.proofs.lemmas.List.{get_or-append-add, get_or_append_left, length-append}
use Rattle.exact_algebra.specs.Sums.{sum_over}
use Rattle.corr_game.specs.declared.plans.Pair.{Pair}
use Rattle.corr_game.specs.Game.{GameView}
use Rattle.sequences.specs.Number.{SeqsView}
use Rattle.connected_pairs.specs.Connected.{IsPairs, IsPairsOf, PairsView}
use Rattle.plan_decompose.proofs.ListSums.{rows_met, total_summed}
use Rattle.plan_decompose.specs.Entry.{AreSums, IsEntry}
use Rattle.equilibrium.specs.Distribution.{IsEntry as IsWeighted, entry_of}
use Rattle.cert_check.proofs.Elements.{all_at}
use Rattle.deviation_gains.specs.Planned.{AreDrawn, IsDrawn, IsPlanned}
use Rattle.notion_solve.specs.Spread.{AreSpread, IsSpread}
use Rattle.plane_hull.specs.declared.sides.SideRow.{SideRow}
use Rattle.report_form.specs.declared.reports.Block.TheVariants.{Found}
use Rattle.report_form.specs.declared.reports.Corner.{Corner}

pub reduced_planned : (g : GameView) (pair : Pair) → IsWeighted g (entry_of pair) → IsPlanned g pair
reduced_planned g pair is = (is.one.is_plan, is.two.is_plan)

pub entry_drawn : (g : GameView) (s : SeqsView) (pair : Pair) → IsEntry g s pair → IsDrawn g pair
entry_drawn g s pair is = ((is.plan_one, is.plan_two), is.narrow)

pub entries_drawn : (g : GameView) (s : SeqsView) (list : List Pair) → All (IsEntry g s) list → length list ≤ 65535 → AreDrawn g list
entries_drawn g s list all few = (λ k d l. entry_drawn g s (slice_index_or list k d) (all k d l), few)

pub front_drawn : (g : GameView) (xs ys : List Pair) → AreDrawn g (xs ++ ys) → AreDrawn g xs
front_drawn g xs ys drawn = (
  λ k d l. subst (IsDrawn g) (get_or_append_left xs ys d k l) (drawn.0 k d (omega (arith, length-append xs ys))),
  omega (arith, drawn.1, length-append xs ys),
)

pub behind_drawn : (g : GameView) (xs ys : List Pair) → AreDrawn g (xs ++ ys) → AreDrawn g ys
behind_drawn g xs ys drawn = (
  λ k d l. subst (IsDrawn g) (get_or-append-add xs ys k d) (drawn.0 (length xs + k) d (omega (arith, length-append xs ys))),
  omega (arith, drawn.1, length-append xs ys),
)

pub corner_total : (g : GameView) (p : PairsView) (corner : Corner) → IsPairs p → IsPairsOf g p → IsSpread p corner
    → corner.total ≡ sum_over (λ (pair : Pair). pair.weight) corner.pairs
corner_total g p corner rules of spread = sym spread.total ∙ total_summed g p of rules corner.pairs spread.values spread.sums

pub block_totals : (g : GameView) (p : PairsView) (corners : List Corner) (sides : List SideRow) (k : ℕ) (corner : Corner) → IsPairs p
    → IsPairsOf g p → AreSpread p (Found corners sides) → slice_get corners k ≡ Some corner
    → corner.total ≡ sum_over (λ (pair : Pair). pair.weight) corner.pairs
block_totals g p corners sides k corner rules of spread at =
    corner_total g p corner rules of (all_at (IsSpread p) corners k corner spread at)

pub sums_spread : (g : GameView) (p : PairsView) (corner : Corner) (values : List ℤ) → IsPairs p → IsPairsOf g p
    → All (IsEntry g p.seqs) corner.pairs → length values ≡ length p.pairs → AreSums p corner.pairs values
    → corner.total ≡ sum_over (λ (pair : Pair). pair.weight) corner.pairs → IsSpread p corner
sums_spread g p corner values rules of entries count sums whole = record {
  values = values;
  meets = rows_met g p of rules corner.pairs values entries count sums;
  total = total_summed g p of rules corner.pairs values sums ∙ sym whole;
  sums = sums;
}
