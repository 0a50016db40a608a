-- The entries of a decomposition and the sides of a sweep are in the ranges of a report.
use Rattle.std.proofs.Common.{◌≡◌, ℕ, ◌<◌, ◌≤◌, ◌∙◌, List, Option, Some, None, All, length, slice_get, get_or, ap, refl, arith}
use Rattle.std.proofs.lemmas.Int.{ints}
use Rattle.std.proofs.lemmas.Option.{slice_get-get_or, slice_get_within}
use Rattle.corr_game.specs.declared.nodes.SetInfo.{SetInfo}
use Rattle.corr_game.specs.declared.plans.Pair.{Pair}
use Rattle.corr_game.specs.declared.sides.Side.{Side}
use Rattle.corr_game.specs.Game.{GameView, IsGame, sets_of}
use Rattle.corr_game.specs.Plan.{IsPlan}
use Rattle.sequences.specs.Number.{SeqsView}
use Rattle.plane_hull.specs.declared.sides.SideRow.{SideRow}
use Rattle.plan_decompose.specs.Entry.{IsEntry}
use Rattle.lp_form.specs.Program.{LpView}
use Rattle.polygon_sweep.specs.declared.corners.SweptCorner.{SweptCorner}
use Rattle.polygon_sweep.specs.Swept.{IsSideAmong}
use Rattle.report_form.specs.Ranges.{IsAction, IsPair, IsSide}

is_action : (named : Option ℕ) → ((action : ℕ) → named ≡ Some action → action < 64) → IsAction named
is_action None h = tt
is_action (Some action) h = h action refl

-- a set with this number, and its actions are at most 64
set_at : (side : Side) (g : GameView) (k : ℕ) → IsGame g → k < length (sets_of side g) → (info : SetInfo) × (slice_get (sets_of side g) k ≡ Some info) × (info.actions ≤ 64)
set_at side g k rules inside =
    let nothing : SetInfo = record { file = 0; actions = 0 } in
    (get_or (sets_of side g) k nothing, slice_get-get_or (sets_of side g) k nothing inside, (rules.each_set side k nothing inside).1)

plan_actions : (side : Side) (g : GameView) (plan : List (Option ℕ)) → IsGame g → IsPlan side g plan → All IsAction plan
plan_actions side g plan rules is k d inside =
    let set = set_at side g k rules (omega (arith, is.per_set, inside)) in
    is_action (get_or plan k d) (λ action named. omega (arith, is.in_range k action set.0 (slice_get-get_or plan k d inside ∙ ap Some named) set.1, set.2))

pub entry_pair : (g : GameView) (s : SeqsView) (pair : Pair) → IsGame g → IsEntry g s pair → IsPair pair
entry_pair g s pair rules entry = ((entry.positive, entry.narrow), plan_actions _ g pair.one rules entry.plan_one, plan_actions _ g pair.two rules entry.plan_two)

pub entry_pairs : (g : GameView) (s : SeqsView) (pairs : List Pair) → IsGame g → All (IsEntry g s) pairs → All IsPair pairs
entry_pairs g s pairs rules all k d inside = entry_pair g s _ rules (all k d inside)

pub side_ranges : (lp : LpView) (corners : List SweptCorner) (side : SideRow) → IsSideAmong lp corners side → IsSide (length corners) side
side_ranges lp corners side h =
    let is = h.certified in
    (is.coprime, slice_get_within corners side.corner h.corner h.at, (let above = is.certified.positive in omega (arith, ints), is.den), is.first, is.second)

pub all_side_ranges : (lp : LpView) (corners : List SweptCorner) (sides : List SideRow) → All (IsSideAmong lp corners) sides → All (IsSide (length corners)) sides
all_side_ranges lp corners sides all k d inside = side_ranges lp corners _ (all k d inside)
