-- The correlation rows and their solutions.
use Rattle.std.proofs.Common.{◌≡◌, ℕ, zero, suc, ◌+◌, ◌*◌, ◌<◌, ◌≤◌, Some, None, length, slice_index_or, pos, sym, ◌∙◌, arith}
use Rattle.std.proofs.lemmas.Option.{get_or_from_slice_get, slice_get_within}
use Rattle.corr_game.specs.Game.{GameView}
use Rattle.sequences.specs.Number.{count_of}
use Rattle.connected_pairs.specs.Connected.{IsPairs, IsPairsOf, PairsView, index_of}
use Rattle.lp_form.proofs.Solving.{solution_of_base}
use Rattle.lp_form.specs.Program.{IsLp, IsProgram, LpView, coefficient, joined}
use Rattle.plan_polytope.proofs.Counting.{both_counts_one}
use Rattle.plan_polytope.proofs.Meeting.{solutions_meet}
use Rattle.plan_polytope.specs.CorrelationRow.{IsCorrelationRow, IsRowOf}
use Rattle.plan_polytope.specs.Rows.{AreCorrelationRows}
use Rattle.plan_polytope.specs.Solutions.{SolutionsMeetRows}

pub one_number : (g : GameView) (p : PairsView) (a b : LpView) → AreCorrelationRows g p a → AreCorrelationRows g p b
    → length a.rows ≡ length b.rows
one_number g p a b x y =
    let same = both_counts_one g p (length x.rows) (length y.rows) x.both_players y.both_players in
    omega (arith, x.count, y.count, same)

first_index : (g : GameView) (p : PairsView) → IsPairs p → IsPairsOf g p → index_of p 0 0 ≡ Some 0
first_index g p rules of =
    let placed = rules.listed.each_index 0 (0, 0) of.first_pair in
    get_or_from_slice_get p.places (0 * count_of p.seqs.two + 0) (Some 0) None placed

pub total_one : (g : GameView) (p : PairsView) (lp : LpView) → IsPairs p → IsPairsOf g p → AreCorrelationRows g p lp
    → coefficient lp 0 0 ≡ pos 1
total_one g p lp rules of rows = rows.total.empty 0 (first_index g p rules of)

pub total_zeros : (g : GameView) (p : PairsView) (lp : LpView) → IsPairs p → IsPairsOf g p → AreCorrelationRows g p lp → (col : ℕ)
    → 0 < col → coefficient lp 0 col ≡ pos 0
total_zeros g p lp rules of rows zero low = absurd (omega arith)
total_zeros g p lp rules of rows (suc col) low =
    rows.total.elsewhere (suc col) (λ e. apart (sym (first_index g p rules of) ∙ e))
  where
    apart : Some 0 ≡ Some (suc col) → ⊥
    apart e = absurd (cc)

pub stands_there : (g : GameView) (p : PairsView) (lp : LpView) (row : _) → AreCorrelationRows g p lp → IsRowOf g p row
    → (r : ℕ) × (0 < r) × (r < length lp.rows) × IsCorrelationRow p row lp r
stands_there g p lp row rows is =
    let at = rows.listed.all row is in
    let inside = slice_get_within rows.rows at.0 row at.1 in
    (at.0 + 1, omega arith, omega (arith, rows.count), rows.filled at.0 row at.1)

pub meet_alone : (g : GameView) (p : PairsView) (lp : LpView) → IsPairs p → IsPairsOf g p → lp.cols ≡ length p.pairs → IsProgram lp
    → AreCorrelationRows g p lp → SolutionsMeetRows p lp
meet_alone g p lp rules of columns program rows = solutions_meet g p lp record {
  rules = rules;
  whose = of;
  columns = columns;
  rows = rows;
  one = program.one;
  zeros = λ r. program.zeros (r + 1) (omega arith);
}

pub meet_more : (p : PairsView) (base more : LpView) → IsLp base → base.cols ≤ more.cols → SolutionsMeetRows p base
    → SolutionsMeetRows p (joined base more)
meet_more p base more rules wide meet values total count solution =
    meet values total count (solution_of_base base more rules wide total (λ k. slice_index_or values k (pos 0)) solution)
