-- Each list has column sums: a sequence is the number of some moves, a plan plays it where it names them all, and the weights of the
-- entries whose plans do so sum up. A solution with these sums has the list's total.
use Rattle.std.proofs.Common.{◌≡◌, ◌↔◌, ℕ, zero, suc, ◌+◌, ◌<◌, ◌≤◌, List, [], ◌∷◌, ◌&&◌, All, Some, length, slice_get, refl}
use Rattle.std.proofs.Common.{sym, ap, ◌∙◌, Bool, ℤ, pos, ◌*ℤ◌, cond, arith, subst}
use Rattle.std.proofs.lemmas.List.{get_or_append_left}
use Rattle.std.proofs.lemmas.Option.{slice_get_within}
use Rattle.exact_algebra.specs.Sums.{sum_over, sum_to}
use Rattle.exact_algebra.proofs.RingLaws.{*ℤ-one}
use Rattle.corr_game.specs.declared.nodes.SetId.{SetId}
use Rattle.corr_game.specs.declared.notions.Notion.{Notion}
use Rattle.corr_game.specs.declared.sides.Side.{Side}
use Rattle.corr_game.specs.declared.sides.Side.TheVariants.{One, Two}
use Rattle.corr_game.specs.Game.{GameView, IsGame}
use Rattle.sequences.specs.Number.{count_of, side_of}
use Rattle.sequences.proofs.Adding.{within}
use Rattle.connected_pairs.specs.Connected.{IsPairs, IsPairsOf, PairsView}
use Rattle.lp_form.specs.declared.entries.Entry.{Entry as Coefficient}
use Rattle.lp_form.specs.Program.{IsProgram, LpView, coefficient, joined}
use Rattle.lp_form.specs.Row.{value_at}
use Rattle.lp_form.specs.Solutions.{IsSolution}
use Rattle.equilibrium.specs.Distribution.{Entry, IsEntry, total}
use Rattle.equilibrium.specs.Leaves.{names_all}
use Rattle.plan_polytope.specs.NotionProgram.{IsProgramOf}
use Rattle.equilibrium_solutions.specs.ColumnSums.{AreColumnSums, SumsTo}
use Rattle.equilibrium_solutions.proofs.BaseRows.{total_row_met}
use Rattle.equilibrium_solutions.proofs.MoveNumbers.{IsNumberOf, plays_by_moves}
use Rattle.equilibrium_solutions.proofs.Numbers.{move_numbered}
use Rattle.equilibrium_solutions.proofs.Recalled.{has_recall}
use Rattle.equilibrium_solutions.proofs.ReducedPlans.{entries_by}
use Rattle.equilibrium_solutions.proofs.SetNodes.{own_sequences}
use Rattle.equilibrium_solutions.proofs.SumRows.{chosen}
use Rattle.equilibrium_solutions.proofs.TestedSums.{sum_of_tested, tests_of_plans}

-- each sequence is the number of some moves
numbers_moves : (g : GameView) (p : PairsView) → IsGame g → IsPairs p → IsPairsOf g p → (side : Side) (seq : ℕ)
    → seq < count_of (side_of side p.seqs) → (moves : List (SetId × ℕ)) × IsNumberOf (side_of side p.seqs) moves seq
numbers_moves g p rules pairs of side zero low = ([], refl)
numbers_moves g p rules pairs of side (suc k) low =
    let v = side_of side p.seqs in
    let own = own_sequences side g rules (has_recall g rules p pairs of side) in
    let move = within v.lasts k (omega arith) in
    let ends = (pairs.sides side).numbered.each_last k move.0 move.1 in
    let moves : List (SetId × ℕ) = move.0 ∷ own.set move.0.0.0 in
    let IsNumber : ℕ → Type 0 = IsNumberOf v moves in
    (moves, subst IsNumber (one_more k) (move_numbered g rules p pairs of side own move.0.0.0 move.0.1 (k + 1) ends))
  where
    one_more : (n : ℕ) → n + 1 ≡ suc n
    one_more n = omega arith

-- a list has a sum at each pair of sequences
sum_there : (g : GameView) (p : PairsView) → IsGame g → IsPairs p → IsPairsOf g p → (list : List Entry) (pair : ℕ × ℕ)
    → pair.0 < count_of p.seqs.one → pair.1 < count_of p.seqs.two → (sum : ℤ) × SumsTo p.seqs pair list sum
sum_there g p rules pairs of list pair low_one low_two =
    let one = numbers_moves g p rules pairs of One pair.0 low_one in
    let two = numbers_moves g p rules pairs of Two pair.1 low_two in
    let test : Entry → Bool = λ e. names_all e.one one.0 && names_all e.two two.0 in
    let tests = tests_of_plans p.seqs One pair.0 pair.1 (λ plan. names_all plan one.0) (λ plan. names_all plan two.0) list
    (λ k e at. back (plays_by_moves p.seqs.one (pairs.sides One) e.one one.0 pair.0 one.1))
    (λ k e at. back (plays_by_moves p.seqs.two (pairs.sides Two) e.two two.0 pair.1 two.1)) in
    (sum_over (λ e. cond (test e) (pos e.weight) (pos 0)) list, sum_of_tested p.seqs pair test list tests)
  where
    back : {A B : Type 0} → A ↔ B → B ↔ A
    back h = (h.1, h.0)

pub lists_have_sums : (g : GameView) (p : PairsView) → IsGame g → IsPairs p → IsPairsOf g p → (list : List Entry)
    → (x : ℕ → ℤ) × AreColumnSums p list x
lists_have_sums g p rules pairs of list =
    let IsSumAt : ℕ → ℤ → Type 0 = λ k sum. (pair : ℕ × ℕ) → slice_get p.pairs k ≡ Some pair → SumsTo p.seqs pair list sum in
    let found = chosen (length p.pairs) IsSumAt at_column in
    (found.0, λ k pair at. found.1 k (slice_get_within p.pairs k pair at) pair at)
  where
    at_column : (k : ℕ) → k < length p.pairs
        → (sum : ℤ) × ((pair : ℕ × ℕ) → slice_get p.pairs k ≡ Some pair → SumsTo p.seqs pair list sum)
    at_column k low =
        let pair = within p.pairs k low in
        let is = pairs.listed.each_pair k pair.0 pair.1 in
        let sum = sum_there g p rules pairs of list pair.0 is.0 is.1 in
        (sum.0, λ other at. (let same : pair.0 ≡ other = cc (pair.1, at) in rw (← same) sum.1))

-- the right side of the first row of a solution is its total
joined_total : (base more : LpView) (t : ℤ) (x : ℕ → ℤ) → 0 < length base.rows → IsProgram (joined base more)
    → IsSolution (joined base more) t x → sum_to more.cols (λ k. coefficient base 0 k *ℤ x k) ≡ t
joined_total base more t x some program solution =
    let first = get_or_append_left base.rows more.rows [] 0 some in
    let alike = ap (λ (e : List Coefficient). sum_to more.cols (λ k. value_at e k *ℤ x k)) first in
    sym alike ∙ solution.meets 0 program.a_row ∙ ap (λ (c : ℤ). t *ℤ c) program.one ∙ *ℤ-one t

pub solution_total : (notion : Notion) (g : GameView) (p : PairsView) (lp : LpView) (list : List Entry) (t : ℤ) (x : ℕ → ℤ) → IsGame g
    → IsPairs p → IsPairsOf g p → IsProgramOf g p notion lp → All (IsEntry g) list → AreColumnSums p list x → IsSolution lp t x
    → total list ≡ t
solution_total notion g p lp list t x rules pairs of program each sums solution =
    let Solves : LpView → Type 0 = λ q. IsSolution q t x in
    let reduced = entries_by g rules p pairs of (has_recall g rules p pairs of) list each in
    let wide : length p.pairs ≤ program.more.cols = omega (arith, program.all_columns) in
    sym (*ℤ-one (total list))
    ∙ sym (total_row_met g p pairs of x x (λ k h. refl) list reduced sums program.base program.correlation program.more.cols wide)
    ∙ joined_total program.base program.more t x (omega (arith, program.correlation.count))
    (subst (λ (q : LpView). IsProgram q) program.parts program.right_sides) (subst Solves program.parts solution)
