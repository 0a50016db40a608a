-- Laws of the first phase, from the entries of the starting tableau and from the right side of Phase.
use Rattle.std.proofs.Common.{◌≡◌, ◌≢◌, ◌↔◌, ⊎_elim, ℕ, ◌+◌, ◌<◌, ◌≤◌, List, length, Some, None, ℤ, pos, ◌+ℤ◌, ◌≤ℤ◌, ◌<ℤ◌}
use Rattle.std.proofs.Common.{slice_index_or, refl, sym, ap, ◌∙◌, arith}
use Rattle.std.proofs.lemmas.Int.{ints}
use Rattle.std.proofs.lemmas.List.{get_or_default, same_lists}
use Rattle.exact_algebra.proofs.Order.{below_or_at_least, Sign, negative, nothing, positive, sign}
use Rattle.exact_algebra.proofs.Sums.{sum_to-same}
use Rattle.exact_algebra.specs.Sums.{sum_to}
use Rattle.lp_form.proofs.Certified.{shown_empty}
use Rattle.lp_form.specs.Program.{IsProgram, LpView, coefficient}
use Rattle.int_tableau.specs.Content.{Content, IsTableau}
use Rattle.int_tableau.specs.Start.{IsStart, start_entry}
use Rattle.bland_simplex.proofs.Emptiness.{ready_solution}
use Rattle.bland_simplex.proofs.Lowering.{ready_lowered}
use Rattle.bland_simplex.proofs.StartEntries.{entry_program, phase_artificial, weight_program}
use Rattle.bland_simplex.specs.declared.first_phase.Found.{Found}
use Rattle.bland_simplex.specs.declared.first_phase.Found.TheVariants.{Start, Empty}
use Rattle.bland_simplex.specs.Answer.{FoundFor, IsTrueOf}
use Rattle.bland_simplex.specs.Driven.{DrivesOut, FindsOut, IsDriven}
use Rattle.bland_simplex.specs.Lowering.{Lowers}
use Rattle.bland_simplex.specs.Multipliers.{AreMultipliers, IsStuck}
use Rattle.bland_simplex.specs.Open.{IsOpen, IsOpenFor}
use Rattle.bland_simplex.specs.Order.{AreNone}
use Rattle.bland_simplex.specs.Ready.{IsLowered, IsReady}

pub lowers_by_sum : (lp : LpView) (t : Content) → IsStart lp t → (col : ℕ) → col < lp.cols
    → Lowers t (length lp.rows) col ↔ (pos 0 <ℤ sum_to (length lp.rows) (λ row. coefficient lp row col))
lowers_by_sum lp t start col l =
    let here = start.entries (length lp.rows + 2) col (omega (arith, start.rows)) (omega (arith, start.cols)) in
    let sums = sum_to-same (length lp.rows) (λ c. start_entry lp c col) (λ c. coefficient lp c col) (λ c h. entry_program lp c col h l) in
    by (t.entry (length lp.rows + 2) col) (start_entry lp (length lp.rows + 2) col) (sum_to (length lp.rows) (λ c. start_entry lp c col))
    (sum_to (length lp.rows) (λ c. coefficient lp c col)) here (weight_program lp col l) sums
  where
    by : (e s a b : ℤ) → e ≡ s → s +ℤ a ≡ pos 0 → a ≡ b → (e <ℤ pos 0) ↔ (pos 0 <ℤ b)
    by e s a b one none same = (λ low. omega (arith, ints), λ above. omega (arith, ints))

pub none_artificial : (lp : LpView) (t : Content) → IsStart lp t → (row : ℕ) → row < length lp.rows
    → Lowers t (length lp.rows) (lp.cols + row) → ⊥
none_artificial lp t start row h low =
    let here = start.entries (length lp.rows + 2) (lp.cols + row) (omega (arith, start.rows)) (omega (arith, start.cols))
    ∙ phase_artificial lp row h in
    omega (arith, ints)

pub stuck_exactly : (rows cols : ℕ) (t : Content)
    → IsStuck rows cols t ↔ (AreNone (cols + rows) (Lowers t rows) × (t.entry (rows + 2) (cols + rows) ≢ pos 0))
stuck_exactly rows cols t = (
  λ stuck. (λ col h low. (let over = stuck.not_negative col h in omega (arith, ints)), stuck.above),
  λ both. record {
    not_negative = λ col h. ⊎_elim (λ (low : t.entry (rows + 2) col <ℤ pos 0). absurd (both.0 col h low))
        (λ (over : pos 0 ≤ℤ t.entry (rows + 2) col). over) (below_or_at_least (t.entry (rows + 2) col) (pos 0));
    above = both.1;
  },
)

pub not_lowered : (lp : LpView) (t : Content) → IsStuck (length lp.rows) lp.cols t → IsLowered lp t → ⊥
not_lowered lp t stuck lowered = stuck.above lowered.done

pub driven_exactly : (t : Content) (rows cols : ℕ) → IsDriven t rows cols ↔ ((row col : ℕ) → DrivesOut t rows cols row col → ⊥)
driven_exactly t rows cols = (
  λ driven row col drives. drives.not_zero (driven row drives.in_rows drives.artificial col drives.in_columns),
  λ none row h high col l. by none row h high col l (sign (t.entry row col)),
)
  where
    by : ((row col : ℕ) → DrivesOut t rows cols row col → ⊥) → (row : ℕ) → row < rows → cols ≤ t.basic row → (col : ℕ) → col < cols
        → Sign (t.entry row col) → t.entry row col ≡ pos 0
    by none row h high col l (nothing e) = e
    by none row h high col l (negative low) = absurd (none row col
        record { in_rows = h; in_columns = l; artificial = high; not_zero = λ e. omega (arith, ints) })
    by none row h high col l (positive above) = absurd (none row col
        record { in_rows = h; in_columns = l; artificial = high; not_zero = λ e. omega (arith, ints) })

pub none_found : (t : Content) (rows cols : ℕ) (found : _) → IsDriven t rows cols
    → FindsOut t rows cols (IsDriven t rows cols) found → found ≡ None
none_found t rows cols None driven finds = refl
none_found t rows cols (Some c) driven finds = absurd ((driven_exactly t rows cols).0 driven c.row c.col finds)

pub ready_driven : (lp : LpView) (t : Content) → IsReady lp t → IsDriven t (length lp.rows) lp.cols
ready_driven lp t ready row h high = (ready.inert row h high).empty

pub one_list : (rows cols : ℕ) (t : Content) (one other : List ℤ) → AreMultipliers rows cols t one → AreMultipliers rows cols t other
    → one ≡ other
one_list rows cols t one other a b = same_lists one other (omega (arith, a.one_each, b.one_each))
    (λ k d h. get_or_default one k d (pos 0) h ∙ (a.values k (omega (arith, a.one_each)) ∙ sym (b.values k (omega (arith, a.one_each))))
    ∙ get_or_default other k (pos 0) d (omega (arith, a.one_each, b.one_each)))

pub start_ones : (lp : LpView) (t : Content) (multipliers : List ℤ) → IsStart lp t
    → AreMultipliers (length lp.rows) lp.cols t multipliers
    → (row : ℕ) → row < length lp.rows → slice_index_or multipliers row (pos 0) ≡ pos 1
start_ones lp t multipliers start are row h =
    let here = start.entries (length lp.rows + 2) (lp.cols + row) (omega (arith, start.rows)) (omega (arith, start.cols))
    ∙ phase_artificial lp row h in
    let denom = start.denom in
    let value = are.values row h in
    omega (arith, ints)

pub answer_true : (lp : LpView) (t : Content) (found : Found) → IsProgram lp → FoundFor lp t found → IsTrueOf lp found
answer_true lp t Start program ready = ready_solution lp t ready
answer_true lp t (Empty multipliers) program found = shown_empty lp program multipliers found.2

pub one_answer : (lp : LpView) (t : Content) (one other : Found) → FoundFor lp t one → FoundFor lp t other → one ≡ other
one_answer lp t Start Start a b = refl
one_answer lp t Start (Empty other) a b = absurd (not_lowered lp t b.0 (ready_lowered lp t a))
one_answer lp t (Empty one) Start a b = absurd (not_lowered lp t a.0 (ready_lowered lp t b))
one_answer lp t (Empty one) (Empty other) a b = ap (λ (y : List ℤ). Empty y) (one_list (length lp.rows) lp.cols t one other a.1 b.1)

pub one_count : (rows cols more wider : ℕ) (t : Content) → IsOpen rows cols t → IsOpen more wider t → rows ≡ more
one_count rows cols more wider t a b = omega (arith, a.rows_are, b.rows_are)

pub one_width : (rows cols more wider : ℕ) (t : Content) → IsOpen rows cols t → IsOpen more wider t → cols ≡ wider
one_width rows cols more wider t a b = omega (arith, a.rows_are, b.rows_are, a.cols_are, b.cols_are)

pub basic_inside : (rows cols : ℕ) (t : Content) → IsOpen rows cols t → (row : ℕ) → row < rows → t.basic row < cols + rows
basic_inside rows cols t is row h =
    let column = is.rules.basis row (omega (arith, is.rows_are)) in
    omega (arith, is.cols_are)

pub start_open : (lp : LpView) (t : Content) → IsTableau t → IsStart lp t → IsOpenFor lp t
start_open lp t rules start = record { rules = rules; fresh = start.fresh; rows_are = start.rows; cols_are = start.cols }
