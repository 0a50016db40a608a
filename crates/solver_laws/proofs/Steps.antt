-- Multiples of coefficients, and numbers within a bound.
use Rattle.std.proofs.Common.{◌∷◌, Bool, true, false, cond, nat_eq, ◌≡◌, ◌↔◌, ⊎_elim, ℕ, ◌+◌, ◌-◌, ◌^◌, ◌<◌, ◌≤◌, All, List, [], length}
use Rattle.std.proofs.Common.{ℤ, pos, unsigned_abs, sym, ap, ◌∙◌, arith}
use Rattle.std.proofs.lemmas.Bool.{cases_lt}
use Rattle.std.proofs.lemmas.List.{get_or-append-add, get_or_past}
use Rattle.std.proofs.lemmas.List.Elements.{All-from_get_or, All-get_or}
use Rattle.corr_num.proofs.MagnitudeBounds.{word_magnitude}
use Rattle.lp_form.proofs.Solving.{row_in_front}
use Rattle.lp_form.specs.Program.{IsLp, LpView, coefficient, entries_of, joined}
use Rattle.lp_form.specs.declared.entries.Entry.{Entry}
use Rattle.lp_form.specs.Row.{Ascends, IsRow, value_at}
use Rattle.plan_polytope.specs.Bounds.{AreUnits}
use Rattle.column_sums.specs.Bounds.{AreSteps, AreWithin, IsStep}
use Rattle.cert_check.specs.Bounds.{IsBounded}
use Rattle.cert_check.specs.Certified.{whole_of}

pub within_all : (bound : ℕ) (sums : List ℤ) → AreWithin bound sums ↔ All (λ x. unsigned_abs x ≤ bound) sums
within_all bound sums = (
  λ within. All-from_get_or (λ x. unsigned_abs x ≤ bound) sums (pos 0) (λ k l. within k),
  λ all k. ⊎_elim
      (λ (l : k < length sums). All-get_or (λ x. unsigned_abs x ≤ bound) sums k (pos 0) l all)
      (λ (h : length sums ≤ k). (let none = get_or_past sums k (pos 0) h in rw none (omega arith)))
      (cases_lt k (length sums)),
)

pub unit_steps : (lp : LpView) → AreUnits lp → AreSteps (2 ^ 62) lp
unit_steps lp units r k = let small = units r k in omega arith

pub joined_steps : (step : ℕ) (base more : LpView) → AreSteps step base → AreSteps step more → AreSteps step (joined base more)
joined_steps step base more first second r k = ⊎_elim
    (λ (l : r < length base.rows).
    let same : coefficient (joined base more) r k ≡ coefficient base r k
    = ap (λ (row : List Entry). value_at row k) (row_in_front base more r l) in
    rw same (first r k))
    (λ (h : length base.rows ≤ r).
    let place : length base.rows + (r - length base.rows) ≡ r = omega arith in
    let there : entries_of (joined base more) (length base.rows + (r - length base.rows)) ≡ entries_of more (r - length base.rows)
    = get_or-append-add base.rows more.rows (r - length base.rows) [] in
    let same : coefficient (joined base more) r k ≡ coefficient more (r - length base.rows) k
    = ap (λ (i : ℕ). coefficient (joined base more) i k) (sym place) ∙ ap (λ (row : List Entry). value_at row k) there in
    rw same (second (r - length base.rows) k))
    (cases_lt r (length base.rows))

pub bounded_steps : (p : _) → IsBounded p → AreSteps (2 ^ 104) (whole_of p)
bounded_steps p bounded = joined_steps (2 ^ 104) p.base p.more
    (λ r k. let small = bounded.units r k in omega arith)
    (λ r k. let small = bounded.incentives r k in omega arith)

word_entries : (entries : List Entry) (low cols k : ℕ) → Ascends low cols entries → unsigned_abs (value_at entries k) ≤ 2 ^ 63
word_entries [] low cols k up = omega arith
word_entries (entry ∷ rest) low cols k up = by (nat_eq entry.col k) (word_magnitude entry.value up.2)
    (word_entries rest (entry.col + 1) cols k up.3)
  where
    by : (here : Bool) → unsigned_abs entry.value ≤ 2 ^ 63 → unsigned_abs (value_at rest k) ≤ 2 ^ 63
        → unsigned_abs (cond here entry.value (value_at rest k)) ≤ 2 ^ 63
    by true own others = own
    by false own others = others

pub row_steps : (cols : ℕ) (entries : List Entry) → IsRow cols entries → IsStep (2 ^ 125) entries
row_steps cols entries row k = let small = word_entries entries 0 cols k row in omega arith

pub program_steps : (lp : LpView) → IsLp lp → AreSteps (2 ^ 125) lp
program_steps lp rules r k = ⊎_elim
    (λ (l : r < length lp.rows). row_steps lp.cols (entries_of lp r) (rules.each_row r [] l) k)
    (λ (h : length lp.rows ≤ r).
    let none : entries_of lp r ≡ [] = get_or_past lp.rows r [] h in
    let zero : coefficient lp r k ≡ pos 0 = ap (λ (row : List Entry). value_at row k) none in
    rw zero (omega arith))
    (cases_lt r (length lp.rows))
