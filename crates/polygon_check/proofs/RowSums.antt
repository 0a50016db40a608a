-- The entries of a row times the numbers of their columns add up to the sum over all columns: where no entry stands, the
-- coefficient is 0.
use Rattle.std.proofs.Common.{◌≡◌, ℕ, ◌+◌, ◌-◌, ◌*◌, ◌^◌, ◌<◌, ◌≤◌, suc, zero, List, [], ◌∷◌, length, drop, get_or, ℤ, pos, ◌+ℤ◌, ◌-ℤ◌, ◌*ℤ◌, unsigned_abs, to_z, of_z, FitsSigned, refl, sym, ap, ◌∙◌, arith}
use Rattle.std.specs.Prelude.{slice_index_or}
use Rattle.std.specs.Int.{w64, w128}
use Rattle.std.proofs.lemmas.Int.{ints, to_z-of_z}
use Rattle.std.proofs.lemmas.List.{drop_all}
use Rattle.exact_algebra.proofs.RingLaws.{zero-*ℤ}
use Rattle.exact_algebra.proofs.Sums.{sum_to-changed, sum_to-nothing}
use Rattle.exact_algebra.specs.Sums.{sum_to}
use Rattle.corr_num.proofs.MagnitudeBounds.{product_magnitude, sum_magnitude}
use Rattle.corr_num.proofs.PrintedTerms.{narrow_returned, returned}
use Rattle.corr_num.specs.Narrow.{Narrow}
use Rattle.lp_form.specs.declared.entries.Entry.{Entry}
use Rattle.lp_form.specs.Row.{value_at, Ascends}
use Rattle.column_sums.proofs.RestOfRow.{Met, met}

-- the entries one by one, each times the number of its column
abbrev pub entries_sum : List Entry → List ℤ → ℤ
entries_sum [] values = pos 0
entries_sum (entry ∷ rest) values =
    entry.value *ℤ slice_index_or values entry.col (pos 0) +ℤ entries_sum rest values

-- the next entry, and those after it
pub entries_sum-drop : (entries : List Entry) (values : List ℤ) (i : ℕ) (d : Entry) → i < length entries →
    entries_sum (drop i entries) values ≡ (get_or entries i d).value *ℤ get_or values (get_or entries i d).col (pos 0) +ℤ entries_sum (drop (suc i) entries) values
entries_sum-drop [] values i d h = absurd (omega arith)
entries_sum-drop (entry ∷ rest) values zero d h = refl
entries_sum-drop (entry ∷ rest) values (suc i) d h = entries_sum-drop rest values i d (omega arith)

pub entries_sum-end : (entries : List Entry) (values : List ℤ) (i : ℕ) → length entries ≤ i → entries_sum (drop i entries) values ≡ pos 0
entries_sum-end entries values i h = ap (λ (rest : List Entry). entries_sum rest values) (drop_all i entries h)

one_changed : (f g h x : ℤ) → f ≡ g +ℤ (h -ℤ x) → x ≡ pos 0 → f ≡ h +ℤ g
one_changed f g h x e z = omega (arith, ints, e, z)

pub entries_sum-all : (entries : List Entry) (values : List ℤ) (low cols : ℕ) → Ascends low cols entries →
    entries_sum entries values ≡ sum_to cols (λ col. value_at entries col *ℤ get_or values col (pos 0))
entries_sum-all [] values low cols up = sym (sum_to-nothing cols _ (λ col h. zero-*ℤ (get_or values col (pos 0))))
entries_sum-all (entry ∷ rest) values low cols up =
    let here : Met cols low 0 (entry ∷ rest) entry = met cols low 0 (entry ∷ rest) entry up (omega arith) in
    let whole : ℕ → ℤ = λ col. value_at (entry ∷ rest) col *ℤ get_or values col (pos 0) in
    let others : ℕ → ℤ = λ col. value_at rest col *ℤ get_or values col (pos 0) in
    let changed : sum_to cols whole ≡ sum_to cols others +ℤ (whole entry.col -ℤ others entry.col) =
    sum_to-changed cols entry.col whole others up.1 (λ k h apart. ap (λ (v : ℤ). v *ℤ get_or values k (pos 0)) (here.other k apart)) in
    let nothing : others entry.col ≡ pos 0 = ap (λ (v : ℤ). v *ℤ get_or values entry.col (pos 0)) here.rest ∙ zero-*ℤ (get_or values entry.col (pos 0)) in
    let entry_there : whole entry.col ≡ entry.value *ℤ get_or values entry.col (pos 0) = ap (λ (v : ℤ). v *ℤ get_or values entry.col (pos 0)) here.value in
    sym (one_changed (sum_to cols whole) (sum_to cols others) (whole entry.col) (others entry.col) changed nothing
    ∙ ap (λ (v : ℤ). v +ℤ sum_to cols others) entry_there
    ∙ ap (λ (v : ℤ). entry.value *ℤ get_or values entry.col (pos 0) +ℤ v) (sym (entries_sum-all rest values (entry.col + 1) cols up.3)))

pub term_size : (a b : ℤ) → unsigned_abs a < 2 ^ 51 → Narrow b → unsigned_abs (a *ℤ b) + 1 ≤ 2 ^ 113
term_size a b p q = omega (arith, product_magnitude a b (2 ^ 51 - 1) (2 ^ 62) (omega arith) (omega arith))

-- i entries add less than i times 2^113
pub next_size : (t n x : ℤ) (i : ℕ) → unsigned_abs t + i ≤ i * 2 ^ 113 → unsigned_abs n < 2 ^ 51 → Narrow x → unsigned_abs (t +ℤ n *ℤ x) + (i + 1) ≤ (i + 1) * 2 ^ 113
next_size t n x i before small narrow = omega (arith, sum_magnitude t (n *ℤ x), term_size n x small narrow, before)

pub next_passed : (r t n x : ℤ) (i : ℕ) → i < 8192 → unsigned_abs t + i ≤ i * 2 ^ 113 → unsigned_abs n < 2 ^ 51 → Narrow x → FitsSigned w64 n
    → r ≡ t +ℤ to_z w64 (of_z w64 n) *ℤ to_z w128 (of_z w128 x) → to_z w128 (of_z w128 r) ≡ t +ℤ n *ℤ x
next_passed r t n x i few before small narrow word e =
    rw (e, to_z-of_z w64 n word, narrow_returned x narrow) (returned (t +ℤ n *ℤ x) (omega (arith, next_size t n x i before small narrow)))

pub next_value : (t n x s u w : ℤ) → t +ℤ s ≡ w → s ≡ n *ℤ x +ℤ u → t +ℤ n *ℤ x +ℤ u ≡ w
next_value t n x s u w e f = omega (arith, ints, e, f)

pub all_added : (t s w : ℤ) → t +ℤ s ≡ w → s ≡ pos 0 → t ≡ w
all_added t s w e f = omega (arith, ints, e, f)
