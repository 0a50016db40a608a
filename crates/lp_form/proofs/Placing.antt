-- One entry of a row in ascending order: a search by halving ends where the entries before stand in lower columns and
-- the next does not; what is stored there or put there changes that column and no other. By induction on the row.
use Rattle.std.proofs.Common.{◌≡◌, ◌≢◌, ℕ, ◌+◌, ◌<◌, ◌≤◌, suc, zero, List, [], ◌∷◌, Some, length, slice_get, slice_index_or, ℤ, pos, nat_eq, cond, FitsSigned, refl, sym, ap, subst, arith}
use Rattle.std.proofs.lemmas.Bool.Decides.{nat_tests}
use Rattle.std.specs.Int.{w64}
use Rattle.std.specs.List.{insert}
use Rattle.std.proofs.Math.ListN.{set}
use Rattle.lp_form.specs.declared.entries.Entry.{Entry}
use Rattle.lp_form.specs.Row.{value_at, Ascends, IsRow, StartsBehind, IsStored, IsFree}

-- the place lies from `low` to `high`: entries before `low` stand in lower columns, that at `high` doesn't
pub record Within (entries : List Entry) (col low high : ℕ) : Type 0 where
  pub ordered : low ≤ high
  pub in_range : high ≤ length entries
  pub before : (k : ℕ) (entry : Entry) → suc k ≡ low → slice_get entries k ≡ Some entry → entry.col < col
  pub behind : (entry : Entry) → slice_get entries high ≡ Some entry → col ≤ entry.col

within_rest : (entry : Entry) (rest : List Entry) (col at : ℕ) → Within (entry ∷ rest) col (suc at) (suc at) → Within rest col at at
within_rest entry rest col at w = record {
  ordered = omega arith;
  in_range = omega (arith, w.in_range);
  before = λ k e p q. w.before (suc k) e (ap suc p) q;
  behind = w.behind;
}

-- where the halves have met and an entry of this column stands, it is stored
pub stored_found : (entries : List Entry) (low cols col at : ℕ) (d : Entry) → Ascends low cols entries → Within entries col at at → at < length entries → (slice_index_or entries at d).col ≡ col → IsStored entries col at
stored_found [] low cols col at d up w inside same = absurd (omega arith)
stored_found (entry ∷ rest) low cols col zero d up w inside same = same
stored_found (entry ∷ rest) low cols col (suc zero) d up w inside same =
    (w.before 0 entry refl refl, stored_found rest (entry.col + 1) cols col zero d up.3 (within_rest entry rest col zero w) (omega arith) same)
stored_found (entry ∷ []) low cols col (suc (suc at)) d up w inside same = absurd (omega arith)
stored_found (entry ∷ next ∷ rest) low cols col (suc (suc at)) d up w inside same =
    let inner = stored_found (next ∷ rest) (entry.col + 1) cols col (suc at) d up.3 (within_rest entry (next ∷ rest) col (suc at) w) (omega arith) same in
    (omega (arith, inner.0, up.3.0), inner)

-- where the halves have met and no entry of this column stands, the place is free
pub free_found : (entries : List Entry) (low cols col at : ℕ) (d : Entry) → Ascends low cols entries → Within entries col at at → (at < length entries → (slice_index_or entries at d).col ≢ col) → IsFree entries col at
free_found [] low cols col zero d up w other = tt
free_found (entry ∷ rest) low cols col zero d up w other =
    let differs : entry.col ≢ col = other (omega arith) in omega (arith, w.behind entry refl)
free_found [] low cols col (suc at) d up w other = absurd (omega (arith, w.in_range))
free_found (entry ∷ rest) low cols col (suc zero) d up w other =
    (w.before 0 entry refl refl, free_found rest (entry.col + 1) cols col zero d up.3 (within_rest entry rest col zero w) (λ h. other (omega arith)))
free_found (entry ∷ []) low cols col (suc (suc at)) d up w other = absurd (omega (arith, w.in_range))
free_found (entry ∷ next ∷ rest) low cols col (suc (suc at)) d up w other =
    let inner = free_found (next ∷ rest) (entry.col + 1) cols col (suc at) d up.3 (within_rest entry (next ∷ rest) col (suc at) w) (λ h. other (omega arith)) in
    (omega (arith, inner.0, up.3.0), inner)

value_at-hit : (entry : Entry) (rest : List Entry) (col : ℕ) → entry.col ≡ col → value_at (entry ∷ rest) col ≡ entry.value
value_at-hit entry rest col e = grind (arith, nat_tests)

pub value_at-miss : (entry : Entry) (rest : List Entry) (col : ℕ) → entry.col ≢ col → value_at (entry ∷ rest) col ≡ value_at rest col
value_at-miss entry rest col e = grind (arith, nat_tests)

-- what is stored is the coefficient
pub stored_value : (entries : List Entry) (col at : ℕ) (d : Entry) → IsStored entries col at → (slice_index_or entries at d).value ≡ value_at entries col
stored_value [] col at d s = absurd s
stored_value (entry ∷ rest) col zero d s = sym (value_at-hit entry rest col s)
stored_value (entry ∷ rest) col (suc at) d s =
    let below : entry.col < col = s.0 in
    let miss : entry.col ≢ col = λ same. omega arith in
    rw (value_at-miss entry rest col miss) (stored_value rest col at d s.1)

value_below : (entries : List Entry) (low cols col : ℕ) → Ascends low cols entries → col < low → value_at entries col ≡ pos 0
value_below [] low cols col up h = refl
value_below (entry ∷ rest) low cols col up h =
    let behind : low ≤ entry.col = up.0 in
    let miss : entry.col ≢ col = λ same. omega arith in
    rw (value_at-miss entry rest col miss) (value_below rest (entry.col + 1) cols col up.3 (omega arith))

-- a free place has coefficient 0
pub free_value : (entries : List Entry) (low cols col at : ℕ) → Ascends low cols entries → IsFree entries col at → value_at entries col ≡ pos 0
free_value [] low cols col zero up f = refl
free_value (entry ∷ rest) low cols col zero up f =
    value_below (entry ∷ rest) entry.col cols col (omega arith, up.1, up.2, up.3) f
free_value [] low cols col (suc at) up f = absurd f
free_value (entry ∷ rest) low cols col (suc at) up f =
    let below : entry.col < col = f.0 in
    let miss : entry.col ≢ col = λ same. omega arith in
    rw (value_at-miss entry rest col miss) (free_value rest (entry.col + 1) cols col at up.3 f.1)

-- one column of a row has this value now, the others are as they were, and the row is one still
pub record Changed (low cols col : ℕ) (value : ℤ) (old new : List Entry) : Type 0 where
  pub row : Ascends low cols new
  pub placed : value_at new col ≡ value
  pub others : (k : ℕ) → k ≢ col → value_at new k ≡ value_at old k

-- an entry in front of the change
changed_behind : (entry : Entry) (low cols col : ℕ) (value : ℤ) (old new : List Entry) → low ≤ entry.col → entry.col < cols → FitsSigned w64 entry.value → entry.col < col → Changed (entry.col + 1) cols col value old new → Changed low cols col value (entry ∷ old) (entry ∷ new)
changed_behind entry low cols col value old new least most fits below c = record {
  row = (least, most, fits, c.row);
  placed = let miss : entry.col ≢ col = λ same. omega arith in rw (value_at-miss entry new col miss) c.placed;
  others = λ k other. ap (λ v. cond (nat_eq entry.col k) entry.value v) (c.others k other);
}

-- an entry written over
pub changed_set : (entries : List Entry) (low cols col at : ℕ) (value : ℤ) → FitsSigned w64 value → Ascends low cols entries → IsStored entries col at → Changed low cols col value entries (set entries at record { col = col; value = value })
changed_set [] low cols col at value fits up s = absurd s
changed_set (entry ∷ rest) low cols col zero value fits up s = record {
  row = let P : ℕ → Type 0 = λ n. (low ≤ n) × (n < cols) × FitsSigned w64 value × Ascends (n + 1) cols rest in subst P s (up.0, up.1, fits, up.3);
  placed = value_at-hit record { col = col; value = value } rest col refl;
  others = λ k other.
      let new : Entry = record { col = col; value = value } in
      let miss : col ≢ k = λ same. other (sym same) in
      let old : entry.col ≢ k = λ same. other (omega (arith, s, same)) in
      rw (value_at-miss new rest k miss, value_at-miss entry rest k old) refl;
}
changed_set (entry ∷ rest) low cols col (suc at) value fits up s =
    changed_behind entry low cols col value rest (set rest at record { col = col; value = value }) up.0 up.1 up.2 s.0
    (changed_set rest (entry.col + 1) cols col at value fits up.3 s.1)

insert_front : (entries : List Entry) (low cols col : ℕ) (value : ℤ) → FitsSigned w64 value → Ascends low cols entries → StartsBehind col entries → low ≤ col → col < cols → Changed low cols col value entries (record { col = col; value = value } ∷ entries)
insert_front entries low cols col value fits up f least most = record {
  row = (least, most, fits, ascends_on entries low cols col up f);
  placed = value_at-hit record { col = col; value = value } entries col refl;
  others = λ k other. value_at-miss record { col = col; value = value } entries k (λ same. other (sym same));
}
  where
    ascends_on : (entries : List Entry) (low cols col : ℕ) → Ascends low cols entries → StartsBehind col entries → Ascends (col + 1) cols entries
    ascends_on [] low cols col up f = tt
    ascends_on (entry ∷ rest) low cols col up f = (omega (arith, f), up.1, up.2, up.3)

-- an entry put in at a free place
pub changed_insert : (entries : List Entry) (low cols col at : ℕ) (value : ℤ) → FitsSigned w64 value → Ascends low cols entries → IsFree entries col at → low ≤ col → col < cols → Changed low cols col value entries (insert entries at record { col = col; value = value })
changed_insert entries low cols col zero value fits up f least most = insert_front entries low cols col value fits up f least most
changed_insert [] low cols col (suc at) value fits up f least most = absurd f
changed_insert (entry ∷ rest) low cols col (suc at) value fits up f least most =
    changed_behind entry low cols col value rest (insert rest at record { col = col; value = value }) up.0 up.1 up.2 f.0
    (changed_insert rest (entry.col + 1) cols col at value fits up.3 f.1 (omega (arith, f.0)) most)

pub set_over : {self items lent : List Entry} {cols col : ℕ} (at : ℕ) {value bits : ℤ} → items ≡ self → lent ≡ items → bits ≡ value → FitsSigned w64 value → ((cols : ℕ) → IsRow cols lent → IsStored lent col at) → IsRow cols self → Changed 0 cols col value self (set items at record { col = col; value = bits })
set_over {self} {items} {lent} {cols} {col} at {value} {bits} e f g fits stored up =
    let same : lent ≡ self = cc in
    let S : List Entry → Type 0 = λ l. IsStored l col at in
    let R : List Entry → Type 0 = λ l. IsRow cols l in
    rw (e, g) (changed_set self 0 cols col at value fits up (subst S same (stored cols (subst R (sym same) up))))

pub put_in : {self items lent new : List Entry} {cols col : ℕ} (at : ℕ) {value bits : ℤ} → items ≡ self → lent ≡ items → bits ≡ value → FitsSigned w64 value → ((cols : ℕ) → IsRow cols lent → IsFree lent col at) → new ≡ insert items at record { col = col; value = bits } → col < cols → IsRow cols self → Changed 0 cols col value self new
put_in {self} {items} {lent} {new} {cols} {col} at {value} {bits} e f g fits free made most up =
    let same : lent ≡ self = cc in
    let F : List Entry → Type 0 = λ l. IsFree l col at in
    let R : List Entry → Type 0 = λ l. IsRow cols l in
    rw (made, e, g) (changed_insert self 0 cols col at value fits up (subst F same (free cols (subst R (sym same) up))) (omega arith) most)

-- an entry that is stored is one of few
pub stored_inside : (entries : List Entry) (col at : ℕ) → IsStored entries col at → at < length entries
stored_inside [] col at s = absurd s
stored_inside (entry ∷ rest) col zero s = omega arith
stored_inside (entry ∷ rest) col (suc at) s = omega (arith, stored_inside rest col at s.1)

pub free_inside : (entries : List Entry) (col at : ℕ) → IsFree entries col at → at ≤ length entries
free_inside entries col zero f = omega arith
free_inside [] col (suc at) f = absurd f
free_inside (entry ∷ rest) col (suc at) f = omega (arith, free_inside rest col at f.1)

pub stored_fits : (entries : List Entry) (low cols col at : ℕ) (d : Entry) → Ascends low cols entries → IsStored entries col at → FitsSigned w64 (slice_index_or entries at d).value
stored_fits [] low cols col at d up s = absurd s
stored_fits (entry ∷ rest) low cols col zero d up s = up.2
stored_fits (entry ∷ rest) low cols col (suc at) d up s = stored_fits rest (entry.col + 1) cols col at d up.3 s.1

-- columns below 2^32 leave room for no more entries than columns
pub few_entries : (entries : List Entry) (low cols : ℕ) → low ≤ cols → Ascends low cols entries → low + length entries ≤ cols
few_entries [] low cols h up = omega arith
few_entries (entry ∷ rest) low cols h up = omega (arith, up.0, up.1, few_entries rest (entry.col + 1) cols (omega (arith, up.1)) up.3)
