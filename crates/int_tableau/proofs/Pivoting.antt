-- What a pivot makes of the stored lists, and the content that they stand for: the pivot's row is put back with its signs
-- turned, each other row is eliminated by it, and the basis and the denominator follow.
use Rattle.std.proofs.Common.{◌≡◌, ◌≢◌, ◌⊎◌, inl, inr, ℕ, zero, suc, ◌+◌, ◌^◌, ◌<◌, ◌≤◌, Bool, true, false, List, [], ◌++◌, length, take, drop, set, slice_index_or, ℤ, pos, negsuc, ◌*ℤ◌, ◌<ℤ◌, ◌∙◌, refl, sym, ap, arith, get_or-set_same, get_or-set_other}
use Rattle.std.proofs.lemmas.Int.{ints}
use Rattle.std.proofs.lemmas.Bool.{cases_eq}
use Rattle.std.proofs.lemmas.List.{take_at, length-set, get_or_default}
use Rattle.std.proofs.lemmas.List.Elements.{All-from_get_or, All-get_or, All-set}
use Rattle.lp_form.specs.declared.places.RowName.{RowName}
use Rattle.lp_form.specs.declared.places.RowName.TheVariants.{Basic, First, Second, Phase}
use Rattle.corr_num.specs.Narrow.{Narrow}
use Rattle.corr_num.specs.Quotient.{IsQuotient}
use Rattle.int_tableau.specs.Content.{IsTableau, IsNamed}
use Rattle.int_tableau.specs.Elimination.{IsRow, at, eliminated, IsEliminated, IsWideIn}
use Rattle.int_tableau.specs.Naming.{NamesRow}
use Rattle.exact_linear.specs.Pivot.{turned}
use Rattle.int_tableau.specs.Reached.{IsReached}
use Rattle.int_tableau.specs.Pivot.{numerator, IsNextBasis, IsPivoted, EndsWide}
use Rattle.int_tableau.specs.Stored.{Stored, content_of, IsStored}
use Rattle.int_tableau.proofs.Reaching.{quotient_of, start_kept}

-- a list that is written over whole
pub whole_written : {A : Type 0} (n : ℕ) (new old : List A) → length new ≡ length old → n ≡ length old → take n (new ++ drop (length new) old) ≡ new
whole_written n new old e f = take_at new (drop (length new) old) n (sym (f ∙ sym e))

pub turned_positive : (x : ℤ) → x ≢ pos 0 → pos 0 <ℤ turned x x
turned_positive (pos zero) h = absurd (h refl)
turned_positive (pos (suc n)) h = omega (arith, ints)
turned_positive (negsuc n) h = omega (arith, ints)

pub turned_narrow : (x y : ℤ) → Narrow y → Narrow (turned x y)
turned_narrow (pos n) y h = h
turned_narrow (negsuc n) y h = omega (arith, ints)

-- the row of a program, as a list
abbrev pub row_of : Stored → ℕ → List ℤ
row_of s row = slice_index_or s.rows row []

-- the parts of a pivot: the row taken out, the same with its signs turned, and the rows after elimination
pub record Parts (s : Stored) (row col : ℕ) (chosen : List ℤ) (others : List (List ℤ)) : Type 0 where
  pub rules : IsStored s
  pub fresh : s.spent ≡ false
  pub program_row : row + 3 < length s.rows
  pub column : col + 1 < s.cols
  pub not_zero : at (row_of s row) col ≢ pos 0
  pub width : length chosen ≡ length (row_of s row)
  pub turned_is : (k : ℕ) → k < length (row_of s row) → at chosen k ≡ turned (at (row_of s row) col) (at (row_of s row) k)
  pub all : length others ≡ length s.rows

-- what is stored after the pivot
abbrev pub after : Stored → ℕ → ℕ → List ℤ → List (List ℤ) → Bool → Stored
after s row col chosen others spent = record {
  cols = s.cols;
  rows = set others row chosen;
  basis = set s.basis row col;
  denom = at chosen col;
  spent = spent;
}

is_row : (s : Stored) (i : ℕ) → IsStored s → s.spent ≡ false → i < length s.rows → IsRow s.cols (row_of s i)
is_row s i rules fresh h = All-get_or (IsRow s.cols) s.rows i [] h (rules.each_row fresh)

pub chosen_row : (s : Stored) (row col : ℕ) (chosen : List ℤ) (others : List (List ℤ)) → Parts s row col chosen others → IsRow s.cols chosen
chosen_row s row col chosen others p =
    let old = is_row s row p.rules p.fresh (omega (arith, p.program_row)) in
    record {
      width = p.width ∙ old.width;
      narrow = All-from_get_or Narrow chosen (pos 0) (λ k h.
          let inside : k < length (row_of s row) = omega (arith, p.width) in
          rw (p.turned_is k inside) (turned_narrow (at (row_of s row) col) (at (row_of s row) k) (All-get_or Narrow (row_of s row) k (pos 0) inside old.narrow)));
    }

-- a row is as wide as it is
pub own_width : {cols : ℕ} {row : List ℤ} → IsRow cols row → IsRow (length row) row
own_width r = record { width = refl; narrow = r.narrow }

pub pivot_positive : (s : Stored) (row col : ℕ) (chosen : List ℤ) (others : List (List ℤ)) → Parts s row col chosen others → pos 0 <ℤ at chosen col
pivot_positive s row col chosen others p =
    let old = is_row s row p.rules p.fresh (omega (arith, p.program_row)) in
    let inside : col < length (row_of s row) = omega (arith, p.column, old.width) in
    rw (p.turned_is col inside) (turned_positive (at (row_of s row) col) p.not_zero)

pub pivot_narrow : (s : Stored) (row col : ℕ) (chosen : List ℤ) (others : List (List ℤ)) → Parts s row col chosen others → Narrow (at chosen col)
pivot_narrow s row col chosen others p =
    let new = chosen_row s row col chosen others p in
    All-get_or Narrow chosen col (pos 0) (omega (arith, p.column, new.width)) new.narrow

-- every row but the pivot's is eliminated
abbrev pub AllEliminated : Stored → ℕ → ℕ → List ℤ → List (List ℤ) → Type 0
AllEliminated s row col chosen others = (i : ℕ) → i < length s.rows → i ≢ row → IsEliminated (row_of s i) chosen col s.denom (slice_index_or others i [])

row_after : (s : Stored) (row col : ℕ) (chosen : List ℤ) (others : List (List ℤ)) → Parts s row col chosen others → AllEliminated s row col chosen others → (i : ℕ) → i < length s.rows → (i ≡ row) ⊎ (i ≢ row) → IsRow s.cols (slice_index_or (set others row chosen) i [])
row_after s row col chosen others p all i h (inl e) =
    let inside : row < length others = omega (arith, p.all, p.program_row) in
    rw (e, get_or-set_same) (chosen_row s row col chosen others p)
row_after s row col chosen others p all i h (inr other) =
    let old = is_row s i p.rules p.fresh h in
    rw (get_or-set_other, ← old.width) (all i h other).is_row

-- a basis with the new column in the pivot's row
basis_after : (s : Stored) (row col : ℕ) (chosen : List ℤ) (others : List (List ℤ)) (spent : Bool) → Parts s row col chosen others → IsNextBasis (content_of s) (content_of (after s row col chosen others spent)) row col
basis_after s row col chosen others spent p =
    let inside : row < length s.basis = omega (arith, p.program_row, p.rules.three_more) in
    record {
      rows = length-set others row chosen ∙ p.all;
      cols = refl;
      enters = rw get_or-set_same;
      others = λ i other. rw get_or-set_other;
    }

sizes_after : (s : Stored) (row col : ℕ) (chosen : List ℤ) (others : List (List ℤ)) → Parts s row col chosen others → (length (set others row chosen) ≡ length (set s.basis row col) + 3) × (length (set s.basis row col) < s.cols) × (length (set s.basis row col) ≤ 2 ^ 24)
sizes_after s row col chosen others p =
    let rows = length-set others row chosen in
    let basis = length-set s.basis row col in
    (omega (arith, p.all, p.rules.three_more), omega (arith, p.rules.artificial), omega (arith, p.rules.few_rows))

quotient_at : (s : Stored) (row col : ℕ) (chosen : List ℤ) (others : List (List ℤ)) → Parts s row col chosen others → (i j : ℕ) (q : ℤ) → j < s.cols → IsQuotient (numerator (content_of s) row col i j) s.denom q → IsQuotient (eliminated (row_of s i) chosen col j) s.denom q
quotient_at s row col chosen others p i j q h e =
    let old = is_row s row p.rules p.fresh (omega (arith, p.program_row)) in
    let at_col : col < length (row_of s row) = omega (arith, p.column, old.width) in
    let at_j : j < length (row_of s row) = omega (arith, old.width) in
    rw (p.turned_is col at_col, p.turned_is j at_j) e

-- what the old denominator leaves of an entry of another row
parts_quotient : (s : Stored) (row col : ℕ) (chosen : List ℤ) (others : List (List ℤ)) → Parts s row col chosen others → (i j : ℕ) → i < length s.rows → i ≢ row → j < s.cols → (q : ℤ) × IsQuotient (numerator (content_of s) row col i j) s.denom q
parts_quotient s row col chosen others p i j h other k =
    quotient_of (content_of s) row col (omega (arith, p.rules.three_more)) p.program_row p.column (p.rules.reached p.fresh) i j h other k

pub pivoted_after : (s : Stored) (row col : ℕ) (chosen : List ℤ) (others : List (List ℤ)) → Parts s row col chosen others → AllEliminated s row col chosen others → IsPivoted (content_of s) (content_of (after s row col chosen others s.spent)) row col
pivoted_after s row col chosen others p all =
    let old = is_row s row p.rules p.fresh (omega (arith, p.program_row)) in
    let inside : row < length others = omega (arith, p.all, p.program_row) in
    record {
      fresh = p.fresh;
      basis = basis_after s row col chosen others s.spent p;
      denom = p.turned_is col (omega (arith, p.column, old.width));
      pivot = λ j h. rw get_or-set_same (p.turned_is j (omega (arith, old.width)));
      others = λ i j h k other.
          let quotient = parts_quotient s row col chosen others p i j h other k in
          let inside : j < length (row_of s i) = omega (arith, (is_row s i p.rules p.fresh h).width) in
          let same : at (slice_index_or (set others row chosen) i []) j ≡ quotient.0 = rw get_or-set_other ((all i h other).exact j quotient.0 inside (quotient_at s row col chosen others p i j quotient.0 k quotient.1)) in
          ap (λ x. x *ℤ s.denom) same ∙ quotient.1;
    }

reached_after : (s : Stored) (row col : ℕ) (chosen : List ℤ) (others : List (List ℤ)) → Parts s row col chosen others → AllEliminated s row col chosen others → IsReached (content_of (after s row col chosen others s.spent))
reached_after s row col chosen others p all =
    let reached = p.rules.reached p.fresh in
    (reached.0, start_kept reached.0 (content_of s) (content_of (after s row col chosen others s.spent)) row col (omega (arith, p.rules.three_more)) p.program_row p.column p.not_zero (pivoted_after s row col chosen others p all) reached.1)

pub stored_after : (s : Stored) (row col : ℕ) (chosen : List ℤ) (others : List (List ℤ)) → Parts s row col chosen others → AllEliminated s row col chosen others → IsStored (after s row col chosen others s.spent)
stored_after s row col chosen others p all =
    let sizes = sizes_after s row col chosen others p in
    record {
      three_more = sizes.0;
      artificial = sizes.1;
      few_rows = sizes.2;
      few_columns = p.rules.few_columns;
      basis = All-set (λ c. c + 1 < s.cols) s.basis row col p.column p.rules.basis;
      positive = λ fresh. pivot_positive s row col chosen others p;
      narrow_denom = λ fresh. pivot_narrow s row col chosen others p;
      each_row = λ fresh. All-from_get_or (IsRow s.cols) (set others row chosen) [] (λ i h.
          row_after s row col chosen others p all i (omega (arith, length-set others row chosen, p.all)) (cases_eq i row));
      reached = λ fresh. reached_after s row col chosen others p all;
    }

pub spent_after : (s : Stored) (row col : ℕ) (chosen : List ℤ) (others : List (List ℤ)) → Parts s row col chosen others → IsStored (after s row col chosen others true)
spent_after s row col chosen others p =
    let sizes = sizes_after s row col chosen others p in
    record {
      three_more = sizes.0;
      artificial = sizes.1;
      few_rows = sizes.2;
      few_columns = p.rules.few_columns;
      basis = All-set (λ c. c + 1 < s.cols) s.basis row col p.column p.rules.basis;
      positive = λ fresh. absurd (cc);
      narrow_denom = λ fresh. absurd (cc);
      each_row = λ fresh. absurd (cc);
      reached = λ fresh. absurd (cc);
    }

-- a name over the basis is a name in the content
pub named_in : (s : Stored) (i : ℕ) (name : RowName) → IsStored s → NamesRow s.basis i name → IsNamed (content_of s) i name
named_in s i (Basic col) rules n = (omega (arith, rules.three_more, n.0), n.1)
named_in s i First rules n = omega (arith, rules.three_more, n)
named_in s i Second rules n = omega (arith, rules.three_more, n)
named_in s i Phase rules n = omega (arith, rules.three_more, n)

pub wide_after : (s : Stored) (row col : ℕ) (chosen : List ℤ) (others : List (List ℤ)) (i j : ℕ) (name : RowName) → Parts s row col chosen others → i < length s.rows → i ≢ row → IsWideIn (row_of s i) chosen col s.denom j → NamesRow (set s.basis row col) i name → EndsWide (content_of s) (content_of (after s row col chosen others true)) row col record { row = name; col = j }
wide_after s row col chosen others i j name p h other w n =
    let columns = (is_row s i p.rules p.fresh h).width in
    let inside : j < s.cols = omega (arith, w.inside) in
    let quotient = parts_quotient s row col chosen others p i j h other inside in
    record {
      spent = refl;
      basis = basis_after s row col chosen others true p;
      at = i;
      other = other;
      in_rows = h;
      named = named_in (after s row col chosen others true) i name (spent_after s row col chosen others p) n;
      in_columns = inside;
      entry = quotient.0;
      entry_is = quotient.1;
      wide = w.wide quotient.0 (quotient_at s row col chosen others p i j quotient.0 inside quotient.1);
    }

-- the content of what is stored is a tableau
pub tableau_of : (s : Stored) → IsStored s → IsTableau (content_of s)
tableau_of s rules = record {
  three_more = omega (arith, rules.three_more);
  artificial = omega (arith, rules.three_more, rules.artificial);
  few_rows = omega (arith, rules.three_more, rules.few_rows);
  few_columns = rules.few_columns;
  basis = λ row h. All-get_or (λ c. c + 1 < s.cols) s.basis row 0 (omega (arith, rules.three_more)) rules.basis;
  positive = rules.positive;
  narrow_denom = rules.narrow_denom;
  narrow = λ fresh row col h k.
      let r = is_row s row rules fresh h in
      All-get_or Narrow (row_of s row) col (pos 0) (omega (arith, r.width)) r.narrow;
  reached = rules.reached;
}

-- ---- the parts as the calls say them: the row is read and taken out, turned, and the others are eliminated in place

pub parts_of : (s self : Stored) (row col : ℕ) (read removed chosen empty : List ℤ) (lent others : List (List ℤ)) → s ≡ self → IsStored s → self.spent ≡ false → row + 3 < length self.rows → col + 1 < self.cols → at (row_of self row) col ≢ pos 0 → removed ≡ read → read ≡ slice_index_or s.rows row read → length chosen ≡ length removed → ((k : ℕ) → k < length removed → at chosen k ≡ turned (at removed col) (at removed k)) → lent ≡ set s.rows row empty → length others ≡ length lent → Parts s row col chosen others
parts_of s self row col read removed chosen empty lent others view rules fresh program_row column not_zero f g width is h all =
    let few : row + 3 < length s.rows = rw view program_row in
    let same : removed ≡ row_of s row = f ∙ g ∙ get_or_default s.rows row read [] (omega arith) in
    record {
      rules = rules;
      fresh = rw view fresh;
      program_row = few;
      column = rw view column;
      not_zero = rw view not_zero;
      width = rw same at width;
      turned_is = rw same at is;
      all = all ∙ ap length h ∙ length-set s.rows row empty;
    }

pub eliminated_of : (s : Stored) (row col : ℕ) (chosen empty : List ℤ) (lent others : List (List ℤ)) (denom : ℤ) → lent ≡ set s.rows row empty → denom ≡ s.denom → ((i : ℕ) → i < length lent → i ≢ row → IsEliminated (slice_index_or lent i []) chosen col denom (slice_index_or others i [])) → AllEliminated s row col chosen others
eliminated_of s row col chosen empty lent others denom e d all = λ i h other.
    let said = (rw (e, d) at all) i (omega (arith, length-set s.rows row empty)) other in
    rw get_or-set_other at said

pub wide_of : (s : Stored) (row col : ℕ) (chosen empty : List ℤ) (lent others : List (List ℤ)) (denom : ℤ) (i j : ℕ) (basis : List ℕ) (name : RowName) → Parts s row col chosen others → lent ≡ set s.rows row empty → denom ≡ s.denom → i < length lent → i ≢ row → IsWideIn (slice_index_or lent i []) chosen col denom j → basis ≡ set s.basis row col → NamesRow basis i name → EndsWide (content_of s) (content_of (after s row col chosen others true)) row col record { row = name; col = j }
wide_of s row col chosen empty lent others denom i j basis name p e d h other w f n =
    let inside : i < length s.rows = omega (arith, length-set s.rows row empty, ap length e) in
    let said = rw get_or-set_other at (rw (e, d) at w) in
    wide_after s row col chosen others i j name p inside other said (rw f at n)
