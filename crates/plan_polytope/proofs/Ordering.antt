-- Rows are listed up to a player, a set and a sequence: a wanted row there comes behind all that are listed.
use Rattle.std.proofs.Common.{◌≡◌, ◌⊎◌, ℕ, ◌+◌, ◌<◌, ◌≤◌, List, [], ◌∷◌, ◌++◌, All, length, refl, subst, ap, inl, inr, arith}
use Rattle.std.proofs.lemmas.Bool.{cases_lt}
use Rattle.std.proofs.lemmas.List.{length_push}
use Rattle.std.proofs.lemmas.Option.{slice_get-get_or, slice_get_within}
use Rattle.corr_game.specs.declared.nodes.SetId.{SetId}
use Rattle.corr_game.specs.declared.sides.Side.{Side}
use Rattle.corr_game.specs.declared.sides.Side.TheVariants.{One, Two}
use Rattle.corr_game.specs.Game.{GameView, sets_of}
use Rattle.sequences.specs.Number.{count_of, side_of}
use Rattle.sequences.proofs.Adding.{still, pushed}
use Rattle.tree_recall.proofs.Progress.{slice_get-push}
use Rattle.connected_pairs.specs.Connected.{PairsView, other}
use Rattle.plan_polytope.specs.declared.rows.Row.{Row}
use Rattle.plan_polytope.specs.CorrelationRow.{IsRowOf}
use Rattle.plan_polytope.specs.RowOrder.{AddsWanted, AreAllRows, AreRowsBelow, IsBefore, IsLower, IsWanted}

-- the row of a player's set beside a sequence
abbrev pub row_at : Side → SetId → ℕ → Row
row_at side set beside = record {
  side = side;
  set = set;
  beside = beside;
}

lower_wide : (row : Row) (set beside : ℕ) → IsLower row set beside → IsLower row set (beside + 1)
lower_wide row set beside (inl h) = inl h
lower_wide row set beside (inr h) = inr (h.0, omega (arith, h.1))

before_wide : (row : Row) (side : Side) (set beside : ℕ) → IsBefore row side set beside → IsBefore row side set (beside + 1)
before_wide row One set beside h = (h.0, lower_wide row set beside h.1)
before_wide row Two set beside (inl h) = inl h
before_wide row Two set beside (inr h) = inr (h.0, lower_wide row set beside h.1)

lower_split : (row : Row) (set beside : ℕ) → IsLower row set (beside + 1) → IsLower row set beside ⊎ ((row.set.0 ≡ set) × (row.beside ≡ beside))
lower_split row set beside (inl h) = inl (inl h)
lower_split row set beside (inr h) = elim (cases_lt row.beside beside) [ inl low ↦ inl (inr (h.0, low)) | inr high ↦ inr (h.0, omega (arith, h.1, high)) ]

same_row : (row : Row) (side : Side) (set : SetId) (beside : ℕ) → row.side ≡ side → row.set.0 ≡ set.0 → row.beside ≡ beside → row ≡ row_at side set beside
same_row row side set beside e f g =
    let id : ℕ → SetId = λ n. record { 0 = n } in
    let sets : row.set ≡ set = ap id f in
    rw (← e, ← sets, ← g) refl

before_split : (row : Row) (side : Side) (set : SetId) (beside : ℕ) → IsBefore row side set.0 (beside + 1) → IsBefore row side set.0 beside ⊎ (row ≡ row_at side set beside)
before_split row One set beside h = elim (lower_split row set.0 beside h.1) [ inl low ↦ inl (h.0, low) | inr same ↦ inr (same_row row One set beside h.0 same.0 same.1) ]
before_split row Two set beside (inl h) = inl (inl h)
before_split row Two set beside (inr h) = elim (lower_split row set.0 beside h.1) [ inl low ↦ inl (inr (h.0, low)) | inr same ↦ inr (same_row row Two set beside h.0 same.0 same.1) ]

before_here : (side : Side) (set : SetId) (beside : ℕ) → IsBefore (row_at side set beside) side set.0 (beside + 1)
before_here One set beside = (refl, inr (refl, omega arith))
before_here Two set beside = inr (refl, inr (refl, omega arith))

list_row : (g : GameView) (p : PairsView) (side : Side) (set : SetId) (beside : ℕ) (rows : List Row) → set.0 < length (sets_of side g) → beside < count_of (side_of (other side) p.seqs)
    → IsWanted p (row_at side set beside) → AreRowsBelow g p side set.0 beside rows → AreRowsBelow g p side set.0 (beside + 1) (rows ++ row_at side set beside ∷ [])
list_row g p side set beside rows known in_range wanted h = record {
  each = λ k row e. elim (slice_get-push rows (row_at side set beside) row k e) [
    | inl there ↦ let at = h.each k row there in (at.0, before_wide row side set.0 beside at.1)
    | inr end ↦ rw (← end.1) ((known, in_range, wanted), before_here side set beside)
  ];
  all = λ row is before. elim (before_split row side set beside before) [
    | inl earlier ↦ let at = h.all row is earlier in (at.0, still rows (row_at side set beside ∷ []) at.0 row at.1)
    | inr same ↦ rw same (length rows, pushed rows (row_at side set beside) (length rows) refl)
  ];
  in_order = λ j k a b low e f. elim (slice_get-push rows (row_at side set beside) b k f) [
    | inl there ↦ elim (slice_get-push rows (row_at side set beside) a j e) [
      | inl also ↦ h.in_order j k a b low also there
      | inr end ↦ absurd (omega (arith, low, end.0, slice_get_within rows k b there))
    ]
    | inr last ↦ elim (slice_get-push rows (row_at side set beside) a j e) [
      | inl also ↦ rw (← last.1) (h.each j a also).1
      | inr end ↦ absurd (omega (arith, low, end.0, last.0))
    ]
  ];
}

list_none : (g : GameView) (p : PairsView) (side : Side) (set : SetId) (beside : ℕ) (rows : List Row) → (IsWanted p (row_at side set beside) → ⊥) → AreRowsBelow g p side set.0 beside rows → AreRowsBelow g p side set.0 (beside + 1) rows
list_none g p side set beside rows unwanted h = record {
  each = λ k row e. (let at = h.each k row e in (at.0, before_wide row side set.0 beside at.1));
  all = λ row is before. elim (before_split row side set beside before) [
    | inl earlier ↦ h.all row is earlier
    | inr same ↦ let P : Row → Type 0 = λ r. IsWanted p r in absurd (unwanted (subst P same is.2))
  ];
  in_order = h.in_order;
}

pub list_more : (g : GameView) (p : PairsView) (side : Side) (set : SetId) (beside : ℕ) (old new : List Row) → set.0 < length (sets_of side g) → beside < count_of (side_of (other side) p.seqs)
    → AddsWanted p (row_at side set beside) old new → AreRowsBelow g p side set.0 beside old → AreRowsBelow g p side set.0 (beside + 1) new
list_more g p side set beside old new known in_range (inl h) below = rw h.1 (list_row g p side set beside old known in_range h.0 below)
list_more g p side set beside old new known in_range (inr h) below = rw h.1 (list_none g p side set beside old h.0 below)

-- a row more at most
pub added_few : (p : PairsView) (row : Row) (old new : List Row) → AddsWanted p row old new → length new ≤ length old + 1
added_few p row old new (inl h) = omega (arith, ap length h.1, length_push old row)
added_few p row old new (inr h) = omega (arith, ap length h.1)

-- the rows below one limit are those below another
below_as : (g : GameView) (p : PairsView) (side next : Side) (set beside to from : ℕ) (rows : List Row) → ((row : Row) → IsRowOf g p row → IsBefore row side set beside → IsBefore row next to from)
    → ((row : Row) → IsRowOf g p row → IsBefore row next to from → IsBefore row side set beside) → AreRowsBelow g p side set beside rows → AreRowsBelow g p next to from rows
below_as g p side next set beside to from rows on back h = record {
  each = λ k row e. (let at = h.each k row e in (at.0, on row at.0 at.1));
  all = λ row is before. h.all row is (back row is before);
  in_order = h.in_order;
}

-- below the last sequence of a set is below the next set
lower_on : (row : Row) (set beside : ℕ) → IsLower row set beside → IsLower row (set + 1) 0
lower_on row set beside (inl h) = inl (omega (arith, h))
lower_on row set beside (inr h) = inl (omega (arith, h.0))

lower_back : (row : Row) (set beside : ℕ) → row.beside < beside → IsLower row (set + 1) 0 → IsLower row set beside
lower_back row set beside low (inl h) = elim (cases_lt row.set.0 set) [ inl lower ↦ inl lower | inr last ↦ inr (omega (arith, h, last), low) ]
lower_back row set beside low (inr h) = absurd (omega (arith, h.1))

set_on : (row : Row) (side : Side) (set beside : ℕ) → IsBefore row side set beside → IsBefore row side (set + 1) 0
set_on row One set beside h = (h.0, lower_on row set beside h.1)
set_on row Two set beside (inl h) = inl h
set_on row Two set beside (inr h) = inr (h.0, lower_on row set beside h.1)

set_back : (g : GameView) (p : PairsView) (row : Row) (side : Side) (set beside : ℕ) → beside ≡ count_of (side_of (other side) p.seqs) → IsRowOf g p row → IsBefore row side (set + 1) 0 → IsBefore row side set beside
set_back g p row One set beside all is h =
    let same = ap (λ (s : Side). count_of (side_of (other s) p.seqs)) h.0 in
    (h.0, lower_back row set beside (omega (arith, all, same, is.1)) h.1)
set_back g p row Two set beside all is (inl h) = inl h
set_back g p row Two set beside all is (inr h) =
    let same = ap (λ (s : Side). count_of (side_of (other s) p.seqs)) h.0 in
    inr (h.0, lower_back row set beside (omega (arith, all, same, is.1)) h.1)

pub next_set : (g : GameView) (p : PairsView) (side : Side) (set beside : ℕ) (rows : List Row) → beside ≡ count_of (side_of (other side) p.seqs) → AreRowsBelow g p side set beside rows → AreRowsBelow g p side (set + 1) 0 rows
next_set g p side set beside rows all h =
    below_as g p side side set beside (set + 1) 0 rows (λ row is before. set_on row side set beside before) (λ row is before. set_back g p row side set beside all is before) h

-- no row comes before the first set of the first player
pub nothing_below : (g : GameView) (p : PairsView) → AreRowsBelow g p One 0 0 []
nothing_below g p = record {
  each = λ k row e. absurd (cc e);
  all = λ row is before. elim before.1 [ inl h ↦ absurd (omega (arith, h)) | inr h ↦ absurd (omega (arith, h.1)) ];
  in_order = λ j k a b low e f. absurd (cc e);
}

second_on : (g : GameView) (p : PairsView) (row : Row) → IsRowOf g p row → IsBefore row Two 0 0 → IsBefore row One (length (sets_of One g)) 0
second_on g p row is (inl h) =
    let same = ap (λ (s : Side). length (sets_of s g)) h in
    (h, inl (omega (arith, same, is.0)))
second_on g p row is (inr h) = elim h.1 [ inl low ↦ absurd (omega (arith, low)) | inr low ↦ absurd (omega (arith, low.1)) ]

-- behind the first player's sets the second player's begin
pub second_player : (g : GameView) (p : PairsView) (rows : List Row) → AreRowsBelow g p One (length (sets_of One g)) 0 rows → AreRowsBelow g p Two 0 0 rows
second_player g p rows h =
    below_as g p One Two (length (sets_of One g)) 0 0 0 rows (λ row is before. inl before.0) (λ row is before. second_on g p row is before) h

whole_side : (g : GameView) (p : PairsView) (row : Row) (side : Side) → row.side ≡ side → IsRowOf g p row → IsBefore row Two (length (sets_of Two g)) 0
whole_side g p row One e is = inl e
whole_side g p row Two e is =
    let same = ap (λ (s : Side). length (sets_of s g)) e in
    inr (e, inl (omega (arith, same, is.0)))

-- each row comes before the end of the second player's sets
pub all_listed : (g : GameView) (p : PairsView) (rows : List Row) → AreRowsBelow g p Two (length (sets_of Two g)) 0 rows → AreAllRows g p rows
all_listed g p rows h = record {
  each = λ k row e. (h.each k row e).0;
  all = λ row is. h.all row is (whole_side g p row row.side refl is);
  in_order = h.in_order;
}

pub all_known : (g : GameView) (p : PairsView) (side : Side) (set beside : ℕ) (rows : List Row) → AreRowsBelow g p side set beside rows → All (IsRowOf g p) rows
all_known g p side set beside rows h = λ k d low. (h.each k _ (slice_get-get_or rows k d low)).0
