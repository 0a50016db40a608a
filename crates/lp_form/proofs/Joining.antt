-- A row keeps its order over more columns, so two programs' rows one behind the other are rows of the wider one. Each number of
-- joined programs is one of the first or of the second.
use Rattle.std.proofs.Common.{◌≡◌, ◌⊎◌, ℕ, ◌+◌, ◌-◌, ◌^◌, ◌<◌, ◌≤◌, List, [], ◌∷◌, ◌++◌, length, ℤ, pos, ◌≤ℤ◌, slice_index_or, unsigned_abs, inl, inr, refl, length-append, arith}
use Rattle.std.proofs.lemmas.Bool.{cases_lt}
use Rattle.std.proofs.lemmas.List.{get_or_append_left, get_or-append_right}
use Rattle.std.proofs.lemmas.List.Elements.{All-append}
use Rattle.lp_form.specs.declared.entries.Entry.{Entry}
use Rattle.corr_game.specs.declared.sides.Side.{Side}
use Rattle.corr_game.specs.declared.sides.Side.TheVariants.{One, Two}
use Rattle.lp_form.specs.Row.{Ascends, IsRow, value_at}
use Rattle.lp_form.specs.Program.{IsLp, LpView, joined, payoff_of}
use Rattle.lp_form.specs.Small.{IsSmall}

pub ascends-wider : (low cols more : ℕ) (entries : List Entry) → cols ≤ more → Ascends low cols entries → Ascends low more entries
ascends-wider low cols more [] h up = tt
ascends-wider low cols more (entry ∷ rest) h up = (up.0, omega (arith, up.1), up.2, ascends-wider (entry.col + 1) cols more rest h up.3)

pub joined_is : {base more : LpView} → IsLp base → IsLp more → base.cols ≤ more.cols → length base.rows + length more.rows ≤ 2 ^ 24 → IsLp (joined base more)
joined_is {base} {more} b m h few = record {
  few_columns = m.few_columns;
  few_rows = omega (arith, length-append base.rows more.rows);
  a_right_each = omega (arith, b.a_right_each, m.a_right_each, length-append base.rows more.rows, length-append base.rights more.rights);
  not_negative = All-append (λ right. pos 0 ≤ℤ right) base.rights more.rights b.not_negative m.not_negative;
  each_row = All-append (IsRow more.cols) base.rows more.rows (λ k d l. ascends-wider 0 base.cols more.cols _ h (b.each_row k d l)) m.each_row;
  first_row = ascends-wider 0 base.cols more.cols base.first h b.first_row;
  second_row = ascends-wider 0 base.cols more.cols base.second h b.second_row;
}

-- the same of programs known by their views
pub joined_as : {inside base within more : LpView} → inside ≡ base → within ≡ more → IsLp inside → IsLp within → base.cols ≤ more.cols → length base.rows + length more.rows ≤ 2 ^ 24 → IsLp (joined inside within)
joined_as {inside} {base} {within} {more} e f b m h few =
    joined_is b m (rw (e, f) h) (rw (e, f) few)

-- what holds at each place of two lists holds at each place of both together
each_of_both : {A : Type 0} (Holds : A → Type 0) (xs ys : List A) (none : A) → ((k : ℕ) → Holds (slice_index_or xs k none))
    → ((k : ℕ) → Holds (slice_index_or ys k none)) → (k : ℕ) → Holds (slice_index_or (xs ++ ys) k none)
each_of_both {A} Holds xs ys none f g k =
    elim (cases_lt k (length xs)) [
      | inl h ↦ rw (get_or_append_left xs ys none k h) (f k)
      | inr h ↦ rw (get_or-append_right xs ys (length xs) k none refl h) (g (k - length xs))
    ]

-- two small programs joined are small
small_joined : (base more : LpView) → IsSmall base → IsSmall more → IsSmall (joined base more)
small_joined base more b m = record {
  coefficients = λ row col. each_of_both (λ (entries : List Entry). unsigned_abs (value_at entries col) < 2 ^ 51) base.rows more.rows []
      (λ k. b.coefficients k col) (λ k. m.coefficients k col) row;
  payoffs = as_base;
  rights = λ row. each_of_both (λ (right : ℤ). (right ≡ pos 0) ⊎ (right ≡ pos 1)) base.rights more.rights (pos 0) b.rights m.rights row;
}
  where
    as_base : (side : Side) (col : ℕ) → unsigned_abs (payoff_of side (joined base more) col) < 2 ^ 51
    as_base One col = b.payoffs One col
    as_base Two col = b.payoffs Two col

pub small_as : {inside base within more : LpView} → inside ≡ base → within ≡ more → IsSmall base → IsSmall more
    → IsSmall (joined inside within)
small_as {inside} {base} {within} {more} e f b m = rw (e, f) (small_joined base more b m)
