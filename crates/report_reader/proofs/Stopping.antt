-- A piece that is the text of one value is that of no other: so the reader stops where that value isn't a good one.
use Rattle.std.proofs.Common.{◌≡◌, ℕ, ◌^◌, ◌<◌, ℤ, unsigned_abs, List, Result, Ok, Err, IsErrAnd, IfErr, refl, sym, ap, subst, ◌∙◌}
use Rattle.std.specs.Fmt.{decimal, signed_decimal}
use Rattle.report_reader.specs.declared.refusals.Stop.{Stop}
use Rattle.report_reader.specs.declared.refusals.Stop.TheVariants.{Syntax}
use Rattle.report_reader.specs.Cursor.{Cursor}
use Rattle.report_reader.specs.Reading.{first_piece, left_of, StopsAt}
use Rattle.report_reader.proofs.Numerals.{one_number, one_signed}

pub stop_number : (Good : ℕ → Type 0) (a : Cursor) {piece : List ℕ} (number : ℕ) → piece ≡ first_piece (left_of a) → piece ≡ decimal number
    → number < 10 ^ 64 → ((n : ℕ) → Good n → (n < 10 ^ 64) × (number ≡ n → ⊥)) → StopsAt Good decimal a a Syntax
stop_number Good a number first is small other = record {
  syntax = refl;
  unmoved = refl;
  no_value = λ n good same. (other n good).1 (one_number number n small (other n good).0 is (first ∙ same));
}

pub stop_signed : (Good : ℤ → Type 0) (a : Cursor) {piece : List ℕ} (number : ℤ) → piece ≡ first_piece (left_of a)
    → piece ≡ signed_decimal number → unsigned_abs number < 10 ^ 64
    → ((z : ℤ) → Good z → (unsigned_abs z < 10 ^ 64) × (number ≡ z → ⊥)) → StopsAt Good signed_decimal a a Syntax
stop_signed Good a number first is small other = record {
  syntax = refl;
  unmoved = refl;
  no_value = λ z good same. (other z good).1 (one_signed number z small (other z good).0 is (first ∙ same));
}

-- the piece at a place that hasn't moved
pub same_piece : {a b : Cursor} → b ≡ a → first_piece (left_of b) ≡ first_piece (left_of a)
same_piece same = ap (λ (c : Cursor). first_piece (left_of c)) same

-- what holds of the cause with which a call stopped holds of the cause that is passed on
pub err_gives : {A : Type 0} (P : Stop → Type 0) {cause : Stop} (result : Result A Stop) → IsErrAnd result (λ stop. stop ≡ cause) → P cause
    → IfErr result P
err_gives P (Ok x) same holds = tt
err_gives P (Err stop) same holds = subst P (sym same) holds
