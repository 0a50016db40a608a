-- A number's fraction is in lowest terms, so that it is the only one.
use Rattle.std.proofs.Common.{◌≡◌, ℕ, Bool, true, false, pos, neg_ℤ, refl, sym, subst, arith}
use Rattle.std.specs.Prelude.{unsigned_abs, if◌then◌else◌}
use Rattle.std.specs.Int.{IsGcd}
use Rattle.std.proofs.lemmas.Int.{ints}
use Rattle.corr_num.specs.Fraction.{Fraction, IsLowest, IsReduced}
use Rattle.corr_num.proofs.LowestTerms.{lowest_unique}
use Rattle.number_words.specs.Number.{NumberView, IsNumber, IsPart, IsProbability, signed, fraction_of}
use Rattle.number_words.proofs.Parts.{signed_is}

size : (negative : Bool) (n : ℕ) → unsigned_abs (if negative then neg_ℤ (pos n) else pos n) ≡ n
size true n = omega (arith, ints)
size false n = refl

lowest : (number : NumberView) → IsNumber number → IsLowest (fraction_of number)
lowest number is =
    let some = is.den_positive in
    record {
      positive = omega (arith, ints);
      coprime = subst (λ (n : ℕ). IsGcd n number.den 1) (sym (size number.negative number.num)) is.lowest;
    }

pub reduced_is : (number : NumberView) (fraction : Fraction) → IsNumber number → IsReduced fraction (fraction_of number) → fraction ≡ fraction_of number
reduced_is number fraction is reduced = lowest_unique fraction (fraction_of number) reduced.lowest (lowest number is) reduced.same

pub part_is : (number : NumberView) → IsNumber number → IsPart number → IsProbability (fraction_of number)
part_is number is part =
    let size_is : unsigned_abs (signed number) ≡ number.num = size number.negative number.num in
    let plain = signed_is number part.0 in
    let num_in_range = is.num_in_range in
    let den_in_range = is.den_in_range in
    let at_most = part.1 in
    ((omega arith, omega arith), omega (arith, ints), omega (arith, ints))
