-- A quotient that is divided by a greatest common divisor.
use Rattle.std.proofs.Common.{◌≡◌, ℕ, ◌/◌, ◌^◌, ◌<◌, ◌≤◌, Bool, ◌&&◌, refl, sym, ap, ◌∙◌}
use Rattle.std.specs.Prelude.{Some, None, nat_le, nat_lt, if◌then◌else◌}
use Rattle.std.proofs.lemmas.Bool.{le-leb, lt-leb, lt-ltb, and_left, and_right}
use Rattle.number_words.specs.Number.{NumberView}
use Rattle.number_words.specs.Value.{common_divisor, quotient}

pub divided_by_zero : (negative : Bool) (n d : ℕ) → d ≡ 0 → quotient negative n d ≡ None
unfolding quotient
divided_by_zero negative n d e = rw e refl

divided : (negative : Bool) (n d g : ℕ) → 0 < d → g ≡ common_divisor n d
    → quotient negative n d ≡ (if nat_le (n / g) (2 ^ 40) && nat_le (d / g) (2 ^ 24) then Some (record { negative = negative && nat_lt 0 (n / g); num = n / g; den = d / g }) else None)
unfolding quotient
divided negative n d g some is = rw (lt-ltb 0 d some, is) refl

pub num_over : (negative : Bool) (n d g : ℕ) → 0 < d → g ≡ common_divisor n d → 2 ^ 40 < n / g → quotient negative n d ≡ None
num_over negative n d g some is over = divided negative n d g some is ∙ (rw (and_left (nat_le (n / g) (2 ^ 40)) (nat_le (d / g) (2 ^ 24)) (lt-leb (n / g) (2 ^ 40) over)) refl)

pub den_over : (negative : Bool) (n d g : ℕ) → 0 < d → g ≡ common_divisor n d → 2 ^ 24 < d / g → quotient negative n d ≡ None
den_over negative n d g some is over = divided negative n d g some is ∙ (rw (and_right (nat_le (n / g) (2 ^ 40)) (nat_le (d / g) (2 ^ 24)) (lt-leb (d / g) (2 ^ 24) over)) refl)

within : (negative : Bool) (n d g : ℕ) → 0 < d → g ≡ common_divisor n d → n / g ≤ 2 ^ 40 → d / g ≤ 2 ^ 24
    → quotient negative n d ≡ Some (record { negative = negative && nat_lt 0 (n / g); num = n / g; den = d / g })
within negative n d g some is num den = divided negative n d g some is ∙ (rw (le-leb (n / g) (2 ^ 40) num, le-leb (d / g) (2 ^ 24) den) refl)

pub made : (negative minus : Bool) (n d g : ℕ) (number : NumberView) → 0 < d → g ≡ common_divisor n d → n / g ≤ 2 ^ 40 → d / g ≤ 2 ^ 24
    → number ≡ record { negative = minus; num = n / g; den = d / g } → minus ≡ (negative && nat_lt 0 (n / g)) → Some number ≡ quotient negative n d
made negative minus n d g number some is num den number_is minus_is =
    let signed : record { negative = minus; num = n / g; den = d / g } ≡ record { negative = negative && nat_lt 0 (n / g); num = n / g; den = d / g } =
    ap (λ (b : Bool). let number : NumberView = record { negative = b; num = n / g; den = d / g } in number) minus_is in
    ap (λ (x : NumberView). Some x) (number_is ∙ signed) ∙ sym (within negative n d g some is num den)
