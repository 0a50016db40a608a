-- A pivot row with its sign: times 1 where the pivot's entry is positive, and times -1 where it is negative. By the two cases.
use Rattle.std.proofs.Common.{◌≡◌, ◌≢◌, zero, suc, ℤ, pos, negsuc, ◌*ℤ◌, ◌<ℤ◌, refl, arith}
use Rattle.std.proofs.lemmas.Int.{ints}
use Rattle.exact_algebra.proofs.RingTactic.{linear}
use Rattle.exact_linear.specs.Pivot.{turned}

-- The sign by which the pivot row is turned.
pub record Turn (p : ℤ) : Type 0 where
  pub by : ℤ
  pub by_is : by *ℤ by ≡ pos 1
  pub turns : (x : ℤ) → turned p x ≡ by *ℤ x
  pub positive : p ≢ pos 0 → pos 0 <ℤ turned p p

pub turn_of : (p : ℤ) → Turn p
turn_of (pos zero) = record { by = pos 1; by_is = refl; turns = λ x. omega (arith, linear); positive = λ other. absurd (other refl) }
turn_of (pos (suc n)) = record { by = pos 1; by_is = refl; turns = λ x. omega (arith, linear); positive = λ other. omega (arith, ints) }
turn_of (negsuc n) = record { by = negsuc 0; by_is = refl; turns = λ x. omega (arith, linear); positive = λ other. omega (arith, ints) }

-- Where the entry is positive nothing is turned.
pub turned_positive : (p x : ℤ) → pos 0 <ℤ p → turned p x ≡ x
turned_positive (pos n) x h = refl
turned_positive (negsuc n) x h = absurd (omega (arith, ints))
