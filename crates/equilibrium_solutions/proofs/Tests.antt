-- Tests that hold together, and numbers under a test.
use Rattle.std.proofs.Common.{◌≡◌, Bool, true, false, ◌&&◌, cond, ℤ, pos, refl}

pub first_of : (a b : Bool) → a && b ≡ true → a ≡ true
first_of true b h = refl
first_of false b h = absurd (cc)

pub second_of : (a b : Bool) → a && b ≡ true → b ≡ true
second_of true b h = h
second_of false b h = absurd (cc)

pub both_of : (a b : Bool) → a ≡ true → b ≡ true → a && b ≡ true
both_of true b h k = k
both_of false b h k = absurd (cc)

-- numbers that are the same where a test holds
pub tested_alike : (test : Bool) (u v : ℤ) → (test ≡ true → u ≡ v) → cond test u (pos 0) ≡ cond test v (pos 0)
tested_alike true u v h = h refl
tested_alike false u v h = refl
