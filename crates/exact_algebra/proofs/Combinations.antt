-- Equations and inequalities from given ones by a combination with factors: the difference of the two sides is the sum of
-- the factors times the given differences, which an identity shows.
use Rattle.std.proofs.Common.{◌≡◌, ◌≢◌, ℤ, pos, ◌+ℤ◌, ◌-ℤ◌, ◌*ℤ◌, ◌≤ℤ◌, ap, sym, ◌∙◌, arith}
use Rattle.std.proofs.lemmas.Int.{ints}
use Rattle.exact_algebra.proofs.Order.{cancel, product_not_negative, difference_not_negative}
use Rattle.exact_algebra.proofs.RingLaws.{*ℤ-zero}
use Rattle.exact_algebra.proofs.RingTactic.{linear}

nothing_left : (c : ℤ) {u v : ℤ} → u ≡ v → c *ℤ (u -ℤ v) ≡ pos 0
nothing_left c {u} {v} e = let none : u -ℤ v ≡ pos 0 = omega (arith, ints) in ap (λ x. c *ℤ x) none ∙ *ℤ-zero c

pub same_by_one : {a b u v : ℤ} (c : ℤ) → u ≡ v → a -ℤ b ≡ c *ℤ (u -ℤ v) → a ≡ b
same_by_one c e is = let none = nothing_left c e in omega (arith, linear)

pub same_by_two : {a b u v s t : ℤ} (c d : ℤ) → u ≡ v → s ≡ t → a -ℤ b ≡ c *ℤ (u -ℤ v) +ℤ d *ℤ (s -ℤ t) → a ≡ b
same_by_two c d e f is = let first = nothing_left c e in let second = nothing_left d f in omega (arith, linear)

pub same_by_three : {a b u v s t x y : ℤ} (c d k : ℤ) → u ≡ v → s ≡ t → x ≡ y → a -ℤ b ≡ c *ℤ (u -ℤ v) +ℤ d *ℤ (s -ℤ t) +ℤ k *ℤ (x -ℤ y) → a ≡ b
same_by_three c d k e f g is = let first = nothing_left c e in let second = nothing_left d f in let third = nothing_left k g in omega (arith, linear)

-- A factor that is not 0 leaves the equation.
pub same_by_factor : {a b : ℤ} (c : ℤ) → c ≢ pos 0 → c *ℤ (a -ℤ b) ≡ pos 0 → a ≡ b
same_by_factor {a} {b} c other e = let none : a -ℤ b ≡ pos 0 = cancel c other (e ∙ sym (*ℤ-zero c)) in omega (arith, ints)

pub at_most_by_one : {a b u v : ℤ} (c : ℤ) → pos 0 ≤ℤ c → u ≤ℤ v → b -ℤ a ≡ c *ℤ (v -ℤ u) → a ≤ℤ b
at_most_by_one c h l is = let part = product_not_negative h (difference_not_negative l) in omega (arith, linear)

pub at_most_by_two : {a b u v s t : ℤ} (c d : ℤ) → pos 0 ≤ℤ c → pos 0 ≤ℤ d → u ≤ℤ v → s ≤ℤ t → b -ℤ a ≡ c *ℤ (v -ℤ u) +ℤ d *ℤ (t -ℤ s) → a ≤ℤ b
at_most_by_two c d h k l m is =
    let first = product_not_negative h (difference_not_negative l) in
    let second = product_not_negative k (difference_not_negative m) in
    omega (arith, linear)
