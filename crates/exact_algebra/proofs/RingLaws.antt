-- The ring laws of ℤ that std lacks, beside those that it has. Each is an equation of naturals between the two parts of an
-- integer, its part above 0 and its part below 0, where the product of naturals is multiplied out.
use Rattle.std.proofs.Common.{◌≡◌, ◌+◌, ◌*◌, ℤ, pos, ◌+ℤ◌, ◌-ℤ◌, ◌*ℤ◌, neg_ℤ, ap, arith}
use borrow.Author.Differences.{up, down, same_in, sum_is_lem, neg_is, product_is, ints}
pub use lib.IntN.{*ℤ_comm, neg_ℤ-+ℤ, neg_ℤ-neg_ℤ, zero-*ℤ, *ℤ-zero, +ℤ_comm, +ℤ_assoc, +ℤ_idl, +ℤ_idr, +ℤ_invl, +ℤ_invr}

up-product : (a b : ℤ) → up (a *ℤ b) ≡ up a * up b + down a * down b
up-product a b = (product_is a b).0

down-product : (a b : ℤ) → down (a *ℤ b) ≡ up a * down b + down a * up b
down-product a b = (product_is a b).1

up-opposite : (a : ℤ) → up (neg_ℤ a) ≡ down a
up-opposite a = (neg_is a).0

down-opposite : (a : ℤ) → down (neg_ℤ a) ≡ up a
down-opposite a = (neg_is a).1

ruleset parts = (up-product, down-product, up-opposite, down-opposite)

pub *ℤ_assoc : (a b c : ℤ) → (a *ℤ b) *ℤ c ≡ a *ℤ (b *ℤ c)
*ℤ_assoc a b c = same_in _ _ (simp parts (omega arith))

pub *ℤ_left_comm : (a b c : ℤ) → a *ℤ (b *ℤ c) ≡ b *ℤ (a *ℤ c)
*ℤ_left_comm a b c = same_in _ _ (simp parts (omega arith))

pub *ℤ-+ℤ : (a b c : ℤ) → a *ℤ (b +ℤ c) ≡ a *ℤ b +ℤ a *ℤ c
*ℤ-+ℤ a b c =
    let sum = sum_is_lem b c in
    let above = ap (λ x. up a * x) sum in
    let below = ap (λ x. down a * x) sum in
    omega (arith, above, below, ints)

pub +ℤ-*ℤ : (a b c : ℤ) → (a +ℤ b) *ℤ c ≡ a *ℤ c +ℤ b *ℤ c
+ℤ-*ℤ a b c =
    let sum = sum_is_lem a b in
    let above = ap (λ x. x * up c) sum in
    let below = ap (λ x. x * down c) sum in
    omega (arith, above, below, ints)

pub neg_ℤ-*ℤ : (a b : ℤ) → neg_ℤ a *ℤ b ≡ neg_ℤ (a *ℤ b)
neg_ℤ-*ℤ a b = same_in _ _ (simp parts (omega arith))

pub *ℤ-neg_ℤ : (a b : ℤ) → a *ℤ neg_ℤ b ≡ neg_ℤ (a *ℤ b)
*ℤ-neg_ℤ a b = same_in _ _ (simp parts (omega arith))

pub *ℤ-difference : (a b c : ℤ) → a *ℤ (b -ℤ c) ≡ a *ℤ b -ℤ a *ℤ c
*ℤ-difference a b c = simp (*ℤ-+ℤ, *ℤ-neg_ℤ)

pub difference-*ℤ : (a b c : ℤ) → (a -ℤ b) *ℤ c ≡ a *ℤ c -ℤ b *ℤ c
difference-*ℤ a b c = simp (+ℤ-*ℤ, neg_ℤ-*ℤ)

pub one-*ℤ : (a : ℤ) → pos 1 *ℤ a ≡ a
one-*ℤ a = omega (arith, ints)

pub *ℤ-one : (a : ℤ) → a *ℤ pos 1 ≡ a
*ℤ-one a = omega (arith, ints)
