-- Identities of polynomials over ℤ by computation: two expressions with one Horner form have one value at all numbers.
-- For two numbers write `identity_two (λ x y. (x ⊕ y) ⊗ (x ⊖ y)) (λ x y. x ⊗ x ⊖ y ⊗ y) a b refl`, for more than six
-- `identity e f (a ∷ b ∷ .. ∷ []) refl`, with `unknown 0`, `unknown 1` .. in e and f. A numeral is `lit (pos 2)`.
use Rattle.std.proofs.Common.{◌≡◌, ℕ, List, [], ◌∷◌, ℤ, pos, negsuc, ◌+ℤ◌, ◌-ℤ◌, ◌*ℤ◌, refl, sym, ap, ◌∙◌, get_or, arith}
use Rattle.exact_algebra.proofs.Polynomial.{Horner, num, step, value, plus, scale, times, value-plus, value-scale, value-times}
use Rattle.exact_algebra.proofs.RingTactic.{linear}

infixl 6 ◌⊕◌ ◌⊖◌
infixl 7 ◌⊗◌
-- An expression over unknowns that go by number.
pub data Expression : Type 0 where
  unknown : ℕ → Expression
  lit : ℤ → Expression
  ◌⊕◌ : Expression → Expression → Expression
  ◌⊖◌ : Expression → Expression → Expression
  ◌⊗◌ : Expression → Expression → Expression

-- The number that an expression stands for.
abbrev pub meaning : (ℕ → ℤ) → Expression → ℤ
meaning at (unknown i) = at i
meaning at (lit a) = a
meaning at (e ⊕ f) = meaning at e +ℤ meaning at f
meaning at (e ⊖ f) = meaning at e -ℤ meaning at f
meaning at (e ⊗ f) = meaning at e *ℤ meaning at f

-- The Horner form of an expression.
abbrev pub normal : Expression → Horner
normal (unknown i) = step (num (pos 1)) i (num (pos 0))
normal (lit a) = num a
normal (e ⊕ f) = plus (normal e) (normal f)
normal (e ⊖ f) = plus (normal e) (scale (negsuc 0) (normal f))
normal (e ⊗ f) = times (normal e) (normal f)

-- The form of an expression has the expression's value.
pub value-normal : (at : ℕ → ℤ) (e : Expression) → value at (normal e) ≡ meaning at e
value-normal at (unknown i) = omega (arith, linear)
value-normal at (lit a) = refl
value-normal at (e ⊕ f) = value-plus at (normal e) (normal f) ∙ (rw (value-normal at e, value-normal at f))
value-normal at (e ⊖ f) = value-plus at (normal e) (scale (negsuc 0) (normal f)) ∙ (rw (value-scale at (negsuc 0) (normal f), value-normal at e, value-normal at f) (omega (arith, linear)))
value-normal at (e ⊗ f) = value-times at (normal e) (normal f) ∙ (rw (value-normal at e, value-normal at f))

-- The numbers that stand for the unknowns 0, 1, .. in the order of a list.
abbrev pub among : List ℤ → ℕ → ℤ
among xs i = get_or xs i (pos 0)

-- The solver: any number of unknowns, given as a list.
pub identity : (e f : Expression) (xs : List ℤ) → normal e ≡ normal f → meaning (among xs) e ≡ meaning (among xs) f
identity e f xs same = sym (value-normal (among xs) e) ∙ (ap (value (among xs)) same ∙ value-normal (among xs) f)

-- The same for two to six numbers, where an expression is a function of its unknowns.
abbrev of_two : (Expression → Expression → Expression) → Expression
of_two e = e (unknown 0) (unknown 1)

pub identity_two : (e f : Expression → Expression → Expression) (a b : ℤ) → normal (of_two e) ≡ normal (of_two f) →
    meaning (among (a ∷ b ∷ [])) (of_two e) ≡ meaning (among (a ∷ b ∷ [])) (of_two f)
identity_two e f a b same = identity (of_two e) (of_two f) (a ∷ b ∷ []) same

abbrev of_three : (Expression → Expression → Expression → Expression) → Expression
of_three e = e (unknown 0) (unknown 1) (unknown 2)

pub identity_three : (e f : Expression → Expression → Expression → Expression) (a b c : ℤ) → normal (of_three e) ≡ normal (of_three f) →
    meaning (among (a ∷ b ∷ c ∷ [])) (of_three e) ≡ meaning (among (a ∷ b ∷ c ∷ [])) (of_three f)
identity_three e f a b c same = identity (of_three e) (of_three f) (a ∷ b ∷ c ∷ []) same

abbrev of_four : (Expression → Expression → Expression → Expression → Expression) → Expression
of_four e = e (unknown 0) (unknown 1) (unknown 2) (unknown 3)

pub identity_four : (e f : Expression → Expression → Expression → Expression → Expression) (a b c d : ℤ) → normal (of_four e) ≡ normal (of_four f) →
    meaning (among (a ∷ b ∷ c ∷ d ∷ [])) (of_four e) ≡ meaning (among (a ∷ b ∷ c ∷ d ∷ [])) (of_four f)
identity_four e f a b c d same = identity (of_four e) (of_four f) (a ∷ b ∷ c ∷ d ∷ []) same

abbrev of_five : (Expression → Expression → Expression → Expression → Expression → Expression) → Expression
of_five e = e (unknown 0) (unknown 1) (unknown 2) (unknown 3) (unknown 4)

pub identity_five : (e f : Expression → Expression → Expression → Expression → Expression → Expression) (a b c d g : ℤ) → normal (of_five e) ≡ normal (of_five f) →
    meaning (among (a ∷ b ∷ c ∷ d ∷ g ∷ [])) (of_five e) ≡ meaning (among (a ∷ b ∷ c ∷ d ∷ g ∷ [])) (of_five f)
identity_five e f a b c d g same = identity (of_five e) (of_five f) (a ∷ b ∷ c ∷ d ∷ g ∷ []) same

abbrev of_six : (Expression → Expression → Expression → Expression → Expression → Expression → Expression) → Expression
of_six e = e (unknown 0) (unknown 1) (unknown 2) (unknown 3) (unknown 4) (unknown 5)

pub identity_six : (e f : Expression → Expression → Expression → Expression → Expression → Expression → Expression) (a b c d g h : ℤ) → normal (of_six e) ≡ normal (of_six f) →
    meaning (among (a ∷ b ∷ c ∷ d ∷ g ∷ h ∷ [])) (of_six e) ≡ meaning (among (a ∷ b ∷ c ∷ d ∷ g ∷ h ∷ [])) (of_six f)
identity_six e f a b c d g h same = identity (of_six e) (of_six f) (a ∷ b ∷ c ∷ d ∷ g ∷ h ∷ []) same
