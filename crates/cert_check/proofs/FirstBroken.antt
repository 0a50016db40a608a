-- Rules in an order: where all hold none is broken, and one at most is the first that is. What holds column by column holds at each
-- column.
use Rattle.std.proofs.Common.{◌≡◌, inl, inr, ⊎_elim, ℕ, zero, suc, ◌+◌, ◌<◌, ◌≤◌, List, [], ◌∷◌, ◌++◌, sym, ◌∙◌, subst, arith}
use Rattle.std.proofs.lemmas.Bool.{cases_lt}
use Rattle.cert_check.specs.Rules.{AllHold, IsFirstBroken, by_column}

pub none_broken : {R : Type 0} (Holds : R → Type 0) (rules : List R) (rule : R) → AllHold Holds rules → IsFirstBroken Holds rules rule → ⊥
none_broken Holds [] rule all broken = broken
none_broken Holds (first ∷ rest) rule all (inl broken) = broken.1 all.0
none_broken Holds (first ∷ rest) rule all (inr later) = none_broken Holds rest rule all.1 later.1

pub one_broken : {R : Type 0} (Holds : R → Type 0) (rules : List R) (one two : R) → IsFirstBroken Holds rules one → IsFirstBroken Holds rules two → one ≡ two
one_broken Holds [] one two a b = absurd a
one_broken Holds (first ∷ rest) one two (inl a) (inl b) = sym a.0 ∙ b.0
one_broken Holds (first ∷ rest) one two (inl a) (inr b) = absurd (a.1 b.0)
one_broken Holds (first ∷ rest) one two (inr a) (inl b) = absurd (b.1 a.0)
one_broken Holds (first ∷ rest) one two (inr a) (inr b) = one_broken Holds rest one two a.1 b.1

-- all of a list that is followed by another one
pub front_holds : {R : Type 0} (Holds : R → Type 0) (front back : List R) → AllHold Holds (front ++ back) → AllHold Holds front
front_holds Holds [] back all = tt
front_holds Holds (rule ∷ front) back all = (all.0, front_holds Holds front back all.1)

pub back_holds : {R : Type 0} (Holds : R → Type 0) (front back : List R) → AllHold Holds (front ++ back) → AllHold Holds back
back_holds Holds [] back all = all
back_holds Holds (rule ∷ front) back all = back_holds Holds front back all.1

-- the second of a column's two rules
pub second_holds : {R : Type 0} (Holds : R → Type 0) (one two : ℕ → R) (first count column : ℕ) → AllHold Holds (by_column one two first count) → first ≤ column → column < first + count → Holds (two column)
second_holds Holds one two first zero column all low high = absurd (omega arith)
second_holds Holds one two first (suc count) column all low high =
    ⊎_elim
    (λ (behind : first < column). second_holds Holds one two (first + 1) count column all.1.1 (omega arith) (omega arith))
    (λ (here : column ≤ first). let same : first ≡ column = omega arith in subst (λ (k : ℕ). Holds (two k)) same all.1.0)
    (cases_lt first column)

-- two lists, one behind the other
pub all_behind : {R : Type 0} (Holds : R → Type 0) (front back : List R) → AllHold Holds front → AllHold Holds back
    → AllHold Holds (front ++ back)
all_behind Holds [] back first second = second
all_behind Holds (rule ∷ front) back first second = (first.0, all_behind Holds front back first.1 second)

pub broken_in_front : {R : Type 0} (Holds : R → Type 0) (front back : List R) (broken : R) → IsFirstBroken Holds front broken
    → IsFirstBroken Holds (front ++ back) broken
broken_in_front Holds [] back broken first = absurd first
broken_in_front Holds (rule ∷ front) back broken (inl here) = inl here
broken_in_front Holds (rule ∷ front) back broken (inr later) = inr (later.0, broken_in_front Holds front back broken later.1)

pub broken_behind : {R : Type 0} (Holds : R → Type 0) (front back : List R) (broken : R) → AllHold Holds front
    → IsFirstBroken Holds back broken → IsFirstBroken Holds (front ++ back) broken
broken_behind Holds [] back broken all first = first
broken_behind Holds (rule ∷ front) back broken all first = inr (all.0, broken_behind Holds front back broken all.1 first)

-- both rules of each column from `first` on
abbrev pub HoldBelow : {R : Type 0} → (R → Type 0) → (ℕ → R) → (ℕ → R) → ℕ → ℕ → Type 0
HoldBelow Holds one two first end = (k : ℕ) → first ≤ k → k < end → Holds (one k) × Holds (two k)

pub columns_hold : {R : Type 0} (Holds : R → Type 0) (one two : ℕ → R) (first count : ℕ) → HoldBelow Holds one two first (first + count)
    → AllHold Holds (by_column one two first count)
columns_hold Holds one two first zero each = tt
columns_hold Holds one two first (suc count) each =
    let here = each first (omega arith) (omega arith) in
    (here.0, (here.1, columns_hold Holds one two (first + 1) count (λ k low high. each k (omega arith) (omega arith))))

pub column_breaks : {R : Type 0} (Holds : R → Type 0) (one two : ℕ → R) (first count column : ℕ) (broken : R) → first ≤ column
    → column < first + count → HoldBelow Holds one two first column → IsFirstBroken Holds (one column ∷ two column ∷ []) broken
    → IsFirstBroken Holds (by_column one two first count) broken
column_breaks Holds one two first zero column broken low high before here = absurd (omega arith)
column_breaks Holds one two first (suc count) column broken low high before here = elim (cases_lt first column) [
  | inl behind ↦
      let held = before first (omega arith) behind in
      inr (
        held.0,
        inr (
          held.1,
          column_breaks Holds one two (first + 1) count column broken (omega arith) (omega arith)
              (λ k above below. before k (omega arith) below) here,
        ),
      )
  | inr at ↦
      let same : column ≡ first = omega arith in
      let there = subst (λ (k : ℕ). IsFirstBroken Holds (one k ∷ two k ∷ []) broken) same here in
      broken_in_front Holds (one first ∷ two first ∷ []) (by_column one two (first + 1) count) broken there
]
