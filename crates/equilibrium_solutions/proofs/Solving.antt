-- Values bound what each choice gets; and from the last set back, the greatest of what a set's actions lead to makes values that a choice
-- meets.
use Rattle.std.proofs.Common.{◌≡◌, ℕ, zero, suc, ◌+◌, ◌<◌, ◌≤◌, inl, inr, Bool, true, false, ◌&&◌, nat_eq, cond, List, [], ◌∷◌}
use Rattle.std.proofs.Common.{ℤ, pos, ◌+ℤ◌, ◌-ℤ◌, ◌≤ℤ◌, refl, ap₂, ◌∙◌, arith}
use Rattle.std.proofs.lemmas.Bool.{cases_eq, cases_lt}
use Rattle.std.proofs.lemmas.Bool.Decides.{nat_tests}
use Rattle.std.proofs.lemmas.Int.{ints}
use Rattle.exact_algebra.proofs.Families.{put, put-other, put-same}
use Rattle.exact_algebra.proofs.Greatest.{greatest_of}
use Rattle.exact_algebra.proofs.SumOrder.{sum_to_not_negative}
use Rattle.exact_algebra.proofs.Sums.{sum_to-nothing, sum_to-same}
use Rattle.corr_game.specs.declared.nodes.SetId.{SetId}
use Rattle.equilibrium_solutions.specs.Decision.{AreValues, Decision, GoesBack, IsChoice, IsDecision, after, at_start, ends_with, gets, takes}
use Rattle.equilibrium_solutions.proofs.Telescoping.{lost_together}
use Rattle.equilibrium_solutions.proofs.Tests.{first_of}

tested_not_negative : (b : Bool) (v : ℤ) → (b ≡ true → pos 0 ≤ℤ v) → pos 0 ≤ℤ cond b v (pos 0)
tested_not_negative true v h = h refl
tested_not_negative false v h = omega (arith, ints)

tested_nothing : (b : Bool) (v : ℤ) → (b ≡ true → v ≡ pos 0) → cond b v (pos 0) ≡ pos 0
tested_nothing true v h = h refl
tested_nothing false v h = refl

-- values bound what each choice gets
pub bounded_by_values : (d : Decision) → IsDecision d → (value : ℕ → ℤ) → AreValues d value → (choice : ℕ → ℕ) → IsChoice d choice
    → gets d choice ≤ℤ at_start d value
bounded_by_values d rules value are choice is =
    let lost = sum_to_not_negative d.sets _ (λ set h.
    tested_not_negative (d.inside set && takes d.inside choice (d.before_set set)) (value set -ℤ after d value set (choice set))
    (λ e. over (after d value set (choice set)) (value set) (are.each set (choice set) h (first_of (d.inside set) _ e) (is set h)))) in
    at_most (at_start d value) (gets d choice) _ (lost_together d rules choice value) lost
  where
    over : (a v : ℤ) → a ≤ℤ v → pos 0 ≤ℤ (v -ℤ a)
    over a v h = omega (arith, ints)

    at_most : (s g l : ℤ) → l ≡ s -ℤ g → pos 0 ≤ℤ l → g ≤ℤ s
    at_most s g l e h = omega (arith, ints)

-- ---- from the last set back

no_latest : (set action : ℕ) (before : List (SetId × ℕ)) (d : Decision) (bound : ℕ) → GoesBack d bound before → bound ≤ set
    → ends_with set action before ≡ false
no_latest set action [] d bound back low = refl
no_latest set action (move ∷ before) d bound back low =
    let apart : nat_eq move.0.0 set ≡ false = grind (arith, nat_tests, back.0) in
    rw apart refl

module _ (d : Decision) (rules : IsDecision d) where
  -- what an action leads to hangs on the values of later sets alone
  after_same : (value other : ℕ → ℤ) (set action : ℕ) → ((k : ℕ) → set < k → value k ≡ other k) → after d value set action ≡ after d other set action
  after_same value other set action each =
      ap₂ (λ (a b : ℤ). a +ℤ b) (sum_to-same d.sets _ _ (λ k h. by k h)) refl
    where
      by : (k : ℕ) → k < d.sets
          → cond (d.inside k && ends_with set action (d.before_set k)) (value k) (pos 0)
          ≡ cond (d.inside k && ends_with set action (d.before_set k)) (other k) (pos 0)
      by k h = elim (cases_lt set k) [
        | inl behind ↦ rw (each k behind) refl
        | inr not_behind ↦ rw (no_latest set action (d.before_set k) d k (rules.each_set k h) (omega arith)) (unled (d.inside k) (value k) (other k))
      ]
        where
          unled : (b : Bool) (v w : ℤ) → cond (b && false) v (pos 0) ≡ cond (b && false) w (pos 0)
          unled true v w = refl
          unled false v w = refl

  -- at the sets from this one on each value is the greatest of what the set's actions lead to, and the choice's action leads to it
  record Solved (from : ℕ) : Type 0 where
    value : ℕ → ℤ
    choice : ℕ → ℕ
    in_range : (set : ℕ) → from ≤ set → set < d.sets → choice set < d.actions set
    over : (set action : ℕ) → from ≤ set → set < d.sets → action < d.actions set → after d value set action ≤ℤ value set
    met : (set : ℕ) → from ≤ set → set < d.sets → value set ≡ after d value set (choice set)

  one_less : (n : ℕ) → 1 ≤ n → (m : ℕ) × (n ≡ suc m)
  one_less zero h = absurd (omega arith)
  one_less (suc m) h = (m, refl)

  one_set_more : (from : ℕ) → from < d.sets → Solved (suc from) → Solved from
  one_set_more from low later =
      let last = one_less (d.actions from) (rules.some_action from low) in
      let best = greatest_of last.0 (λ action. after d later.value from action) in
      let value : ℕ → ℤ = put later.value from (after d later.value from best.at) in
      let choice : ℕ → ℕ = put later.choice from best.at in
      let kept : (set action : ℕ) → from ≤ set → after d value set action ≡ after d later.value set action =
      λ set action h. after_same value later.value set action (λ k l. put-other later.value from _ k (omega arith)) in
      record {
        value = value;
        choice = choice;
        in_range = λ set h l. (elim (cases_eq set from) [
          | inl same ↦ rw (same, put-same later.choice from best.at) (omega (arith, best.within, last.1))
          | inr apart ↦ rw (put-other later.choice from best.at set apart) (later.in_range set (omega arith) l)
        ]);
        over = λ set action h l a. (elim (cases_eq set from) [
          | inl same ↦ rw (kept set action h, same, put-same later.value from (after d later.value from best.at))
              (best.over action (omega (arith, last.1, rw same at a)))
          | inr apart ↦ rw (kept set action h, put-other later.value from (after d later.value from best.at) set apart)
              (later.over set action (omega arith) l a)
        ]);
        met = λ set h l. (elim (cases_eq set from) [
          | inl same ↦ rw (same, put-same later.choice from best.at, kept from best.at (omega arith))
              (put-same later.value from (after d later.value from best.at))
          | inr apart ↦ rw (put-other later.choice from best.at set apart, kept set (later.choice set) h)
              (put-other later.value from (after d later.value from best.at) set apart ∙ later.met set (omega arith) l)
        ]);
      }

  solved_from : (left from : ℕ) → from + left ≡ d.sets → Solved from
  solved_from zero from e = record {
    value = λ set. pos 0;
    choice = λ set. 0;
    in_range = λ set h l. absurd (omega arith);
    over = λ set action h l a. absurd (omega arith);
    met = λ set h l. absurd (omega arith);
  }
  solved_from (suc left) from e = one_set_more from (omega arith) (solved_from left (suc from) (omega arith))

  -- some values are met by a choice
  pub solved : (value : ℕ → ℤ) × (choice : ℕ → ℕ) × AreValues d value × IsChoice d choice × (gets d choice ≡ at_start d value)
  solved =
      let s = solved_from d.sets 0 (omega arith) in
      let nothing = sum_to-nothing d.sets _ (λ set h.
      tested_nothing (d.inside set && takes d.inside s.choice (d.before_set set)) (s.value set -ℤ after d s.value set (s.choice set))
      (λ e. no_loss _ _ (s.met set (omega arith) h))) in (
        s.value,
        s.choice,
        record { each = λ set action h i a. s.over set action (omega arith) h a },
        λ set h. s.in_range set (omega arith) h,
        alike (at_start d s.value) (gets d s.choice) _ (lost_together d rules s.choice s.value) nothing,
      )
    where
      no_loss : (v a : ℤ) → v ≡ a → v -ℤ a ≡ pos 0
      no_loss v a e = omega (arith, ints)

      alike : (s g l : ℤ) → l ≡ s -ℤ g → l ≡ pos 0 → g ≡ s
      alike s g l e h = omega (arith, ints)
