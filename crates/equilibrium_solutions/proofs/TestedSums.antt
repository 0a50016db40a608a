-- A column sum is the sum of the weights of the entries that pass a test, where the test says what plays the pair.
use Rattle.std.proofs.Common.{◌≡◌, ◌↔◌, ℕ, suc, Option, inl, inr, Bool, true, false, ◌&&◌, cond, List, [], ◌∷◌, Some, slice_get}
use Rattle.std.proofs.Common.{ℤ, pos, ◌+ℤ◌, refl, sym, ap₂, ◌∙◌}
use Rattle.exact_algebra.specs.Sums.{sum_over}
use Rattle.corr_game.specs.declared.sides.Side.{Side}
use Rattle.corr_game.specs.declared.sides.Side.TheVariants.{One, Two}
use Rattle.corr_game.specs.Plan.{plan_of}
use Rattle.sequences.specs.Number.{Plays, SeqsView, side_of}
use Rattle.connected_pairs.specs.Table.{other}
use Rattle.equilibrium.specs.Distribution.{Entry}
use Rattle.equilibrium_solutions.specs.ColumnSums.{IsWeightAt, SumsTo}
use Rattle.equilibrium_solutions.proofs.Relevance.{pair_of}
use Rattle.equilibrium_solutions.proofs.Tests.{both_of, first_of, second_of}

-- a test says of each entry of a list whether it plays the pair
abbrev pub Tests : SeqsView → ℕ × ℕ → (Entry → Bool) → List Entry → Type 0
Tests s pair test list =
    (k : ℕ) (entry : Entry) → slice_get list k ≡ Some entry
    → (test entry ≡ true) ↔ (Plays s.one entry.one pair.0 × Plays s.two entry.two pair.1)

weight_tested : (s : SeqsView) (pair : ℕ × ℕ) (entry : Entry) (test : Bool) (v : ℤ)
    → (test ≡ true) ↔ (Plays s.one entry.one pair.0 × Plays s.two entry.two pair.1) → IsWeightAt s pair entry v
    → cond test (pos entry.weight) (pos 0) ≡ v
weight_tested s pair entry true v same (inl plays) = sym plays.1
weight_tested s pair entry true v same (inr apart) = absurd (apart.0 (same.0 refl))
weight_tested s pair entry false v same (inl plays) = absurd (let no = same.1 plays.0 in cc)
weight_tested s pair entry false v same (inr apart) = sym apart.1

pub tested_sum : (s : SeqsView) (pair : ℕ × ℕ) (test : Entry → Bool) (list : List Entry) (v : ℤ) → Tests s pair test list → SumsTo s pair list v
    → sum_over (λ entry. cond (test entry) (pos entry.weight) (pos 0)) list ≡ v
unfolding sum_over
tested_sum s pair test [] v same e = sym e
tested_sum s pair test (entry ∷ rest) v same sums =
    ap₂ (λ (a b : ℤ). a +ℤ b) (weight_tested s pair entry (test entry) sums.0 (same 0 entry refl) sums.2)
    (tested_sum s pair test rest sums.1 (λ k e h. same (suc k) e h) sums.3)
    ∙ sym sums.4

-- the other way round: what passes the test sums to a column sum
pub sum_of_tested : (s : SeqsView) (pair : ℕ × ℕ) (test : Entry → Bool) (list : List Entry) → Tests s pair test list
    → SumsTo s pair list (sum_over (λ entry. cond (test entry) (pos entry.weight) (pos 0)) list)
unfolding sum_over
sum_of_tested s pair test [] same = refl
sum_of_tested s pair test (entry ∷ rest) same = (
  cond (test entry) (pos entry.weight) (pos 0),
  sum_over (λ e. cond (test e) (pos e.weight) (pos 0)) rest,
  by (test entry) (same 0 entry refl),
  sum_of_tested s pair test rest (λ k e h. same (suc k) e h),
  refl,
)
  where
    by : (b : Bool) → (b ≡ true) ↔ (Plays s.one entry.one pair.0 × Plays s.two entry.two pair.1)
        → IsWeightAt s pair entry (cond b (pos entry.weight) (pos 0))
    by true h = inl (h.0 refl, refl)
    by false h = inr (λ plays. absurd (let no = h.1 plays in cc), refl)

-- a test of each player's plan tests the pair
pub tests_of_plans : (s : SeqsView) (side : Side) (own beside : ℕ) (mine theirs : List (Option ℕ) → Bool) (list : List Entry)
    → ((k : ℕ) (e : Entry) → slice_get list k ≡ Some e
    → (mine (plan_of side e.one e.two) ≡ true) ↔ Plays (side_of side s) (plan_of side e.one e.two) own)
    → ((k : ℕ) (e : Entry) → slice_get list k ≡ Some e
    → (theirs (plan_of (other side) e.one e.two) ≡ true) ↔ Plays (side_of (other side) s) (plan_of (other side) e.one e.two) beside)
    → Tests s (pair_of side own beside) (λ e. mine (plan_of side e.one e.two) && theirs (plan_of (other side) e.one e.two)) list
tests_of_plans s One own beside mine theirs list h k i e at = (
  λ t. ((h i e at).0 (first_of (mine e.one) (theirs e.two) t), (k i e at).0 (second_of (mine e.one) (theirs e.two) t)),
  λ plays. both_of (mine e.one) (theirs e.two) ((h i e at).1 plays.0) ((k i e at).1 plays.1),
)
tests_of_plans s Two own beside mine theirs list h k i e at = (
  λ t. ((k i e at).0 (second_of (mine e.two) (theirs e.one) t), (h i e at).0 (first_of (mine e.two) (theirs e.one) t)),
  λ plays. both_of (mine e.two) (theirs e.one) ((h i e at).1 plays.1) ((k i e at).1 plays.0),
)
