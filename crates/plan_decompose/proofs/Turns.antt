-- Each turn makes a positive value 0 and raises none, so the turns end; and no value is above that of the two empty
-- sequences, so all are used up when that one is.
use Rattle.std.proofs.Common.{◌≡◌, ◌⊎◌, ℕ, ◌+◌, ◌<◌, ◌≤◌, zero, suc, Bool, true, ℤ, pos, negsuc, ◌≤ℤ◌, List, [], ◌∷◌, Some, None, length, slice_index_or, refl, ap, ◌∙◌, inl, inr, arith}
use Rattle.std.proofs.lemmas.Int.{ints}
use Rattle.exact_algebra.proofs.SumOrder.{term_at_most}
use Rattle.corr_game.specs.declared.nodes.SetId.{SetId}
use Rattle.sequences.specs.declared.places.Place.{Place}
use Rattle.sequences.specs.Number.{SideView, IsSide, IsOwn, last_of, count_of}
use Rattle.sequences.proofs.Adding.{within}
use Rattle.sequences.proofs.Holding.{own_lower, own_in, none-empty}
use Rattle.connected_pairs.specs.Connected.{IsPrefix, itself, longer}
use Rattle.plan_decompose.specs.Solution.{one_if_positive, positives}
use Rattle.plan_decompose.proofs.Fairness.{IsSetting, near_from, at_most_prefix}

one_le : (a b : ℤ) → a ≤ℤ b → one_if_positive a ≤ one_if_positive b
one_le (pos zero) b h = omega arith
one_le (negsuc n) b h = omega arith
one_le (pos (suc n)) (pos zero) h = absurd (omega (arith, ints))
one_le (pos (suc n)) (pos (suc m)) h = omega arith
one_le (pos (suc n)) (negsuc m) h = absurd (omega (arith, ints))

one_is : (a : ℤ) → pos 1 ≤ℤ a → one_if_positive a ≡ 1
one_is (pos zero) h = absurd (omega (arith, ints))
one_is (pos (suc n)) h = refl
one_is (negsuc n) h = absurd (omega (arith, ints))

one_not : (a : ℤ) → a ≤ℤ pos 0 → one_if_positive a ≡ 0
one_not (pos zero) h = refl
one_not (pos (suc n)) h = absurd (omega (arith, ints))
one_not (negsuc n) h = refl

abbrev NoneRaised : List ℤ → List ℤ → Type 0
NoneRaised old new = (k : ℕ) → k < length old → slice_index_or new k (pos 0) ≤ℤ slice_index_or old k (pos 0)

positives_le : (old new : List ℤ) → length new ≡ length old → NoneRaised old new → positives new ≤ positives old
positives_le [] [] e h = omega arith
positives_le [] (z ∷ zs) e h = absurd (omega arith)
positives_le (y ∷ ys) [] e h = absurd (omega arith)
positives_le (y ∷ ys) (z ∷ zs) e h =
    omega (arith, one_le z y (h 0 (omega arith)), positives_le ys zs (omega arith) (λ k low. h (suc k) (omega arith)))

pub positives_fall : (old new : List ℤ) → length new ≡ length old → NoneRaised old new → (j : ℕ) → j < length old → pos 1 ≤ℤ slice_index_or old j (pos 0) → slice_index_or new j (pos 0) ≤ℤ pos 0 → positives new + 1 ≤ positives old
positives_fall [] new e h j low was is = absurd (omega arith)
positives_fall (y ∷ ys) [] e h j low was is = absurd (omega arith)
positives_fall (y ∷ ys) (z ∷ zs) e h zero low was is =
    omega (arith, one_is y was, one_not z is, positives_le ys zs (omega arith) (λ k low. h (suc k) (omega arith)))
positives_fall (y ∷ ys) (z ∷ zs) e h (suc j) low was is =
    omega (arith, one_le z y (h 0 (omega arith)), positives_fall ys zs (omega arith) (λ k low. h (suc k) (omega arith)) j (omega arith) was is)

one_most : (a : ℤ) → one_if_positive a ≤ 1
one_most (pos zero) = omega arith
one_most (pos (suc n)) = omega arith
one_most (negsuc n) = omega arith

pub positives_most : (values : List ℤ) → positives values ≤ length values
positives_most [] = omega arith
positives_most (z ∷ zs) = omega (arith, one_most z, positives_most zs)

zero_prefix : (v : SideView) → IsSide v → (bound t : ℕ) → t < bound → t < count_of v → IsPrefix v 0 t
zero_prefix v s zero t h low = absurd (omega arith)
zero_prefix v s (suc bound) zero h low = itself
zero_prefix v s (suc bound) (suc k) h low =
    let move = within v.lasts k (omega arith) in
    let at = s.numbered.each_last k move.0 move.1 in
    let own : IsOwn v move.0.0.0 at.0.own = (at.0, at.1, refl) in
    longer (suc k) at.0.own move.0 move.1 own (zero_prefix v s bound at.0.own (omega (arith, own_lower v s (suc k) move.0 at.0.own move.1 own)) (own_in v s move.0.0.0 at.0.own own))

at_most_empty : (v w : SideView) (join : ℕ → ℕ → Bool) (value : ℕ → ℕ → ℤ) → IsSetting v w join value → (y t : ℕ) → IsPrefix w y t → value 0 t ≤ℤ value 0 y
at_most_empty v w join value s y _ itself = omega (arith, ints)
at_most_empty v w join value s y _ (longer zero own move e o rest) = absurd (cc)
at_most_empty v w join value s y _ (longer (suc k) own move e o rest) =
    let at = s.side_w.numbered.each_last k move e in
    let row = s.rows_w.row move.0.0 at.0 0 at.1 (omega arith) tt in
    let term = term_at_most at.0.actions move.1 (λ a. value 0 (at.0.first + a)) at.2 (λ a h. s.not_negative 0 (at.0.first + a)) in
    let this : at.0.first + move.1 ≡ suc k = omega (arith, at.3) in
    let place : at.0 ≡ o.0 = cc (at.1, o.1) in
    let before : at.0.own ≡ own = ap (λ (q : Place). q.own) place ∙ o.2 in
    let less = at_most_empty v w join value s y own rest in
    omega (arith, ints, row, term, ap (value 0) this, ap (value 0) before, less)

flipped : (v w : SideView) (join : ℕ → ℕ → Bool) (value : ℕ → ℕ → ℤ) → IsSetting v w join value → IsSetting w v (λ k i. join i k) (λ y x. value x y)
flipped v w join value s = record {
  side_v = s.side_w;
  side_w = s.side_v;
  rows_v = s.rows_w;
  rows_w = s.rows_v;
  not_negative = λ y x. s.not_negative x y;
  closed_v = s.closed_w;
  closed_w = s.closed_v;
}

pub at_most_total : (v w : SideView) (join : ℕ → ℕ → Bool) (value : ℕ → ℕ → ℤ) → IsSetting v w join value → (x y : ℕ) → x < count_of v → y < count_of w
    → ((a b : SetId × ℕ) → last_of v x ≡ Some a → last_of w y ≡ Some b → join a.0.0 b.0.0 ≡ true) → value x y ≤ℤ value 0 0
at_most_total v w join value s x y low_x low_y relevant =
    let first : value x y ≤ℤ value x 0 = (elim (last_of v x) as (λ l. last_of v x ≡ l → value x y ≤ℤ value x 0) [
      | None ↦ λ e. (let empty = none-empty v x low_x e in rw empty (at_most_empty v w join value s 0 y (zero_prefix w s.side_w (suc y) y (omega arith) low_y)))
      | Some end ↦ λ e. at_most_prefix v w join value s x end e low_x 0 y (zero_prefix w s.side_w (suc y) y (omega arith) low_y) (near_from (join end.0.0) (last_of w y) (λ b h. relevant end b e h))
    ]) refl in
    let second = at_most_empty w v (λ k i. join i k) (λ b a. value a b) (flipped v w join value s) 0 x (zero_prefix v s.side_v (suc x) x (omega arith) low_x) in
    omega (arith, ints, first, second)

-- a number of 0 or more is 0 or 1 or more
pub zero_or_more : (z : ℤ) → pos 0 ≤ℤ z → (z ≡ pos 0) ⊎ (pos 1 ≤ℤ z)
zero_or_more (pos zero) h = inl refl
zero_or_more (pos (suc n)) h = inr (omega (arith, ints))
zero_or_more (negsuc n) h = absurd (omega (arith, ints))
