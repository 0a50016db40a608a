-- How much room is left below 2^62 while weights are added: none so far is below 0, and the room and the weights so far
-- make 2^62.
use Rattle.std.proofs.Common.{◌≡◌, ℕ, zero, suc, true, false, ◌+◌, ◌^◌, ◌<◌, ◌≤◌, List, [], ◌∷◌, Some, inl, inr, length, drop, get_or, slice_get, ℤ, pos, ◌+ℤ◌, ◌-ℤ◌}
use Rattle.std.proofs.Common.{◌≤ℤ◌, ◌<ℤ◌, unsigned_abs, refl, arith}
use lib.Signed.{lt_z}
use Rattle.std.proofs.lemmas.Bool.{cases_lt}
use Rattle.std.proofs.lemmas.Int.{ints}
use Rattle.corr_game.specs.declared.plans.Pair.{Pair}
use Rattle.plain_programs.specs.Weights.{AreWeights}
use Rattle.plain_programs.proofs.WeightedSums.{heavy, heavy_at_most, heavy_drop, heavy_next, heavy_none, pair_at, weight_low, weights_by_total}

pub record IsRoom (list : List Pair) (k : ℕ) (left : ℤ) : Type 0 where
  pub not_negative : (j : ℕ) (d : Pair) → j < k → pos 0 ≤ℤ (get_or list j d).weight
  pub room : pos 0 ≤ℤ left
  pub sum : pos (heavy list) +ℤ left ≡ pos (heavy (drop k list)) +ℤ pos (2 ^ 62)

pub room_at_most : {list : List Pair} {k : ℕ} {left : ℤ} → IsRoom list k left → unsigned_abs left ≤ 2 ^ 62
room_at_most {list} {k} {left} so_far = omega (arith, ints, so_far.sum, so_far.room, heavy_drop list k)

pub next_room : {list : List Pair} {k : ℕ} {left : ℤ} (new w : ℤ) (pair : Pair) → k < length list → slice_get list k ≡ Some pair
    → IsRoom list k left → w ≡ pair.weight → pos 0 ≤ℤ w → w ≤ℤ left → new ≡ left -ℤ w → IsRoom list (k + 1) new
next_room {list} {k} {left} new w pair low there so_far same above below e =
    let weight : pos 0 ≤ℤ pair.weight = rw (← same) above in
    let next = heavy_next list k pair low there in
    let magnitude : pos (unsigned_abs pair.weight) ≡ w = rw (← same) (omega (arith, ints)) in
    record {
      not_negative = λ j d h. elim (cases_lt j k) [
        | inl less ↦ so_far.not_negative j d less
        | inr last ↦
            let here : j ≡ k = omega arith in
            rw (here, pair_at list k pair d there) weight
      ];
      room = omega (arith, ints, e);
      sum = omega (arith, ints, e, so_far.sum, next, magnitude);
    }

pub no_room : {list : List Pair} {k : ℕ} {left : ℤ} (w : ℤ) (pair : Pair) → k < length list → slice_get list k ≡ Some pair
    → IsRoom list k left → w ≡ pair.weight → pos 0 ≤ℤ w → left <ℤ w → AreWeights list → ⊥
no_room {list} {k} {left} w pair low there so_far same above more h =
    let next = heavy_next list k pair low there in
    let magnitude : pos (unsigned_abs pair.weight) ≡ w = rw (← same) (omega (arith, ints)) in
    omega (arith, ints, so_far.sum, next, magnitude, heavy_at_most list h)

pub below_0 : (list : List Pair) (k : ℕ) (w : ℤ) (pair : Pair) → k < length list → slice_get list k ≡ Some pair → w ≡ pair.weight
    → w <ℤ pos 0 → AreWeights list → ⊥
below_0 list k w pair low there same less h =
    let weight = weight_low list k pair h low there in
    let there_too : pair.weight <ℤ pos 0 = rw (← same) less in
    omega (arith, ints)

pub pair_there : (list : List Pair) (k : ℕ) → k < length list → (pair : Pair) × (slice_get list k ≡ Some pair)
pair_there [] k h = absurd (omega arith)
pair_there (x ∷ xs) zero h = (x, refl)
pair_there (x ∷ xs) (suc k) h = pair_there xs k (omega arith)

pub test_below : (a b : ℤ) → lt_z a b ≡ true → a <ℤ b
test_below a b h = omega (arith, ints)

pub test_above : (a b : ℤ) → lt_z a b ≡ false → b ≤ℤ a
test_above a b h = omega (arith, ints)

pub all_in_room : {list : List Pair} {k : ℕ} {left : ℤ} → length list ≤ k → IsRoom list k left → AreWeights list
all_in_room {list} {k} {left} h so_far =
    weights_by_total list (λ j d l. so_far.not_negative j d (omega arith)) (omega (arith, ints, so_far.sum, so_far.room, heavy_none list k h))
