-- What is left and what is followed at a trigger depends on the numbers at the pairs alone, and on the values of the trigger's own sets.
use Rattle.std.proofs.Common.{◌≡◌, ℕ, ◌<◌, Bool, true, false, ◌&&◌, cond, List, Option, Some, None, length, ℤ, pos, ◌+ℤ◌, ◌*ℤ◌}
use Rattle.std.proofs.Common.{refl, ap, ap₂, slice_get, slice_index}
use Rattle.exact_algebra.proofs.Sums.{sum_to-same}
use Rattle.corr_game.specs.declared.nodes.SetId.{SetId}
use Rattle.corr_game.specs.declared.sides.Side.{Side}
use Rattle.corr_game.specs.declared.sides.Side.TheVariants.{One, Two}
use Rattle.corr_game.specs.Game.{GameView, sets_of}
use Rattle.sequences.specs.Number.{side_of}
use Rattle.connected_pairs.proofs.Indices.{index_in}
use Rattle.connected_pairs.specs.Connected.{IsPairs, PairsView, other}
use Rattle.equilibrium.specs.Leaves.{leaf_amount}
use Rattle.incentive_rows.specs.Coefficient.{pair_column}
use Rattle.incentive_rows.specs.declared.triggers.Trigger.{Trigger}
use Rattle.equilibrium_solutions.specs.Decision.{after, at_start, ends_with, is_given, led_to}
use Rattle.equilibrium_solutions.specs.Departure.{OwnSequences, before_play, departure, followed, has_followed, in_column, is_of}
use Rattle.equilibrium_solutions.specs.Departure.{paid_left}

pair_in : (p : PairsView) → IsPairs p → (side : Side) (own beside k : ℕ) → pair_column p side own beside ≡ Some k → k < length p.pairs
pair_in p rules One own beside k e = index_in p rules own beside k e
pair_in p rules Two own beside k e = index_in p rules beside own k e

in_column_same : (n : ℕ) (x y : ℕ → ℤ) → ((k : ℕ) → k < n → y k ≡ x k) → (found : Option ℕ) → ((k : ℕ) → found ≡ Some k → k < n)
    → in_column y found ≡ in_column x found
in_column_same n x y same None low = refl
in_column_same n x y same (Some k) low = same k (low k refl)

where_inside : (inside next : Bool) (a b : ℤ) → (inside ≡ true → a ≡ b) → cond (inside && next) a (pos 0) ≡ cond (inside && next) b (pos 0)
where_inside true next a b same = ap (λ (v : ℤ). cond next v (pos 0)) (same refl)
where_inside false next a b same = refl

module _ (g : GameView) (p : PairsView) (rules : IsPairs p) (x y : ℕ → ℤ) (same : (k : ℕ) → k < length p.pairs → y k ≡ x k)
    (trigger : Trigger) (own : OwnSequences trigger.side g) where
  column_same : (seq beside : ℕ)
      → in_column y (pair_column p trigger.side seq beside) ≡ in_column x (pair_column p trigger.side seq beside)
  column_same seq beside =
      in_column_same (length p.pairs) x y same (pair_column p trigger.side seq beside) (pair_in p rules trigger.side seq beside)

  left_same : (n : ℕ) → paid_left g p trigger y n ≡ paid_left g p trigger x n
  left_same n =
      ap (λ (v : ℤ). leaf_amount trigger.side (slice_get g.nodes n) *ℤ v)
      (column_same trigger.seq (slice_index (side_of (other trigger.side) p.seqs).nodes n))

  pub followed_same : followed g p trigger own y ≡ followed g p trigger own x
  followed_same = sum_to-same (length g.nodes) _ _ (λ n low.
      ap (λ (v : ℤ). cond (has_followed trigger.set trigger.action (own.node n))
      (leaf_amount trigger.side (slice_get g.nodes n) *ℤ v) (pos 0))
      (column_same (slice_index (side_of trigger.side p.seqs).nodes n) (slice_index (side_of (other trigger.side) p.seqs).nodes n)))

  abbrev SameInside : (ℕ → ℤ) → (ℕ → ℤ) → Type 0
  SameInside v w =
      (set : ℕ) → set < length (sets_of trigger.side g) → is_of trigger.side g trigger.set set ≡ true → v set ≡ w set

  led_same : (v w : ℕ → ℤ) → SameInside v w → (next paid : List (SetId × ℕ) → Bool)
      → led_to (departure g p trigger own y) v next paid ≡ led_to (departure g p trigger own x) w next paid
  led_same v w alike next paid =
      ap₂ (λ (a b : ℤ). a +ℤ b)
      (sum_to-same (length (sets_of trigger.side g)) _ _ (λ set low.
      where_inside (is_of trigger.side g trigger.set set) (next (own.set set)) (v set) (w set) (alike set low)))
      (sum_to-same (length g.nodes) _ _ (λ n low. ap (λ (a : ℤ). cond (paid (own.node n)) a (pos 0)) (left_same n)))

  pub after_same : (v w : ℕ → ℤ) → SameInside v w → (set action : ℕ)
      → after (departure g p trigger own y) v set action ≡ after (departure g p trigger own x) w set action
  after_same v w alike set action = led_same v w alike (ends_with set action) (ends_with set action)

  pub start_same : (v w : ℕ → ℤ) → SameInside v w
      → at_start (departure g p trigger own y) v ≡ at_start (departure g p trigger own x) w
  start_same v w alike =
      led_same v w alike (is_given (is_of trigger.side g trigger.set))
      (λ before. before_play trigger.set && is_given (is_of trigger.side g trigger.set) before)
