-- A choice at the centre of a star keeps every relevant pair that the two plans play positive. The statements speak of one
-- player v, the other player w, whether a set of v is connected to one of w, and the value at a sequence of v and one of w.
use Rattle.std.proofs.Common.{◌≡◌, ℕ, ◌+◌, ◌<◌, zero, suc, Bool, true, ℤ, pos, ◌≤ℤ◌, List, Option, Some, None, length, slice_get, refl, ap, ◌∙◌, arith}
use Rattle.std.proofs.lemmas.Int.{ints}
use Rattle.std.proofs.lemmas.Option.{slice_get_within}
use Rattle.exact_algebra.specs.Sums.{sum_to}
use Rattle.exact_algebra.proofs.Sums.{sum_to-nothing}
use Rattle.exact_algebra.proofs.SumOrder.{sum_to_at_most, term_at_most}
use Rattle.corr_game.specs.declared.nodes.SetId.{SetId}
use Rattle.sequences.specs.declared.places.Place.{Place}
use Rattle.sequences.specs.Number.{SideView, IsSide, Plays, nothing, further, last_of, count_of}
use Rattle.sequences.proofs.Holding.{plays-back}
use Rattle.connected_pairs.specs.Connected.{IsPrefix, itself, longer}

-- a last move, if there is one, is at a set with this property
abbrev pub Near : (ℕ → Bool) → Option (SetId × ℕ) → Type 0
Near joined None = Unit {0}
Near joined (Some move) = joined move.0.0 ≡ true

pub near_from : (joined : ℕ → Bool) (last : Option (SetId × ℕ)) → ((move : SetId × ℕ) → last ≡ Some move → joined move.0.0 ≡ true) → Near joined last
near_from joined None h = tt
near_from joined (Some move) h = h move refl

pub near_at : (joined : ℕ → Bool) (last : Option (SetId × ℕ)) → Near joined last → (move : SetId × ℕ) → last ≡ Some move → joined move.0.0 ≡ true
near_at joined None h move e = absurd (cc)
near_at joined (Some first) h move e = let same : first ≡ move = cc in rw (← same) h

-- what one player's sets have beside a sequence they pass on
pub record HasRows (v w : SideView) (join : ℕ → ℕ → Bool) (value : ℕ → ℕ → ℤ) : Type 0 where
  pub row : (set : ℕ) (place : Place) (y : ℕ) → slice_get v.places set ≡ Some place → y < count_of w → Near (join set) (last_of w y) → sum_to place.actions (λ a. value (place.first + a) y) ≡ value place.own y

-- connection goes back along the own sequence
pub record IsClosed (v w : SideView) (join : ℕ → ℕ → Bool) : Type 0 where
  pub back : (set k : ℕ) (place : Place) (move : SetId × ℕ) → k < length w.places → join set k ≡ true → slice_get v.places set ≡ Some place → last_of v place.own ≡ Some move → join move.0.0 k ≡ true

pub record IsSetting (v w : SideView) (join : ℕ → ℕ → Bool) (value : ℕ → ℕ → ℤ) : Type 0 where
  pub side_v : IsSide v
  pub side_w : IsSide w
  pub rows_v : HasRows v w join value
  pub rows_w : HasRows w v (λ k i. join i k) (λ y x. value x y)
  pub not_negative : (x y : ℕ) → pos 0 ≤ℤ value x y
  pub closed_v : IsClosed v w join
  pub closed_w : IsClosed w v (λ k i. join i k)

pub plays_in : (v : SideView) (plan : List (Option ℕ)) (x : ℕ) → Plays v plan x → x < count_of v
plays_in v plan _ nothing = omega arith
plays_in v plan _ (further zero move place e named here rest) = omega arith
plays_in v plan _ (further (suc k) move place e named here rest) = omega (arith, slice_get_within v.lasts k move e)

pub prefix_played : (w : SideView) (plan : List (Option ℕ)) (y t : ℕ) → IsPrefix w y t → Plays w plan t → Plays w plan y
prefix_played w plan y _ itself r = r
prefix_played w plan y _ (longer seq own move e o rest) r = prefix_played w plan y own rest (plays-back w plan seq r move own e o)

pub empty_prefix : (w : SideView) (plan : List (Option ℕ)) (t : ℕ) → Plays w plan t → IsPrefix w 0 t
empty_prefix w plan _ nothing = itself
empty_prefix w plan _ (further seq move place e named here rest) = longer seq place.own move e (place, here, refl) (empty_prefix w plan place.own rest)

-- a sequence's last set is one of the player's
pub last_known : (v : SideView) → IsSide v → (x : ℕ) (end : SetId × ℕ) → last_of v x ≡ Some end → end.0.0 < length v.places
last_known v s zero end e = absurd (cc)
last_known v s (suc k) end e = let at = s.numbered.each_last k end e in slice_get_within v.places end.0.0 at.0 at.1

-- beside a sequence whose last set is connected to it, a sequence has at most what a prefix has
pub at_most_prefix : (v w : SideView) (join : ℕ → ℕ → Bool) (value : ℕ → ℕ → ℤ) → IsSetting v w join value → (x : ℕ) (end : SetId × ℕ) → last_of v x ≡ Some end → x < count_of v
    → (y t : ℕ) → IsPrefix w y t → Near (join end.0.0) (last_of w t) → value x t ≤ℤ value x y
at_most_prefix v w join value s x end last low y _ itself near = omega (arith, ints)
at_most_prefix v w join value s x end last low y _ (longer zero own move e o rest) near = absurd (cc)
at_most_prefix v w join value s x end last low y _ (longer (suc k) own move e o rest) near =
    let at = s.side_w.numbered.each_last k move e in
    let here : join end.0.0 move.0.0 ≡ true = near_at (join end.0.0) (last_of w (suc k)) near move e in
    let near_x = near_from (λ i. join i move.0.0) (last_of v x) (λ m h. let same : end ≡ m = cc in rw (← same) here) in
    let row = s.rows_w.row move.0.0 at.0 x at.1 low near_x in
    let term = term_at_most at.0.actions move.1 (λ a. value x (at.0.first + a)) at.2 (λ a h. s.not_negative x (at.0.first + a)) in
    let this : at.0.first + move.1 ≡ suc k = omega (arith, at.3) in
    let place : at.0 ≡ o.0 = cc (at.1, o.1) in
    let before : at.0.own ≡ own = ap (λ (q : Place). q.own) place ∙ o.2 in
    let near_own = near_from (join end.0.0) (last_of w own) (λ m h. s.closed_w.back move.0.0 end.0.0 at.0 m (last_known v s.side_v x end last) here at.1 (ap (last_of w) before ∙ h)) in
    let less = at_most_prefix v w join value s x end last low y own rest near_own in
    omega (arith, ints, row, term, ap (value x) this, ap (value x) before, less)

-- some move of a set has a positive value where its own sequence has
pub some_positive : (n : ℕ) (f : ℕ → ℤ) → pos 1 ≤ℤ sum_to n f → ((a : ℕ) → a < n → f a ≤ℤ pos 0) → ⊥
some_positive n f some none =
    let zero_sum = sum_to-nothing n (λ a. pos 0) (λ a h. refl) in
    omega (arith, ints, some, zero_sum, sum_to_at_most n f (λ a. pos 0) none)
