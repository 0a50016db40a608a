-- Sums over a list of pairs, pair by pair: what is still to be added.
use Rattle.std.proofs.Common.{◌≡◌, ℕ, zero, suc, ◌+◌, ◌≤◌, List, [], ◌∷◌, Some, drop, length, slice_get, ℤ, pos, negsuc, ◌+ℤ◌, ◌*ℤ◌, ◌≤ℤ◌, unsigned_abs, refl, subst, arith}
use Rattle.std.proofs.lemmas.Int.{ints}
use Rattle.exact_algebra.specs.Sums.{sum_over}
use Rattle.corr_game.specs.declared.plans.Pair.{Pair}
use Rattle.corr_game.specs.declared.sides.Side.{Side}
use Rattle.corr_game.specs.Game.{GameView}
use Rattle.corr_game.specs.Walk.{walk}
use Rattle.equilibrium.specs.Deviation.{following}
use Rattle.equilibrium.specs.Distribution.{Entry, entries_of, entry_of, pay, total}

pub weight_back : (w : ℤ) → pos 1 ≤ℤ w → pos (unsigned_abs w) ≡ w
weight_back (pos n) h = refl
weight_back (negsuc n) h = absurd (omega (arith, ints))

pub nothing_yet : (x : ℤ) → pos 0 +ℤ x ≡ x
nothing_yet x = omega (arith, ints)

stepped : (t n a rest whole : ℤ) → t +ℤ (a +ℤ rest) ≡ whole → n ≡ t +ℤ a → n +ℤ rest ≡ whole
stepped t n a rest whole before now = omega (arith, ints, before, now)

sum_next : (f : Entry → ℤ) (list : List Pair) (k : ℕ) (pair : Pair) → slice_get list k ≡ Some pair → (t n whole : ℤ)
    → t +ℤ sum_over f (entries_of (drop k list)) ≡ whole → n ≡ t +ℤ f (entry_of pair)
    → n +ℤ sum_over f (entries_of (drop (suc k) list)) ≡ whole
unfolding sum_over
sum_next f [] k pair there t n whole before now = absurd (cc there)
sum_next f (first ∷ rest) zero pair there t n whole before now =
    let same : first ≡ pair = cc there in
    stepped t n (f (entry_of first)) (sum_over f (entries_of rest)) whole before (rw same now)
sum_next f (first ∷ rest) (suc k) pair there t n whole before now = sum_next f rest k pair there t n whole before now

sum_step : (f : Entry → ℤ) (list : List Pair) (k : ℕ) (pair : Pair) → slice_get list k ≡ Some pair → (t n whole : ℤ)
    → t +ℤ sum_over f (entries_of (drop k list)) ≡ whole → n ≡ t +ℤ f (entry_of pair)
    → n +ℤ sum_over f (entries_of (drop (k + 1) list)) ≡ whole
sum_step f list k pair there t n whole before now =
    let next : suc k ≡ k + 1 = omega arith in
    subst (λ (m : ℕ). n +ℤ sum_over f (entries_of (drop m list)) ≡ whole) next (sum_next f list k pair there t n whole before now)

pub none_after : (f : Entry → ℤ) (list : List Pair) (k : ℕ) → length list ≤ k → (t whole : ℤ)
    → t +ℤ sum_over f (entries_of (drop k list)) ≡ whole → t ≡ whole
unfolding sum_over
none_after f [] zero h t whole e = omega (arith, ints, e)
none_after f [] (suc k) h t whole e = omega (arith, ints, e)
none_after f (first ∷ rest) zero h t whole e = absurd (omega arith)
none_after f (first ∷ rest) (suc k) h t whole e = none_after f rest k (omega arith) t whole e

pub total_step : (list : List Pair) (k : ℕ) (pair : Pair) → slice_get list k ≡ Some pair → pos 1 ≤ℤ pair.weight → (t n whole : ℤ)
    → t +ℤ total (entries_of (drop k list)) ≡ whole → n ≡ t +ℤ pair.weight → n +ℤ total (entries_of (drop (k + 1) list)) ≡ whole
total_step list k pair there some t n whole before now =
    sum_step (λ entry. pos entry.weight) list k pair there t n whole before (rw (weight_back pair.weight some) now)

pub pays_step : (side : Side) (g : GameView) (list : List Pair) (k : ℕ) (pair : Pair) → slice_get list k ≡ Some pair → pos 1 ≤ℤ pair.weight
    → (t n whole : ℤ) → t +ℤ following side g (entries_of (drop k list)) ≡ whole
    → n ≡ t +ℤ pair.weight *ℤ walk side g pair.one pair.two 0 → n +ℤ following side g (entries_of (drop (k + 1) list)) ≡ whole
pays_step side g list k pair there some t n whole before now =
    sum_step (λ entry. pos entry.weight *ℤ pay side g entry) list k pair there t n whole before (rw (weight_back pair.weight some) now)
