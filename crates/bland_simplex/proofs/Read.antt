-- Multipliers that are read off the first phase one after another.
use Rattle.std.proofs.Common.{◌≡◌, ℕ, ◌+◌, ◌<◌, List, [], ◌∷◌, ◌++◌, length, ℤ, pos, ◌-ℤ◌, ◌≤ℤ◌, slice_index_or, All, ◌<ℤ◌, to_z, of_z, refl, arith}
use Rattle.std.specs.Int.{w128}
use Rattle.corr_num.proofs.PrintedTerms.{narrow_returned}
use Rattle.std.proofs.lemmas.Int.{ints}
use Rattle.std.proofs.lemmas.List.Elements.{All-push}
use Rattle.int_tableau.proofs.Pushing.{push_length, push_step}
use Rattle.corr_num.specs.Narrow.{Narrow}
use Rattle.int_tableau.specs.Content.{Content}

-- the multipliers of the first n rows
pub record AreRead (rows cols : ℕ) (t : Content) (n : ℕ) (multipliers : List ℤ) : Type 0 where
  pub one_each : length multipliers ≡ n
  pub values : (row : ℕ) → row < n → slice_index_or multipliers row (pos 0) ≡ t.denom -ℤ t.entry (rows + 2) (cols + row)
  pub narrow : All Narrow multipliers

pub read_more : (rows cols : ℕ) (t : Content) (n : ℕ) (xs ys : List ℤ) (x : ℤ) → AreRead rows cols t n xs → ys ≡ xs ++ x ∷ [] →
    x ≡ t.denom -ℤ t.entry (rows + 2) (cols + n) → Narrow x → AreRead rows cols t (n + 1) ys
read_more rows cols t n xs ys x read e is narrow = record {
  one_each = push_length xs ys n x e read.one_each;
  values = push_step (λ k v. v ≡ t.denom -ℤ t.entry (rows + 2) (cols + k)) (pos 0) xs ys n x e read.one_each read.values is;
  narrow = rw e (All-push Narrow xs x read.narrow narrow);
}

-- what `difference` answers, passed on in its bits
pub read_difference : (x y z denom phase : ℤ) → x ≡ denom → y ≡ phase → Narrow x → Narrow y → pos 0 <ℤ denom → pos 0 ≤ℤ phase →
    z ≡ to_z w128 (of_z w128 x) -ℤ to_z w128 (of_z w128 y) → (to_z w128 (of_z w128 z) ≡ denom -ℤ phase) × Narrow (to_z w128 (of_z w128 z))
read_difference x y z denom phase e f nx ny positive above h =
    let denom_narrow : Narrow denom = rw e at nx in
    let phase_narrow : Narrow phase = rw f at ny in
    let narrow : Narrow (denom -ℤ phase) = omega (arith, ints) in
    let is = rw (narrow_returned x nx, narrow_returned y ny, e, f) at h in
    rw (is, narrow_returned (denom -ℤ phase) narrow) (refl, narrow)
