-- Numbers for the relevant pairs that meet the correlation rows (von Stengel and Forges 2008).
pub use Rattle.connected_pairs.specs.Connected.{IsClosedBack}
use Rattle.std.specs.Prelude.{ℕ, ◌≡◌, ◌+◌, ◌<◌, ◌≤ℤ◌, ℤ, pos, List, Option, Some, None, slice_get, slice_index_or}
use Rattle.exact_algebra.specs.Sums.{sum_to}
use Rattle.corr_game.specs.declared.sides.Side.{Side}
use Rattle.corr_game.specs.declared.sides.Side.TheVariants.{One, Two}
use Rattle.sequences.specs.declared.places.Place.{Place}
use Rattle.sequences.specs.Number.{count_of, last_of, side_of}
use Rattle.connected_pairs.specs.Connected.{PairsView, IsTouched, index_of, other}

-- the value at an index, and 0 where there is none
abbrev pub value_at : List ℤ → Option ℕ → ℤ
value_at values None = pos 0
value_at values (Some k) = slice_index_or values k (pos 0)

-- the value at a sequence of this player and one of the other
abbrev pub value_of : PairsView → List ℤ → Side → ℕ → ℕ → ℤ
value_of p values One own beside = value_at values (index_of p own beside)
value_of p values Two own beside = value_at values (index_of p beside own)

-- values of 0 or more by which each set passes on what its own sequence has, beside each sequence of the other player that
-- is empty or whose last set is connected to it
pub record MeetsRows (p : PairsView) (values : List ℤ) : Type 0 where
  pub row : (side : Side) (set : ℕ) (place : Place) (beside : ℕ) → slice_get (side_of side p.seqs).places set ≡ Some place → beside < count_of (side_of (other side) p.seqs)
      → IsTouched p (other side) set (last_of (side_of (other side) p.seqs) beside) → sum_to place.actions (λ a. value_of p values side (place.first + a) beside) ≡ value_of p values side place.own beside
  pub not_negative : (k : ℕ) → pos 0 ≤ℤ slice_index_or values k (pos 0)
