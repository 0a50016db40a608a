-- The program of a notion, over the correlation rows (von Stengel and Forges 2008).
use Rattle.std.specs.Prelude.{◌≡◌, ℕ, ◌<◌, ◌≤◌, List, length, ℤ, pos, slice_index_or}
use Rattle.corr_game.specs.declared.sides.Side.TheVariants.{One}
use Rattle.connected_pairs.specs.Connected.{PairsView}
use Rattle.connected_pairs.specs.CorrelationRows.{MeetsRows, value_of}
use Rattle.lp_form.specs.Program.{LpView}
use Rattle.lp_form.specs.Solutions.{IsSolution}

-- the relevant pairs are the program's first columns; the numbers that a solution has there meet the correlation rows, and its
-- total is that of the pair of empty sequences
pub record IsOverRows (p : PairsView) (lp : LpView) : Type 0 where
  pub columns : length p.pairs ≤ lp.cols
  pub meets : (values : List ℤ) (total : ℤ) (x : ℕ → ℤ) → length values ≡ length p.pairs → ((k : ℕ) → k < length p.pairs → slice_index_or values k (pos 0) ≡ x k)
      → IsSolution lp total x → MeetsRows p values × (value_of p values One 0 0 ≡ total)
