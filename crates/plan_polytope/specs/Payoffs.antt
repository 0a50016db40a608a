-- The payoff rows over the relevant pairs (von Stengel and Forges 2008): a pair's coefficient is the sum of what the leaves pay to
-- which its two sequences lead.
use Rattle.std.specs.Prelude.{◌≡◌, ℕ, ℤ, pos, length, Option, Some, None, cond, nat_eq, slice_get, slice_index}
use Rattle.exact_algebra.specs.Sums.{sum_to}
use Rattle.corr_game.specs.declared.nodes.Node.{Node}
use Rattle.corr_game.specs.declared.nodes.Node.TheVariants.{Leaf, Chance, Choice}
use Rattle.corr_game.specs.declared.sides.Side.{Side}
use Rattle.corr_game.specs.Game.{GameView}
use Rattle.corr_game.specs.Node.{amount_of}
use Rattle.connected_pairs.specs.Connected.{PairsView, index_of}
use Rattle.lp_form.specs.Program.{LpView, payoff_of}

-- a value in its column, and 0 in the others and where there is none
abbrev pub in_column : Option ℕ → ℤ → ℕ → ℤ
in_column None value k = pos 0
in_column (Some col) value k = cond (nat_eq col k) value (pos 0)

-- the column of the two sequences that lead to a node
abbrev pub column_at : PairsView → ℕ → Option ℕ
column_at p n = index_of p (slice_index p.seqs.one.nodes n) (slice_index p.seqs.two.nodes n)

-- what the node with this number pays a player in a column: nothing where it isn't a leaf
abbrev pub paid_in : PairsView → Side → ℕ → ℕ → Option Node → ℤ
paid_in p side k n None = pos 0
paid_in p side k n (Some (Leaf pay)) = in_column (column_at p n) (amount_of side pay) k
paid_in p side k n (Some (Chance kids)) = pos 0
paid_in p side k n (Some (Choice mover set kids)) = pos 0

-- the sum over the first so many nodes
abbrev pub paid_below : GameView → PairsView → Side → ℕ → ℕ → ℤ
paid_below g p side k count = sum_to count (λ n. paid_in p side k n (slice_get g.nodes n))

-- each payoff coefficient is the sum over all nodes
pub record ArePayoffs (g : GameView) (p : PairsView) (lp : LpView) : Type 0 where
  pub each : (side : Side) (k : ℕ) → payoff_of side lp k ≡ paid_below g p side k (length g.nodes)
