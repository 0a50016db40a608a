-- What the solutions of the program are: joint values of both players' sequences (von Stengel and Forges 2008).
use Rattle.std.specs.Prelude.{◌≡◌, ℤ, pos, List, length, slice_index_or}
use Rattle.corr_game.specs.declared.sides.Side.TheVariants.{One}
use Rattle.lp_form.specs.Program.{LpView}
use Rattle.lp_form.specs.Solutions.{IsSolution}
use Rattle.connected_pairs.specs.Connected.{PairsView}
use Rattle.connected_pairs.specs.CorrelationRows.{MeetsRows, value_of}

-- each solution meets the correlation rows, and its total stands at the pair of empty sequences
abbrev pub SolutionsMeetRows : PairsView → LpView → Type 0
SolutionsMeetRows p lp = (values : List ℤ) (total : ℤ) → length values ≡ length p.pairs
    → IsSolution lp total (λ k. slice_index_or values k (pos 0)) → MeetsRows p values × (value_of p values One 0 0 ≡ total)
