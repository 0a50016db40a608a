-- The weighted pairs of plans of a corner (von Stengel and Forges 2008).
use Rattle.std.specs.Prelude.{◌≡◌, ℕ, ℤ, pos, List, Some, slice_get, slice_index_or, All}
use Rattle.corr_game.specs.declared.sides.Side.TheVariants.{One}
use Rattle.connected_pairs.specs.Connected.{PairsView}
use Rattle.connected_pairs.specs.CorrelationRows.{MeetsRows, value_of}
use Rattle.plan_decompose.specs.Entry.{SumsTo}
use Rattle.report_form.specs.declared.reports.Block.{Block}
use Rattle.report_form.specs.declared.reports.Block.TheVariants.{Found, Empty, TooWide}
use Rattle.report_form.specs.declared.reports.Corner.{Corner}

-- values that meet the correlation rows, with the corner's total: at each relevant pair the weights of the entries that play it
-- sum to its value
pub record IsSpread (p : PairsView) (corner : Corner) : Type 0 where
  pub values : List ℤ
  pub meets : MeetsRows p values
  pub total : value_of p values One 0 0 ≡ corner.total
  pub sums : (k : ℕ) (pair : ℕ × ℕ) → slice_get p.pairs k ≡ Some pair → SumsTo p.seqs pair corner.pairs (slice_index_or values k (pos 0))

-- each corner of a block
abbrev pub AreSpread : PairsView → Block → Type 0
AreSpread p (Found corners sides) = All (IsSpread p) corners
AreSpread p (Empty multipliers) = Unit {0}
AreSpread p (TooWide basis place) = Unit {0}
