-- The ranges of a report's numbers, in the order of its parts: what its text can hold.
use Rattle.std.specs.Prelude.{ℕ, ◌+◌, ◌^◌, ◌<◌, ◌≤◌, List, [], ◌∷◌, length, All, Option, Some, None, ℤ, pos, ◌≤ℤ◌, unsigned_abs}
use Rattle.std.specs.Int.{IsGcd}
use Rattle.corr_game.specs.declared.notions.Notion.{Notion}
use Rattle.corr_game.specs.declared.notions.Notion.TheVariants.{Efce, Efcce, Nfcce}
use Rattle.corr_game.specs.declared.plans.Pair.{Pair}
use Rattle.corr_num.specs.Fraction.{Fraction, IsLowest}
use Rattle.corr_num.specs.Narrow.{Narrow}
use Rattle.lp_form.specs.declared.places.Place.{Place}
use Rattle.lp_form.specs.declared.places.RowName.{RowName}
use Rattle.lp_form.specs.declared.places.RowName.TheVariants.{Basic, First, Second, Phase}
use Rattle.plane_hull.specs.declared.sides.Point.{Point}
use Rattle.plane_hull.specs.declared.sides.SideRow.{SideRow}
use Rattle.report_form.specs.declared.reports.Corner.{Corner}
use Rattle.report_form.specs.declared.reports.Block.{Block}
use Rattle.report_form.specs.declared.reports.Block.TheVariants.{Found, Empty, TooWide}
use Rattle.report_form.specs.declared.reports.NamedBlock.{NamedBlock}
use Rattle.report_form.specs.View.{ReportView}

-- 1 or more, and narrow
abbrev pub IsPositive : ℤ → Type 0
IsPositive z = (pos 1 ≤ℤ z) × Narrow z

-- an action's number in a plan is printed from 1 to 64
abbrev pub IsAction : Option ℕ → Type 0
IsAction None = Unit {0}
IsAction (Some action) = action < 64

-- a weighted pair of plans
abbrev pub IsPair : Pair → Type 0
IsPair pair = IsPositive pair.weight × All IsAction pair.one × All IsAction pair.two

-- a payoff in lowest terms, its parts below 2^126 in magnitude
pub record IsPayoff (payoff : Fraction) : Type 0 where
  pub lowest : IsLowest payoff
  pub num : unsigned_abs payoff.num < 2 ^ 126
  pub den : unsigned_abs payoff.den < 2 ^ 126

-- a point is a payoff of each player
abbrev pub IsPoint : Point → Type 0
IsPoint point = IsPayoff point.one × IsPayoff point.two

-- a corner at a point, with 1 to 65535 pairs
abbrev pub IsCorner : Corner → Type 0
IsCorner corner =
    IsPositive corner.total × (1 ≤ length corner.pairs) × (length corner.pairs ≤ 65535) × All IsPair corner.pairs × IsPoint corner.point

-- a side at one of so many corners, in a direction of coprime numbers
abbrev pub IsSide : ℕ → SideRow → Type 0
IsSide corners side =
    IsGcd (unsigned_abs side.dir.a) (unsigned_abs side.dir.b) 1
    × (side.corner < corners)
    × IsPositive side.den
    × All Narrow side.first
    × All Narrow side.second

-- columns in strictly ascending order from `low` on, below 2^32
abbrev pub AscendFrom : ℕ → List ℕ → Type 0
AscendFrom low [] = Unit {0}
AscendFrom low (column ∷ rest) = (low ≤ column) × (column < 2 ^ 32) × AscendFrom (column + 1) rest

-- a row of a tableau, whose basic column is below 2^32 where it has one
abbrev pub IsRow : RowName → Type 0
IsRow (Basic column) = column < 2 ^ 32
IsRow First = Unit {0}
IsRow Second = Unit {0}
IsRow Phase = Unit {0}

-- a place in a tableau, its column below 2^32
abbrev pub IsEntryPlace : Place → Type 0
IsEntryPlace place = IsRow place.row × (place.col < 2 ^ 32)

-- one or more, and fewer than 2^64
abbrev pub AreSome : ℕ → Type 0
AreSome count = (1 ≤ count) × (count < 2 ^ 64)

-- one notion's block
abbrev pub IsBlock : Block → Type 0
IsBlock (Found corners sides) =
    AreSome (length corners) × AreSome (length sides) × All IsCorner corners × All (IsSide (length corners)) sides
IsBlock (Empty multipliers) = All Narrow multipliers
IsBlock (TooWide basis place) = AscendFrom 0 basis × IsEntryPlace place

-- the place of a notion in the order of notions
abbrev pub notion_number : Notion → ℕ
notion_number Efce = 0
notion_number Efcce = 1
notion_number Nfcce = 2

-- blocks whose notions stand in order, each at most once, from this number on
abbrev pub InOrderFrom : ℕ → List NamedBlock → Type 0
InOrderFrom low [] = Unit {0}
InOrderFrom low (named ∷ rest) = (low ≤ notion_number named.notion) × IsBlock named.block × InOrderFrom (notion_number named.notion + 1) rest

-- a scale is 1 to 2^24
abbrev pub IsScale : ℤ → Type 0
IsScale scale = (pos 1 ≤ℤ scale) × (scale ≤ℤ pos (2 ^ 24))

-- a report: two scales and at least one block
pub record IsReport (report : ReportView) : Type 0 where
  pub scale_one : IsScale report.scale_one
  pub scale_two : IsScale report.scale_two
  pub a_block : 1 ≤ length report.blocks
  pub blocks : InOrderFrom 0 report.blocks
