-- Programs within the limits on rows and columns.
use Rattle.std.specs.Prelude.{◌≡◌, ℕ, ◌≤◌, List, Some, slice_get}
use Rattle.corr_game.specs.declared.notions.Notion.{Notion}
use Rattle.corr_game.specs.Game.{GameView}
use Rattle.connected_pairs.specs.Connected.{PairsView}
use Rattle.incentive_rows.specs.Size.{HasSize}
use Rattle.report_form.specs.declared.reports.NamedBlock.{NamedBlock}

-- a notion's program has at most 2048 rows and 8192 columns
abbrev pub Fits : GameView → PairsView → Notion → Type 0
Fits g p notion = (rows columns : ℕ) × HasSize g p notion rows columns × (rows ≤ 2048) × (columns ≤ 8192)

-- the program of each block's notion is
abbrev pub AllFit : GameView → PairsView → List NamedBlock → Type 0
AllFit g p blocks = (k : ℕ) (named : NamedBlock) → slice_get blocks k ≡ Some named → Fits g p named.notion
