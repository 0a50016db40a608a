-- Reports on a file, by the notions that were selected.
pub use Rattle.cert_check.specs.Certified.{NoneTooWide, is_too_wide}
use Rattle.std.specs.Prelude.{◌≡◌, ◌⊎◌, ℕ, ◌≤◌, List, [], ◌∷◌, map, All}
use Rattle.corr_game.specs.declared.notions.Notion.{Notion}
use Rattle.corr_game.specs.Game.{GameView}
use Rattle.connected_pairs.specs.Connected.{PairsView}
use Rattle.incentive_rows.specs.Size.{HasSize}
use Rattle.notion_solve.specs.Right.{IsRightFor}
use Rattle.report_form.specs.declared.reports.NamedBlock.{NamedBlock}
use Rattle.report_form.specs.Ranges.{IsBlock}
use Rattle.command_words.specs.declared.commands.Notions.{Notions}
use Rattle.corr_run.specs.declared.status.Status.{Status}
use Rattle.corr_run.specs.declared.status.Status.TheVariants as status
use Rattle.command_words.specs.Selection.{selected}

-- a notion's program has at most 2048 rows and 8192 columns
abbrev pub FitsProgram : GameView → PairsView → Notion → Type 0
FitsProgram g p notion = (rows columns : ℕ) × HasSize g p notion rows columns × (rows ≤ 2048) × (columns ≤ 8192)

-- so has that of each of these notions
abbrev pub FitPrograms : GameView → PairsView → List Notion → Type 0
FitPrograms g p [] = Unit {0}
FitPrograms g p (notion ∷ rest) = FitsProgram g p notion × FitPrograms g p rest

-- the notions of blocks
abbrev pub notions_of : List NamedBlock → List Notion
notions_of blocks = map (λ (named : NamedBlock). named.notion) blocks

-- the numbers of each block are in their ranges
abbrev pub AreWhole : List NamedBlock → Type 0
AreWhole blocks = All (λ (named : NamedBlock). IsBlock named.block) blocks

-- the blocks are those of the selected notions, in order
abbrev pub AreBlocksOf : Notions → List NamedBlock → Type 0
AreBlocksOf notions blocks = notions_of blocks ≡ selected notions

-- each block is right for its notion
abbrev pub AreRight : GameView → PairsView → List NamedBlock → Type 0
AreRight g p blocks = All (λ (named : NamedBlock). IsRightFor g p named.notion named.block) blocks

-- the status of a report with these blocks
abbrev pub HasStatus : List NamedBlock → Status → Type 0
HasStatus blocks ended = (NoneTooWide blocks × (ended ≡ status.Solved)) ⊎ ((NoneTooWide blocks → ⊥) × (ended ≡ status.TooWide))
