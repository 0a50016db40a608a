-- Which notions are selected, and in which order their blocks stand.
use Rattle.std.specs.Prelude.{◌≤◌, Bool, true, false, List, [], ◌∷◌, ◌++◌, length, cond}
use Rattle.corr_game.specs.declared.notions.Notion.{Notion}
use Rattle.corr_game.specs.declared.notions.Notion.TheVariants.{Efce, Efcce, Nfcce}
use Rattle.command_words.specs.declared.commands.Notions.{Notions}

-- all notions are selected
abbrev pub all_notions : Notions
all_notions = record { efce = true; efcce = true; nfcce = true }

-- a notion is selected alone
abbrev pub only_notion : Notion → Notions
only_notion Efce = record { efce = true; efcce = false; nfcce = false }
only_notion Efcce = record { efce = false; efcce = true; nfcce = false }
only_notion Nfcce = record { efce = false; efcce = false; nfcce = true }

-- the selected notions in their order
abbrev pub selected : Notions → List Notion
selected notions = cond notions.efce (Efce ∷ []) [] ++ cond notions.efcce (Efcce ∷ []) [] ++ cond notions.nfcce (Nfcce ∷ []) []

-- at least one notion is selected
abbrev pub SelectsSome : Notions → Type 0
SelectsSome notions = 1 ≤ length (selected notions)
