-- The report of a game whose only node is terminal. Its polygon under each notion is the one point of its payoffs: every
-- direction is met by that corner, and the multiplier of the total row is the payoff (von Stengel and Forges 2008).
use Rattle.std.specs.Prelude.{ℕ, ℤ, Bool, true, false, List, [], ◌++◌, codes}
use Rattle.std.specs.Fmt.{signed_decimal}
use Rattle.corr_game.specs.declared.notions.Notion.{Notion}
use Rattle.corr_game.specs.declared.notions.Notion.TheVariants.{Efce, Efcce, Nfcce}
use Rattle.corr_game.specs.declared.payoffs.Pay.{Pay}
use Rattle.command_words.specs.declared.commands.Notions.{Notions}

unfoldable pub notion_name : Notion → List ℕ
notion_name Efce = codes "efce"
notion_name Efcce = codes "efcce"
notion_name Nfcce = codes "nfcce"

-- the multipliers of the rows behind the total row: only the last notion has such rows here, one for each player
unfoldable pub further_multipliers : Notion → List ℕ
further_multipliers Efce = []
further_multipliers Efcce = []
further_multipliers Nfcce = codes " 0 0"

-- the only corner, with a distribution on the only pair of plans
unfoldable pub corner : Pay → List ℕ
corner pay = codes "corner 0 " ++ signed_decimal pay.one ++ codes " " ++ signed_decimal pay.two ++ codes " total 1 pairs 1\nweight 1\none\ntwo\n"

-- a line of multipliers, that of the total row first
unfoldable pub multipliers : List ℕ → ℤ → List ℕ → List ℕ
multipliers name payoff further = name ++ signed_decimal payoff ++ further ++ codes "\n"

-- the side at the corner in a direction
unfoldable pub side : List ℕ → Notion → Pay → List ℕ
side direction notion pay = codes "side " ++ direction ++ codes " corner 0 den 1\n"
    ++ multipliers (codes "first ") pay.one (further_multipliers notion)
    ++ multipliers (codes "second ") pay.two (further_multipliers notion)

-- the sides in the four axes' directions, turning from the first payoff
unfoldable pub sides : Notion → Pay → List ℕ
sides notion pay = side (codes "1 0") notion pay ++ side (codes "0 1") notion pay ++ side (codes "-1 0") notion pay ++ side (codes "0 -1") notion pay

unfoldable pub block : Notion → Pay → List ℕ
block notion pay = codes "notion " ++ notion_name notion ++ codes " found\ncorners 1\n" ++ corner pay ++ codes "sides 4\n" ++ sides notion pay

-- the block where its notion is selected
unfoldable pub block_if : Bool → Notion → Pay → List ℕ
block_if false notion pay = []
block_if true notion pay = block notion pay

unfoldable pub one_node_report : Notions → Pay → List ℕ
one_node_report notions pay = codes "corr-report 1\nscale 1 1\n" ++ block_if notions.efce Efce pay ++ block_if notions.efcce Efcce pay ++ block_if notions.nfcce Nfcce pay ++ codes "end\n"
