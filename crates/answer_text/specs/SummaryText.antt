-- The summary of a generated game: its number of nodes, and the corners of each notion's polygon.
use Rattle.std.specs.Prelude.{ℕ, ◌+◌, ◌*◌, List, ◌++◌, length, codes}
use Rattle.std.specs.Fmt.{decimal}
use Rattle.game_gen.specs.declared.kinds.Kind.{Kind}
use Rattle.game_gen.specs.declared.kinds.Kind.TheVariants.{Public, Dilemma, Chain}
use Rattle.game_gen.specs.GameText.{kind_name}
use Rattle.report_form.specs.declared.reports.Corner.{Corner}
use Rattle.report_form.specs.declared.reports.Block.{Block}
use Rattle.report_form.specs.declared.reports.Block.TheVariants.{Found, Empty, TooWide}
use Rattle.report_form.specs.declared.reports.NamedBlock.{NamedBlock}
use Rattle.report_text.specs.Joined.{each_text}
use Rattle.report_text.specs.NameText.{notion_name}
use Rattle.report_text.specs.PartText.{frac_text}

-- the root and seven nodes behind each of its actions, or two nodes a move and the last leaf
unfoldable pub node_count : Kind → ℕ → ℕ
node_count Public n = n * 7 + 1
node_count Dilemma n = n * 7 + 1
node_count Chain n = n * 2 + 1

unfoldable pub head_text : Kind → ℕ → ℕ → List ℕ
head_text kind n seed = codes "work " ++ kind_name kind ++ codes " " ++ decimal n ++ codes " " ++ decimal seed ++ codes "\n"

unfoldable pub nodes_text : Kind → ℕ → List ℕ
nodes_text kind n = codes "nodes " ++ decimal (node_count kind n) ++ codes "\n"

-- a corner's point
unfoldable pub corner_summary : Corner → List ℕ
corner_summary corner = codes "corner " ++ frac_text corner.point.one ++ codes " " ++ frac_text corner.point.two ++ codes "\n"

unfoldable pub polygon_summary : List Corner → List ℕ
polygon_summary corners = codes " found " ++ decimal (length corners) ++ codes "\n" ++ each_text corner_summary corners

-- what a block says behind the notion's name
unfoldable pub found_summary : Block → List ℕ
found_summary (Found corners sides) = polygon_summary corners
found_summary (Empty multipliers) = codes " empty\n"
found_summary (TooWide basis place) = codes " toowide\n"

unfoldable pub block_summary : NamedBlock → List ℕ
block_summary named = notion_name named.notion ++ found_summary named.block

unfoldable pub summary_text : Kind → ℕ → ℕ → List NamedBlock → List ℕ
summary_text kind n seed blocks = head_text kind n seed ++ nodes_text kind n ++ each_text block_summary blocks
