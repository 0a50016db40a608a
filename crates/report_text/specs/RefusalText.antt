-- The line of a refusal.
use Rattle.std.specs.Prelude.{ℕ, List, ◌++◌, codes}
use Rattle.report_form.specs.declared.refusals.Refusal.{Refusal}
use Rattle.report_form.specs.declared.refusals.Refusal.TheVariants.{InputTooLong, Report, Syntax, Players, AtNode, ScaleTooLarge, Forgets, Triangle, Size, TooLarge}
use Rattle.report_text.specs.NameText.{notion_name, player_name, rule_name}
use Rattle.report_text.specs.PartText.{count_text}

-- what stands between `refused ` and the line's end
unfoldable pub cause_text : Refusal → List ℕ
cause_text (InputTooLong limit) = codes "InputTooLong" ++ count_text limit
cause_text (Report at) = codes "Report byte" ++ count_text at
cause_text (Syntax at) = codes "Syntax byte" ++ count_text at
cause_text (Players count) = codes "Players" ++ count_text count
cause_text (AtNode name node) = rule_name name ++ codes " node" ++ count_text node
cause_text (ScaleTooLarge side) = codes "ScaleTooLarge player " ++ player_name side
cause_text (Forgets side set first second) = codes "Forgets player " ++ player_name side ++ codes " set" ++ count_text set
    ++ codes " nodes" ++ count_text first ++ count_text second
cause_text (Triangle one_a one_b two_a two_b) = codes "Triangle sets" ++ count_text one_a ++ count_text one_b ++ count_text two_a ++ count_text two_b
cause_text (Size notion rows columns) = codes "Size " ++ notion_name notion ++ codes " rows" ++ count_text rows ++ codes " columns" ++ count_text columns
cause_text (TooLarge greatest) = codes "TooLarge n" ++ count_text greatest

unfoldable pub refusal_text : Refusal → List ℕ
refusal_text refusal = codes "refused " ++ cause_text refusal ++ codes "\n"
