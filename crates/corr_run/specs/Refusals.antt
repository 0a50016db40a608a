-- The refusals of the layers below under the names that a refusal's line has; none where memory ran out.
use Rattle.std.specs.Prelude.{Option, Some, None, ⊤}
use Rattle.efg_lines.specs.declared.refusal.FileRefusal.{FileRefusal}
use Rattle.efg_lines.specs.declared.refusal.FileRefusal.TheVariants as lines
use Rattle.game_scale.specs.declared.refusal.ScaleRefusal.{ScaleRefusal}
use Rattle.game_scale.specs.declared.refusal.ScaleRefusal.TheVariants as scales
use Rattle.report_form.specs.declared.refusals.NodeRule.TheVariants as rule
use Rattle.report_form.specs.declared.refusals.Refusal.{Refusal}
use Rattle.report_form.specs.declared.refusals.Refusal.TheVariants.{Syntax, Players, AtNode, ScaleTooLarge}
use Rattle.corr_run.specs.declared.prepare.ReadyEnd.{ReadyEnd}
use Rattle.corr_run.specs.declared.prepare.ReadyEnd.TheVariants.{Refused, NoMemory}

-- the refusal by which a file's lines are refused
abbrev pub line_refusal : FileRefusal → Option Refusal
line_refusal (lines.Syntax at) = Some (Syntax at)
line_refusal (lines.Players count) = Some (Players count)
line_refusal (lines.ExtraNode node) = Some (AtNode rule.ExtraNode node)
line_refusal (lines.TooManyNodes node) = Some (AtNode rule.TooManyNodes node)
line_refusal (lines.TooDeep node) = Some (AtNode rule.TooDeep node)
line_refusal (lines.NumberTooWide node) = Some (AtNode rule.NumberTooWide node)
line_refusal (lines.PlayerUnknown node) = Some (AtNode rule.PlayerUnknown node)
line_refusal (lines.NoActions node) = Some (AtNode rule.NoActions node)
line_refusal (lines.TooManyActions node) = Some (AtNode rule.TooManyActions node)
line_refusal (lines.ChanceNegative node) = Some (AtNode rule.ChanceNegative node)
line_refusal (lines.ChanceTooFine node) = Some (AtNode rule.ChanceTooFine node)
line_refusal (lines.ChanceSum node) = Some (AtNode rule.ChanceSum node)
line_refusal (lines.SetUnknown node) = Some (AtNode rule.SetUnknown node)
line_refusal (lines.SetDiffers node) = Some (AtNode rule.SetDiffers node)
line_refusal (lines.PayoffCount node) = Some (AtNode rule.PayoffCount node)
line_refusal (lines.OutcomeUnknown node) = Some (AtNode rule.OutcomeUnknown node)
line_refusal (lines.OutcomeDiffers node) = Some (AtNode rule.OutcomeDiffers node)
line_refusal (lines.MissingNode node) = Some (AtNode rule.MissingNode node)
line_refusal lines.NoMemory = None

-- the refusal by which a game without amounts within the limits is refused
abbrev pub scale_refusal : ScaleRefusal → Option Refusal
scale_refusal (scales.PathTooFine node) = Some (AtNode rule.PathTooFine node)
scale_refusal (scales.ScaleTooLarge side) = Some (ScaleTooLarge side)
scale_refusal (scales.AmountTooLarge node) = Some (AtNode rule.AmountTooLarge node)
scale_refusal scales.NoMemory = None

-- there is no game for this refusal's sake, or for want of memory
abbrev pub end_of : Option Refusal → ReadyEnd
end_of None = NoMemory
end_of (Some refusal) = Refused refusal

-- a fact of a refusal; memory may run out
abbrev pub IfRefused : (Refusal → Type 0) → ReadyEnd → Type 0
IfRefused P (Refused refusal) = P refusal
IfRefused P NoMemory = ⊤
