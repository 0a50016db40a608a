-- What it says where the checker ends: of a broken rule its cause, of a block's fault its item too, and of a lack of memory nothing.
use Rattle.cert_check.specs.declared.faults.BlockEnd.{BlockEnd}
use Rattle.cert_check.specs.declared.faults.BlockEnd.TheVariants as block
use Rattle.cert_check.specs.declared.faults.RuleEnd.{RuleEnd}
use Rattle.cert_check.specs.declared.faults.RuleEnd.TheVariants as rule
use Rattle.report_form.specs.declared.verdicts.Cause.{Cause}
use Rattle.report_form.specs.declared.verdicts.Item.{Item}

-- a broken rule's cause is so
abbrev pub IsBreak : (Cause → Type 0) → RuleEnd → Type 0
IsBreak P (rule.Broken cause) = P cause
IsBreak P rule.NoMemory = Unit {0}

-- a fault's item and cause are so
abbrev pub IsFaultWith : (Item → Cause → Type 0) → BlockEnd → Type 0
IsFaultWith P (block.Fault fault) = P fault.item fault.cause
IsFaultWith P block.NoMemory = Unit {0}

-- a broken rule at this item is its fault
abbrev pub placed : Item → RuleEnd → BlockEnd
placed at (rule.Broken cause) = block.Fault (record { item = at; cause = cause })
placed at rule.NoMemory = block.NoMemory
