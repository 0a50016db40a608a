-- What the fields of a refusal and of a verdict hold: numbers below 2^64, and at the belt the one cause that there is.
use Rattle.std.specs.Prelude.{◌≡◌, ℕ, ◌^◌, ◌<◌}
use Rattle.report_form.specs.declared.verdicts.Cause.{Cause}
use Rattle.report_form.specs.declared.verdicts.Cause.TheVariants as cause
use Rattle.report_form.specs.declared.verdicts.Item.{Item}
use Rattle.report_form.specs.declared.verdicts.Item.TheVariants as item
use Rattle.report_form.specs.declared.verdicts.Verdict.{Verdict}
use Rattle.report_form.specs.declared.verdicts.Verdict.TheVariants.{Yes, Partial, NoScale, No}
use Rattle.report_form.specs.declared.refusals.Refusal.{Refusal}
use Rattle.report_form.specs.declared.refusals.Refusal.TheVariants.{InputTooLong, Report, Syntax, Players, AtNode, ScaleTooLarge}
use Rattle.report_form.specs.declared.refusals.Refusal.TheVariants.{Forgets, Triangle, Size, TooLarge}

-- a number of 64 bits
abbrev pub IsField : ℕ → Type 0
IsField n = n < 2 ^ 64

-- all numbers of a refusal are
abbrev pub HasRefusalFields : Refusal → Type 0
HasRefusalFields (InputTooLong limit) = IsField limit
HasRefusalFields (Report at) = IsField at
HasRefusalFields (Syntax at) = IsField at
HasRefusalFields (Players count) = IsField count
HasRefusalFields (AtNode name node) = IsField node
HasRefusalFields (ScaleTooLarge side) = Unit {0}
HasRefusalFields (Forgets side set first second) = IsField set × IsField first × IsField second
HasRefusalFields (Triangle one_a one_b two_a two_b) = IsField one_a × IsField one_b × IsField two_a × IsField two_b
HasRefusalFields (Size notion rows columns) = IsField rows × IsField columns
HasRefusalFields (TooLarge greatest) = IsField greatest

-- the number of the item at which a rule fails is one, and at the belt the cause is the belt
abbrev pub HasItemFields : Item → Cause → Type 0
HasItemFields (item.Corner k) broken = IsField k
HasItemFields (item.Belt side) broken = IsField side × (broken ≡ cause.Belt)
HasItemFields (item.Side k) broken = IsField k
HasItemFields item.Multipliers broken = Unit {0}

-- so it is where a verdict finds a rule broken
abbrev pub HasVerdictFields : Verdict → Type 0
HasVerdictFields Yes = Unit {0}
HasVerdictFields Partial = Unit {0}
HasVerdictFields NoScale = Unit {0}
HasVerdictFields (No notion at broken) = HasItemFields at broken
