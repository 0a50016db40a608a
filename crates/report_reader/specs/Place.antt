-- The places that a refusal of a report names.
use Rattle.std.specs.Prelude.{ℕ, ◌≤◌}
use Rattle.report_reader.specs.declared.refusals.ReportRefusal.{ReportRefusal}
use Rattle.report_reader.specs.declared.refusals.ReportRefusal.TheVariants.{Syntax, NoMemory}

-- a byte of the input, or its end
abbrev pub IsPlace : ℕ → ReportRefusal → Type 0
IsPlace count (Syntax at) = at ≤ count
IsPlace count NoMemory = Unit {0}
