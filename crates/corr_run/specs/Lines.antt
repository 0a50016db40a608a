-- The lines that stand alone: of a command that isn't understood, and of input that is refused.
use Rattle.std.specs.Prelude.{ℕ, List, codes}

unfoldable pub usage_line : List ℕ
usage_line = codes "usage: corr solve|check|gen|work [--notion efce|efcce|nfcce] [--kind public|dilemma|chain] [--n N] [--seed N]\n"

unfoldable pub too_long_line : List ℕ
too_long_line = codes "refused InputTooLong 4194304\n"

unfoldable pub report_too_long_line : List ℕ
report_too_long_line = codes "refused InputTooLong 1073741824\n"
