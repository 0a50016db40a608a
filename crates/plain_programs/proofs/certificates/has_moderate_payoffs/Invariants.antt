use Rattle.std.proofs.Common.{ℕ, ◌<◌, ◌≤◌, ◌^◌, unsigned_abs}
use Rattle.lp_form.specs.Program.{payoff_of}
use Rattle.plain_programs.proofs.certificates.has_moderate_payoffs.Given as goal

abbrev pub invariant-loop-col : goal.invariant-loop-col
invariant-loop-col l = (col : ℕ) → col < l.col → unsigned_abs (payoff_of l.fn.side l.lp col) ≤ 2 ^ 30
