-- Both players' payoffs, and no others.
use Rattle.std.proofs.Common.{rules}
use Rattle.corr_game.specs.declared.sides.Side.{Side}
use Rattle.corr_game.specs.declared.sides.Side.TheVariants.{One, Two}
use Rattle.plain_programs.proofs.certificates.pays_moderately.Goals as goal

of_both : (P : Side → Type 0) → P One → P Two → (side : Side) → P side
of_both P one two One = one
of_both P one two Two = two

pub returns-then-has_moderate_payoffs : goal.returns-then-has_moderate_payoffs
returns-then-has_moderate_payoffs c = (
  λ yes. of_both _ (c.has_moderate_payoffs.ensures.0 c.if-has_moderate_payoffs.true) (c.has_moderate_payoffs-then-has_moderate_payoffs.ensures.0 yes),
  λ all. c.has_moderate_payoffs-then-has_moderate_payoffs.ensures.1 (all Two),
)

pub returns-else-has_moderate_payoffs : goal.returns-else-has_moderate_payoffs
returns-else-has_moderate_payoffs c = (
  λ yes. let no = c.if-has_moderate_payoffs.false in absurd (search rules),
  λ all. c.has_moderate_payoffs.ensures.1 (all One),
)
