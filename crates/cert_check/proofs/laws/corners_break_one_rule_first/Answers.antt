use Rattle.cert_check.specs.CornerRules.{CornerRule, corner_rules}
use Rattle.cert_check.proofs.FirstBroken.{one_broken}
use Rattle.cert_check.proofs.laws.corners_break_one_rule_first.Goals as goal

pub returns : goal.returns
returns c = λ g notion corner one two a b. one_broken (CornerRule g notion corner) corner_rules one two a b
