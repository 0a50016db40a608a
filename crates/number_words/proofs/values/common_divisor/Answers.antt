-- 0 divides nothing but 0, and no number above the greatest common divisor divides both.
use Rattle.number_words.proofs.Divisors.{positive, greatest}
use Rattle.number_words.proofs.values.common_divisor.Goals as goal

pub returns-clause-positive : goal.returns-clause-positive
returns-clause-positive c = positive c.args.a c.args.b c.gcd.result c.gcd.ensures c.requires

pub returns-clause-value : goal.returns-clause-value
returns-clause-value c = greatest c.args.a c.args.b c.gcd.result c.gcd.ensures c.requires
