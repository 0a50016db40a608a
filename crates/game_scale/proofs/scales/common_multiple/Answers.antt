-- What is answered is the least common multiple.
use Rattle.std.proofs.Common.{ℕ, ◌*◌, ◌/◌, ◌<◌, arith}
use Rattle.std.specs.Int.{IsGcd}
use Rattle.std.proofs.lemmas.Nat.Gcd.{le_of_dvd}
use Rattle.game_scale.specs.LeastMultiple.{IsLcm}
use Rattle.game_scale.proofs.LeastMultiples.{lcm_is, gcd_some, multiple_some, lcm_least}
use Rattle.game_scale.proofs.scales.common_multiple.Goals as goal

is : (a b g : ℕ) → 0 < b → IsGcd a b g → IsLcm a b (a / g * b)
is a b g some h = lcm_is a b g (gcd_some a b g some h) h

pub returns-then-den-gt-LARGEST_SCALE-clause-none : goal.returns-then-den-gt-LARGEST_SCALE-clause-none
returns-then-den-gt-LARGEST_SCALE-clause-none c = λ e k some p q. omega (arith, le_of_dvd some q)

pub nonzero_div-multiple : goal.nonzero_div-multiple
nonzero_div-multiple c = gcd_some c.args.scale c.args.den c.gcd.result c.requires.den_some c.gcd.ensures

pub returns-then-multiple-gt-LARGEST_SCALE-clause-none : goal.returns-then-multiple-gt-LARGEST_SCALE-clause-none
returns-then-multiple-gt-LARGEST_SCALE-clause-none c = λ e k some p q. omega (arith, lcm_least c.args.scale c.args.den (c.args.scale / c.gcd.result * c.args.den) k (is c.args.scale c.args.den c.gcd.result c.requires.den_some c.gcd.ensures) some p q)

pub returns-clause-within : goal.returns-clause-within
returns-clause-within c = (multiple_some c.args.scale c.args.den (c.args.scale / c.gcd.result * c.args.den) c.requires.scale_some c.requires.den_some (is c.args.scale c.args.den c.gcd.result c.requires.den_some c.gcd.ensures), omega arith)

pub returns-clause-least : goal.returns-clause-least
returns-clause-least c = is c.args.scale c.args.den c.gcd.result c.requires.den_some c.gcd.ensures
