use Rattle.std.proofs.Common.{◌<◌, ◌≤◌, ◌*◌, ◌/◌, arith}
use Rattle.std.proofs.Math.Nat.{le_of_dvd, pos_of_dvd_of_pos}
use Rattle.std.proofs.lemmas.Nat.{le-div, mul-le}
use Rattle.residues.proofs.readers.next_hint.Goals as goal

pub nonzero_div-common : goal.nonzero_div-common
nonzero_div-common c = pos_of_dvd_of_pos c.gcd.ensures.0 c.requires.hint_positive

pub returns-then-common-le-HINT_BOUND-clause-positive :
    goal.returns-then-common-le-HINT_BOUND-clause-positive
returns-then-common-le-HINT_BOUND-clause-positive c =
    let some : 0 < c.gcd.result = pos_of_dvd_of_pos c.gcd.ensures.0 c.requires.hint_positive in
    let least : 1 * c.gcd.result ≤ c.args.hint = omega (arith, le_of_dvd c.requires.hint_positive c.gcd.ensures.0) in
    let once : 1 ≤ c.args.hint / c.gcd.result = le-div 1 c.args.hint c.gcd.result some least in
    omega (arith, mul-le 1 1 (c.args.hint / c.gcd.result) c.args.den once c.requires.den_positive)
