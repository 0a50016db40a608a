-- No power up to the 30th is above the 30th.
use Rattle.std.proofs.Common.{◌<◌, ◌≤◌, ◌^◌, arith}
use Rattle.std.proofs.Math.Nat.{pow-le-pow_right}
use Rattle.number_words.proofs.values.power_of_ten.Goals as goal

pub pow-requires : goal.pow-requires
pow-requires c =
    let ten : 0 < 10 = omega arith in
    let grows : 10 ^ c.args.power ≤ 10 ^ 30 = pow-le-pow_right ten c.requires in
    omega arith
