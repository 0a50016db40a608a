-- The payoff is compared with the fraction's lowest terms.
use Rattle.std.proofs.Common.{◌^◌, ◌<◌, ◌*ℤ◌, pos, ◌<ℤ◌, unsigned_abs, arith}
use Rattle.std.proofs.lemmas.Int.{ints}
use Rattle.corr_game.specs.Game.{scale_of}
use Rattle.corr_num.specs.Fraction.{Fraction, IsReduced}
use Rattle.corr_num.proofs.PrintedTerms.{narrow_returned, returned}
use Rattle.cert_check.proofs.Shares.{share_is}
use Rattle.cert_check.proofs.sides.is_share.Goals as goal

pub returns : goal.returns
returns c =
    let num = c.args.share.0 in
    let den = c.args.share.1 *ℤ scale_of c.args.side c.args.game.now in
    let share : Fraction = record { num = num; den = den } in
    let small : unsigned_abs c.in_file.result < 2 ^ 127 = omega (arith, c.in_file.ensures.bound) in
    let is : IsReduced c.of.result share =
    rw (
      narrow_returned num c.requires.narrow,
      returned c.in_file.result small,
      c.in_file.ensures.product,
      narrow_returned c.args.share.1 c.requires.den.1,
    ) at c.of.ensures in
    let over = rw (c.in_file.ensures.product, narrow_returned c.args.share.1 c.requires.den.1) at c.in_file.ensures.positive in
    let above : pos 0 <ℤ den = omega (arith, ints, over) in
    let same = share_is c.of.result c.args.payoff.now share above is in
    (λ h. same.0 (c.eq.ensures.same.0 h), λ h. c.eq.ensures.same.1 (same.1 h))
