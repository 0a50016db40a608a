-- A fraction is a payoff exactly where its lowest terms are.
use Rattle.std.proofs.Common.{◌↔◌, pos, ◌<ℤ◌, sym, arith}
use Rattle.std.proofs.lemmas.Int.{ints}
use Rattle.exact_algebra.proofs.Fractions.{fraction_trans_same}
use Rattle.corr_num.specs.Fraction.{Fraction, IsReduced, IsSameNumber}

pub share_is : (reduced payoff share : Fraction) → pos 0 <ℤ share.den → IsReduced reduced share
    → IsSameNumber reduced payoff ↔ IsSameNumber payoff share
share_is reduced payoff share above is = (
  λ same.
      let over = is.lowest.positive in
      fraction_trans_same payoff.num payoff.den reduced.num reduced.den share.num share.den (λ z. absurd (omega (arith, ints))) (sym same)
      is.same,
  λ same.
      fraction_trans_same reduced.num reduced.den share.num share.den payoff.num payoff.den (λ z. absurd (omega (arith, ints))) is.same
      (sym same),
)
