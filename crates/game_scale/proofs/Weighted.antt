-- What a path pays, weighed by its probability, and the same in lowest terms: a scale makes both whole, with one number.
use Rattle.std.proofs.Common.{ℤ, pos, ◌<ℤ◌, sym}
use Rattle.exact_algebra.proofs.Order.{product_positive}
use Rattle.corr_num.specs.Fraction.{Fraction, IsReduced}
use Rattle.corr_game.specs.declared.sides.Side.{Side}
use Rattle.corr_game.specs.declared.sides.Side.TheVariants.{One, Two}
use Rattle.game_scale.specs.Paths.{PathView, IsPathView, weighted}
use Rattle.game_scale.specs.Scales.{IsTimes, MakesWhole}
use Rattle.game_scale.proofs.Multiples.{times_same, whole_same}

pub weighted_positive : (side : Side) (path : PathView) → IsPathView path → pos 0 <ℤ (weighted side path).den
weighted_positive One path h = product_positive h.chance.positive h.one.positive
weighted_positive Two path h = product_positive h.chance.positive h.two.positive

pub whole_reduced : (side : Side) (path : PathView) (r : Fraction) (scale : ℤ) → IsPathView path → IsReduced r (weighted side path) → MakesWhole scale (weighted side path) → MakesWhole scale r
whole_reduced side path r scale rules h whole = whole_same (weighted side path) r scale (weighted_positive side path rules) (sym h.same) whole

pub whole_weighted : (side : Side) (path : PathView) (r : Fraction) (scale : ℤ) → IsReduced r (weighted side path) → MakesWhole scale r → MakesWhole scale (weighted side path)
whole_weighted side path r scale h whole = whole_same r (weighted side path) scale h.lowest.positive h.same whole

pub times_weighted : (side : Side) (path : PathView) (r : Fraction) (scale amount : ℤ) → IsReduced r (weighted side path) → IsTimes scale r amount → IsTimes scale (weighted side path) amount
times_weighted side path r scale amount h is = times_same r (weighted side path) scale amount h.lowest.positive h.same is
