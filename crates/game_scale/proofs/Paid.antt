-- What is paid at a leaf, from both players' amounts.
use Rattle.std.proofs.Common.{ℤ, ◌≤◌, ◌^◌}
use Rattle.std.specs.Prelude.{unsigned_abs}
use Rattle.corr_num.specs.Fraction.{Fraction, IsReduced}
use Rattle.corr_game.specs.declared.sides.Side.TheVariants.{One, Two}
use Rattle.game_scale.specs.declared.scales.Scales.{Scales}
use Rattle.game_scale.specs.Amounts.{IsPaid, scale_in}
use Rattle.game_scale.specs.Paths.{PathView, weighted}
use Rattle.game_scale.specs.Scales.{IsTimes}
use Rattle.game_scale.proofs.Weighted.{times_weighted}

pub paid : (scales : Scales) (path : PathView) (first second : Fraction) (one two : ℤ) → IsReduced first (weighted One path) → IsReduced second (weighted Two path)
    → IsTimes scales.one first one × (unsigned_abs one ≤ 2 ^ 28) → IsTimes scales.two second two × (unsigned_abs two ≤ 2 ^ 28) → IsPaid (scale_in scales) path (record { one = one; two = two })
paid scales path first second one two h k a b One = (times_weighted One path first scales.one one h a.0, a.1)
paid scales path first second one two h k a b Two = (times_weighted Two path second scales.two two k b.0, b.1)
