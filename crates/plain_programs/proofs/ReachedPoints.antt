-- What an equilibrium list pays, over both scales, is a point that it reaches.
use Rattle.std.proofs.Common.{◌≡◌, ℤ, pos, ◌*ℤ◌, ◌<ℤ◌, arith}
use Rattle.std.proofs.lemmas.Int.{ints}
use Rattle.exact_algebra.proofs.Order.{product_positive}
use Rattle.exact_algebra.proofs.RingTactic.{ring_laws, linear}
use Rattle.corr_game.specs.declared.notions.Notion.{Notion}
use Rattle.corr_game.specs.declared.sides.Side.{Side}
use Rattle.corr_game.specs.declared.sides.Side.TheVariants.{One, Two}
use Rattle.corr_game.specs.Game.{GameView, IsGame}
use Rattle.equilibrium.specs.Deviation.{following}
use Rattle.equilibrium.specs.Distribution.{Entry, total}
use Rattle.equilibrium.specs.Equilibrium.{IsEquilibriumList, Slack}
use Rattle.equilibrium.specs.ReachedPoint.{IsMeanOf, IsReached, Point}
use Rattle.std.proofs.Common.{List}

abbrev pub point_of : GameView → ℤ → ℤ → ℤ → Point
point_of g one two all = record { x = one *ℤ g.scale_two; y = two *ℤ g.scale_one; den = all *ℤ (g.scale_one *ℤ g.scale_two) }

first_mean : (f s t d : ℤ) → (f *ℤ t) *ℤ (s *ℤ d) ≡ (d *ℤ (s *ℤ t)) *ℤ f
first_mean f s t d = simp ring_laws (omega (arith, linear))

second_mean : (f s t d : ℤ) → (f *ℤ s) *ℤ (t *ℤ d) ≡ (d *ℤ (s *ℤ t)) *ℤ f
second_mean f s t d = simp ring_laws (omega (arith, linear))

pub reached_by : (g : GameView) → IsGame g → (list : List Entry) (one two all : ℤ) → one ≡ following One g list → two ≡ following Two g list
    → all ≡ total list → (notion : Notion) (slack : Slack) → IsEquilibriumList notion g slack list
    → IsReached notion g slack (point_of g one two all)
reached_by g rules list one two all e f k notion slack eq = rw (e, f, k) (record {
  positive =
      let first : pos 0 <ℤ g.scale_one = omega (arith, ints, (rules.each_scale One).0) in
      let second : pos 0 <ℤ g.scale_two = omega (arith, ints, (rules.each_scale Two).0) in
      product_positive eq.some_weight (product_positive first second);
  list = list;
  equilibrium = eq;
  mean = mean;
})
  where
    mean : (side : Side) → IsMeanOf side g list (point_of g (following One g list) (following Two g list) (total list))
    mean One = first_mean (following One g list) g.scale_one g.scale_two (total list)
    mean Two = second_mean (following Two g list) g.scale_one g.scale_two (total list)
