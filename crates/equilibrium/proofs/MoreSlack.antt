-- A greater slack allows each deviation that a smaller one allows: by cross-multiplication.
use Rattle.std.proofs.Common.{◌*◌, ◌≤◌, ℕ, List, ℤ, pos, ◌+ℤ◌, ◌*ℤ◌, ◌≤ℤ◌, ◌<ℤ◌, arith}
use Rattle.std.proofs.lemmas.Int.{ints}
use Rattle.exact_algebra.proofs.Order.{cancel_at_most, product_not_negative, times_at_most}
use Rattle.exact_algebra.proofs.RingLaws.{*ℤ_assoc}
use Rattle.exact_algebra.proofs.RingTactic.{ring_laws, linear}
use Rattle.corr_game.specs.declared.notions.Notion.{Notion}
use Rattle.corr_game.specs.declared.sides.Side.{Side}
use Rattle.corr_game.specs.Game.{GameView, IsGame, scale_of}
use Rattle.equilibrium.specs.declared.triggers.Trigger.{Trigger}
use Rattle.equilibrium.specs.Deviation.{following, leaving}
use Rattle.equilibrium.specs.Distribution.{Entry, total}
use Rattle.equilibrium.specs.Equilibrium.{GainsNoMore, IsEquilibriumList, Slack}

-- gains l - f of at most n/d of u are at most m/e of it
allowed_more : (l f u n d m e : ℤ) → pos 0 ≤ℤ u → pos 0 <ℤ d → pos 0 ≤ℤ e → (n *ℤ e) ≤ℤ (m *ℤ d)
    → (d *ℤ l) ≤ℤ (d *ℤ f +ℤ n *ℤ u) → (e *ℤ l) ≤ℤ (e *ℤ f +ℤ m *ℤ u)
allowed_more l f u n d m e above positive room less gain =
    let scaled = simp ring_laws at (times_at_most e room gain) in
    let wider = simp ring_laws at (times_at_most u above less) in
    cancel_at_most d positive (simp ring_laws (omega (arith, linear)))

gains_allowed : (side : Side) (g : GameView) (list : List Entry) (a b : Slack) (trigger : Trigger) (choice : List ℕ) → IsGame g
    → pos 0 ≤ℤ total list → 1 ≤ a.den → a.num * b.den ≤ b.num * a.den
    → GainsNoMore side g a list trigger choice → GainsNoMore side g b list trigger choice
gains_allowed side g list a b trigger choice rules weight low less gain =
    let scale : pos 0 ≤ℤ scale_of side g = omega (arith, ints, (rules.each_scale side).0) in
    let whole = product_not_negative scale weight in
    let cross : (pos a.num *ℤ pos b.den) ≤ℤ (pos b.num *ℤ pos a.den) = omega (arith, ints) in
    let joined = rw (*ℤ_assoc (pos a.num) (scale_of side g) (total list)) at gain in
    rw (*ℤ_assoc (pos b.num) (scale_of side g) (total list))
    (allowed_more (leaving side g trigger choice list) (following side g list) (scale_of side g *ℤ total list) (pos a.num) (pos a.den)
    (pos b.num) (pos b.den) whole (omega (arith, ints)) (omega (arith, ints)) cross joined)

pub more_slack : (notion : Notion) (g : GameView) (list : List Entry) (a b : Slack) → IsGame g → 1 ≤ a.den
    → a.num * b.den ≤ b.num * a.den → IsEquilibriumList notion g a list → IsEquilibriumList notion g b list
more_slack notion g list a b rules low less eq = record {
  entries = eq.entries;
  some_weight = eq.some_weight;
  none_improves = λ side trigger choice is full.
      gains_allowed side g list a b trigger choice rules (omega (arith, ints, eq.some_weight)) low less
      (eq.none_improves side trigger choice is full);
}
