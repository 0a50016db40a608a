-- Two equilibrium lists, one behind the other: each sum is that of both.
use Rattle.std.proofs.Common.{◌≡◌, List, ◌++◌, ℤ, pos, ◌+ℤ◌, ◌*ℤ◌, ◌≤ℤ◌, arith}
use Rattle.std.proofs.lemmas.Int.{ints}
use Rattle.std.proofs.lemmas.List.Elements.{All-append}
use Rattle.exact_algebra.proofs.ListSums.{sum_over-append}
use Rattle.exact_algebra.proofs.RingTactic.{ring_laws, linear}
use Rattle.corr_game.specs.declared.notions.Notion.{Notion}
use Rattle.corr_game.specs.Game.{GameView, scale_of}
use Rattle.equilibrium.specs.Deviation.{deviated_pay, following, leaving}
use Rattle.equilibrium.specs.Distribution.{Entry, IsEntry, pay, total}
use Rattle.equilibrium.specs.Equilibrium.{IsEquilibriumList, Slack}

both_gain : (d n s l m f h t u : ℤ) → (d *ℤ l) ≤ℤ (d *ℤ f +ℤ n *ℤ s *ℤ t) → (d *ℤ m) ≤ℤ (d *ℤ h +ℤ n *ℤ s *ℤ u)
    → (d *ℤ (l +ℤ m)) ≤ℤ (d *ℤ (f +ℤ h) +ℤ n *ℤ s *ℤ (t +ℤ u))
both_gain d n s l m f h t u first second =
    let one = simp ring_laws at first in
    let two = simp ring_laws at second in
    simp ring_laws (omega (arith, linear))

pub lists_append : (notion : Notion) (g : GameView) (slack : Slack) (xs ys : List Entry) → IsEquilibriumList notion g slack xs
    → IsEquilibriumList notion g slack ys
    → IsEquilibriumList notion g slack (xs ++ ys)
lists_append notion g slack xs ys a b = record {
  entries = All-append (IsEntry g) xs ys a.entries b.entries;
  some_weight =
      let both : total (xs ++ ys) ≡ total xs +ℤ total ys = sum_over-append (λ (e : Entry). pos e.weight) xs ys in
      rw both (omega (arith, ints, a.some_weight, b.some_weight));
  none_improves = λ side trigger choice is full.
      rw (
        sum_over-append (λ (e : Entry). pos e.weight *ℤ deviated_pay side g trigger choice e) xs ys,
        sum_over-append (λ (e : Entry). pos e.weight *ℤ pay side g e) xs ys,
        sum_over-append (λ (e : Entry). pos e.weight) xs ys,
      )
      (both_gain (pos slack.den) (pos slack.num) (scale_of side g) (leaving side g trigger choice xs)
      (leaving side g trigger choice ys) (following side g xs) (following side g ys)
      (total xs) (total ys) (a.none_improves side trigger choice is full) (b.none_improves side trigger choice is full));
}
