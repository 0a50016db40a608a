-- Of two greatest payoffs each is at most the other.
use Rattle.std.proofs.Common.{◌≡◌, ℕ, ◌+◌, length, ℤ, pos, ◌+ℤ◌, ◌-ℤ◌, ◌*ℤ◌, ◌≤ℤ◌, ◌<ℤ◌, neg_ℤ, sym, ap, ◌∙◌, arith}
use Rattle.std.proofs.lemmas.Int.{ints}
use Rattle.exact_algebra.proofs.RingTactic.{ring_laws, linear}
use Rattle.corr_game.specs.declared.sides.Side.TheVariants.{One, Two}
use Rattle.lp_form.specs.Program.{LpView}
use Rattle.lp_form.specs.Solutions.{paid}
use Rattle.plane_hull.specs.declared.directions.Dir.{Dir}
use Rattle.plane_hull.specs.Belt.{IsRight}
use Rattle.int_tableau.specs.Content.{Content}
use Rattle.bland_simplex.specs.Greatest.{IsGreatest, paid_along, paid_left}
use Rattle.bland_simplex.specs.Improving.{reduced, reduced_left}

both_ways : (a b : ℤ) → a ≤ℤ b → b ≤ℤ a → a ≡ b
both_ways a b up down = omega (arith, ints)

module _ (lp : LpView) (s t : Content) (dir : Dir) (over_s : pos 0 <ℤ s.denom) (over_t : pos 0 <ℤ t.denom) (a : IsGreatest lp s dir)
    (b : IsGreatest lp t dir) where
  own_alike : s.denom *ℤ paid_along lp dir b.own ≡ t.denom *ℤ paid_along lp dir a.own
  own_alike = both_ways (s.denom *ℤ paid_along lp dir b.own) (t.denom *ℤ paid_along lp dir a.own)
      (a.along t.denom b.own over_t b.solution) (b.along s.denom a.own over_s a.solution)

  pub along_alike : s.denom *ℤ reduced t (length lp.rows) dir (lp.cols + length lp.rows)
      ≡ t.denom *ℤ reduced s (length lp.rows) dir (lp.cols + length lp.rows)
  along_alike = ap (λ e. s.denom *ℤ e) (sym b.own_along) ∙ (own_alike ∙ ap (λ e. t.denom *ℤ e) a.own_along)

  pub left_alike : s.denom *ℤ reduced_left t (length lp.rows) dir (lp.cols + length lp.rows)
      ≡ t.denom *ℤ reduced_left s (length lp.rows) dir (lp.cols + length lp.rows)
  left_alike = ap (λ e. s.denom *ℤ e) (sym b.own_left)
      ∙ (both_ways (s.denom *ℤ paid_left lp dir b.own) (t.denom *ℤ paid_left lp dir a.own)
      (a.left t.denom b.own over_t b.solution own_alike) (b.left s.denom a.own over_s a.solution (sym own_alike))
      ∙ ap (λ e. t.denom *ℤ e) a.own_left)

pub right_along : (lp : LpView) (dir : Dir) (x : ℕ → ℤ) → IsRight dir → paid_along lp dir x ≡ paid lp One x
right_along lp dir x right = by dir.a dir.b (paid lp One x) (paid lp Two x) right.0 right.1
  where
    by : (a b p q : ℤ) → a ≡ pos 1 → b ≡ pos 0 → a *ℤ p +ℤ b *ℤ q ≡ p
    by a b p q one zero = rw (one, zero) (simp ring_laws (omega (arith, linear)))

pub right_left : (lp : LpView) (dir : Dir) (x : ℕ → ℤ) → IsRight dir → paid_left lp dir x ≡ paid lp Two x
right_left lp dir x right = by dir.a dir.b (paid lp One x) (paid lp Two x) right.0 right.1
  where
    by : (a b p q : ℤ) → a ≡ pos 1 → b ≡ pos 0 → a *ℤ q -ℤ b *ℤ p ≡ q
    by a b p q one zero = rw (one, zero) (simp ring_laws (omega (arith, linear)))

pub one_turn : (lp : LpView) (dir next : Dir) (x : ℕ → ℤ) → next.a ≡ neg_ℤ dir.b → next.b ≡ dir.a
    → paid_left lp dir x ≡ paid_along lp next x
one_turn lp dir next x first second = by dir.a dir.b next.a next.b (paid lp One x) (paid lp Two x) first second
  where
    by : (a b c d p q : ℤ) → c ≡ neg_ℤ b → d ≡ a → a *ℤ q -ℤ b *ℤ p ≡ c *ℤ p +ℤ d *ℤ q
    by a b c d p q one two = rw (one, two) (simp ring_laws (omega (arith, linear)))

pub two_turns : (lp : LpView) (dir next : Dir) (x : ℕ → ℤ) → next.a ≡ neg_ℤ dir.b → next.b ≡ dir.a
    → paid_left lp next x ≡ neg_ℤ (paid_along lp dir x)
two_turns lp dir next x first second = by dir.a dir.b next.a next.b (paid lp One x) (paid lp Two x) first second
  where
    by : (a b c d p q : ℤ) → c ≡ neg_ℤ b → d ≡ a → c *ℤ q -ℤ d *ℤ p ≡ neg_ℤ (a *ℤ p +ℤ b *ℤ q)
    by a b c d p q one two = rw (one, two) (simp ring_laws (omega (arith, linear)))
