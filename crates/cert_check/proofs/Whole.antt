-- The two parts of a program, one behind the other, make the products of the whole.
use Rattle.std.proofs.Common.{◌≡◌, ℕ, ◌+◌, ◌≤◌, List, [], unsigned_abs, length, get_or, ℤ, pos, ◌+ℤ◌, ◌-ℤ◌, ◌*ℤ◌, ◌≤ℤ◌, neg_ℤ, ap, ap₂, sym, refl, ◌∙◌, arith}
use Rattle.std.proofs.lemmas.Int.{ints}
use Rattle.std.proofs.lemmas.List.{get_or-append-add, length-append}
use Rattle.exact_algebra.proofs.RingTactic.{ring_laws, linear}
use Rattle.exact_algebra.proofs.Sums.{sum_to-same, sum_to-split}
use Rattle.exact_algebra.specs.Sums.{sum_to}
use Rattle.corr_game.specs.declared.sides.Side.{Side}
use Rattle.corr_game.specs.declared.sides.Side.TheVariants.{One, Two}
use Rattle.lp_form.proofs.Solving.{row_in_front}
use Rattle.lp_form.specs.Certificates.{left_over, times_column}
use Rattle.lp_form.specs.Program.{LpView, coefficient, entries_of, joined, payoff_of, payoff_row}
use Rattle.lp_form.specs.Row.{value_at}
use Rattle.column_sums.specs.Products.{product_to}

row_behind : (base more : LpView) (row : ℕ) → entries_of (joined base more) (length base.rows + row) ≡ entries_of more row
row_behind base more row = get_or-append-add base.rows more.rows row []

pub products_of_both : (base more : LpView) (list : List ℤ) (k : ℕ) →
    product_to (length base.rows) list 0 base k +ℤ product_to (length more.rows) list (length base.rows) more k ≡ times_column (joined base more) list k
products_of_both base more list k =
    let whole = λ (row : ℕ). get_or list row (pos 0) *ℤ coefficient (joined base more) row k in
    ap₂ (λ u v. u +ℤ v)
    (sum_to-same (length base.rows) _ whole (λ row h. let here : 0 + row ≡ row = omega arith in ap₂ (λ i e. get_or list i (pos 0) *ℤ value_at e k) here (sym (row_in_front base more row h))))
    (sum_to-same (length more.rows) _ (λ row. whole (length base.rows + row)) (λ row h. ap (λ e. get_or list (length base.rows + row) (pos 0) *ℤ value_at e k) (sym (row_behind base more row))))
    ∙ (sym (sum_to-split (length base.rows) (length more.rows) whole) ∙ ap (λ n. sum_to n whole) (sym (length-append base.rows more.rows)))

-- a list of zeros holds nothing
pub nothing_at : (x : ℤ) → unsigned_abs x ≤ 0 → x ≡ pos 0
nothing_at x h = omega (arith, ints)

pub both_added : (zero first second a b whole : ℤ) → zero ≡ pos 0 → first ≡ zero +ℤ a → second ≡ first +ℤ b → a +ℤ b ≡ whole → second ≡ whole
both_added zero first second a b whole none one two all = omega (arith, ints)

same_payoffs : (base more : LpView) (side : Side) (k : ℕ) → payoff_of side (joined base more) k ≡ value_at (payoff_row side base) k
same_payoffs base more One k = refl
same_payoffs base more Two k = refl

pub left_of_both : (base more : LpView) (side : Side) (den : ℤ) (list : List ℤ) (k : ℕ) (before after factor : ℤ) → before ≡ times_column (joined base more) list k → factor ≡ neg_ℤ den
    → after ≡ before +ℤ factor *ℤ value_at (payoff_row side base) k → after ≡ left_over (joined base more) side den list k
left_of_both base more side den list k before after factor products turned added =
    rw (same_payoffs base more side k)
    (taken before after factor den (times_column (joined base more) list k) (value_at (payoff_row side base) k) products turned added)
  where
    taken : (b a f d t v : ℤ) → b ≡ t → f ≡ neg_ℤ d → a ≡ b +ℤ f *ℤ v → a ≡ t -ℤ d *ℤ v
    taken b a f d t v one two three = let given = simp ring_laws at (rw (one, two) at three) in omega (arith, linear)

pub weighed_alike : (a b x y u v : ℤ) → x ≡ u → y ≡ v → pos 0 ≤ℤ (a *ℤ x +ℤ b *ℤ y) → pos 0 ≤ℤ (a *ℤ u +ℤ b *ℤ v)
weighed_alike a b x y u v first second h = rw (first, second) at h
