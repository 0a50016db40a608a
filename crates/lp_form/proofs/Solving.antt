-- A row has 0 behind its columns, so that its product over more columns is the one over its own. Joined programs have
-- the first one's rows in front and its payoff rows, so a solution of both is one of the first and is paid the same.
use Rattle.std.proofs.Common.{◌≡◌, ◌≢◌, ℕ, ◌+◌, ◌-◌, ◌<◌, ◌≤◌, List, [], ◌∷◌, length, ℤ, pos, ◌+ℤ◌, ◌*ℤ◌, refl, subst, sym, ap, ◌∙◌, arith}
use Rattle.std.proofs.lemmas.List.{get_or_append_left, length-append}
use Rattle.exact_algebra.specs.Sums.{sum_to}
use Rattle.exact_algebra.proofs.RingLaws.{zero-*ℤ, +ℤ_idr}
use Rattle.exact_algebra.proofs.Sums.{sum_to-nothing, sum_to-same, sum_to-split}
use Rattle.corr_game.specs.declared.sides.Side.TheVariants.{One, Two}
use Rattle.lp_form.specs.declared.entries.Entry.{Entry}
use Rattle.lp_form.specs.Row.{value_at, Ascends, IsRow}
use Rattle.lp_form.specs.Program.{IsLp, LpView, coefficient, entries_of, joined, right_of}
use Rattle.lp_form.specs.Solutions.{HasBoundedPayoffs, IsSolution, PaysAlike, SolvesToo}
use Rattle.lp_form.proofs.Placing.{value_at-miss}

-- nothing is stored behind the columns of a row
pub nothing_behind : (entries : List Entry) (low cols k : ℕ) → Ascends low cols entries → cols ≤ k → value_at entries k ≡ pos 0
nothing_behind [] low cols k up h = refl
nothing_behind (entry ∷ rest) low cols k up h =
    let below : entry.col < cols = up.1 in
    let miss : entry.col ≢ k = λ same. omega arith in
    value_at-miss entry rest k miss ∙ nothing_behind rest (entry.col + 1) cols k up.3 h

-- so its product over more columns is the same
pub product_wider : (entries : List Entry) (cols more : ℕ) (x : ℕ → ℤ) → IsRow cols entries → cols ≤ more
    → sum_to more (λ col. value_at entries col *ℤ x col) ≡ sum_to cols (λ col. value_at entries col *ℤ x col)
product_wider entries cols more x up h =
    let f = λ (col : ℕ). value_at entries col *ℤ x col in
    let each : (k : ℕ) → f (cols + k) ≡ pos 0 = λ k.
    ap (λ (c : ℤ). c *ℤ x (cols + k)) (nothing_behind entries 0 cols (cols + k) up (omega arith)) ∙ zero-*ℤ (x (cols + k)) in
    let rest : sum_to (more - cols) (λ k. f (cols + k)) ≡ pos 0 = sum_to-nothing (more - cols) (λ k. f (cols + k)) (λ k low. each k) in
    let whole : more ≡ cols + (more - cols) = omega arith in
    ap (λ (n : ℕ). sum_to n f) whole ∙ sum_to-split cols (more - cols) f ∙ ap (λ (s : ℤ). sum_to cols f +ℤ s) rest ∙ +ℤ_idr (sum_to cols f)

-- the rows of the first program are those in front
pub row_in_front : (base more : LpView) (row : ℕ) → row < length base.rows → entries_of (joined base more) row ≡ entries_of base row
row_in_front base more row low = get_or_append_left base.rows more.rows [] row low

right_in_front : (base more : LpView) → IsLp base → (row : ℕ) → row < length base.rows → right_of (joined base more) row ≡ right_of base row
right_in_front base more rules row low = get_or_append_left base.rights more.rights (pos 0) row (omega (arith, rules.a_right_each))

pub solution_of_base : (base more : LpView) → IsLp base → base.cols ≤ more.cols → SolvesToo (joined base more) base
solution_of_base base more rules wide total x s = record {
  not_negative = λ col low. s.not_negative col (omega arith);
  meets = λ row low.
      let whole = s.meets row (omega (arith, length-append base.rows more.rows)) in
      let entries = entries_of base row in
      let same = ap (λ (e : List Entry). sum_to more.cols (λ col. value_at e col *ℤ x col)) (row_in_front base more row low) in
      let narrow = product_wider entries base.cols more.cols x (rules.each_row row [] low) wide in
      sym narrow ∙ sym same ∙ whole ∙ ap (λ (r : ℤ). total *ℤ r) (right_in_front base more rules row low);
}

pub paid_alike : (base more : LpView) → IsLp base → base.cols ≤ more.cols → PaysAlike (joined base more) base
paid_alike base more rules wide One x = product_wider base.first base.cols more.cols x rules.first_row wide
paid_alike base more rules wide Two x = product_wider base.second base.cols more.cols x rules.second_row wide

-- a program whose solutions solve another one, and are paid what that pays, is bounded where that one is
pub bounded_too : (lp base : LpView) → SolvesToo lp base → PaysAlike lp base → HasBoundedPayoffs base → HasBoundedPayoffs lp
bounded_too lp base too alike b = (
  b.0,
  record {
    at_most = λ side total x some s. rw (alike side x) (b.1.at_most side total x some (too total x s));
    at_least = λ side total x some s. rw (alike side x) (b.1.at_least side total x some (too total x s));
  },
)

-- numbers that agree in the columns of a program solve it alike
pub solution_alike : (lp : LpView) (total : ℤ) (x y : ℕ → ℤ) → ((col : ℕ) → col < lp.cols → y col ≡ x col) → IsSolution lp total x
    → IsSolution lp total y
solution_alike lp total x y same s = record {
  not_negative = λ col low. rw (same col low) (s.not_negative col low);
  meets = λ row low. sum_to-same lp.cols _ _ (λ col h. ap (λ (v : ℤ). coefficient lp row col *ℤ v) (same col h)) ∙ s.meets row low;
}

-- the same of programs known by their views
pub solves_as : {inside base within more : LpView} → inside ≡ base → within ≡ more → IsLp inside → base.cols ≤ more.cols
    → SolvesToo (joined inside within) base
solves_as {inside} {base} {within} {more} e f rules wide =
    let Solves : LpView → Type 0 = λ b. SolvesToo (joined inside within) b in
    subst Solves e (solution_of_base inside within rules (rw (e, f) wide))

pub pays_as : {inside base within more : LpView} → inside ≡ base → within ≡ more → IsLp inside → base.cols ≤ more.cols
    → PaysAlike (joined inside within) base
pays_as {inside} {base} {within} {more} e f rules wide =
    let Pays : LpView → Type 0 = λ b. PaysAlike (joined inside within) b in
    subst Pays e (paid_alike inside within rules (rw (e, f) wide))
