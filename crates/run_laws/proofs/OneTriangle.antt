-- Of a game's pairs one triangle is told, the least: set by set from the left.
use Rattle.std.proofs.Common.{◌≡◌, ℕ, ◌<◌, arith, ap, sym, refl, ◌∙◌, inl, inr}
use Rattle.std.proofs.lemmas.Bool.{cases_lt}
use Rattle.connected_pairs.specs.Connected.{PairsView}
use Rattle.corr_game.specs.declared.sides.Side.TheVariants.{One, Two}
use Rattle.corr_game.specs.Game.{GameView}
use Rattle.report_form.specs.declared.refusals.Refusal.{Refusal}
use Rattle.report_form.specs.declared.refusals.Refusal.TheVariants.{Triangle}
use Rattle.triangle_test.specs.declared.triangles.Quad.{Quad}
use Rattle.triangle_test.specs.Triangle.{HasNoTriangle, IsLeastTriangle, IsTriangle}
use Rattle.corr_run.specs.FirstRefusal.{IsOfTriangle}
use Rattle.run_laws.proofs.OneRecall.{file_same}

-- where there is no triangle none is told
pub no_triangle_refusal : (g : GameView) (p : PairsView) → HasNoTriangle p → (refusal : Refusal) → IsOfTriangle g p refusal → ⊥
no_triangle_refusal g p none refusal of = none of.quad of.least.least.least.least.triangle

neither_before : (m n : ℕ) → (m < n → ⊥) → (n < m → ⊥) → m ≡ n
neither_before m n f h = elim (cases_lt m n) [
  | inl lt ↦ absurd (f lt)
  | inr le ↦ elim (cases_lt n m) [ inl lt ↦ absurd (h lt) | inr more ↦ omega (arith, le, more) ]
]

-- no triangle comes before a least one
module _ (p : PairsView) (x y : Quad) (is : IsTriangle p x) (least : IsLeastTriangle p y) where
  not_first : x.one_a.0 < y.one_a.0 → ⊥
  not_first lt = least.none_before x.one_a.0 lt x refl is

  not_second : x.one_a.0 ≡ y.one_a.0 → x.one_b.0 < y.one_b.0 → ⊥
  not_second a lt = least.least.none_before x.one_b.0 lt x a refl is

  not_third : x.one_a.0 ≡ y.one_a.0 → x.one_b.0 ≡ y.one_b.0 → x.two_a.0 < y.two_a.0 → ⊥
  not_third a b lt = least.least.least.none_before x.two_a.0 lt x a b refl is

  not_fourth : x.one_a.0 ≡ y.one_a.0 → x.one_b.0 ≡ y.one_b.0 → x.two_a.0 ≡ y.two_a.0 → x.two_b.0 < y.two_b.0 → ⊥
  not_fourth a b c lt = least.least.least.least.none_before x.two_b.0 lt x a b c refl is

least_same : (p : PairsView) (x y : Quad) → IsLeastTriangle p x → IsLeastTriangle p y
    → (x.one_a.0 ≡ y.one_a.0) × (x.one_b.0 ≡ y.one_b.0) × (x.two_a.0 ≡ y.two_a.0) × (x.two_b.0 ≡ y.two_b.0)
least_same p x y h k =
    let s = h.least.least.least.triangle in
    let t = k.least.least.least.triangle in
    let a = neither_before x.one_a.0 y.one_a.0 (not_first p x y s k) (not_first p y x t h) in
    let b = neither_before x.one_b.0 y.one_b.0 (not_second p x y s k a) (not_second p y x t h (sym a)) in
    let c = neither_before x.two_a.0 y.two_a.0 (not_third p x y s k a b) (not_third p y x t h (sym a) (sym b)) in
    let d = neither_before x.two_b.0 y.two_b.0 (not_fourth p x y s k a b c) (not_fourth p y x t h (sym a) (sym b) (sym c)) in
    (a, b, c, d)

-- one is told
pub one_triangle_refusal : (g : GameView) (p : PairsView) (a b : Refusal) → IsOfTriangle g p a → IsOfTriangle g p b → a ≡ b
one_triangle_refusal g p a b x y =
    let same = least_same p x.quad y.quad x.least y.least in
    let first = file_same g One x.quad.one_a y.quad.one_a x.one_a y.one_a same.0 x.one_a_in_file y.one_a_in_file in
    let second = file_same g One x.quad.one_b y.quad.one_b x.one_b y.one_b same.1 x.one_b_in_file y.one_b_in_file in
    let third = file_same g Two x.quad.two_a y.quad.two_a x.two_a y.two_a same.2 x.two_a_in_file y.two_a_in_file in
    let fourth = file_same g Two x.quad.two_b y.quad.two_b x.two_b y.two_b same.3 x.two_b_in_file y.two_b_in_file in
    x.named ∙ ap (λ (n : ℕ). Triangle n x.one_b x.two_a x.two_b) first ∙ ap (λ (n : ℕ). Triangle y.one_a n x.two_a x.two_b) second
    ∙ ap (λ (n : ℕ). Triangle y.one_a y.one_b n x.two_b) third ∙ ap (λ (n : ℕ). Triangle y.one_a y.one_b y.two_a n) fourth ∙ sym y.named
