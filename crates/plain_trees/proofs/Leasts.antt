-- The least triangle by the numbers of its sets from the left: where none begins with the earlier sets, the least of those
-- that begin with one more set is the least of all that begin so.
use Rattle.std.proofs.Common.{◌≡◌, ℕ, ◌<◌, List, [], ◌∷◌, ◌++◌, length, refl, sym, ap, subst, ◌∙◌, inl, inr, arith, append_assoc}
use Rattle.corr_game.specs.declared.sides.Side.TheVariants.{One, Two}
use Rattle.corr_game.specs.Game.{GameView, IsGame, sets_of}
use Rattle.triangle_test.specs.declared.triangles.Quad.{Quad}
use Rattle.triangle_test.specs.TreeTriangle.{ComesBefore, IsLeastTreeTriangle, IsTreeTriangle, numbers}
use Rattle.triangle_test.proofs.ByTree.{set_known}
use Rattle.plain_trees.specs.Least.{BeginsWith, IsLeastWith, NoneWith}

same_front : (firsts xs ys : List ℕ) → ComesBefore (firsts ++ xs) (firsts ++ ys) → ComesBefore xs ys
same_front [] xs ys h = h
same_front (f ∷ fs) xs ys (inl less) = absurd (omega (arith, less))
same_front (f ∷ fs) xs ys (inr both) = same_front fs xs ys both.1

never_itself : (xs : List ℕ) → ComesBefore xs xs → ⊥
never_itself [] h = h
never_itself (x ∷ xs) (inl less) = omega (arith, less)
never_itself (x ∷ xs) (inr both) = never_itself xs both.1

with_next : (firsts : List ℕ) (k : ℕ) (rest : List ℕ) (q : Quad) → numbers q ≡ firsts ++ k ∷ rest → BeginsWith (firsts ++ k ∷ []) q
with_next firsts k rest q e = (rest, e ∙ sym (append_assoc firsts (k ∷ []) rest))

begins_at : (firsts : List ℕ) (k : ℕ) (q : Quad) → BeginsWith (firsts ++ k ∷ []) q → (rest : List ℕ) × (numbers q ≡ firsts ++ k ∷ rest)
begins_at firsts k q b = (b.0, b.1 ∙ append_assoc firsts (k ∷ []) b.0)

earlier_none : (g : GameView) (firsts : List ℕ) (k : ℕ) (q : Quad) → IsLeastWith g (firsts ++ k ∷ []) q
    → ((j : ℕ) → j < k → NoneWith g (firsts ++ j ∷ []))
    → (r : Quad) → ComesBefore (numbers r) (numbers q) → IsTreeTriangle g r → (rest : List ℕ) → numbers r ≡ firsts ++ rest
    → (after : List ℕ)
    → ComesBefore rest (k ∷ after) → ⊥
earlier_none g firsts k q h none r less t [] e after cut = cut
earlier_none g firsts k q h none r less t (j ∷ rest) e after (inl before) = none j before r (with_next firsts j rest r e) t
earlier_none g firsts k q h none r less t (j ∷ rest) e after (inr both) =
    let here : numbers r ≡ firsts ++ k ∷ rest = e ∙ ap (λ (x : ℕ). firsts ++ x ∷ rest) both.0 in
    h.none_before r (with_next firsts k rest r here) less t

pub least_more : (g : GameView) (firsts : List ℕ) (k : ℕ) (q : Quad) → IsLeastWith g (firsts ++ k ∷ []) q
    → ((j : ℕ) → j < k → NoneWith g (firsts ++ j ∷ [])) → IsLeastWith g firsts q
least_more g firsts k q h none =
    let at = begins_at firsts k q h.begins in
    record {
      begins = (k ∷ at.0, at.1);
      triangle = h.triangle;
      none_before = λ r b less t.
          let P : List ℕ → Type 0 = λ xs. ComesBefore xs (numbers q) in
          let Q : List ℕ → Type 0 = λ ys. ComesBefore (firsts ++ b.0) ys in
          let cut = same_front firsts b.0 (k ∷ at.0) (subst Q at.1 (subst P b.1 less)) in
          earlier_none g firsts k q h none r less t b.0 b.1 at.0 cut;
    }

-- four sets make the one quad that begins with them
abbrev quad_of : ℕ → ℕ → ℕ → ℕ → Quad
quad_of a b c d = record { one_a = record { 0 = a }; one_b = record { 0 = b }; two_a = record { 0 = c }; two_b = record { 0 = d } }

same_quad : (x y : Quad) → x.one_a.0 ≡ y.one_a.0 → x.one_b.0 ≡ y.one_b.0 → x.two_a.0 ≡ y.two_a.0 → x.two_b.0 ≡ y.two_b.0 → x ≡ y
same_quad x y a b c d =
    ap (λ (n : ℕ). quad_of n x.one_b.0 x.two_a.0 x.two_b.0) a
    ∙ (ap (λ (n : ℕ). quad_of y.one_a.0 n x.two_a.0 x.two_b.0) b
    ∙ (ap (λ (n : ℕ). quad_of y.one_a.0 y.one_b.0 n x.two_b.0) c ∙ ap (λ (n : ℕ). quad_of y.one_a.0 y.one_b.0 y.two_a.0 n) d))

same_whole : (x y : Quad) → BeginsWith (numbers y) x → x ≡ y
same_whole x y b =
    let e = b.1 in
    let one_a : x.one_a.0 ≡ y.one_a.0 = cc in
    let one_b : x.one_b.0 ≡ y.one_b.0 = cc in
    let two_a : x.two_a.0 ≡ y.two_a.0 = cc in
    let two_b : x.two_b.0 ≡ y.two_b.0 = cc in
    same_quad x y one_a one_b two_a two_b

pub least_whole : (g : GameView) (q : Quad) → IsTreeTriangle g q → IsLeastWith g (numbers q) q
least_whole g q t = record {
  begins = ([], refl);
  triangle = t;
  none_before = λ r b less other.
      let P : Quad → Type 0 = λ x. ComesBefore (numbers x) (numbers q) in
      never_itself (numbers q) (subst P (same_whole r q b) less);
}

pub none_whole : (g : GameView) (q : Quad) → (IsTreeTriangle g q → ⊥) → NoneWith g (numbers q)
none_whole g q none r b t = none (subst (IsTreeTriangle g) (same_whole r q b) t)

-- the sets of a triangle are sets of the game
module _ (g : GameView) (rules : IsGame g) (q : Quad) (t : IsTreeTriangle g q) where
  pub one_a_in : q.one_a.0 < length (sets_of One g)
  one_a_in = set_known g rules One t.one.1.0 q.one_a.0 t.one.1.3

  pub one_b_in : q.one_b.0 < length (sets_of One g)
  one_b_in = set_known g rules One t.one.1.1 q.one_b.0 t.one.1.4

  pub two_a_in : q.two_a.0 < length (sets_of Two g)
  two_a_in = set_known g rules Two t.two.1.0 q.two_a.0 t.two.1.3

  pub two_b_in : q.two_b.0 < length (sets_of Two g)
  two_b_in = set_known g rules Two t.two.1.1 q.two_b.0 t.two.1.4

-- the sets that a quad begins with
pub first_is : (q : Quad) (a : ℕ) → BeginsWith (a ∷ []) q → q.one_a.0 ≡ a
first_is q a b = let e = b.1 in cc

pub two_are : (q : Quad) (a b : ℕ) → BeginsWith (a ∷ b ∷ []) q → (q.one_a.0 ≡ a) × (q.one_b.0 ≡ b)
two_are q a b h =
    let e = h.1 in
    let first : q.one_a.0 ≡ a = cc in
    let second : q.one_b.0 ≡ b = cc in
    (first, second)

pub three_are : (q : Quad) (a b c : ℕ) → BeginsWith (a ∷ b ∷ c ∷ []) q → (q.one_a.0 ≡ a) × (q.one_b.0 ≡ b) × (q.two_a.0 ≡ c)
three_are q a b c h =
    let e = h.1 in
    let first : q.one_a.0 ≡ a = cc in
    let second : q.one_b.0 ≡ b = cc in
    let third : q.two_a.0 ≡ c = cc in
    (first, second, third)

-- where no set goes on, none begins so
module _ (g : GameView) (rules : IsGame g) (count : ℕ) where
  pub none_at_all : length (sets_of One g) ≡ count → ((k : ℕ) → k < count → NoneWith g (k ∷ [])) → (q : Quad) → IsTreeTriangle g q → ⊥
  none_at_all all none q t = none q.one_a.0 (omega (arith, all, one_a_in g rules q t)) q (q.one_b.0 ∷ q.two_a.0 ∷ q.two_b.0 ∷ [], refl) t

  pub none_with_one : (a : ℕ) → length (sets_of One g) ≡ count → ((k : ℕ) → k < count → NoneWith g (a ∷ k ∷ [])) → NoneWith g (a ∷ [])
  none_with_one a all none q b t =
      let first = first_is q a b in
      none q.one_b.0 (omega (arith, all, one_b_in g rules q t)) q (
        q.two_a.0 ∷ q.two_b.0 ∷ [],
        ap
            (λ (x : ℕ). x ∷ q.one_b.0 ∷ q.two_a.0 ∷ q.two_b.0 ∷ []) first,
      ) t

  pub none_with_two : (a b : ℕ) → length (sets_of Two g) ≡ count → ((k : ℕ) → k < count → NoneWith g (a ∷ b ∷ k ∷ []))
      → NoneWith g (a ∷ b ∷ [])
  none_with_two a b all none q h t =
      let at = two_are q a b h in
      none q.two_a.0 (omega (arith, all, two_a_in g rules q t)) q (q.two_b.0 ∷ [], rw (at.0, at.1) refl) t

  pub none_with_three : (a b c : ℕ) → length (sets_of Two g) ≡ count → ((k : ℕ) → k < count → NoneWith g (a ∷ b ∷ c ∷ k ∷ []))
      → NoneWith g (a ∷ b ∷ c ∷ [])
  none_with_three a b c all none q h t =
      let at = three_are q a b c h in
      none q.two_b.0 (omega (arith, all, two_b_in g rules q t)) q ([], rw (at.0, at.1, at.2) refl) t

pub least_of_all : (g : GameView) (k : ℕ) (q : Quad) → IsLeastWith g (k ∷ []) q → ((j : ℕ) → j < k → NoneWith g (j ∷ []))
    → IsLeastTreeTriangle g q
least_of_all g k q h none =
    let all = least_more g [] k q h none in
    record { triangle = h.triangle; none_before = λ r less t. all.none_before r (numbers r, refl) less t }
