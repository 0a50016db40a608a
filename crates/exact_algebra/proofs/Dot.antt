-- The dot product of two lists is a sum over the index of products of elements, 0 past an end. By induction on the first
-- list, where the sum loses its first term.
use Rattle.std.proofs.Common.{◌≡◌, ℕ, zero, suc, ◌≤◌, List, [], ◌∷◌, ◌++◌, length, get_or, take, map, ℤ, pos, ◌+ℤ◌, ◌*ℤ◌, refl, sym, ap, ◌∙◌, arith}
use Rattle.exact_algebra.proofs.RingLaws.{*ℤ-+ℤ, *ℤ-zero, zero-*ℤ, *ℤ_comm, *ℤ_assoc, +ℤ_idl}
use Rattle.exact_algebra.proofs.RingTactic.{linear}
use Rattle.exact_algebra.proofs.Sums.{sum_to-first, sum_to-same, sum_to-nothing}
use Rattle.exact_algebra.specs.Sums.{sum_to, dot}

-- The element k of a list of numbers, 0 past its end.
abbrev pub entry : List ℤ → ℕ → ℤ
entry xs k = get_or xs k (pos 0)

pub dot-sum : (xs ys : List ℤ) (n : ℕ) → length xs ≤ n → dot xs ys ≡ sum_to n (λ k. entry xs k *ℤ entry ys k)
unfolding dot
dot-sum [] ys n h = sym (sum_to-nothing n (λ k. pos 0 *ℤ entry ys k) (λ k l. zero-*ℤ (entry ys k)))
dot-sum (x ∷ xs) ys zero h = absurd (omega arith)
dot-sum (x ∷ xs) [] (suc n) h = sym (sum_to-nothing (suc n) (λ k. entry (x ∷ xs) k *ℤ pos 0) (λ k l. *ℤ-zero (entry (x ∷ xs) k)))
dot-sum (x ∷ xs) (y ∷ ys) (suc n) h = ap (λ s. x *ℤ y +ℤ s) (dot-sum xs ys n (omega arith)) ∙ sym (sum_to-first n (λ k. entry (x ∷ xs) k *ℤ entry (y ∷ ys) k))

pub dot_comm : (xs ys : List ℤ) → dot xs ys ≡ dot ys xs
unfolding dot
dot_comm [] [] = refl
dot_comm [] (y ∷ ys) = refl
dot_comm (x ∷ xs) [] = refl
dot_comm (x ∷ xs) (y ∷ ys) = let rest = dot_comm xs ys in rw (*ℤ_comm x y, rest)

pub dot-sum_right : (xs ys : List ℤ) (n : ℕ) → length ys ≤ n → dot xs ys ≡ sum_to n (λ k. entry xs k *ℤ entry ys k)
dot-sum_right xs ys n h = dot_comm xs ys ∙ (dot-sum ys xs n h ∙ sum_to-same n _ _ (λ k l. *ℤ_comm (entry ys k) (entry xs k)))

-- ---- one more pair, as a loop adds it
pub dot-take_none : (xs ys : List ℤ) → dot (take 0 xs) (take 0 ys) ≡ pos 0
unfolding dot
dot-take_none xs ys = refl

pub dot-take_more : (xs ys : List ℤ) (n : ℕ) → dot (take (suc n) xs) (take (suc n) ys) ≡ dot (take n xs) (take n ys) +ℤ entry xs n *ℤ entry ys n
unfolding dot
dot-take_more [] ys zero = sym (ap (λ s. pos 0 +ℤ s) (zero-*ℤ (entry ys 0)))
dot-take_more [] ys (suc n) = sym (ap (λ s. pos 0 +ℤ s) (zero-*ℤ (entry ys (suc n))))
dot-take_more (x ∷ xs) [] zero = sym (ap (λ s. pos 0 +ℤ s) (*ℤ-zero x))
dot-take_more (x ∷ xs) [] (suc n) = sym (ap (λ s. pos 0 +ℤ s) (*ℤ-zero (entry xs n)))
dot-take_more (x ∷ xs) (y ∷ ys) zero = omega (arith, linear)
dot-take_more (x ∷ xs) (y ∷ ys) (suc n) = let rest = dot-take_more xs ys n in omega (arith, linear)

-- ---- multiples and sums of lists
pub dot-scale : (c : ℤ) (xs ys : List ℤ) → dot (map (λ x. c *ℤ x) xs) ys ≡ c *ℤ dot xs ys
unfolding dot
dot-scale c [] ys = sym (*ℤ-zero c)
dot-scale c (x ∷ xs) [] = sym (*ℤ-zero c)
dot-scale c (x ∷ xs) (y ∷ ys) = let rest = dot-scale c xs ys in rw (*ℤ_assoc c x y, rest) (sym (*ℤ-+ℤ c (x *ℤ y) (dot xs ys)))

pub dot-append : (ws xs ys zs : List ℤ) → length ws ≡ length ys → dot (ws ++ xs) (ys ++ zs) ≡ dot ws ys +ℤ dot xs zs
unfolding dot
dot-append [] xs [] zs same = sym (+ℤ_idl (dot xs zs))
dot-append [] xs (y ∷ ys) zs same = absurd (omega arith)
dot-append (w ∷ ws) xs [] zs same = absurd (omega arith)
dot-append (w ∷ ws) xs (y ∷ ys) zs same = let rest = dot-append ws xs ys zs (omega arith) in omega (arith, linear)
