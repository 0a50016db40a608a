-- Weak duality stated for lists: a matrix as its rows, each dot product a sum over the index.
use Rattle.std.proofs.Common.{◌≡◌, ℕ, suc, zero, ◌<◌, ◌≤◌, List, [], ◌∷◌, length, get_or, map, ℤ, pos, ◌-ℤ◌, ◌*ℤ◌, ◌≤ℤ◌, refl, sym, ap, subst, ◌∙◌, le_refl}
use Rattle.exact_algebra.proofs.Dot.{entry, dot-sum, dot-sum_right}
use Rattle.exact_algebra.proofs.Duality.{weak_duality}
use Rattle.exact_algebra.proofs.Sums.{sum_to-same}
use Rattle.exact_algebra.specs.Sums.{dot}

-- The column j of a matrix that is given by its rows.
abbrev pub column : List (List ℤ) → ℕ → List ℤ
column rows j = map (λ row. entry row j) rows

entry-column : (rows : List (List ℤ)) (i j : ℕ) → entry (column rows j) i ≡ entry (get_or rows i []) j
entry-column [] i j = refl
entry-column (row ∷ rows) zero j = refl
entry-column (row ∷ rows) (suc i) j = entry-column rows i j

pub weak_duality_lists : (rows : List (List ℤ)) (b c x y : List ℤ) (d den : ℤ) → length y ≤ length rows → length c ≤ length x →
    ((j : ℕ) → j < length x → pos 0 ≤ℤ entry x j) →
    ((i : ℕ) → i < length rows → dot (get_or rows i []) x ≡ d *ℤ entry b i) →
    ((j : ℕ) → j < length x → pos 0 ≤ℤ (dot y (column rows j) -ℤ den *ℤ entry c j)) →
    (den *ℤ dot c x) ≤ℤ (d *ℤ dot y b)
weak_duality_lists rows b c x y d den tall wide feasible solves prices =
    let m = length rows in
    let n = length x in
    let matrix = λ (i : ℕ) (j : ℕ). entry (get_or rows i []) j in
    let for_columns = λ (j : ℕ). dot-sum y (column rows j) m tall ∙ sum_to-same m _ _ (λ i h. ap (λ e. entry y i *ℤ e) (entry-column rows i j)) in
    rw (dot-sum c x n wide, dot-sum y b m tall)
    (weak_duality m n matrix (entry b) (entry c) (entry x) (entry y) d den feasible
    (λ i h. sym (dot-sum_right (get_or rows i []) x n (le_refl n)) ∙ solves i h)
    (λ j h. subst (λ s. pos 0 ≤ℤ (s -ℤ den *ℤ entry c j)) (for_columns j) (prices j h)))
