-- Uses: the determinant of two vectors, and a program of two rows by numbers, 2 x + y = 4 and x + 3 y = 6 with the payoff
-- x + y. Its starting matrix is a tableau, a pivot makes another of it, entry by entry, and multipliers are read off.
use Rattle.std.proofs.Common.{◌≡◌, ◌≢◌, ℕ, zero, suc, ◌+◌, ◌<◌, List, [], ◌∷◌, get_or, ℤ, pos, negsuc, ◌-ℤ◌, ◌*ℤ◌, refl, ap, arith}
use Rattle.exact_algebra.proofs.Families.{put, put-same}
use Rattle.exact_algebra.proofs.RingTactic.{ring_laws, linear}
use Rattle.exact_algebra.specs.Sums.{sum_to}
use Rattle.exact_linear.proofs.Determinant.{unit}
use Rattle.exact_linear.proofs.Multipliers.{certified}
use Rattle.exact_linear.proofs.WholeTableaus.{whole_start, whole_keeps}
use Rattle.exact_linear.specs.Determinant.{det}
use Rattle.exact_linear.specs.Pivot.{IsPivot}
use Rattle.exact_linear.specs.Tableau.{IsTableauOf}

two_vectors : (V : ℕ → ℕ → ℤ) → det 2 V ≡ V 1 1 *ℤ V 0 0 -ℤ V 0 1 *ℤ V 1 0
unfolding det sum_to
two_vectors V = let coordinate = ap (λ w. w 0) (put-same V 0 (V 1)) in simp (ring_laws, coordinate) (omega (arith, linear))

-- A matrix by its rows, 0 past their ends.
abbrev table : List (List ℤ) → ℕ → ℕ → ℤ
table rows i j = get_or (get_or rows i []) j (pos 0)

-- Columns x, y, the two artificial columns and the right sides; the last row is minus the payoff.
abbrev start : ℕ → ℕ → ℤ
start = table ((pos 2 ∷ pos 1 ∷ pos 1 ∷ pos 0 ∷ pos 4 ∷ []) ∷ (pos 1 ∷ pos 3 ∷ pos 0 ∷ pos 1 ∷ pos 6 ∷ []) ∷ (negsuc 0 ∷ negsuc 0 ∷ pos 0 ∷ pos 0 ∷ pos 0 ∷ []) ∷ [])

abbrev after : ℕ → ℕ → ℤ
after = table ((pos 2 ∷ pos 1 ∷ pos 1 ∷ pos 0 ∷ pos 4 ∷ []) ∷ (pos 0 ∷ pos 5 ∷ negsuc 0 ∷ pos 2 ∷ pos 8 ∷ []) ∷ (pos 0 ∷ negsuc 0 ∷ pos 1 ∷ pos 0 ∷ pos 4 ∷ []) ∷ [])

abbrev last : ℕ → ℕ → ℤ
last = table ((pos 5 ∷ pos 0 ∷ pos 3 ∷ negsuc 0 ∷ pos 6 ∷ []) ∷ (pos 0 ∷ pos 5 ∷ negsuc 0 ∷ pos 2 ∷ pos 8 ∷ []) ∷ (pos 0 ∷ pos 0 ∷ pos 2 ∷ pos 1 ∷ pos 14 ∷ []) ∷ [])

abbrev artificial : ℕ → ℕ
artificial k = 2 + k

-- What holds at the first five numbers holds below 5.
below_five : (P : ℕ → Type 0) → P 0 → P 1 → P 2 → P 3 → P 4 → (j : ℕ) → j < 5 → P j
below_five P a b c d e zero h = a
below_five P a b c d e (suc zero) h = b
below_five P a b c d e (suc (suc zero)) h = c
below_five P a b c d e (suc (suc (suc zero))) h = d
below_five P a b c d e (suc (suc (suc (suc zero)))) h = e
below_five P a b c d e (suc (suc (suc (suc (suc j))))) h = absurd (omega arith)

below_two : (P : ℕ → Type 0) → P 0 → P 1 → (j : ℕ) → j < 2 → P j
below_two P a b zero h = a
below_two P a b (suc zero) h = b
below_two P a b (suc (suc j)) h = absurd (omega arith)

start_tableau : IsTableauOf 2 3 5 start artificial (pos 1) start
start_tableau = whole_start 2 3 5 start artificial (λ k h. omega arith) (λ k c h l. below_two (λ i. start c (artificial i) ≡ unit i c) (below_two (λ d. start d (artificial 0) ≡ unit 0 d) refl refl c l) (below_two (λ d. start d (artificial 1) ≡ unit 1 d) refl refl c l) k h)
    (λ i k low high h. let at : i ≡ 2 = omega arith in rw at (below_two (λ l. start 2 (artificial l) ≡ pos 0) refl refl k h))

first_pivot : IsPivot 3 5 0 0 (pos 1) start after
first_pivot = record { keeps = below_five (λ j. after 0 j ≡ start 0 j) refl refl refl refl refl; divides = divides }
  where
    divides : (i j : ℕ) → i < 3 → i ≢ 0 → j < 5 → after i j *ℤ pos 1 ≡ start i j *ℤ pos 2 -ℤ start i 0 *ℤ start 0 j
    divides zero j h d l = absurd (d refl)
    divides (suc zero) j h d l = below_five (λ c. after 1 c *ℤ pos 1 ≡ start 1 c *ℤ pos 2 -ℤ start 1 0 *ℤ start 0 c) refl refl refl refl refl j l
    divides (suc (suc zero)) j h d l = below_five (λ c. after 2 c *ℤ pos 1 ≡ start 2 c *ℤ pos 2 -ℤ start 2 0 *ℤ start 0 c) refl refl refl refl refl j l
    divides (suc (suc (suc i))) j h d l = absurd (omega arith)

second_pivot : IsPivot 3 5 1 1 (pos 2) after last
second_pivot = record { keeps = below_five (λ j. last 1 j ≡ after 1 j) refl refl refl refl refl; divides = divides }
  where
    divides : (i j : ℕ) → i < 3 → i ≢ 1 → j < 5 → last i j *ℤ pos 2 ≡ after i j *ℤ pos 5 -ℤ after i 1 *ℤ after 1 j
    divides zero j h d l = below_five (λ c. last 0 c *ℤ pos 2 ≡ after 0 c *ℤ pos 5 -ℤ after 0 1 *ℤ after 1 c) refl refl refl refl refl j l
    divides (suc zero) j h d l = absurd (d refl)
    divides (suc (suc zero)) j h d l = below_five (λ c. last 2 c *ℤ pos 2 ≡ after 2 c *ℤ pos 5 -ℤ after 2 1 *ℤ after 1 c) refl refl refl refl refl j l
    divides (suc (suc (suc i))) j h d l = absurd (omega arith)

first_tableau : IsTableauOf 2 3 5 start (put artificial 0 0) (pos 2) after
first_tableau = whole_keeps start_tableau (omega arith) 0 0 (omega arith) (omega arith) after (λ e. absurd (omega (arith, linear))) first_pivot

-- Both columns are basic, over 5: x is 6 / 5 and y is 8 / 5.
last_tableau : IsTableauOf 2 3 5 start (put (put artificial 0 0) 1 1) (pos 5) last
last_tableau = whole_keeps first_tableau (omega arith) 1 1 (omega arith) (omega arith) last (λ e. absurd (omega (arith, linear))) second_pivot

-- The payoff 14 / 5 of the right sides is greatest: 2 and 1 times the rows, less 5 times the payoff, is 0 at both columns.
multipliers_of_x : sum_to 2 (λ k. last 2 (artificial k) *ℤ start k 0) -ℤ pos 5 *ℤ pos 1 ≡ pos 0
multipliers_of_x = certified last_tableau.program (last_tableau.costs 2 (omega arith) (omega arith)) artificial (λ k h. omega arith)
    (λ k c h l. below_two (λ i. start c (artificial i) ≡ unit i c) (below_two (λ d. start d (artificial 0) ≡ unit 0 d) refl refl c l) (below_two (λ d. start d (artificial 1) ≡ unit 1 d) refl refl c l) k h)
    (below_two (λ k. start 2 (artificial k) ≡ pos 0) refl refl) (λ j. pos 1) 0 (omega arith) refl
