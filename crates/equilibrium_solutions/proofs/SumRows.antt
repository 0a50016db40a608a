-- Column sums of reduced plans meet the correlation rows: nothing does, and one entry more adds its weight in the columns of the pairs that
-- it plays, which is to take off what is below 0.
use Rattle.std.proofs.Common.{◌≡◌, ℕ, zero, suc, ◌+◌, ◌<◌, ◌≤◌, ◌⊎◌, inl, inr, ℤ, pos, neg_ℤ, ◌+ℤ◌, ◌-ℤ◌, ◌≤ℤ◌, List, [], ◌∷◌, Option}
use Rattle.std.proofs.Common.{Some, None, length, All, slice_get, slice_index_or, refl, sym, ap, ◌∙◌, arith}
use Rattle.std.proofs.lemmas.Bool.{cases_lt}
use Rattle.std.proofs.lemmas.Int.{ints}
use Rattle.std.proofs.lemmas.List.Elements.{All-head, All-tail}
use Rattle.std.proofs.lemmas.Option.{slice_get_within}
use Rattle.exact_algebra.proofs.Sums.{sum_to-nothing}
use Rattle.corr_game.specs.declared.sides.Side.{Side}
use Rattle.corr_game.specs.declared.sides.Side.TheVariants.{One, Two}
use Rattle.corr_game.specs.Game.{GameView}
use Rattle.corr_game.specs.Plan.{IsPlan}
use Rattle.sequences.specs.Number.{SeqsView}
use Rattle.sequences.proofs.Adding.{within}
use Rattle.connected_pairs.specs.Connected.{IsPairs, IsPairsOf, PairsView, index_of}
use Rattle.connected_pairs.specs.CorrelationRows.{MeetsRows, value_at, value_of}
use Rattle.equilibrium.specs.Distribution.{Entry}
use Rattle.plan_decompose.specs.Entry.{LosesWeight}
use Rattle.plan_decompose.specs.Reduced.{IsReduced}
use Rattle.plan_decompose.proofs.Whole.{past, rows_left}
use Rattle.equilibrium_solutions.specs.ColumnSums.{AreColumnSums, IsWeightAt, SumsTo}

-- ---- the first numbers of a function as a list

abbrev pub listed : ℕ → (ℕ → ℤ) → List ℤ
listed zero x = []
listed (suc n) x = x 0 ∷ listed n (λ k. x (suc k))

pub listed-length : (n : ℕ) (x : ℕ → ℤ) → length (listed n x) ≡ n
listed-length zero x = refl
listed-length (suc n) x = ap suc (listed-length n (λ k. x (suc k)))

pub listed-at : (n : ℕ) (x : ℕ → ℤ) (k : ℕ) → k < n → slice_index_or (listed n x) k (pos 0) ≡ x k
listed-at zero x k h = absurd (omega arith)
listed-at (suc n) x zero h = refl
listed-at (suc n) x (suc k) h = listed-at n (λ j. x (suc j)) k (omega arith)

-- numbers that are there one by one, as a function
pub chosen : (n : ℕ) (P : ℕ → ℤ → Type 0) → ((k : ℕ) → k < n → (z : ℤ) × P k z) → (f : ℕ → ℤ) × ((k : ℕ) → k < n → P k (f k))
chosen n P each = (λ k. pick k (cases_lt k n), λ k h. is k (cases_lt k n) h)
  where
    pick : (k : ℕ) → (k < n) ⊎ (n ≤ k) → ℤ
    pick k (inl low) = (each k low).0
    pick k (inr high) = pos 0

    is : (k : ℕ) (which : (k < n) ⊎ (n ≤ k)) → k < n → P k (pick k which)
    is k (inl low) h = (each k low).1
    is k (inr high) h = absurd (omega arith)

-- ---- one entry

-- two plans that are reduced by the numbers of sequences
pub record IsReducedEntry (g : GameView) (s : SeqsView) (entry : Entry) : Type 0 where
  pub plan_one : IsPlan One g entry.one
  pub plan_two : IsPlan Two g entry.two
  pub reduced_one : IsReduced s.one entry.one
  pub reduced_two : IsReduced s.two entry.two

-- a sum without its first entry, and what that adds
without_first : (s : SeqsView) (pair : ℕ × ℕ) (entry : Entry) (rest : List Entry) (v : ℤ) → SumsTo s pair (entry ∷ rest) v
    → (z : ℤ) × SumsTo s pair rest z × LosesWeight s entry.one entry.two pair (neg_ℤ (pos entry.weight)) z v
without_first s pair entry rest v sums = (sums.1, sums.3, by sums.2)
  where
    by : IsWeightAt s pair entry sums.0 → LosesWeight s entry.one entry.two pair (neg_ℤ (pos entry.weight)) sums.1 v
    by (inl plays) = inl (plays.0, added (pos entry.weight) sums.0 sums.1 v plays.1 sums.4)
      where
        added : (w a b c : ℤ) → a ≡ w → c ≡ a +ℤ b → c ≡ b -ℤ neg_ℤ w
        added w a b c e f = omega (arith, ints)
    by (inr apart) = inr (apart.0, alone sums.0 sums.1 v apart.1 sums.4)
      where
        alone : (a b c : ℤ) → a ≡ pos 0 → c ≡ a +ℤ b → c ≡ b
        alone a b c e f = omega (arith, ints)

pub sum_not_negative : (s : SeqsView) (pair : ℕ × ℕ) (list : List Entry) (v : ℤ) → SumsTo s pair list v → pos 0 ≤ℤ v
sum_not_negative s pair [] v e = rw e (omega (arith, ints))
sum_not_negative s pair (entry ∷ rest) v sums =
    by sums.0 sums.1 v (first sums.2) (sum_not_negative s pair rest sums.1 sums.3) sums.4
  where
    first : IsWeightAt s pair entry sums.0 → pos 0 ≤ℤ sums.0
    first (inl plays) = rw plays.1 (omega (arith, ints))
    first (inr apart) = rw apart.1 (omega (arith, ints))

    by : (a b c : ℤ) → pos 0 ≤ℤ a → pos 0 ≤ℤ b → c ≡ a +ℤ b → pos 0 ≤ℤ c
    by a b c h k e = omega (arith, ints)

-- ---- all rows

all_nothing : (values : List ℤ) → ((k : ℕ) → slice_index_or values k (pos 0) ≡ pos 0) → (at : Option ℕ) → value_at values at ≡ pos 0
all_nothing values none None = refl
all_nothing values none (Some k) = none k

nothing_meets : (p : PairsView) (values : List ℤ) → ((k : ℕ) → slice_index_or values k (pos 0) ≡ pos 0) → MeetsRows p values
nothing_meets p values none = record {
  row = λ side set place beside at low touched.
      sum_to-nothing place.actions (λ a. value_of p values side (place.first + a) beside)
      (λ a l. value_nothing side (place.first + a) beside)
      ∙ sym (value_nothing side place.own beside);
  not_negative = λ k. rw (none k) (omega (arith, ints));
}
  where
    value_nothing : (side : Side) (own beside : ℕ) → value_of p values side own beside ≡ pos 0
    value_nothing One own beside = all_nothing values none (index_of p own beside)
    value_nothing Two own beside = all_nothing values none (index_of p beside own)

-- what stands in a column sums over the rest, and the first entry adds to it
abbrev IsWithout : PairsView → Entry → List Entry → (ℕ → ℤ) → ℕ → ℤ → Type 0
IsWithout p entry rest x k z =
    (pair : ℕ × ℕ) → slice_get p.pairs k ≡ Some pair
    → SumsTo p.seqs pair rest z × LosesWeight p.seqs entry.one entry.two pair (neg_ℤ (pos entry.weight)) z (x k)

module _ (g : GameView) (p : PairsView) (of : IsPairsOf g p) (rules : IsPairs p) where
  without_at : (entry : Entry) (rest : List Entry) (x : ℕ → ℤ) → AreColumnSums p (entry ∷ rest) x → (k : ℕ) → k < length p.pairs
      → (z : ℤ) × IsWithout p entry rest x k z
  without_at entry rest x sums k low =
      let pair = within p.pairs k low in
      let parts = without_first p.seqs pair.0 entry rest (x k) (sums k pair.0 pair.1) in (
        parts.0,
        λ other e.
            let same : pair.0 ≡ other = cc (pair.1, e) in
            rw (← same) (parts.1, parts.2),
      )

  pub sums_meet_rows : (list : List Entry) (x : ℕ → ℤ) → All (IsReducedEntry g p.seqs) list → AreColumnSums p list x
      → MeetsRows p (listed (length p.pairs) x)
  sums_meet_rows [] x are sums = nothing_meets p (listed (length p.pairs) x) none
    where
      none : (k : ℕ) → slice_index_or (listed (length p.pairs) x) k (pos 0) ≡ pos 0
      none k = elim (cases_lt k (length p.pairs)) [
        | inl low ↦ (let pair = within p.pairs k low in listed-at (length p.pairs) x k low ∙ sums k pair.0 pair.1)
        | inr high ↦ past (listed (length p.pairs) x) k (omega (arith, listed-length (length p.pairs) x))
      ]
  sums_meet_rows (entry ∷ rest) x are sums =
      let is = All-head (IsReducedEntry g p.seqs) entry rest are in
      let count = length p.pairs in
      let old = chosen count (IsWithout p entry rest x) (without_at entry rest x sums) in
      let inside = λ (k : ℕ) (pair : ℕ × ℕ) (e : slice_get p.pairs k ≡ Some pair). slice_get_within p.pairs k pair e in
      let before = sums_meet_rows rest old.0 (All-tail (IsReducedEntry g p.seqs) entry rest are)
      (λ k pair e. (old.1 k (inside k pair e) pair e).0) in
      rows_left g p of rules (listed count old.0) (listed count x) entry.one entry.two (neg_ℤ (pos entry.weight)) before
      (λ k pair e. rw (listed-at count old.0 k (inside k pair e), listed-at count x k (inside k pair e)) (old.1 k (inside k pair e) pair e).1)
      (listed-length count x) is.plan_one is.plan_two is.reduced_one is.reduced_two
      (λ k pair e both. below (pos entry.weight) _ (omega (arith, ints)) (before.not_negative k))
    where
      below : (w z : ℤ) → pos 0 ≤ℤ w → pos 0 ≤ℤ z → neg_ℤ w ≤ℤ z
      below w z h k = omega (arith, ints)
