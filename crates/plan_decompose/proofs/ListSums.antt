-- What a list of entries sums to meets the rows: nothing does, and one entry more adds its weight where it plays, which is to take off
-- what is below 0.
use Rattle.std.proofs.Common.{◌≡◌, ℕ, ◌+◌, ◌<◌, zero, suc, ℤ, pos, neg_ℤ, ◌+ℤ◌, ◌-ℤ◌, ◌≤ℤ◌, List, [], ◌∷◌, ◌++◌, Option, Some, None}
use Rattle.std.proofs.Common.{length, All, slice_get, slice_index_or, refl, sym, ap, subst, ◌∙◌, inl, inr, arith}
use Rattle.std.proofs.lemmas.Bool.{cases_lt}
use Rattle.std.proofs.lemmas.Int.{ints}
use Rattle.std.proofs.lemmas.List.Elements.{All-head, All-tail}
use Rattle.std.proofs.lemmas.Option.{slice_get_within}
use Rattle.exact_algebra.specs.Sums.{sum_over}
use Rattle.exact_algebra.proofs.Sums.{sum_to-nothing}
use Rattle.corr_game.specs.declared.plans.Pair.{Pair}
use Rattle.corr_game.specs.declared.sides.Side.{Side}
use Rattle.corr_game.specs.declared.sides.Side.TheVariants.{One, Two}
use Rattle.corr_game.specs.Game.{GameView}
use Rattle.sequences.specs.Number.{SeqsView, nothing}
use Rattle.sequences.proofs.Adding.{within}
use Rattle.connected_pairs.specs.Connected.{IsPairs, IsPairsOf, PairsView, index_of}
use Rattle.connected_pairs.specs.CorrelationRows.{MeetsRows, value_at, value_of}
use Rattle.plan_decompose.specs.Entry.{AreSums, IsEntry, LosesWeight, SumsTo, no_entry, not_playing, playing}
use Rattle.plan_decompose.proofs.Whole.{past, rows_left, value_listed}

pub sums_joined : (s : SeqsView) (pair : ℕ × ℕ) (xs ys : List Pair) (a b : ℤ) → SumsTo s pair xs a → SumsTo s pair ys b
    → SumsTo s pair (xs ++ ys) (a +ℤ b)
sums_joined s pair _ ys _ b no_entry k =
    let P : ℤ → Type 0 = SumsTo s pair ys in
    let same : b ≡ pos 0 +ℤ b = omega (arith, ints) in
    subst P same k
sums_joined s pair _ ys _ b (playing entry rest sum both h) k =
    let P : ℤ → Type 0 = SumsTo s pair (entry ∷ (rest ++ ys)) in
    let same : entry.weight +ℤ (sum +ℤ b) ≡ entry.weight +ℤ sum +ℤ b = omega (arith, ints) in
    subst P same (playing entry (rest ++ ys) (sum +ℤ b) both (sums_joined s pair rest ys sum b h k))
sums_joined s pair _ ys _ b (not_playing entry rest sum apart h) k =
    not_playing entry (rest ++ ys) (sum +ℤ b) apart (sums_joined s pair rest ys sum b h k)

-- ---- the rows

-- numbers that are there one by one, as a list
as_list : (n : ℕ) (P : ℕ → ℤ → Type 0) → ((k : ℕ) → k < n → (z : ℤ) × P k z)
    → (xs : List ℤ) × (length xs ≡ n) × ((k : ℕ) → k < n → P k (slice_index_or xs k (pos 0)))
as_list zero P each = ([], refl, λ k low. absurd (omega arith))
as_list (suc n) P each =
    let first = each 0 (omega arith) in
    let rest = as_list n (λ k z. P (suc k) z) (λ k low. each (suc k) (omega arith)) in
    (first.0 ∷ rest.0, ap suc rest.1, there first.0 first.1 rest.0 rest.2)
  where
    there : (x : ℤ) → P 0 x → (xs : List ℤ) → ((k : ℕ) → k < n → P (suc k) (slice_index_or xs k (pos 0)))
        → (k : ℕ) → k < suc n → P k (slice_index_or (x ∷ xs) k (pos 0))
    there x h xs others zero low = h
    there x h xs others (suc k) low = others k (omega arith)

no_sum : (s : SeqsView) (pair : ℕ × ℕ) (v : ℤ) → SumsTo s pair [] v → v ≡ pos 0
no_sum s pair _ no_entry = refl

-- the sum without the first entry, and what that adds
without_first : (s : SeqsView) (pair : ℕ × ℕ) (entry : Pair) (rest : List Pair) (v : ℤ) → SumsTo s pair (entry ∷ rest) v
    → (z : ℤ) × SumsTo s pair rest z × LosesWeight s entry.one entry.two pair (neg_ℤ entry.weight) z v
without_first s pair _ _ _ (playing entry rest sum both h) =
    let same : entry.weight +ℤ sum ≡ sum -ℤ neg_ℤ entry.weight = omega (arith, ints) in
    (sum, h, inl (both, same))
without_first s pair _ _ _ (not_playing entry rest sum apart h) = (sum, h, inr (apart, refl))

all_nothing : (p : PairsView) (values : List ℤ) → ((k : ℕ) → slice_index_or values k (pos 0) ≡ pos 0) → (at : Option ℕ)
    → value_at values at ≡ pos 0
all_nothing p values none None = refl
all_nothing p values none (Some k) = none k

nothing_meets : (p : PairsView) (values : List ℤ) → ((k : ℕ) → slice_index_or values k (pos 0) ≡ pos 0) → MeetsRows p values
nothing_meets p values none = record {
  row = λ side set place beside at low touched.
      sum_to-nothing place.actions (λ a. value_of p values side (place.first + a) beside)
      (λ a l. value_nothing side (place.first + a) beside)
      ∙ sym (value_nothing side place.own beside);
  not_negative = λ k. rw (none k) (omega (arith, ints));
}
  where
    value_nothing : (side : Side) (own beside : ℕ) → value_of p values side own beside ≡ pos 0
    value_nothing One own beside = all_nothing p values none (index_of p own beside)
    value_nothing Two own beside = all_nothing p values none (index_of p beside own)

-- what stands at a place sums over the rest, and the first entry adds to it
abbrev IsWithout : PairsView → Pair → List Pair → List ℤ → ℕ → ℤ → Type 0
IsWithout p entry rest values k z =
    (pair : ℕ × ℕ) → slice_get p.pairs k ≡ Some pair
    → SumsTo p.seqs pair rest z × LosesWeight p.seqs entry.one entry.two pair (neg_ℤ entry.weight) z (slice_index_or values k (pos 0))

module _ (g : GameView) (p : PairsView) (of : IsPairsOf g p) (rules : IsPairs p) where
  without_at : (entry : Pair) (rest : List Pair) (values : List ℤ) → AreSums p (entry ∷ rest) values → (k : ℕ) → k < length p.pairs
      → (z : ℤ) × IsWithout p entry rest values k z
  without_at entry rest values sums k low =
      let pair = within p.pairs k low in
      let parts = without_first p.seqs pair.0 entry rest (slice_index_or values k (pos 0)) (sums k pair.0 pair.1) in (
        parts.0,
        λ other e.
            let same : pair.0 ≡ other = cc (pair.1, e) in
            rw (← same) (parts.1, parts.2),
      )

  pub rows_met : (list : List Pair) (values : List ℤ) → All (IsEntry g p.seqs) list → length values ≡ length p.pairs
      → AreSums p list values → MeetsRows p values
  rows_met [] values are count sums = nothing_meets p values none
    where
      none : (k : ℕ) → slice_index_or values k (pos 0) ≡ pos 0
      none k = elim (cases_lt k (length values)) [
        | inl low ↦ (let pair = within p.pairs k (omega arith) in no_sum p.seqs pair.0 _ (sums k pair.0 pair.1))
        | inr high ↦ past values k high
      ]
  rows_met (entry ∷ rest) values are count sums =
      let is = All-head (IsEntry g p.seqs) entry rest are in
      let old = as_list (length p.pairs) (IsWithout p entry rest values) (without_at entry rest values sums) in
      let inside = λ (k : ℕ) (pair : ℕ × ℕ) (e : slice_get p.pairs k ≡ Some pair). slice_get_within p.pairs k pair e in
      let before = rows_met rest old.0 (All-tail (IsEntry g p.seqs) entry rest are) old.1
      (λ k pair e. (old.2 k (inside k pair e) pair e).0) in
      rows_left g p of rules old.0 values entry.one entry.two (neg_ℤ entry.weight) before
      (λ k pair e. (old.2 k (inside k pair e) pair e).1) count is.plan_one is.plan_two is.reduced_one is.reduced_two
      (λ k pair e both. below _ _ is.positive (before.not_negative k))
    where
      below : (w z : ℤ) → pos 1 ≤ℤ w → pos 0 ≤ℤ z → neg_ℤ w ≤ℤ z
      below w z h k = omega (arith, ints)

  all_weights : (list : List Pair) (v : ℤ) → SumsTo p.seqs (0, 0) list v → v ≡ sum_over (λ (pair : Pair). pair.weight) list
  unfolding sum_over
  all_weights _ _ no_entry = refl
  all_weights _ _ (playing entry rest sum both h) = ap (λ (z : ℤ). entry.weight +ℤ z) (all_weights rest sum h)
  all_weights _ _ (not_playing entry rest sum apart h) = absurd (apart (nothing, nothing))

  pub total_summed : (list : List Pair) (values : List ℤ) → AreSums p list values
      → value_of p values One 0 0 ≡ sum_over (λ (pair : Pair). pair.weight) list
  total_summed list values sums =
      value_listed p rules values 0 (0, 0) of.first_pair ∙ all_weights list _ (sums 0 (0, 0) of.first_pair)
