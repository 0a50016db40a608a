-- An entry more at the end adds its weight to the sum at each pair of sequences that it plays. So what the entries sum to
-- and what is left of a value make the value that was there at first.
use Rattle.std.proofs.Common.{◌≡◌, ℕ, ◌+ℤ◌, ◌-ℤ◌, ℤ, pos, List, [], ◌∷◌, ◌++◌, Some, length, slice_get, slice_index_or, take, drop, subst, ◌∙◌, inl, inr, arith}
use Rattle.std.proofs.lemmas.Int.{ints}
use Rattle.std.proofs.lemmas.List.{take-append-le, take_all}
use Rattle.corr_game.specs.declared.plans.Pair.{Pair}
use Rattle.sequences.specs.Number.{SeqsView}
use Rattle.connected_pairs.specs.Connected.{PairsView}
use Rattle.plan_decompose.specs.Entry.{AreTakenOff, PlayBoth, SumsTo, no_entry, playing, not_playing}

-- what the entries sum to at a pair of sequences, and what is left of its value, make the value at first
abbrev pub IsShared : SeqsView → ℕ × ℕ → List Pair → ℤ → ℤ → Type 0
IsShared s pair list left first = (sum : ℤ) × SumsTo s pair list sum × (sum +ℤ left ≡ first)

abbrev pub AreShared : PairsView → List Pair → List ℤ → List ℤ → Type 0
AreShared p list left first = (k : ℕ) (pair : ℕ × ℕ) → slice_get p.pairs k ≡ Some pair
    → IsShared p.seqs pair list (slice_index_or left k (pos 0)) (slice_index_or first k (pos 0))

pub push_playing : (s : SeqsView) (pair : ℕ × ℕ) (list : List Pair) (sum : ℤ) (entry : Pair) → SumsTo s pair list sum → PlayBoth s entry.one entry.two pair → SumsTo s pair (list ++ entry ∷ []) (sum +ℤ entry.weight)
push_playing s pair _ _ entry no_entry b =
    let P : ℤ → Type 0 = SumsTo s pair (entry ∷ []) in
    let same : entry.weight +ℤ pos 0 ≡ pos 0 +ℤ entry.weight = omega (arith, ints) in
    subst P same (playing entry [] (pos 0) b no_entry)
push_playing s pair _ _ entry (playing first rest sum a r) b =
    let P : ℤ → Type 0 = SumsTo s pair (first ∷ (rest ++ entry ∷ [])) in
    let same : first.weight +ℤ (sum +ℤ entry.weight) ≡ (first.weight +ℤ sum) +ℤ entry.weight = omega (arith, ints) in
    subst P same (playing first (rest ++ entry ∷ []) (sum +ℤ entry.weight) a (push_playing s pair rest sum entry r b))
push_playing s pair _ _ entry (not_playing first rest sum a r) b =
    not_playing first (rest ++ entry ∷ []) (sum +ℤ entry.weight) a (push_playing s pair rest sum entry r b)

pub push_other : (s : SeqsView) (pair : ℕ × ℕ) (list : List Pair) (sum : ℤ) (entry : Pair) → SumsTo s pair list sum → (PlayBoth s entry.one entry.two pair → ⊥) → SumsTo s pair (list ++ entry ∷ []) sum
push_other s pair _ _ entry no_entry b = not_playing entry [] (pos 0) b no_entry
push_other s pair _ _ entry (playing first rest sum a r) b = playing first (rest ++ entry ∷ []) sum a (push_other s pair rest sum entry r b)
push_other s pair _ _ entry (not_playing first rest sum a r) b = not_playing first (rest ++ entry ∷ []) sum a (push_other s pair rest sum entry r b)

moved : (sum w old new first : ℤ) → new ≡ old -ℤ w → sum +ℤ old ≡ first → (sum +ℤ w) +ℤ new ≡ first
moved sum w old new first e h = omega (arith, ints)

pub none_shared : (p : PairsView) (values : List ℤ) → AreShared p [] values values
none_shared p values k pair e = (pos 0, no_entry, omega (arith, ints))

pub one_more_shared : (p : PairsView) (list : List Pair) (entry : Pair) (old new first : List ℤ) → AreShared p list old first → AreTakenOff p entry.one entry.two entry.weight old new → AreShared p (list ++ entry ∷ []) new first
one_more_shared p list entry old new first shared off k pair e =
    let here = shared k pair e in
    elim (off k pair e) [
      | inl played ↦ (
        here.0 +ℤ entry.weight,
        push_playing p.seqs pair list here.0 entry here.1 played.0,
        moved here.0 entry.weight (slice_index_or old k (pos 0)) (slice_index_or new k (pos 0)) (slice_index_or first k (pos 0)) played.1 here.2,
      )
      | inr other ↦ (here.0, push_other p.seqs pair list here.0 entry here.1 other.0, rw other.1 here.2)
    ]

-- where nothing is left, the entries sum to the values
pub whole : (s : SeqsView) (pair : ℕ × ℕ) (list : List Pair) (left first : ℤ) → IsShared s pair list left first → left ≡ pos 0 → SumsTo s pair list first
whole s pair list left first shared none =
    let P : ℤ → Type 0 = SumsTo s pair list in
    let same : shared.0 ≡ first = omega (arith, ints, shared.2) in
    subst P same shared.1

-- a slice that was lent whole is put back whole
pub written_back : (old new : List ℤ) (n : ℕ) → length new ≡ length old → n ≡ length old → take n (new ++ drop (length new) old) ≡ new
written_back old new n same count = take-append-le n new (drop (length new) old) (omega arith) ∙ take_all n new (omega arith)
