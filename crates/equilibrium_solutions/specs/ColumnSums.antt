-- Column sums of a list of weighted pairs of plans: what the weights of the entries sum to that play a pair of sequences (the joint
-- plans behind the correlation rows of von Stengel and Forges 2008).
use Rattle.std.specs.Prelude.{◌≡◌, ℕ, ◌<◌, List, [], ◌∷◌, length, Some, slice_get, ℤ, pos, ◌+ℤ◌}
use Rattle.sequences.specs.Number.{Plays, SeqsView}
use Rattle.connected_pairs.specs.Connected.{PairsView}
use Rattle.incentive_rows.specs.Term.{IsTerm}
use Rattle.equilibrium.specs.Distribution.{Entry}

-- an entry's weight where its two plans play the pair, and 0 where they don't
abbrev pub IsWeightAt : SeqsView → ℕ × ℕ → Entry → ℤ → Type 0
IsWeightAt s pair entry value = IsTerm (Plays s.one entry.one pair.0 × Plays s.two entry.two pair.1) (pos entry.weight) value

-- the sum of these over a list
abbrev pub SumsTo : SeqsView → ℕ × ℕ → List Entry → ℤ → Type 0
SumsTo s pair [] total = total ≡ pos 0
SumsTo s pair (entry ∷ rest) total =
    (first : ℤ) × (others : ℤ) × IsWeightAt s pair entry first × SumsTo s pair rest others × (total ≡ first +ℤ others)

-- in the column of each relevant pair stands its sum
abbrev pub AreColumnSums : PairsView → List Entry → (ℕ → ℤ) → Type 0
AreColumnSums p list x = (k : ℕ) (pair : ℕ × ℕ) → slice_get p.pairs k ≡ Some pair → SumsTo p.seqs pair list (x k)

-- numbers for a program's columns have these in the columns of the pairs
abbrev pub Extends : PairsView → (ℕ → ℤ) → (ℕ → ℤ) → Type 0
Extends p x y = (k : ℕ) → k < length p.pairs → y k ≡ x k
