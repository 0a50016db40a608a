-- Weighted pairs of plans, and what they add up to at pairs of sequences: the joint plans behind the correlation rows
-- of von Stengel and Forges (2008).
use Rattle.std.specs.Prelude.{ℕ, ◌≡◌, ◌<◌, ◌≤ℤ◌, ◌+ℤ◌, ◌-ℤ◌, ◌⊎◌, ℤ, pos, List, [], ◌∷◌, Option, Some, length, slice_get, slice_index_or}
use Rattle.corr_game.specs.declared.plans.Pair.{Pair}
use Rattle.corr_game.specs.declared.sides.Side.TheVariants.{One, Two}
use Rattle.corr_game.specs.Game.{GameView}
use Rattle.corr_game.specs.Plan.{IsPlan}
use Rattle.corr_num.specs.Narrow.{Narrow}
use Rattle.sequences.specs.Number.{SeqsView, Plays}
use Rattle.connected_pairs.specs.Connected.{PairsView}
use Rattle.plan_decompose.specs.Reduced.{IsReduced}

-- each plan plays its player's sequence of the pair
abbrev pub PlayBoth : SeqsView → List (Option ℕ) → List (Option ℕ) → ℕ × ℕ → Type 0
PlayBoth s one two pair = Plays s.one one pair.0 × Plays s.two two pair.1

-- a reduced plan of each player, with a weight of 1 or more that is narrow
pub record IsEntry (g : GameView) (s : SeqsView) (entry : Pair) : Type 0 where
  pub plan_one : IsPlan One g entry.one
  pub plan_two : IsPlan Two g entry.two
  pub reduced_one : IsReduced s.one entry.one
  pub reduced_two : IsReduced s.two entry.two
  pub positive : pos 1 ≤ℤ entry.weight
  pub narrow : Narrow entry.weight

-- the weights of the entries that play a pair of sequences sum to this number
pub data SumsTo (s : SeqsView) (pair : ℕ × ℕ) : List Pair → ℤ → Type 0 where
  no_entry : SumsTo s pair [] (pos 0)
  playing : (entry : Pair) (rest : List Pair) (sum : ℤ) → PlayBoth s entry.one entry.two pair → SumsTo s pair rest sum → SumsTo s pair (entry ∷ rest) (entry.weight +ℤ sum)
  not_playing : (entry : Pair) (rest : List Pair) (sum : ℤ) → (PlayBoth s entry.one entry.two pair → ⊥) → SumsTo s pair rest sum → SumsTo s pair (entry ∷ rest) sum

-- the weights of the entries that play a relevant pair sum to its value
abbrev pub AreSums : PairsView → List Pair → List ℤ → Type 0
AreSums p list values =
    (k : ℕ) (pair : ℕ × ℕ) → slice_get p.pairs k ≡ Some pair → SumsTo p.seqs pair list (slice_index_or values k (pos 0))

-- a value has lost the weight where both plans play its pair of sequences, and is as it was where they don't
abbrev pub LosesWeight : SeqsView → List (Option ℕ) → List (Option ℕ) → ℕ × ℕ → ℤ → ℤ → ℤ → Type 0
LosesWeight s one two pair weight old new =
    (PlayBoth s one two pair × (new ≡ old -ℤ weight)) ⊎ ((PlayBoth s one two pair → ⊥) × (new ≡ old))

-- the values of the relevant pairs have lost the weight of two plans
abbrev pub AreTakenOff : PairsView → List (Option ℕ) → List (Option ℕ) → ℤ → List ℤ → List ℤ → Type 0
AreTakenOff p one two weight old new = (k : ℕ) (pair : ℕ × ℕ) → slice_get p.pairs k ≡ Some pair
    → LosesWeight p.seqs one two pair weight (slice_index_or old k (pos 0)) (slice_index_or new k (pos 0))

-- a place is that of a relevant pair that both plans play, and no other such pair has a lower value
pub record IsLeast (p : PairsView) (one two : List (Option ℕ)) (values : List ℤ) (place : ℕ) : Type 0 where
  pub in_range : place < length values
  pub played : (pair : ℕ × ℕ) × ((slice_get p.pairs place ≡ Some pair) × PlayBoth p.seqs one two pair)
  pub least : (k : ℕ) (pair : ℕ × ℕ) → slice_get p.pairs k ≡ Some pair → PlayBoth p.seqs one two pair → slice_index_or values place (pos 0) ≤ℤ slice_index_or values k (pos 0)

-- there is no relevant pair that both plans play
abbrev pub NonePlayed : PairsView → List (Option ℕ) → List (Option ℕ) → Type 0
NonePlayed p one two = (k : ℕ) (pair : ℕ × ℕ) → slice_get p.pairs k ≡ Some pair → PlayBoth p.seqs one two pair → ⊥
