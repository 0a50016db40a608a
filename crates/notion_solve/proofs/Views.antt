-- The code's weighted pairs of plans as entries of a list of the definitions: reduced by the tree, and with the same sums.
use Rattle.std.proofs.Common.{◌≡◌, ℕ, ◌≤◌, inl, inr, ℤ, pos, negsuc, ◌+ℤ◌, ◌≤ℤ◌, unsigned_abs, List, All, refl, sym, arith}
use Rattle.std.proofs.lemmas.Int.{ints}
use Rattle.std.proofs.lemmas.List.Elements.{All-head, All-map, All-tail}
use Rattle.corr_game.specs.declared.plans.Pair.{Pair}
use Rattle.corr_game.specs.declared.sides.Side.TheVariants.{One, Two}
use Rattle.corr_game.specs.Game.{GameView, IsGame}
use Rattle.sequences.specs.Number.{SeqsView}
use Rattle.connected_pairs.specs.Connected.{IsPairs, IsPairsOf, PairsView}
use Rattle.equilibrium.specs.Distribution.{IsEntry, entries_of, entry_of}
use Rattle.plan_decompose.specs.Entry.{IsEntry as IsPairEntry, SumsTo as PairsSumTo, no_entry, not_playing, playing}
use Rattle.equilibrium_solutions.specs.ColumnSums.{SumsTo}
use Rattle.equilibrium_solutions.proofs.Recalled.{has_recall}
use Rattle.equilibrium_solutions.proofs.ReducedPlans.{reduced_of}

-- a number that isn't below 0 is its magnitude
pub magnitude_is : (z : ℤ) → pos 0 ≤ℤ z → pos (unsigned_abs z) ≡ z
magnitude_is (pos n) h = refl
magnitude_is (negsuc n) h = absurd (omega (arith, ints))

pub magnitude_some : (z : ℤ) → pos 1 ≤ℤ z → 1 ≤ unsigned_abs z
magnitude_some (pos n) h = omega (arith, ints)
magnitude_some (negsuc n) h = absurd (omega (arith, ints))

entry_seen : (g : GameView) (p : PairsView) → IsGame g → IsPairs p → IsPairsOf g p → (pair : Pair) → IsPairEntry g p.seqs pair
    → IsEntry g (entry_of pair)
entry_seen g p rules pairs of pair is =
    let recall = has_recall g rules p pairs of in
    record {
      one = reduced_of g rules p pairs of recall One pair.one is.plan_one is.reduced_one;
      two = reduced_of g rules p pairs of recall Two pair.two is.plan_two is.reduced_two;
      weighs = magnitude_some pair.weight is.positive;
    }

pub entries_seen : (g : GameView) (p : PairsView) → IsGame g → IsPairs p → IsPairsOf g p → (list : List Pair)
    → All (IsPairEntry g p.seqs) list → All (IsEntry g) (entries_of list)
entries_seen g p rules pairs of list each =
    All-map (IsEntry g) entry_of list (λ k d low. entry_seen g p rules pairs of _ (each k d low))

pub sums_seen : (g : GameView) (s : SeqsView) (pair : ℕ × ℕ) (list : List Pair) (sum : ℤ) → All (IsPairEntry g s) list
    → PairsSumTo s pair list sum → SumsTo s pair (entries_of list) sum
sums_seen g s pair _ _ each no_entry = refl
sums_seen g s pair _ _ each (playing entry rest sum plays sums) =
    let positive = (All-head (IsPairEntry g s) entry rest each).positive in (
      entry.weight,
      sum,
      inl (plays, sym (magnitude_is entry.weight (omega (arith, ints, positive)))),
      sums_seen g s pair rest sum (All-tail (IsPairEntry g s) entry rest each) sums,
      refl,
    )
sums_seen g s pair _ _ each (not_playing entry rest sum apart sums) = (
  pos 0,
  sum,
  inr (apart, refl),
  sums_seen g s pair rest sum (All-tail (IsPairEntry g s) entry rest each) sums,
  alone sum,
)
  where
    alone : (z : ℤ) → z ≡ pos 0 +ℤ z
    alone z = omega (arith, ints)
