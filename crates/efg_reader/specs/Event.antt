-- How many kids a node has, and the probabilities of a draw.
use Rattle.std.specs.Prelude.{◌≡◌, ℕ, Bool, ◌&&◌, ◌==◌, nat_le, List, length, All}
use Rattle.corr_num.specs.Fraction.{Fraction}
use Rattle.efg_reader.specs.declared.events.Event.{Event}
use Rattle.efg_reader.specs.declared.events.Event.TheVariants.{Leaf, Chance, Choice}
use Rattle.efg_reader.specs.RawGame.{IsProbability}

-- a leaf has none, every other node 1 to 64
abbrev pub is_fit : Event → ℕ → Bool
is_fit Leaf kids = kids == 0
is_fit (Chance probs) kids = nat_le 1 kids && nat_le kids 64
is_fit (Choice side set) kids = nat_le 1 kids && nat_le kids 64

-- a draw has one probability a kid
abbrev pub HasChances : Event → ℕ → Type 0
HasChances event kids = (probs : List Fraction) → event ≡ Chance probs → (length probs ≡ kids) × All IsProbability probs

-- chance moves
abbrev pub IsDraw : Event → Type 0
IsDraw Leaf = ⊥
IsDraw (Chance probs) = Unit {0}
IsDraw (Choice side set) = ⊥
