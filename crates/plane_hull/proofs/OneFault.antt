-- Of two such numbers the later one's earlier sides are in turn, and the earlier one's side isn't.
use Rattle.std.proofs.Common.{◌≡◌, ◌⊎◌, inl, inr, ℕ, ◌+◌, ◌<◌, List, length, arith}
use Rattle.std.proofs.lemmas.Bool.{cases_order}
use Rattle.plane_hull.specs.declared.sides.Point.{Point}
use Rattle.plane_hull.specs.declared.sides.SideRow.{SideRow}
use Rattle.plane_hull.specs.BeltFault.{IsFaultOf, IsInTurn}

within : (points : List Point) (sides : List SideRow) (n : ℕ) → (n ≡ length sides) ⊎ ((n < length sides) × (IsInTurn points sides n → ⊥)) → n < length sides + 1
within points sides n (inl e) = omega arith
within points sides n (inr (low, _)) = omega arith

not_before : (points : List Point) (sides : List SideRow) (m n : ℕ) → IsFaultOf points sides m → IsFaultOf points sides n → m < n → ⊥
not_before points sides m n first second low = by first.here (within points sides n second.here)
  where
    by : (m ≡ length sides) ⊎ ((m < length sides) × (IsInTurn points sides m → ⊥)) → n < length sides + 1 → ⊥
    by (inl e) inside = omega arith
    by (inr (_, out)) inside = out (second.earlier m low)

pub one_fault : (points : List Point) (sides : List SideRow) (m n : ℕ) → IsFaultOf points sides m → IsFaultOf points sides n → m ≡ n
one_fault points sides m n first second = by (cases_order m n)
  where
    by : (m ≡ n) ⊎ ((m < n) ⊎ (n < m)) → m ≡ n
    by (inl e) = e
    by (inr (inl low)) = absurd (not_before points sides m n first second low)
    by (inr (inr low)) = absurd (not_before points sides n m second first low)
