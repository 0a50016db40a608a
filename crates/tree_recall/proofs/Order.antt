-- One node on in the order of a player's sets: its set is one met before or the next.
use Rattle.std.proofs.Common.{◌≡◌, ℕ, ◌+◌, List, [], ◌∷◌, Some, zero, suc, slice_get, drop, refl, subst, arith}
use Rattle.corr_game.specs.declared.nodes.Node.{Node}
use Rattle.corr_game.specs.declared.sides.Side.{Side}
use Rattle.corr_game.specs.Node.{set_at}
use Rattle.corr_game.specs.Sets.{AreInOrder, IsMetOrNext, met_with}

pub drop-at : {X : Type 0} (xs : List X) (n : ℕ) (x : X) → slice_get xs n ≡ Some x → drop n xs ≡ x ∷ drop (n + 1) xs
drop-at [] n x h = absurd (cc)
drop-at (y ∷ ys) zero x h = let same : y ≡ x = cc in rw same refl
drop-at (y ∷ ys) (suc n) x h = let e : suc n + 1 ≡ suc (n + 1) = omega arith in rw e (drop-at ys n x h)

pub next-in_order : (side : Side) (met : ℕ) (nodes : List Node) (n count : ℕ) (node : Node) → slice_get nodes n ≡ Some node → AreInOrder side met (drop n nodes) count
    → IsMetOrNext met (set_at side node) × AreInOrder side (met_with met (set_at side node)) (drop (n + 1) nodes) count
unfolding AreInOrder
next-in_order side met nodes n count node h order =
    let P : List Node → Type 0 = λ xs. AreInOrder side met xs count in
    subst P (drop-at nodes n node h) order
