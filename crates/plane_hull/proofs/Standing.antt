-- Sides that stand at corners, and one more.
use Rattle.std.proofs.Common.{◌≡◌, ◌⊎◌, inl, inr, ℕ, ◌<◌, zero, suc, List, [], ◌∷◌, ◌++◌, length, slice_get, Some, refl, subst, arith}
use Rattle.plane_hull.specs.declared.sides.SideRow.{SideRow}
use Rattle.plane_hull.specs.Belt.{StandAtCorners}

slice_get-push : {X : Type 0} (xs : List X) (y x : X) (k : ℕ) → slice_get (xs ++ y ∷ []) k ≡ Some x → (slice_get xs k ≡ Some x) ⊎ ((k ≡ length xs) × (y ≡ x))
slice_get-push [] y x zero h = inr (refl, (cc))
slice_get-push [] y x (suc k) h = absurd (cc)
slice_get-push (z ∷ zs) y x zero h = inl h
slice_get-push (z ∷ zs) y x (suc k) h =
    elim (slice_get-push zs y x k h) [ inl there ↦ inl there | inr here ↦ inr (omega (arith, here.0), here.1) ]

pub one_more : (corners : ℕ) (old new : List SideRow) (side : SideRow) → new ≡ old ++ side ∷ [] → StandAtCorners corners old → side.corner < corners → StandAtCorners corners new
one_more corners old new side e stand within = λ k found h.
    elim (slice_get-push old side found k (subst (λ (sides : List SideRow). slice_get sides k ≡ Some found) e h)) [
      | inl there ↦ stand k found there
      | inr end ↦ subst (λ (s : SideRow). s.corner < corners) end.1 within
    ]
