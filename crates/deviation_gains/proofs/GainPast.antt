-- A sequence holds a choice at a set exactly where its last move's set is under it.
use Rattle.std.proofs.Common.{◌≡◌, ◌↔◌, ℕ, inl, inr, Some, None, slice_get, ap, ◌∙◌, subst}
use Rattle.corr_game.specs.declared.nodes.SetId.{SetId}
use Rattle.sequences.specs.Number.{Holds, IsUnder, SideView, before, last, last_of}

same_set : (v : SideView) (seq : ℕ) (a b : SetId × ℕ) → last_of v seq ≡ Some a → last_of v seq ≡ Some b → a.0.0 ≡ b.0.0
same_set v seq a b e f = let same : a ≡ b = cc (e, f) in ap (λ (m : SetId × ℕ). m.0.0) same

under_holds : (v : SideView) (above seq : ℕ) (move : SetId × ℕ) → last_of v seq ≡ Some move → IsUnder v move.0.0 above → Holds v above seq
under_holds v above seq move e (inl here) = last seq move e here
under_holds v above seq move e (inr held) = before seq move held.0 e held.1 held.2

holds_under : (v : SideView) (above seq : ℕ) (move : SetId × ℕ) → last_of v seq ≡ Some move → Holds v above seq → IsUnder v move.0.0 above
holds_under v above _ move e (last seq m f here) = inl (same_set v seq move m e f ∙ here)
holds_under v above _ move e (before seq m place f at held) =
    let At : ℕ → Type 0 = λ set. slice_get v.places set ≡ Some place in
    inr (place, subst At (same_set v seq m move f e) at, held)

pub past_by_last : (v : SideView) (above seq : ℕ) (move : SetId × ℕ) → last_of v seq ≡ Some move
    → IsUnder v move.0.0 above ↔ Holds v above seq
past_by_last v above seq move e = (under_holds v above seq move e, holds_under v above seq move e)

none_held : (v : SideView) (above seq : ℕ) → last_of v seq ≡ None → Holds v above seq → ⊥
none_held v above _ e (last seq m f here) = cc
none_held v above _ e (before seq m place f at held) = cc

pub not_past : (v : SideView) (above seq : ℕ) → last_of v seq ≡ None → Holds v above seq → ⊥
not_past v above seq e held = none_held v above seq e held
