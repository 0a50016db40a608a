-- What a sequence holds and what it begins with, by its last move and its own part.
use Rattle.std.proofs.Common.{◌≡◌, ℕ, Some, slice_get, refl, sym, ap, subst, ◌∙◌, inl, inr}
use Rattle.corr_game.specs.declared.nodes.SetId.{SetId}
use Rattle.sequences.specs.declared.places.Place.{Place}
use Rattle.sequences.specs.Number.{SideView, IsOwn, IsUnder, Holds, last, before, last_of}
use Rattle.connected_pairs.specs.Connected.{IsPrefix, itself, longer}

pub holds_under : (v : SideView) (above seq : ℕ) (move : SetId × ℕ) → last_of v seq ≡ Some move → IsUnder v move.0.0 above → Holds v above seq
holds_under v above seq move e (inl same) = last seq move e same
holds_under v above seq move e (inr own) = before seq move own.0 e own.1 own.2

pub under_holds : (v : SideView) (above seq : ℕ) → Holds v above seq → (move : SetId × ℕ) → last_of v seq ≡ Some move → IsUnder v move.0.0 above
under_holds v above _ (last s m f g) move e =
    let same : m ≡ move = cc in
    inl (ap (λ (x : SetId × ℕ). x.0.0) (sym same) ∙ g)
under_holds v above _ (before s m p f g r) move e =
    let same : m ≡ move = cc in
    inr (p, ap (λ (x : SetId × ℕ). slice_get v.places x.0.0) (sym same) ∙ g, r)

own_one : (v : SideView) (a b : SetId × ℕ) (m n : ℕ) → a ≡ b → IsOwn v a.0.0 m → IsOwn v b.0.0 n → m ≡ n
own_one v a b m n e o q =
    let at : slice_get v.places b.0.0 ≡ Some o.0 = ap (λ (x : SetId × ℕ). slice_get v.places x.0.0) (sym e) ∙ o.1 in
    let same : o.0 ≡ q.0 = cc (at, q.1) in
    sym o.2 ∙ (ap (λ (x : Place). x.own) same ∙ q.2)

pub prefix_back : (v : SideView) (part seq : ℕ) → IsPrefix v part seq → (seq ≡ part → ⊥) → (move : SetId × ℕ) (own : ℕ) → last_of v seq ≡ Some move → IsOwn v move.0.0 own → IsPrefix v part own
prefix_back v part _ itself apart move own e o = absurd (apart refl)
prefix_back v part _ (longer s w m f q r) apart move own e o =
    let same : m ≡ move = cc in
    let P : ℕ → Type 0 = IsPrefix v part in
    subst P (own_one v m move w own same q o) r
