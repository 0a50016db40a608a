-- A sequence's own part has a smaller number, so going back along it ends; what a sequence holds and what plays it is
-- told by its last move and its own part.
use Rattle.std.proofs.Common.{◌≡◌, ℕ, ◌<◌, zero, suc, List, Option, Some, None, length, slice_get, refl, sym, subst, ap, ◌∙◌, arith}
use Rattle.std.proofs.lemmas.Option.{slice_get_within}
use Rattle.corr_game.specs.declared.nodes.SetId.{SetId}
use Rattle.sequences.specs.declared.places.Place.{Place}
use Rattle.sequences.specs.Number.{SideView, IsSide, IsOwn, Ends, Holds, last, before, Plays, nothing, further, last_of, count_of}
use Rattle.sequences.proofs.Adding.{within}

ends : (v : SideView) → IsSide v → (seq : ℕ) (move : SetId × ℕ) → last_of v seq ≡ Some move → Ends v.places move seq
ends v side zero move e = absurd (cc)
ends v side (suc k) move e =
    let at = side.numbered.each_last k move e in
    (at.0, at.1, at.2, omega (arith, at.3))

pub set_in : (v : SideView) → IsSide v → (seq : ℕ) (move : SetId × ℕ) → last_of v seq ≡ Some move → move.0.0 < length v.places
set_in v side seq move e = let at = ends v side seq move e in slice_get_within v.places move.0.0 at.0 at.1

first-same : (v : SideView) (move : SetId × ℕ) (a b : Place) → slice_get v.places move.0.0 ≡ Some a → slice_get v.places move.0.0 ≡ Some b → a.first ≡ b.first
first-same v move a b e f = let same : a ≡ b = cc in ap (λ (p : Place). p.first) same

own-same : (v : SideView) (move : SetId × ℕ) (a b : Place) → slice_get v.places move.0.0 ≡ Some a → slice_get v.places move.0.0 ≡ Some b → a.own ≡ b.own
own-same v move a b e f = let same : a ≡ b = cc in ap (λ (p : Place). p.own) same

pub own_lower : (v : SideView) → IsSide v → (seq : ℕ) (move : SetId × ℕ) (own : ℕ) → last_of v seq ≡ Some move → IsOwn v move.0.0 own → own < seq
own_lower v side seq move own e o =
    let at = ends v side seq move e in
    omega (arith, side.numbered.own_before move.0.0 o.0 o.1, o.2, at.3, first-same v move at.0 o.0 at.1 o.1)

-- a set's own sequence is one of the player's
pub own_in : (v : SideView) → IsSide v → (set own : ℕ) → IsOwn v set own → own < count_of v
own_in v side set own o = omega (arith, side.numbered.own_before set o.0 o.1, side.numbered.in_range set o.0 o.1, o.2)

pub holds-none : (v : SideView) (above seq : ℕ) → Holds v above seq → last_of v seq ≡ None → ⊥
holds-none v above _ (last s m f g) e = cc
holds-none v above _ (before s m p f g r) e = cc

pub holds-back : (v : SideView) (above seq : ℕ) → Holds v above seq → (move : SetId × ℕ) (own : ℕ) → last_of v seq ≡ Some move → (move.0.0 ≡ above → ⊥) → IsOwn v move.0.0 own → Holds v above own
holds-back v above _ (last s m f g) move own e apart o =
    let same : m ≡ move = cc in
    absurd (apart (ap (λ (x : SetId × ℕ). x.0.0) (sym same) ∙ g))
holds-back v above _ (before s m p f g r) move own e apart o =
    let same : m ≡ move = cc in
    let at : slice_get v.places move.0.0 ≡ Some p = ap (λ (x : SetId × ℕ). slice_get v.places x.0.0) (sym same) ∙ g in
    let P : ℕ → Type 0 = Holds v above in
    subst P (own-same v move p o.0 at o.1 ∙ o.2) r

pub holds-on : (v : SideView) (above seq : ℕ) (move : SetId × ℕ) (own : ℕ) → last_of v seq ≡ Some move → IsOwn v move.0.0 own → Holds v above own → Holds v above seq
holds-on v above seq move own e o h =
    let P : ℕ → Type 0 = Holds v above in
    before seq move o.0 e o.1 (subst P (sym o.2) h)

pub none-empty : (v : SideView) (seq : ℕ) → seq < count_of v → last_of v seq ≡ None → seq ≡ 0
none-empty v zero h e = refl
none-empty v (suc k) h e = let at = within v.lasts k (omega arith) in absurd (cc)

pub plays-on : (v : SideView) (plan : List (Option ℕ)) (seq : ℕ) (move : SetId × ℕ) (own : ℕ) → last_of v seq ≡ Some move → IsOwn v move.0.0 own → slice_get plan move.0.0 ≡ Some (Some move.1) → Plays v plan own → Plays v plan seq
plays-on v plan seq move own e o named h =
    let P : ℕ → Type 0 = Plays v plan in
    further seq move o.0 e named o.1 (subst P (sym o.2) h)

pub plays-named : (v : SideView) (plan : List (Option ℕ)) (seq : ℕ) → Plays v plan seq → (move : SetId × ℕ) → last_of v seq ≡ Some move → slice_get plan move.0.0 ≡ Some (Some move.1)
plays-named v plan _ nothing move e = absurd (cc)
plays-named v plan _ (further s m p f n g r) move e =
    let same : m ≡ move = cc in
    rw (← same) n

pub plays-back : (v : SideView) (plan : List (Option ℕ)) (seq : ℕ) → Plays v plan seq → (move : SetId × ℕ) (own : ℕ) → last_of v seq ≡ Some move → IsOwn v move.0.0 own → Plays v plan own
plays-back v plan _ nothing move own e o = absurd (cc)
plays-back v plan _ (further s m p f n g r) move own e o =
    let same : m ≡ move = cc in
    let at : slice_get v.places move.0.0 ≡ Some p = ap (λ (x : SetId × ℕ). slice_get v.places x.0.0) (sym same) ∙ g in
    let P : ℕ → Type 0 = Plays v plan in
    subst P (own-same v move p o.0 at o.1 ∙ o.2) r
