-- The pieces of some bytes, from the last byte to the first: joined they are the bytes, a blank is one by itself, and of two side
-- by side one is a blank.
use Rattle.std.proofs.Common.{◌≡◌, ℕ, zero, suc, ◌+◌, ◌<◌, ◌⊎◌, inl, inr, Bool, true, false, ◌||◌, if◌then◌else◌, List, [], ◌∷◌, Some}
use Rattle.std.proofs.Common.{length, slice_get, refl, ap, subst, ◌∙◌, arith}
use Rattle.std.specs.List.{concat}
use Rattle.std.proofs.lemmas.Option.{same_Some}
use Rattle.report_reader.specs.Pieces.{in_front, is_blank, pieces}

-- both ways of a test
both_ways : {A : Type 0} (P : A → Type 0) (b : Bool) (x y : A) → (b ≡ true → P x) → (b ≡ false → P y) → P (if b then x else y)
both_ways P true x y yes_way no_way = yes_way refl
both_ways P false x y yes_way no_way = no_way refl

either_blank : (a b : Bool) → (a || b) ≡ true → (a ≡ true) ⊎ (b ≡ true)
either_blank true b h = inl refl
either_blank false b h = inr h

neither_blank : (a b : Bool) → (a || b) ≡ false → (a ≡ false) × (b ≡ false)
neither_blank true b h = absurd (cc)
neither_blank false b h = (refl, h)

front_joined : (byte : ℕ) (ps : List (List ℕ)) → concat (in_front byte ps) ≡ byte ∷ concat ps
front_joined byte [] = refl
front_joined byte ([] ∷ rest) = refl
front_joined byte ((next ∷ run) ∷ rest) =
    both_ways (λ (ps : List (List ℕ)). concat ps ≡ byte ∷ concat ((next ∷ run) ∷ rest)) (is_blank byte || is_blank next)
    ((byte ∷ []) ∷ (next ∷ run) ∷ rest) ((byte ∷ next ∷ run) ∷ rest) (λ e. refl) (λ e. refl)

pub joined : (bytes : List ℕ) → concat (pieces bytes) ≡ bytes
unfolding pieces
joined [] = refl
joined (byte ∷ bytes) = front_joined byte (pieces bytes) ∙ ap (λ (xs : List ℕ). byte ∷ xs) (joined bytes)

-- not empty, and a blank in it is all of it
record IsPiece (piece : List ℕ) : Type 0 where
  some : 0 < length piece
  alone : (j byte : ℕ) → slice_get piece j ≡ Some byte → is_blank byte ≡ true → length piece ≡ 1

-- a blank by itself
abbrev IsBlank : List ℕ → Type 0
IsBlank piece = (byte : ℕ) × (is_blank byte ≡ true) × (piece ≡ byte ∷ [])

abbrev AreApart : List ℕ → List (List ℕ) → Type 0
AreApart piece [] = Unit {0}
AreApart piece (next ∷ rest) = IsBlank piece ⊎ IsBlank next

abbrev AreCut : List (List ℕ) → Type 0
AreCut [] = Unit {0}
AreCut (piece ∷ rest) = IsPiece piece × AreApart piece rest × AreCut rest

single : (byte : ℕ) → IsPiece (byte ∷ [])
single byte = record { some = omega arith; alone = λ j b e blank. refl }

-- where the first byte of a piece is a blank it is all of it
first_blank : (next : ℕ) (run : List ℕ) → IsPiece (next ∷ run) → is_blank next ≡ true → IsBlank (next ∷ run)
first_blank next [] piece blank = (next, blank, refl)
first_blank next (more ∷ run) piece blank = absurd (omega (arith, piece.alone 0 next refl blank))

-- a run that goes on
longer : (byte next : ℕ) (run : List ℕ) → IsPiece (next ∷ run) → is_blank byte ≡ false → is_blank next ≡ false → IsPiece (byte ∷ next ∷ run)
longer byte next run piece first second = record { some = omega arith; alone = alone }
  where
    none_in : (rest : List ℕ) → length (next ∷ rest) ≡ 1 → (j b : ℕ) → slice_get (next ∷ rest) j ≡ Some b → is_blank b ≡ true → ⊥
    none_in rest one zero b e blank =
        let same : next ≡ b = same_Some next b e in
        let is : is_blank b ≡ false = subst (λ (n : ℕ). is_blank n ≡ false) same second in
        absurd (cc (blank, is))
    none_in [] one (suc j) b e blank = absurd (cc)
    none_in (more ∷ rest) one (suc j) b e blank = absurd (omega (arith, one))

    alone : (j b : ℕ) → slice_get (byte ∷ next ∷ run) j ≡ Some b → is_blank b ≡ true → length (byte ∷ next ∷ run) ≡ 1
    alone zero b e blank =
        let same : byte ≡ b = same_Some byte b e in
        let is : is_blank b ≡ false = subst (λ (n : ℕ). is_blank n ≡ false) same first in
        absurd (cc (blank, is))
    alone (suc j) b e blank = absurd (none_in run (piece.alone j b e blank) j b e blank)

-- such a run is no blank
not_blank : (next : ℕ) (run : List ℕ) → is_blank next ≡ false → IsBlank (next ∷ run) → ⊥
not_blank next run none (byte, blank, is) =
    let same : next ≡ byte = cc in
    let other : is_blank byte ≡ false = subst (λ (n : ℕ). is_blank n ≡ false) same none in
    absurd (cc (blank, other))

apart_longer : (byte next : ℕ) (run : List ℕ) (rest : List (List ℕ)) → is_blank next ≡ false → AreApart (next ∷ run) rest
    → AreApart (byte ∷ next ∷ run) rest
apart_longer byte next run [] none apart = tt
apart_longer byte next run (other ∷ rest) none (inl blank) = absurd (not_blank next run none blank)
apart_longer byte next run (other ∷ rest) none (inr blank) = inr blank

apart_front : (byte next : ℕ) (run : List ℕ) → IsPiece (next ∷ run) → (is_blank byte ≡ true) ⊎ (is_blank next ≡ true)
    → IsBlank (byte ∷ []) ⊎ IsBlank (next ∷ run)
apart_front byte next run piece (inl blank) = inl (byte, blank, refl)
apart_front byte next run piece (inr blank) = inr (first_blank next run piece blank)

cut_front : (byte : ℕ) (ps : List (List ℕ)) → AreCut ps → AreCut (in_front byte ps)
cut_front byte [] cut = (single byte, tt, tt)
cut_front byte ([] ∷ rest) cut = absurd (omega (arith, cut.0.some))
cut_front byte ((next ∷ run) ∷ rest) cut =
    both_ways AreCut (is_blank byte || is_blank next) ((byte ∷ []) ∷ (next ∷ run) ∷ rest) ((byte ∷ next ∷ run) ∷ rest)
    (λ e. (single byte, apart_front byte next run cut.0 (either_blank (is_blank byte) (is_blank next) e), cut))
    (λ e.
    let none = neither_blank (is_blank byte) (is_blank next) e in
    (longer byte next run cut.0 none.0 none.1, apart_longer byte next run rest none.1 cut.1, cut.2))

are_cut : (bytes : List ℕ) → AreCut (pieces bytes)
unfolding pieces
are_cut [] = tt
are_cut (byte ∷ bytes) = cut_front byte (pieces bytes) (are_cut bytes)

piece_at : (ps : List (List ℕ)) → AreCut ps → (k : ℕ) (piece : List ℕ) → slice_get ps k ≡ Some piece → IsPiece piece
piece_at [] cut k piece e = absurd (cc)
piece_at (first ∷ rest) cut zero piece e = subst (λ (p : List ℕ). IsPiece p) (same_Some first piece e) cut.0
piece_at (first ∷ rest) cut (suc k) piece e = piece_at rest cut.2 k piece e

apart_at : (ps : List (List ℕ)) → AreCut ps → (k : ℕ) (a b : List ℕ) → slice_get ps k ≡ Some a → slice_get ps (suc k) ≡ Some b
    → IsBlank a ⊎ IsBlank b
apart_at [] cut k a b e f = absurd (cc)
apart_at (first ∷ []) cut zero a b e f = absurd (cc)
apart_at (first ∷ second ∷ rest) cut zero a b e f =
    let left : first ≡ a = same_Some first a e in
    let right : second ≡ b = same_Some second b f in
    subst (λ (p : List ℕ). IsBlank p ⊎ IsBlank b) left (subst (λ (p : List ℕ). IsBlank first ⊎ IsBlank p) right cut.1)
apart_at (first ∷ rest) cut (suc k) a b e f = apart_at rest cut.2 k a b e f

pub some_bytes : (bytes : List ℕ) (k : ℕ) (piece : List ℕ) → slice_get (pieces bytes) k ≡ Some piece → 0 < length piece
some_bytes bytes k piece e = (piece_at (pieces bytes) (are_cut bytes) k piece e).some

pub blank_alone : (bytes : List ℕ) (k j : ℕ) (piece : List ℕ) (byte : ℕ) → slice_get (pieces bytes) k ≡ Some piece
    → slice_get piece j ≡ Some byte → is_blank byte ≡ true → length piece ≡ 1
blank_alone bytes k j piece byte e f blank = (piece_at (pieces bytes) (are_cut bytes) k piece e).alone j byte f blank

pub one_blank : (bytes : List ℕ) (k : ℕ) (a b : List ℕ) → slice_get (pieces bytes) k ≡ Some a → slice_get (pieces bytes) (k + 1) ≡ Some b
    → (byte : ℕ) × (is_blank byte ≡ true) × ((a ≡ byte ∷ []) ⊎ (b ≡ byte ∷ []))
one_blank bytes k a b e f =
    let next : k + 1 ≡ suc k = omega arith in
    elim (apart_at (pieces bytes) (are_cut bytes) k a b e (subst (λ (n : ℕ). slice_get (pieces bytes) n ≡ Some b) next f)) [
      | inl left ↦ (left.0, left.1, inl left.2)
      | inr right ↦ (right.0, right.1, inr right.2)
    ]
