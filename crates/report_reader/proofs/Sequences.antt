-- Two kinds of values one behind the other stop where the first stops, or behind a value of the first where the second stops: where
-- a value of the first is told by its pieces, whatever stands behind them.
use Rattle.std.proofs.Common.{◌≡◌, ℕ, ◌⊎◌, inl, inr, List, [], ◌∷◌, ◌++◌, refl, sym, ap, subst, ◌∙◌, append_assoc, append-nil}
use Rattle.report_reader.specs.Stopping.{StopsIn}
use Rattle.report_reader.proofs.OnePlace.{compared}

-- good values with the same pieces in front are the same, and so is what stands behind them
pub record AreTold {A : Type 0} (Good : A → Type 0) (cut : A → List (List ℕ)) : Type 0 where
  pub told : (a b : A) (x y : List (List ℕ)) → Good a → Good b → cut a ++ x ≡ cut b ++ y → (a ≡ b) × (x ≡ y)

module _ {A B : Type 0} (First : A → Type 0) (first : A → List (List ℕ)) (Second : A → B → Type 0) (second : A → B → List (List ℕ)) where
  abbrev pub Both : A × B → Type 0
  Both pair = First pair.0 × Second pair.0 pair.1

  abbrev pub both_cut : A × B → List (List ℕ)
  both_cut pair = first pair.0 ++ second pair.0 pair.1

  -- a front of some pieces with one more behind it ends before that one, or is all of them
  ends : (more before : List (List ℕ)) (piece : List ℕ) (front : List (List ℕ)) → before ++ piece ∷ [] ≡ front ++ more
      → (more ≡ []) ⊎ ((m : List (List ℕ)) × (before ≡ front ++ m))
  ends more before piece [] same = inr (before, refl)
  ends more [] piece (x ∷ front) same = inl (nothing front more (sym (rest same)))
    where
      rest : {p : List ℕ} {l : List (List ℕ)} → p ∷ [] ≡ x ∷ l → [] ≡ l
      rest same = cc

      nothing : (xs ys : List (List ℕ)) → xs ++ ys ≡ [] → ys ≡ []
      nothing [] ys none = none
      nothing (z ∷ xs) ys none = absurd (cc)
  ends more (b ∷ before) piece (x ∷ front) same =
      let one : b ≡ x = cc in
      let behind : before ++ piece ∷ [] ≡ front ++ more = cc in
      elim (ends more before piece front behind) [
        | inl none ↦ inl none
        | inr on ↦ inr (on.0, (λ i. one i ∷ on.1 i))
      ]

  -- the first kind stops
  pub stops_first : AreTold First first → ((a : A) → First a → (b : B) × Second a b) → (before left : List (List ℕ))
      → StopsIn First first before left → StopsIn Both both_cut before left
  stops_first told some before left stop = record {
    value = (stop.value, (some stop.value stop.good).0);
    good = (stop.good, (some stop.value stop.good).1);
    next = stop.next;
    others = stop.others ++ second stop.value (some stop.value stop.good).0;
    goes_on =
        ap (λ (ps : List (List ℕ)). ps ++ second stop.value (some stop.value stop.good).0) stop.goes_on
        ∙ append_assoc before (stop.next ∷ stop.others) (second stop.value (some stop.value stop.good).0);
    stops = λ pair piece behind more good is same. go pair.0 (second pair.0 pair.1) piece behind more good.0 is same;
  }
    where
      whole : (a : A) (piece : List ℕ) (m : List (List ℕ)) → First a → before ≡ first a ++ m → ⊥
      whole a piece m good is =
          let longer : first stop.value ++ [] ≡ first a ++ (m ++ stop.next ∷ stop.others) =
          append-nil (first stop.value) ∙ stop.goes_on ∙ ap (λ (ps : List (List ℕ)). ps ++ stop.next ∷ stop.others) is
          ∙ append_assoc (first a) m (stop.next ∷ stop.others) in
          not_nothing m (told.told stop.value a [] (m ++ stop.next ∷ stop.others) stop.good good longer).1
        where
          not_nothing : (m : List (List ℕ)) → [] ≡ m ++ stop.next ∷ stop.others → ⊥
          not_nothing [] none = absurd (cc)
          not_nothing (x ∷ m) none = absurd (cc)

      go : (a : A) (tail : List (List ℕ)) (piece : List ℕ) (behind more : List (List ℕ)) → First a → left ≡ piece ∷ behind
          → first a ++ tail ≡ before ++ piece ∷ more → ⊥
      go a tail piece behind more good is same =
          elim (compared (first a) tail (before ++ piece ∷ []) more (same ∙ sym (append_assoc before (piece ∷ []) more))) [
            | inl on ↦ elim (ends on.more before piece (first a) on.long_is) [
              | inl none ↦ stop.stops a piece behind [] good is
                  (sym (append-nil (first a)) ∙ ap (λ (ps : List (List ℕ)). first a ++ ps) (sym none) ∙ sym on.long_is)
              | inr short ↦ whole a piece short.0 good short.1
            ]
            | inr on ↦ stop.stops a piece behind on.more good is (on.long_is ∙ append_assoc before (piece ∷ []) on.more)
          ]

  -- the second kind stops behind a value of the first
  pub stops_second : AreTold First first → (a : A) → First a → (before left : List (List ℕ)) → StopsIn (Second a) (second a) before left
      → StopsIn Both both_cut (first a ++ before) left
  stops_second told a good before left stop = record {
    value = (a, stop.value);
    good = (good, stop.good);
    next = stop.next;
    others = stop.others;
    goes_on =
        ap (λ (ps : List (List ℕ)). first a ++ ps) stop.goes_on ∙ sym (append_assoc (first a) before (stop.next ∷ stop.others));
    stops = λ pair piece behind more fine is same.
        go pair.0 pair.1 piece behind more fine.0 fine.1 is (same ∙ append_assoc (first a) before (piece ∷ more));
  }
    where
      go : (b : A) (c : B) (piece : List ℕ) (behind more : List (List ℕ)) → First b → Second b c → left ≡ piece ∷ behind
          → first b ++ second b c ≡ first a ++ (before ++ piece ∷ more) → ⊥
      go b c piece behind more fine second_fine is same =
          let one = told.told b a (second b c) (before ++ piece ∷ more) fine good same in
          let Goal : A → Type 0 = λ x. Second x c → second x c ≡ before ++ piece ∷ more → ⊥ in
          subst Goal (sym one.0) (λ right cut. stop.stops c piece behind more right is cut) second_fine one.1
