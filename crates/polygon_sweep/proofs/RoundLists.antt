-- Lists that grow at their end: what is known of each element behind the first, of each two and each three in a row, and of the last ones.
use Rattle.std.proofs.Common.{◌≡◌, ◌⊎◌, inl, inr, ℕ, zero, suc, ◌<◌, List, [], ◌∷◌, ◌++◌, length, slice_get, Some, refl, ap, subst, arith}
use Rattle.std.proofs.lemmas.Option.{same_Some, slice_get_within}

-- each element behind the first
pub record EachBehind {X : Type 0} (P : X → Type 0) (xs : List X) : Type 0 where
  pub each : (k : ℕ) (x : X) → slice_get xs (suc k) ≡ Some x → P x

-- each two in a row
pub record EachTwo {X : Type 0} (R : X → X → Type 0) (xs : List X) : Type 0 where
  pub each : (k : ℕ) (x y : X) → slice_get xs k ≡ Some x → slice_get xs (suc k) ≡ Some y → R x y

-- each three in a row
pub record EachThree {X : Type 0} (R : X → X → X → Type 0) (xs : List X) : Type 0 where
  pub each : (k : ℕ) (x y z : X) → slice_get xs k ≡ Some x → slice_get xs (suc k) ≡ Some y → slice_get xs (suc (suc k)) ≡ Some z → R x y z

-- the last element
pub record EndsIn {X : Type 0} (P : X → Type 0) (xs : List X) : Type 0 where
  pub last : (k : ℕ) (x : X) → suc k ≡ length xs → slice_get xs k ≡ Some x → P x

-- the last two
pub record EndsInTwo {X : Type 0} (R : X → X → Type 0) (xs : List X) : Type 0 where
  pub last : (k : ℕ) (x y : X) → suc (suc k) ≡ length xs → slice_get xs k ≡ Some x → slice_get xs (suc k) ≡ Some y → R x y

pub longer : {X : Type 0} (xs : List X) (y : X) → length (xs ++ y ∷ []) ≡ suc (length xs)
longer [] y = refl
longer (x ∷ xs) y = ap suc (longer xs y)

pub one_by_one : {X : Type 0} (xs : List X) (y z : X) → (xs ++ y ∷ []) ++ z ∷ [] ≡ xs ++ y ∷ z ∷ []
one_by_one [] y z = refl
one_by_one {X = X} (x ∷ xs) y z = ap (λ (rest : List X). x ∷ rest) (one_by_one xs y z)

-- an element of the longer list is one of the shorter one, or the new one at its end
pub added_or_stood : {X : Type 0} (xs : List X) (y x : X) (k : ℕ) → slice_get (xs ++ y ∷ []) k ≡ Some x
    → (slice_get xs k ≡ Some x) ⊎ ((k ≡ length xs) × (y ≡ x))
added_or_stood [] y x zero at = inr (refl, same_Some y x at)
added_or_stood [] y x (suc k) at = absurd (cc)
added_or_stood (z ∷ xs) y x zero at = inl at
added_or_stood (z ∷ xs) y x (suc k) at =
    elim (added_or_stood xs y x k at) [ inl old ↦ inl old | inr new ↦ inr (omega (arith, new.0), new.1) ]

-- what stands before the end stood there before
pub stood : {X : Type 0} (xs : List X) (y x : X) (k : ℕ) → k < length xs → slice_get (xs ++ y ∷ []) k ≡ Some x → slice_get xs k ≡ Some x
stood xs y x k inside at = by (added_or_stood xs y x k at)
  where
    by : (slice_get xs k ≡ Some x) ⊎ ((k ≡ length xs) × (y ≡ x)) → slice_get xs k ≡ Some x
    by (inl old) = old
    by (inr (end, same)) = absurd (omega arith)

pub stands_still : {X : Type 0} (xs ys : List X) (x : X) (k : ℕ) → slice_get xs k ≡ Some x → slice_get (xs ++ ys) k ≡ Some x
stands_still [] ys x k at = absurd (cc)
stands_still (y ∷ xs) ys x zero at = at
stands_still (y ∷ xs) ys x (suc k) at = stands_still xs ys x k at

pub stands_last : {X : Type 0} (xs : List X) (y : X) → slice_get (xs ++ y ∷ []) (length xs) ≡ Some y
stands_last [] y = refl
stands_last (x ∷ xs) y = stands_last xs y

pub push_behind : {X : Type 0} {P : X → Type 0} {xs : List X} (y : X) → EachBehind P xs → P y → EachBehind P (xs ++ y ∷ [])
push_behind {X = X} {P = P} {xs = xs} y old new = record { each = λ k x at. by k x (added_or_stood xs y x (suc k) at) }
  where
    by : (k : ℕ) (x : X) → (slice_get xs (suc k) ≡ Some x) ⊎ ((suc k ≡ length xs) × (y ≡ x)) → P x
    by k x (inl before) = old.each k x before
    by k x (inr (end, same)) = subst P same new

pub push_two : {X : Type 0} {R : X → X → Type 0} {xs : List X} (y : X) → EachTwo R xs → EndsIn (λ last. R last y) xs
    → EachTwo R (xs ++ y ∷ [])
push_two {X = X} {R = R} {xs = xs} y old new = record { each = λ k x z at_x at_z. by k x z at_x (added_or_stood xs y z (suc k) at_z) }
  where
    by : (k : ℕ) (x z : X) → slice_get (xs ++ y ∷ []) k ≡ Some x → (slice_get xs (suc k) ≡ Some z) ⊎ ((suc k ≡ length xs) × (y ≡ z)) → R x z
    by k x z at_x (inl before) =
        let inside = slice_get_within xs (suc k) z before in
        old.each k x z (stood xs y x k (omega arith) at_x) before
    by k x z at_x (inr (end, same)) = subst (λ (w : X). R x w) same (new.last k x end (stood xs y x k (omega arith) at_x))

pub push_three : {X : Type 0} {R : X → X → X → Type 0} {xs : List X} (y : X) → EachThree R xs
    → EndsInTwo (λ before last. R before last y) xs
    → EachThree R (xs ++ y ∷ [])
push_three {X = X} {R = R} {xs = xs} y old new =
    record { each = λ k w x z at_w at_x at_z. by k w x z at_w at_x (added_or_stood xs y z (suc (suc k)) at_z) }
  where
    by : (k : ℕ) (w x z : X) → slice_get (xs ++ y ∷ []) k ≡ Some w → slice_get (xs ++ y ∷ []) (suc k) ≡ Some x
        → (slice_get xs (suc (suc k)) ≡ Some z) ⊎ ((suc (suc k) ≡ length xs) × (y ≡ z)) → R w x z
    by k w x z at_w at_x (inl before) =
        let inside = slice_get_within xs (suc (suc k)) z before in
        old.each k w x z (stood xs y w k (omega arith) at_w) (stood xs y x (suc k) (omega arith) at_x) before
    by k w x z at_w at_x (inr (end, same)) =
        subst (λ (v : X). R w x v) same
        (new.last k w x end (stood xs y w k (omega arith) at_w) (stood xs y x (suc k) (omega arith) at_x))

pub push_end : {X : Type 0} {P : X → Type 0} (xs : List X) (y : X) → P y → EndsIn P (xs ++ y ∷ [])
push_end {X = X} {P = P} xs y new = record { last = λ k x end at. by k x end (added_or_stood xs y x k at) }
  where
    by : (k : ℕ) (x : X) → suc k ≡ length (xs ++ y ∷ []) → (slice_get xs k ≡ Some x) ⊎ ((k ≡ length xs) × (y ≡ x)) → P x
    by k x end (inl before) = absurd (let inside = slice_get_within xs k x before in let more = longer xs y in omega arith)
    by k x end (inr (_, same)) = subst P same new

pub push_end_two : {X : Type 0} {R : X → X → Type 0} {xs : List X} (y : X) → EndsIn (λ last. R last y) xs → EndsInTwo R (xs ++ y ∷ [])
push_end_two {X = X} {R = R} {xs = xs} y new =
    record { last = λ k x z end at_x at_z. by k x z end at_x (added_or_stood xs y z (suc k) at_z) }
  where
    by : (k : ℕ) (x z : X) → suc (suc k) ≡ length (xs ++ y ∷ []) → slice_get (xs ++ y ∷ []) k ≡ Some x
        → (slice_get xs (suc k) ≡ Some z) ⊎ ((suc k ≡ length xs) × (y ≡ z)) → R x z
    by k x z end at_x (inl before) = absurd (let inside = slice_get_within xs (suc k) z before in let more = longer xs y in omega arith)
    by k x z end at_x (inr (here, same)) = subst (λ (w : X). R x w) same (new.last k x here (stood xs y x k (omega arith) at_x))
