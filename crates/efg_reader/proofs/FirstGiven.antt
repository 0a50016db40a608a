-- One thing more that is given: a number that is there keeps its first value, and a new one comes last.
use Rattle.std.proofs.Common.{◌≡◌, ℕ, ◌+◌, length, arith, Bool, true, false, cond, not, eqb, nat_eq, List, [], ◌∷◌, ◌++◌, Option, Some, None, filter, refl, ap, sym, subst, ◌∙◌}
use Rattle.std.specs.List.{cons_option, position_or_len}
use Rattle.std.specs.Map.{keys_of, lookup}
use Rattle.std.specs.Option.{option_or}
use Rattle.std.proofs.lemmas.Bool.{eqb-true, eqb-false, eq-eqb, ne_eqb}
use Rattle.std.proofs.lemmas.List.{append-nil}
use Rattle.std.proofs.lemmas.List.Elements.{filter-append}
use Rattle.std.proofs.lemmas.Map.Entries.{lookup-filter-keys}
use Rattle.efg_reader.specs.Lists.{added, with_given}
use Rattle.efg_reader.specs.Told.{firsts}

module _ {A : Type 0} where
  -- what is given for other numbers
  abbrev others : ℕ → List (ℕ × A) → List (ℕ × A)
  others own es = filter (λ (e : ℕ × A). not (eqb own e.0)) es

  lookup-others : (own n : ℕ) (es : List (ℕ × A)) → eqb own n ≡ false → lookup (nat_eq n) (others own es) ≡ lookup (nat_eq n) es
  lookup-others own n es apart =
      lookup-filter-keys (nat_eq n) (λ (k : ℕ). not (eqb own k)) true
      (λ k found. ap not (subst (λ (i : ℕ). eqb own i ≡ false) (eqb-true n k found) apart)) es

  others-same : (own n : ℕ) (w : A) (o : Option A) (es : List (ℕ × A)) → eqb own n ≡ true → others own (added o es n w) ≡ others own es
  others-same own n w (Some v) es same = refl
  others-same own n w None es same =
      filter-append (λ (e : ℕ × A). not (eqb own e.0)) es ((n, w) ∷ [])
      ∙ ap (λ (b : Bool). others own es ++ cond (not b) ((n, w) ∷ []) []) same
      ∙ append-nil (others own es)

  others-apart : (own n : ℕ) (w : A) (o : Option A) (es : List (ℕ × A)) → eqb own n ≡ false → others own (added o es n w) ≡ added o (others own es) n w
  others-apart own n w (Some v) es apart = refl
  others-apart own n w None es apart =
      filter-append (λ (e : ℕ × A). not (eqb own e.0)) es ((n, w) ∷ [])
      ∙ ap (λ (b : Bool). others own es ++ cond (not b) ((n, w) ∷ []) []) apart

  behind_first : (x : ℕ × A) (n : ℕ) (w : A) (o : Option A) (es : List (ℕ × A)) → x ∷ added o es n w ≡ added o (x ∷ es) n w
  behind_first x n w (Some v) es = refl
  behind_first x n w None es = refl

  push_step : (x : ℕ × A) (n : ℕ) (w : A) (es : List (ℕ × A)) (b : Bool) → eqb n x.0 ≡ b
      → x ∷ others x.0 (added (lookup (nat_eq n) es) es n w) ≡ added (cond b (Some x.1) (lookup (nat_eq n) (others x.0 es))) (x ∷ others x.0 es) n w
  push_step x n w es true same = ap (λ (ys : List (ℕ × A)). x ∷ ys) (others-same x.0 n w (lookup (nat_eq n) es) es (eq-eqb x.0 n (sym (eqb-true n x.0 same))))
  push_step x n w es false apart =
      let other : eqb x.0 n ≡ false = ne_eqb x.0 n (λ e. eqb-false n x.0 apart (sym e)) in
      ap (λ (ys : List (ℕ × A)). x ∷ ys) (others-apart x.0 n w (lookup (nat_eq n) es) es other)
      ∙ behind_first x n w (lookup (nat_eq n) es) (others x.0 es)
      ∙ ap (λ (o : Option A). added o (x ∷ others x.0 es) n w) (sym (lookup-others x.0 n es other))

  pub firsts-push : (xs : List (ℕ × A)) (n : ℕ) (w : A) → firsts (xs ++ (n, w) ∷ []) ≡ added (lookup (nat_eq n) (firsts xs)) (firsts xs) n w
  unfolding firsts
  firsts-push [] n w = refl
  firsts-push (x ∷ xs) n w = ap (λ (ys : List (ℕ × A)). x ∷ others x.0 ys) (firsts-push xs n w) ∙ push_step x n w (firsts xs) (eqb n x.0) refl

  pub firsts-given : (xs : List (ℕ × A)) (given : Option (ℕ × A)) → firsts (xs ++ cons_option given []) ≡ with_given given (firsts xs)
  firsts-given xs None = ap firsts (append-nil xs)
  firsts-given xs (Some given) = firsts-push xs given.0 given.1

  lookup-front : (test : ℕ → Bool) (es ys : List (ℕ × A)) (v : A) → lookup test es ≡ Some v → lookup test (es ++ ys) ≡ Some v
  lookup-front test [] ys v found = absurd (cc)
  lookup-front test (e ∷ es) ys v found = front_step (test e.0) (lookup-front test es ys v) found
    where
      front_step : (b : Bool) → (lookup test es ≡ Some v → lookup test (es ++ ys) ≡ Some v) → cond b (Some e.1) (lookup test es) ≡ Some v → cond b (Some e.1) (lookup test (es ++ ys)) ≡ Some v
      front_step true more found = found
      front_step false more found = more found

  lookup-behind : (test : ℕ → Bool) (es ys : List (ℕ × A)) → lookup test es ≡ None → lookup test (es ++ ys) ≡ lookup test ys
  lookup-behind test [] ys none = refl
  lookup-behind test (e ∷ es) ys none = behind_step (test e.0) (lookup-behind test es ys) none
    where
      behind_step : (b : Bool) → (lookup test es ≡ None → lookup test (es ++ ys) ≡ lookup test ys) → cond b (Some e.1) (lookup test es) ≡ None → cond b (Some e.1) (lookup test (es ++ ys)) ≡ lookup test ys
      behind_step true more none = absurd (cc)
      behind_step false more none = more none

  -- a number that is there keeps its value
  pub lookup-kept : (given : Option (ℕ × A)) (es : List (ℕ × A)) (n : ℕ) (v : A) → lookup (nat_eq n) es ≡ Some v → lookup (nat_eq n) (with_given given es) ≡ Some v
  lookup-kept None es n v found = found
  lookup-kept (Some given) es n v found = kept (lookup (nat_eq given.0) es)
    where
      kept : (o : Option A) → lookup (nat_eq n) (added o es given.0 given.1) ≡ Some v
      kept None = lookup-front (nat_eq n) es ((given.0, given.1) ∷ []) v found
      kept (Some w) = found

  -- a number for which something is given has a value
  pub lookup-own : (es : List (ℕ × A)) (n : ℕ) (w : A) → lookup (nat_eq n) (with_given (Some (n, w)) es) ≡ option_or (lookup (nat_eq n) es) (Some w)
  lookup-own es n w = own (lookup (nat_eq n) es) refl
    where
      own : (o : Option A) → lookup (nat_eq n) es ≡ o → lookup (nat_eq n) (added o es n w) ≡ option_or o (Some w)
      own (Some v) found = found
      own None none = lookup-behind (nat_eq n) es ((n, w) ∷ []) none ∙ ap (λ (b : Bool). cond b (Some w) None) (eq-eqb n n refl)

  -- a number that is there keeps its place
  pub place_kept : (es ys : List (ℕ × A)) (n : ℕ) (v : A) → lookup (nat_eq n) es ≡ Some v → position_or_len (nat_eq n) (keys_of (es ++ ys)) ≡ position_or_len (nat_eq n) (keys_of es)
  place_kept [] ys n v found = absurd (cc)
  place_kept (e ∷ es) ys n v found = step (eqb n e.0) (λ more. place_kept es ys n v more) found
    where
      step : (b : Bool) → (lookup (nat_eq n) es ≡ Some v → position_or_len (nat_eq n) (keys_of (es ++ ys)) ≡ position_or_len (nat_eq n) (keys_of es)) → cond b (Some e.1) (lookup (nat_eq n) es) ≡ Some v
          → cond (not b) (1 + position_or_len (nat_eq n) (keys_of (es ++ ys))) 0 ≡ cond (not b) (1 + position_or_len (nat_eq n) (keys_of es)) 0
      step true more found = refl
      step false more found = ap (λ (k : ℕ). 1 + k) (more found)

  -- behind what is given so far it keeps its place too
  pub place_stays : (given : Option (ℕ × A)) (es : List (ℕ × A)) (n : ℕ) (v : A) → lookup (nat_eq n) es ≡ Some v → position_or_len (nat_eq n) (keys_of (with_given given es)) ≡ position_or_len (nat_eq n) (keys_of es)
  place_stays None es n v found = refl
  place_stays (Some given) es n v found = stays (lookup (nat_eq given.0) es)
    where
      stays : (o : Option A) → position_or_len (nat_eq n) (keys_of (added o es given.0 given.1)) ≡ position_or_len (nat_eq n) (keys_of es)
      stays None = place_kept es ((given.0, given.1) ∷ []) n v found
      stays (Some w) = refl

  -- a new number comes last
  pub place_new : (es : List (ℕ × A)) (n : ℕ) (w : A) → lookup (nat_eq n) es ≡ None → position_or_len (nat_eq n) (keys_of (es ++ (n, w) ∷ [])) ≡ length es
  place_new [] n w none = ap (λ (b : Bool). cond (not b) 1 0) (eq-eqb n n refl)
  place_new (e ∷ es) n w none = step (eqb n e.0) (λ more. place_new es n w more) none
    where
      step : (b : Bool) → (lookup (nat_eq n) es ≡ None → position_or_len (nat_eq n) (keys_of (es ++ (n, w) ∷ [])) ≡ length es) → cond b (Some e.1) (lookup (nat_eq n) es) ≡ None
          → cond (not b) (1 + position_or_len (nat_eq n) (keys_of (es ++ (n, w) ∷ []))) 0 ≡ length (e ∷ es)
      step true more none = absurd (cc)
      step false more none = let behind = more none in omega arith
