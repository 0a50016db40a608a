-- Ways to kids: each kid's way is written over with one that leads on from the path, and the others are kept.
use Rattle.std.proofs.Common.{◌≡◌, ℕ, zero, suc, ◌+◌, ◌<◌, ◌⊎◌, inl, inr, pos, ◌*ℤ◌, List, [], ◌∷◌, Some, length, get_or, slice_get, slice_set, refl, ap, sym, subst, ◌∙◌, arith}
use Rattle.std.proofs.lemmas.Bool.{cases_lt}
use Rattle.std.proofs.lemmas.Option.{same_Some, slice_get-get_or}
use Rattle.std.proofs.lemmas.Int.{ints}
use Rattle.std.proofs.lemmas.Nat.Gcd.{dvd-zero, dvd_refl}
use Rattle.exact_algebra.proofs.RingLaws.{*ℤ-one}
use Rattle.corr_num.specs.Fraction.{Fraction, IsLowest, IsReduced, fraction_product}
use Rattle.corr_num.proofs.LowestTerms.{lowest_unique}
use Rattle.game_scale.specs.declared.ways.Way.{Way}
use Rattle.game_scale.specs.Paths.{PathView, certain, nothing}
use Rattle.game_scale.specs.Ways.{IsLed, ArePassed}

-- what stands in a list once one element is written over
get_set : {X : Type 0} (xs : List X) (i : ℕ) (v : X) (m : ℕ) (x : X) → slice_get (slice_set xs i v) m ≡ Some x → ((m ≡ i) × (x ≡ v)) ⊎ ((m ≡ i → ⊥) × (slice_get xs m ≡ Some x))
get_set [] i v m x h = absurd (cc)
get_set (y ∷ ys) zero v zero x h = inl (refl, sym (same_Some v x h))
get_set (y ∷ ys) zero v (suc m) x h = inr ((λ e. omega arith), h)
get_set (y ∷ ys) (suc i) v zero x h = inr ((λ e. omega arith), h)
get_set (y ∷ ys) (suc i) v (suc m) x h =
    elim (get_set ys i v m x h) [
      | inl (same, is) ↦ inl (omega arith, is)
      | inr (apart, there) ↦ inr ((λ e. apart (omega arith)), there)
    ]

pub passed_start : (leads : ℕ → Fraction → Type 0) (kids : List ℕ) (path : PathView) (old : List Way) → ArePassed leads kids 0 path old old
passed_start leads kids path old m way h = inl (record { same = h; apart = λ k low e. absurd (omega arith) })

pub passed_more : (leads : ℕ → Fraction → Type 0) (kids : List ℕ) (n kid : ℕ) (path : PathView) (prob : Fraction) (old new more : List Way) (led : Way)
    → ArePassed leads kids n path old new → more ≡ slice_set new kid led → slice_get kids n ≡ Some kid → leads n prob → IsLed path prob led → ArePassed leads kids (n + 1) path old more
passed_more leads kids n kid path prob old new more led before put at with is m way h =
    elim (get_set new kid led m way (subst (λ (ways : List Way). slice_get ways m ≡ Some way) put h)) [
      | inl (same, same_way) ↦ inr (record {
        k = n;
        prob = prob;
        kid = subst (λ (z : ℕ). slice_get kids n ≡ Some z) (sym same) at;
        with = with;
        led = subst (λ (w : Way). IsLed path prob w) (sym same_way) is;
      })
      | inr (apart, there) ↦ elim (before m way there) [
        | inl kept ↦ inl (record { same = kept.same; apart = apart_more kids n kid m at apart kept.apart })
        | inr passed ↦ inr passed
      ]
    ]
  where
    apart_more : (kids : List ℕ) (n kid m : ℕ) → slice_get kids n ≡ Some kid → (m ≡ kid → ⊥) → ((k : ℕ) → k < n → slice_get kids k ≡ Some m → ⊥) → (k : ℕ) → k < n + 1 → slice_get kids k ≡ Some m → ⊥
    apart_more kids n kid m at apart before k low e =
        elim (cases_lt k n) [
          | inl below ↦ before k below e
          | inr last ↦
              let same : k ≡ n = omega arith in
              apart (same_Some m kid (sym e ∙ subst (λ (j : ℕ). slice_get kids j ≡ Some kid) (sym same) at))
        ]

-- a number times 1 in lowest terms is itself
pub reduced_certain : (p : Fraction) → IsLowest p → IsReduced p (fraction_product p certain)
reduced_certain p lowest =
    let num : p.num *ℤ pos 1 ≡ p.num = *ℤ-one p.num in
    let den : p.den *ℤ pos 1 ≡ p.den = *ℤ-one p.den in
    record {
      same = rw (num, den) refl;
      lowest = lowest;
      num_bound = rw num (omega arith);
      den_bound = rw den (omega arith);
    }

nothing_lowest : IsLowest nothing
nothing_lowest = record { positive = omega (arith, ints); coprime = (dvd-zero 1, dvd_refl 1, λ d p q. q) }

pub certain_lowest : IsLowest certain
certain_lowest = record { positive = omega (arith, ints); coprime = (dvd_refl 1, dvd_refl 1, λ d p q. q) }

pub is_nothing : (p : Fraction) → IsReduced p nothing → p ≡ nothing
is_nothing p h = lowest_unique p nothing h.lowest nothing_lowest h.same

pub is_certain : (p : Fraction) → IsReduced p certain → p ≡ certain
is_certain p h = lowest_unique p certain h.lowest certain_lowest h.same

-- a number that stands at an index
pub number_at : (xs : List ℕ) (k x : ℕ) → k < length xs → x ≡ get_or xs k 0 → slice_get xs k ≡ Some x
number_at xs k x low is = slice_get-get_or xs k 0 low ∙ ap Some (sym is)
