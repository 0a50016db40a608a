-- Numbers put at places that stand behind one another: each place gets its own number, by going from the last place back. And one number
-- for each of finitely many, chosen among those that are good.
use Rattle.std.proofs.Common.{◌≡◌, ◌⊎◌, inl, inr, ℕ, zero, suc, ◌+◌, ◌*◌, ◌-◌, ◌<◌, ◌≤◌, ℤ, pos, ◌+ℤ◌, ◌≤ℤ◌, unsigned_abs}
use Rattle.std.proofs.Common.{refl, ap, subst, ◌∙◌, arith}
use Rattle.std.proofs.lemmas.Bool.{cases_lt}
use Rattle.std.proofs.lemmas.Int.{ints}
use Rattle.exact_algebra.proofs.FiniteChoice.{each_more}
use Rattle.incentive_rows.proofs.Sums.{HasOne, sum_one, sum_room}
use Rattle.incentive_rows.specs.Sum.{IsSum}
use Rattle.plan_polytope.proofs.OneIncentives.{rest_of}

-- ---- good ones chosen

abbrev either : {A P Q : Type 0} → P ⊎ Q → (P → A) → A → A
either (inl x) f other = f x
either (inr y) f other = other

pub chosen : {A : Type 0} (other : A) (Good : ℕ → A → Type 0) (n : ℕ) → ((i : ℕ) → i < n → (a : A) × Good i a)
    → (all : ℕ → A) × ((i : ℕ) → i < n → Good i (all i))
chosen {A} other Good n each = (λ i. either (cases_lt i n) (λ low. (each i low).0) other, λ i low. by i low (cases_lt i n))
  where
    by : (i : ℕ) → i < n → (t : (i < n) ⊎ (n ≤ i)) → Good i (either t (λ low. (each i low).0) other)
    by i low (inl h) = (each i h).1
    by i low (inr h) = absurd (omega arith)

-- ---- one family of numbers behind another

pub record IsBehind (n : ℕ) (f g all : ℕ → ℤ) : Type 0 where
  pub front : (k : ℕ) → k < n → all k ≡ f k
  pub back : (k : ℕ) → all (n + k) ≡ g k

pub behind : (n : ℕ) (f g : ℕ → ℤ) → (all : ℕ → ℤ) × IsBehind n f g all
behind n f g = (
  λ k. either (cases_lt k n) (λ low. f k) (g (k - n)),
  record {
    front = λ k low. first k low (cases_lt k n);
    back = λ k. second k (cases_lt (n + k) n);
  },
)
  where
    first : (k : ℕ) → k < n → (t : (k < n) ⊎ (n ≤ k)) → either t (λ low. f k) (g (k - n)) ≡ f k
    first k low (inl h) = refl
    first k low (inr h) = absurd (omega arith)

    second : (k : ℕ) → (t : (n + k < n) ⊎ (n ≤ n + k)) → either t (λ low. f (n + k)) (g (n + k - n)) ≡ g k
    second k (inl h) = absurd (omega arith)
    second k (inr h) = (let same : n + k - n ≡ k = omega arith in ap g same)

-- ---- blocks behind one another, each as long as its term of a sum

pub record AreSpread (term : ℕ → ℕ → Type 0) (n : ℕ) (f : ℕ → ℕ → ℤ) (all : ℕ → ℤ) : Type 0 where
  pub each : (i before v j : ℕ) → i < n → IsSum term i before → term i v → j < v → all (before + j) ≡ f i j

-- one block more
spread_more : (term : ℕ → ℕ → Type 0) → HasOne term → (n total : ℕ) → (s : IsSum term (suc n) total) → (f : ℕ → ℕ → ℤ)
    → (inner : (all : ℕ → ℤ) × AreSpread term n f all) → (all : ℕ → ℤ) × AreSpread term (suc n) f all
spread_more term one n total s f inner = (
  whole.0,
  record { each = λ i before v j low sum t less. by i before v j sum t less (cases_lt i n) low },
)
  where
    whole : (all : ℕ → ℤ) × IsBehind s.0 inner.0 (f n) all
    whole = behind s.0 inner.0 (f n)

    by : (i before v j : ℕ) → IsSum term i before → term i v → j < v → (i < n) ⊎ (n ≤ i) → i < suc n → whole.0 (before + j) ≡ f i j
    by i before v j sum t less (inl below) low =
        let room = sum_room term n s.0 i s.2 below in
        let same = sum_one term one i room.0 before room.2 sum in
        let long = one.same i room.1 v room.3 t in
        whole.1.front (before + j) (omega (arith, room.4, same, long, less)) ∙ inner.1.each i before v j below sum t less
    by i before v j sum t less (inr above) low =
        let last : i ≡ n = omega arith in
        let there : IsSum term n before = subst (λ (m : ℕ). IsSum term m before) last sum in
        let same : before ≡ s.0 = sum_one term one n before s.0 there s.2 in
        rw (same, last) (whole.1.back j)

pub spread : (term : ℕ → ℕ → Type 0) → HasOne term → (n total : ℕ) → IsSum term n total → (f : ℕ → ℕ → ℤ)
    → (all : ℕ → ℤ) × AreSpread term n f all
spread term one zero total s f = (λ k. pos 0, record { each = λ i before v j low sum t less. absurd (omega arith) })
spread term one (suc n) total s f = spread_more term one n total s f (spread term one n s.0 s.2 f)

-- blocks of one length
pub record AreBlocks (n size : ℕ) (f : ℕ → ℕ → ℤ) (all : ℕ → ℤ) : Type 0 where
  pub each : (i j : ℕ) → i < n → j < size → all (i * size + j) ≡ f i j

blocks_more : (n size : ℕ) (f : ℕ → ℕ → ℤ) → (inner : (all : ℕ → ℤ) × AreBlocks n size f all)
    → (all : ℕ → ℤ) × AreBlocks (suc n) size f all
blocks_more n size f inner = (whole.0, record { each = λ i j low less. by i j less (cases_lt i n) low })
  where
    whole : (all : ℕ → ℤ) × IsBehind (n * size) inner.0 (f n) all
    whole = behind (n * size) inner.0 (f n)

    by : (i j : ℕ) → j < size → (i < n) ⊎ (n ≤ i) → i < suc n → whole.0 (i * size + j) ≡ f i j
    by i j less (inl below) low =
        let rest = rest_of (i + 1) n (omega arith) in
        let inside : i * size + j < n * size = rw rest.1 (omega (arith, less)) in
        whole.1.front (i * size + j) inside ∙ inner.1.each i j below less
    by i j less (inr above) low =
        let last : i ≡ n = omega arith in
        rw last (whole.1.back j)

pub blocks : (n size : ℕ) (f : ℕ → ℕ → ℤ) → (all : ℕ → ℤ) × AreBlocks n size f all
blocks zero size f = (λ k. pos 0, record { each = λ i j low less. absurd (omega arith) })
blocks (suc n) size f = blocks_more n size f (blocks n size f)

-- ---- where a number below a sum stands

pub record IsIn (term : ℕ → ℕ → Type 0) (n r : ℕ) : Type 0 where
  pub at : ℕ
  pub before : ℕ
  pub size : ℕ
  pub offset : ℕ
  pub low : at < n
  pub sum : IsSum term at before
  pub here : term at size
  pub inside : offset < size
  pub stands : r ≡ before + offset

pub in_sum : (term : ℕ → ℕ → Type 0) (n total r : ℕ) → IsSum term n total → r < total → IsIn term n r
in_sum term zero total r s low = absurd (omega (arith, s))
in_sum term (suc n) total r s low = elim (cases_lt r s.0) [
  | inl below ↦
      let inner = in_sum term n s.0 r s.2 below in
      record {
        at = inner.at;
        before = inner.before;
        size = inner.size;
        offset = inner.offset;
        low = omega (arith, inner.low);
        sum = inner.sum;
        here = inner.here;
        inside = inner.inside;
        stands = inner.stands;
      }
  | inr behind_them ↦
      let rest = rest_of s.0 r behind_them in
      record {
        at = n;
        before = s.0;
        size = s.1;
        offset = rest.0;
        low = omega arith;
        sum = s.2;
        here = s.3;
        inside = omega (arith, rest.1, s.4);
        stands = rest.1;
      }
]

pub in_block : (n size r : ℕ) → r < n * size → (k : ℕ) × (j : ℕ) × (k < n) × (j < size) × (r ≡ k * size + j)
in_block zero size r h = absurd (omega arith)
in_block (suc n) size r h = elim (cases_lt r (n * size)) [
  | inl low ↦ (let inner = in_block n size r low in (inner.0, inner.1, omega (arith, inner.2), inner.3, inner.4))
  | inr high ↦ (let rest = rest_of (n * size) r high in (n, rest.0, omega arith, omega (arith, rest.1), rest.1))
]

-- ---- one number that lifts all of finitely many to 0 or more

pub record IsLift (n : ℕ) (f : ℕ → ℤ) (lift : ℤ) : Type 0 where
  pub not_negative : pos 0 ≤ℤ lift
  pub each : (k : ℕ) → k < n → pos 0 ≤ℤ (f k +ℤ lift)

pub lift_of : (n : ℕ) (f : ℕ → ℤ) → (lift : ℤ) × IsLift n f lift
lift_of zero f = (pos 0, record { not_negative = omega (arith, ints); each = λ k low. absurd (omega arith) })
lift_of (suc n) f =
    let inner = lift_of n f in
    let least = inner.1.not_negative in (
      inner.0 +ℤ pos (unsigned_abs (f n)),
      record {
        not_negative = omega (arith, ints, least);
        each = each_more (λ k. pos 0 ≤ℤ (f k +ℤ (inner.0 +ℤ pos (unsigned_abs (f n))))) n
            (λ k low. (let under = inner.1.each k low in omega (arith, ints, under))) (omega (arith, ints, least));
      },
    )
