-- Texts of items, one behind the other, tell the items: each begins with a byte with which what is behind them doesn't begin.
use Rattle.std.proofs.Common.{◌≡◌, ℕ, ◌+◌, ◌<◌, ◌≤◌, ◌^◌, ℤ, List, [], ◌∷◌, ◌++◌, All, Option, Some, None, drop, get_or, refl, sym, ap}
use Rattle.std.proofs.Common.{◌∙◌, append_assoc, subst, arith}
use Rattle.std.proofs.lemmas.List.Elements.{All-cons, All-head, All-nil, All-tail}
use Rattle.std.specs.Fmt.{decimal}
use Rattle.corr_num.specs.Narrow.{Narrow}
use Rattle.report_form.specs.Ranges.{AscendFrom, IsAction}
use Rattle.report_text.specs.Joined.{each_text, texts_from}
use Rattle.report_text.specs.PartText.{action_text, behind_space, count_text, int_text}
use Rattle.text_laws.proofs.Integers.{decimal_first, integers_split, naturals_split}

module _ {X : Type 0} (text : ℕ → X → List ℕ) (P : X → Type 0) (T : List ℕ → Type 0) (first : ℕ)
    (starts : (k : ℕ) (x : X) (a : List ℕ) → get_or (text k x ++ a) 0 0 ≡ first)
    (tails : (k : ℕ) (x : X) (a : List ℕ) → T (text k x ++ a))
    (one : (k : ℕ) (x y : X) (a b : List ℕ) → P x → P y → T a → T b → text k x ++ a ≡ text k y ++ b → (x ≡ y) × (a ≡ b)) where
  tail_of : (k : ℕ) (xs : List X) (a : List ℕ) → T a → T (texts_from text k xs ++ a)
  tail_of k [] a t = t
  tail_of k (x ∷ xs) a t =
      subst T (sym (append_assoc (text k x) (texts_from text (k + 1) xs) a)) (tails k x (texts_from text (k + 1) xs ++ a))

  pub items_told : (k : ℕ) (xs ys : List X) (a b : List ℕ) → All P xs → All P ys → T a → T b → (get_or a 0 0 ≡ first → ⊥)
      → (get_or b 0 0 ≡ first → ⊥) → texts_from text k xs ++ a ≡ texts_from text k ys ++ b → (xs ≡ ys) × (a ≡ b)
  items_told k [] [] a b x y t u other others e = (refl, e)
  items_told k [] (item ∷ ys) a b x y t u other others e =
      let byte = ap (λ (bs : List ℕ). get_or bs 0 0) (e ∙ append_assoc (text k item) (texts_from text (k + 1) ys) b) in
      absurd (other (byte ∙ starts k item (texts_from text (k + 1) ys ++ b)))
  items_told k (item ∷ xs) [] a b x y t u other others e =
      let byte = ap (λ (bs : List ℕ). get_or bs 0 0) (sym e ∙ append_assoc (text k item) (texts_from text (k + 1) xs) a) in
      absurd (others (byte ∙ starts k item (texts_from text (k + 1) xs ++ a)))
  items_told k (item ∷ xs) (more ∷ ys) a b x y t u other others e =
      let grouped = sym (append_assoc (text k item) (texts_from text (k + 1) xs) a) ∙ e
      ∙ append_assoc (text k more) (texts_from text (k + 1) ys) b in
      let heads = one k item more (texts_from text (k + 1) xs ++ a) (texts_from text (k + 1) ys ++ b) (All-head P item xs x)
      (All-head P more ys y) (tail_of (k + 1) xs a t) (tail_of (k + 1) ys b u) grouped in
      let rest = items_told (k + 1) xs ys a b (All-tail P item xs x) (All-tail P more ys y) t u other others heads.1 in
      (cc (heads.0, rest.0), rest.1)

abbrev Low : List ℕ → Type 0
Low a = get_or a 0 0 ≤ 32

-- a line feed stands first
abbrev pub Feeds : List ℕ → Type 0
Feeds a = get_or a 0 0 ≡ 10

no_space : (a : List ℕ) → Feeds a → get_or a 0 0 ≡ 32 → ⊥
no_space a feeds e = absurd (omega (arith, feeds, e))

one_int : (k : ℕ) (x y : ℤ) (a b : List ℕ) → Narrow x → Narrow y → Low a → Low b → int_text x ++ a ≡ int_text y ++ b → (x ≡ y) × (a ≡ b)
unfolding behind_space
one_int k x y a b small little low under e =
    integers_split x y a b (omega (arith, small)) (omega (arith, little)) (omega (arith, low)) (omega (arith, under)) (ap (drop 1) e)

int_starts : (k : ℕ) (x : ℤ) (a : List ℕ) → get_or (int_text x ++ a) 0 0 ≡ 32
unfolding behind_space
int_starts k x a = refl

int_tails : (k : ℕ) (x : ℤ) (a : List ℕ) → Low (int_text x ++ a)
unfolding behind_space
int_tails k x a = omega arith

pub ints_told : (xs ys : List ℤ) (a b : List ℕ) → All Narrow xs → All Narrow ys → Feeds a → Feeds b
    → each_text int_text xs ++ a ≡ each_text int_text ys ++ b → (xs ≡ ys) × (a ≡ b)
ints_told xs ys a b x y feeds fed e =
    items_told (λ k. int_text) Narrow Low 32 int_starts int_tails one_int 0 xs ys a b x y (omega (arith, feeds)) (omega (arith, fed))
    (no_space a feeds) (no_space b fed) e

abbrev IsColumn : ℕ → Type 0
IsColumn n = n < 2 ^ 32

one_count : (k : ℕ) (x y : ℕ) (a b : List ℕ) → IsColumn x → IsColumn y → Low a → Low b → count_text x ++ a ≡ count_text y ++ b
    → (x ≡ y) × (a ≡ b)
unfolding behind_space
one_count k x y a b small little low under e =
    naturals_split x y a b (omega (arith, small)) (omega (arith, little)) (omega (arith, low)) (omega (arith, under)) (ap (drop 1) e)

count_starts : (k : ℕ) (x : ℕ) (a : List ℕ) → get_or (count_text x ++ a) 0 0 ≡ 32
unfolding behind_space
count_starts k x a = refl

count_tails : (k : ℕ) (x : ℕ) (a : List ℕ) → Low (count_text x ++ a)
unfolding behind_space
count_tails k x a = omega arith

columns_within : (low : ℕ) (xs : List ℕ) → AscendFrom low xs → All IsColumn xs
columns_within low [] rise = All-nil IsColumn
columns_within low (x ∷ xs) rise = All-cons IsColumn x xs rise.1 (columns_within (x + 1) xs rise.2)

pub columns_told : (xs ys : List ℕ) (a b : List ℕ) → AscendFrom 0 xs → AscendFrom 0 ys → Feeds a → Feeds b
    → each_text count_text xs ++ a ≡ each_text count_text ys ++ b → (xs ≡ ys) × (a ≡ b)
columns_told xs ys a b x y feeds fed e =
    items_told (λ k. count_text) IsColumn Low 32 count_starts count_tails one_count 0 xs ys a b (columns_within 0 xs x)
    (columns_within 0 ys y) (omega (arith, feeds)) (omega (arith, fed)) (no_space a feeds) (no_space b fed) e

one_action : (k : ℕ) (x y : Option ℕ) (a b : List ℕ) → IsAction x → IsAction y → Low a → Low b
    → action_text x ++ a ≡ action_text y ++ b → (x ≡ y) × (a ≡ b)
unfolding action_text behind_space
one_action k None None a b small little low under e = (refl, ap (drop 2) e)
one_action k None (Some n) a b small little low under e =
    let dash : 45 ≡ get_or (decimal (n + 1) ++ b) 0 0 = ap (λ (bs : List ℕ). get_or (drop 1 bs) 0 0) e in
    absurd (omega (arith, dash, decimal_first (n + 1) b (omega (arith, little))))
one_action k (Some m) None a b small little low under e =
    let dash : get_or (decimal (m + 1) ++ a) 0 0 ≡ 45 = ap (λ (bs : List ℕ). get_or (drop 1 bs) 0 0) e in
    absurd (omega (arith, dash, decimal_first (m + 1) a (omega (arith, small))))
one_action k (Some m) (Some n) a b small little low under e =
    let parts = naturals_split (m + 1) (n + 1) a b (omega (arith, small)) (omega (arith, little)) (omega (arith, low))
    (omega (arith, under)) (ap (drop 1) e) in
    let same : m ≡ n = omega (arith, parts.0) in
    (ap Some same, parts.1)

action_starts : (k : ℕ) (x : Option ℕ) (a : List ℕ) → get_or (action_text x ++ a) 0 0 ≡ 32
unfolding action_text behind_space
action_starts k None a = refl
action_starts k (Some n) a = refl

action_tails : (k : ℕ) (x : Option ℕ) (a : List ℕ) → Low (action_text x ++ a)
action_tails k x a = omega (arith, action_starts k x a)

pub actions_told : (xs ys : List (Option ℕ)) (a b : List ℕ) → All IsAction xs → All IsAction ys → Feeds a → Feeds b
    → each_text action_text xs ++ a ≡ each_text action_text ys ++ b → (xs ≡ ys) × (a ≡ b)
actions_told xs ys a b x y feeds fed e =
    items_told (λ k. action_text) IsAction Low 32 action_starts action_tails one_action 0 xs ys a b x y (omega (arith, feeds))
    (omega (arith, fed)) (no_space a feeds) (no_space b fed) e
