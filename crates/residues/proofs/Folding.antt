-- A number folded twice at a power of two that is `short` above the modulus. Each fold takes a multiple of the modulus away.
use Rattle.std.proofs.Common.{◌≡◌, ℕ, ◌+◌, ◌-◌, ◌*◌, ◌/◌, ◌%◌, ◌<◌, ◌≤◌, sym, ◌∙◌, ap, arith}
use Rattle.std.proofs.lemmas.Nat.{mod-mul-add, div-add-mod', mul-le, div_below}

-- what a fold leaves
abbrev pub fold : ℕ → ℕ → ℕ → ℕ
fold value word short = value / word * short + value % word

fold_is : (value word short modulus : ℕ) → modulus + short ≡ word
    → value ≡ value / word * modulus + fold value word short
fold_is value word short modulus e =
    let given : value / word * word ≡ value / word * (modulus + short) = ap (λ w. value / word * w) (sym e) in
    omega (arith, div-add-mod' value word, given)

pub is_remainder : (n k modulus rest : ℕ) → n ≡ k * modulus + rest → rest < modulus → rest ≡ n % modulus
is_remainder n k modulus rest e b = sym (ap (λ x. x % modulus) e ∙ mod-mul-add k modulus rest b)

-- a number folded twice, with the low part of the second fold first
abbrev pub twice : ℕ → ℕ → ℕ → ℕ
twice value word short = fold value word short % word + fold value word short / word * short

twice_is : (value word short modulus : ℕ) → modulus + short ≡ word
    → value ≡ (value / word + fold value word short / word) * modulus + twice value word short
twice_is value word short modulus e =
    omega (arith, fold_is value word short modulus e, fold_is (fold value word short) word short modulus e)

pub remainder_low : (value word short : ℕ) → short ≤ word → twice value word short < word - short
    → twice value word short ≡ value % (word - short)
remainder_low value word short s b =
    let e : word - short + short ≡ word = omega arith in
    is_remainder _ _ _ _ (twice_is value word short (word - short) e) b

pub remainder_high : (value word short : ℕ) → short ≤ word → word - short ≤ twice value word short
    → twice value word short < (word - short) + (word - short)
    → twice value word short - (word - short) ≡ value % (word - short)
remainder_high value word short s high b =
    let e : word - short + short ≡ word = omega arith in
    let m = word - short in
    let k = value / word + fold value word short / word in
    let given : value ≡ k * m + twice value word short = twice_is value word short m e in
    let more : value ≡ (k + 1) * m + (twice value word short - m) = omega arith in
    is_remainder value (k + 1) m (twice value word short - m) more (omega arith)

pub twice_below : (value word short : ℕ) → short ≤ 31 → 2000 ≤ word → value < word * word
    → twice value word short < (word - short) + (word - short)
twice_below value word short s w v =
    let high : value / word < word = div_below value word word (omega arith) v in
    let above : value / word * short ≤ value / word * 31 = mul-le (value / word) short (value / word) 31 (omega arith) s in
    let low : fold value word short < 32 * word = omega arith in
    let second : fold value word short / word < 32 = div_below (fold value word short) word 32 (omega arith) low in
    let small : fold value word short / word * short ≤ 31 * 31 = mul-le (fold value word short / word) short 31 31 (omega arith) s in
    omega arith
