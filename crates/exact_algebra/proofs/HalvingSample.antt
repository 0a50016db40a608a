-- The rule of a sample: a number is halved until it is 0. It never comes back, since each step lowers the number.
use Rattle.std.proofs.Common.{◌≡◌, ◌≢◌, ℕ, ◌/◌, ◌<◌, Option, None, Some, cond, nat_eq, Bool, true, false, refl, ne_eqb, arith}
use Rattle.std.proofs.lemmas.Bool.{cond-false, eqb-false}
use Rattle.exact_algebra.proofs.NoReturn.{leads_lower, steps_left, steps_left_smaller}
use Rattle.exact_algebra.specs.Runs.{Leads}

abbrev pub halved : ℕ → Option ℕ
halved n = cond (nat_eq n 0) None (Some (n / 2))

lower : (s t : ℕ) → halved s ≡ Some t → t < s
lower s t e = by (nat_eq s 0) refl e
  where
    by : (b : Bool) → nat_eq s 0 ≡ b → cond b None (Some (s / 2)) ≡ Some t → t < s
    by true z e = absurd (cc)
    by false z e =
        let same : s / 2 ≡ t = cc in
        let above : s ≢ 0 = eqb-false s 0 z in
        omega arith

pub no_return : (s t : ℕ) → s < 256 → Leads halved s t → s ≡ t → ⊥
no_return s t h leads same = let falls = leads_lower halved (λ n. n) lower s t leads in omega arith

pub halving_left : ℕ → ℕ
halving_left n = steps_left halved 256 n

pub halving_smaller : (n : ℕ) → 0 < n → n < 256 → halving_left (n / 2) < halving_left n
unfolding halving_left
halving_smaller n above below = steps_left_smaller halved (λ s. s < 256) (λ s. s) 256 (λ s t h e. omega (arith, lower s t e)) (λ s h. h) no_return n (n / 2) below (cond-false (nat_eq n 0) None (Some (n / 2)) (ne_eqb n 0 (λ z. omega arith)))
