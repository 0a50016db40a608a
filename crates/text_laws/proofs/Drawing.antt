-- Random numbers: each law goes back to the laws of remainders.
use Rattle.std.proofs.Common.{◌≡◌, ℕ, zero, suc, ◌+◌, ◌*◌, ◌/◌, ◌%◌, ◌^◌, ◌<◌, refl, sym, ap, ◌∙◌, arith}
use Rattle.std.proofs.Math.Nat.{mod-lt, mod-add-mod, mod-eq_of_lt, add-mul-mod_self_right}
use Rattle.std.proofs.lemmas.Nat.{mul-mod_first}
use Rattle.game_gen.specs.Random.{draw, next_state, state_after}

pub is_digit : (seed number : ℕ) → draw seed number < 10
unfolding draw
is_digit seed number = mod-lt (state_after (number + 1) seed / 2 ^ 33) (omega arith)

pub state_within : (state : ℕ) → next_state state < 2 ^ 64
unfolding next_state
state_within state = mod-lt (state * 6364136223846793005 + 1442695040888963407) (omega arith)

pub increment : next_state 0 ≡ 1442695040888963407
unfolding next_state
increment = refl

pub first_draw : draw 0 0 ≡ 7
unfolding draw state_after next_state
first_draw = refl

pub states_join : (more drawn seed : ℕ) → state_after (more + drawn) seed ≡ state_after more (state_after drawn seed)
unfolding state_after
states_join zero drawn seed =
    let none : 0 + drawn ≡ drawn = omega arith in
    rw none refl
states_join (suc more) drawn seed =
    let next : suc more + drawn ≡ suc (more + drawn) = omega arith in
    rw next (ap next_state (states_join more drawn seed))

pub draws_join : (more drawn seed : ℕ) → draw seed (more + drawn) ≡ draw (state_after drawn seed) more
unfolding draw
draws_join more drawn seed =
    let index : more + drawn + 1 ≡ (more + 1) + drawn = omega arith in
    ap (λ (n : ℕ). state_after n seed / 2 ^ 33 % 10) index ∙ ap (λ (s : ℕ). s / 2 ^ 33 % 10) (states_join (more + 1) drawn seed)

same_behind : (seed : ℕ) → next_state (seed + 2 ^ 64) ≡ next_state seed
unfolding next_state
same_behind seed =
    let apart : (seed + 2 ^ 64) * 6364136223846793005 + 1442695040888963407
    ≡ (seed * 6364136223846793005 + 1442695040888963407) + 6364136223846793005 * 2 ^ 64 = omega arith in
    ap (λ (n : ℕ). n % 2 ^ 64) apart
    ∙ add-mul-mod_self_right (seed * 6364136223846793005 + 1442695040888963407) 6364136223846793005 (2 ^ 64)

same_states : (drawn seed : ℕ) → state_after (suc drawn) (seed + 2 ^ 64) ≡ state_after (suc drawn) seed
unfolding state_after
same_states zero seed = same_behind seed
same_states (suc drawn) seed = ap next_state (same_states drawn seed)

pub same_draws : (seed number : ℕ) → draw (seed + 2 ^ 64) number ≡ draw seed number
unfolding draw
same_draws seed number =
    let next : number + 1 ≡ suc number = omega arith in
    ap (λ (s : ℕ). s / 2 ^ 33 % 10) (rw next (same_states number seed))

-- the state before a state
abbrev state_before : ℕ → ℕ
state_before next = (next + 17004049032820588209) % 2 ^ 64 * 13877824140714322085 % 2 ^ 64

back : (state : ℕ) → state < 2 ^ 64 → state_before (next_state state) ≡ state
unfolding next_state
back state within =
    let shifted = state * 6364136223846793005 + 1442695040888963407 + 17004049032820588209 in
    let whole : shifted * 13877824140714322085 ≡ state + (state * 4787856489426250814 + 13877824140714322085) * 2 ^ 64 = omega arith in
    ap (λ (n : ℕ). n * 13877824140714322085 % 2 ^ 64)
    (mod-add-mod (state * 6364136223846793005 + 1442695040888963407) (2 ^ 64) 17004049032820588209)
    ∙ mul-mod_first shifted 13877824140714322085 (2 ^ 64)
    ∙ ap (λ (n : ℕ). n % 2 ^ 64) whole
    ∙ add-mul-mod_self_right state (state * 4787856489426250814 + 13877824140714322085) (2 ^ 64)
    ∙ mod-eq_of_lt within

pub one_before : (a b : ℕ) → a < 2 ^ 64 → b < 2 ^ 64 → next_state a ≡ next_state b → a ≡ b
one_before a b small little e = sym (back a small) ∙ ap state_before e ∙ back b little

after_within : (drawn seed : ℕ) → seed < 2 ^ 64 → state_after drawn seed < 2 ^ 64
unfolding state_after
after_within zero seed within = within
after_within (suc drawn) seed within = state_within (state_after drawn seed)

pub one_seed : (drawn a b : ℕ) → a < 2 ^ 64 → b < 2 ^ 64 → state_after drawn a ≡ state_after drawn b → a ≡ b
unfolding state_after
one_seed zero a b small little e = e
one_seed (suc drawn) a b small little e =
    one_seed drawn a b small little
    (one_before (state_after drawn a) (state_after drawn b) (after_within drawn a small) (after_within drawn b little) e)
