-- The end of a loop by a rule that never comes back to a code: the codes of a run's states differ, so by the pigeonhole
-- principle fewer than `bound` steps are taken. The measure is `steps_left next bound s`.
use Rattle.std.proofs.Common.{◌≡◌, ℕ, zero, suc, ◌<◌, ◌≤◌, ◌⊎◌, inl, inr, ⊎_elim, Option, Some, None, refl, sym, arith}
use Rattle.std.proofs.lemmas.Bool.{cases_lt, cases_order}
use Rattle.std_collections.proofs.IndexTableLemmas.Probe.{pigeonhole}
use Rattle.exact_algebra.specs.Runs.{Leads, one_step, more_steps}
use Rattle.exact_algebra.proofs.StepsLeft.{state_after, none_after, moved, stayed, steps_left-le, steps_left_fall, run_leads, settled, reaches}
pub use Rattle.exact_algebra.proofs.StepsLeft.{steps_left}

-- What each step keeps, and what each step lowers, the states that are led to keep and lower.
pub leads_kept : {S : Type 0} (next : S → Option S) (Kept : S → Type 0) → ((s t : S) → Kept s → next s ≡ Some t → Kept t) → (s t : S) → Leads next s t → Kept s → Kept t
leads_kept next Kept kept s t (one_step e) h = kept s t h e
leads_kept next Kept kept s u (more_steps {t = t} e rest) h = leads_kept next Kept kept t u rest (kept s t h e)

pub leads_lower : {S : Type 0} (next : S → Option S) (size : S → ℕ) → ((s t : S) → next s ≡ Some t → size t < size s) → (s t : S) → Leads next s t → size t < size s
leads_lower next size lower s t (one_step e) = lower s t e
leads_lower next size lower s u (more_steps {t = t} e rest) = omega (arith, lower s t e, leads_lower next size lower t u rest)

-- The rule keeps what is `Kept`; a kept state has a code below `bound`, and leads to no state of its own code.
module _ {S : Type 0} (next : S → Option S) (Kept : S → Type 0) (code : S → ℕ) (bound : ℕ)
    (kept : (s t : S) → Kept s → next s ≡ Some t → Kept t)
    (coded : (s : S) → Kept s → code s < bound)
    (no_return : (s t : S) → Kept s → Leads next s t → code s ≡ code t → ⊥) where
  kept_after : (k : ℕ) (s : S) → Kept s → Kept (state_after next k s)
  kept_after zero s h = rw (none_after next s) h
  kept_after (suc k) s h = by (next s) refl (kept_after k)
    where
      by : (o : Option S) → next s ≡ o → ((t : S) → Kept t → Kept (state_after next k t)) → Kept (state_after next (suc k) s)
      by None e rest = rw (stayed next k s e) h
      by (Some t) e rest = rw (moved next k s t e) (rest t (kept s t h e))

  -- Fewer than `bound` steps are taken from a kept state.
  pub steps_left_bounded : (s : S) → Kept s → steps_left next bound s < bound
  steps_left_bounded s h = ⊎_elim (λ l. l) (λ l. absurd (all_taken l)) (cases_lt (steps_left next bound s) bound)
    where
      coming_back : (i j : ℕ) → i < j → j ≤ bound → code (state_after next i s) ≡ code (state_after next j s) → bound ≤ steps_left next bound s → ⊥
      coming_back i j low high same l =
          let whole : steps_left next bound s ≡ bound = omega (arith, steps_left-le next bound s) in
          no_return (state_after next i s) (state_after next j s) (kept_after i s h) (run_leads next bound s whole i j low high) same

      all_taken : bound ≤ steps_left next bound s → ⊥
      all_taken l =
          let codes = λ (k : ℕ). code (state_after next k s) in
          let apart : (i j : ℕ) → i < suc bound → j < suc bound → codes i ≡ codes j → i ≡ j = λ i j p q e.
          elim (cases_order i j) [
            | inl same ↦ same
            | inr (inl low) ↦ absurd (coming_back i j low (omega arith) e l)
            | inr (inr low) ↦ absurd (coming_back j i low (omega arith) (sym e) l)
          ] in
          omega (arith, pigeonhole (suc bound) bound codes (λ k p. coded (state_after next k s) (kept_after k s h)) apart)

  -- The measure of a loop that takes the rule's step from s to t.
  pub steps_left_smaller : (s t : S) → Kept s → next s ≡ Some t → steps_left next bound t < steps_left next bound s
  steps_left_smaller s t h e = steps_left_fall next bound s t (steps_left_bounded s h) e

  -- The state at which the rule stops.
  pub record End (s : S) : Type 0 where
    pub at : S
    pub held : Kept at
    pub stops : next at ≡ None
    pub reached : (at ≡ s) ⊎ Leads next s at

  pub end_of : (s : S) → Kept s → End s
  end_of s h = record {
    at = state_after next bound s;
    held = kept_after bound s h;
    stops = settled next bound s (steps_left_bounded s h);
    reached = reaches next bound s;
  }
