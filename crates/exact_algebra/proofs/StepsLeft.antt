-- How many steps a rule still takes, counted up to a limit: a measure that each step lowers by one, where the limit is not
-- reached. By induction on the limit. Where it is reached, each state of the run leads to the later ones.
use Rattle.std.proofs.Common.{◌≡◌, ℕ, zero, suc, ◌<◌, ◌≤◌, ◌⊎◌, inl, inr, ⊎_elim, Option, Some, None, refl, sym, ap, subst, ◌∙◌, arith}
use Rattle.exact_algebra.specs.Runs.{Leads, one_step, more_steps}

module _ {S : Type 0} (next : S → Option S) where
  abbrev one_more : Option S → (S → ℕ) → ℕ
  one_more None left = 0
  one_more (Some t) left = suc (left t)

  -- How many steps the rule takes from s on until it stops, counted up to n.
  unfoldable pub steps_left : ℕ → S → ℕ
  steps_left zero s = 0
  steps_left (suc n) s = one_more (next s) (steps_left n)

  abbrev stay : S → Option S → (S → S) → S
  stay s None go = s
  stay s (Some t) go = go t

  -- The state k steps after s, or the last one.
  pub state_after : ℕ → S → S
  state_after zero s = s
  state_after (suc k) s = stay s (next s) (state_after k)

  unlimited : (s : S) → steps_left 0 s ≡ 0
  unfolding steps_left
  unlimited s = refl

  stopped : (n : ℕ) (s : S) → next s ≡ None → steps_left (suc n) s ≡ 0
  unfolding steps_left
  stopped n s e = ap (λ o. one_more o (steps_left n)) e

  stepped : (n : ℕ) (s t : S) → next s ≡ Some t → steps_left (suc n) s ≡ suc (steps_left n t)
  unfolding steps_left
  stepped n s t e = ap (λ o. one_more o (steps_left n)) e

  pub none_after : (s : S) → state_after 0 s ≡ s
  unfolding state_after
  none_after s = refl

  pub moved : (k : ℕ) (s t : S) → next s ≡ Some t → state_after (suc k) s ≡ state_after k t
  unfolding state_after
  moved k s t e = ap (λ o. stay s o (state_after k)) e

  pub stayed : (k : ℕ) (s : S) → next s ≡ None → state_after (suc k) s ≡ s
  unfolding state_after
  stayed k s e = ap (λ o. stay s o (state_after k)) e

  pub steps_left-le : (n : ℕ) (s : S) → steps_left n s ≤ n
  steps_left-le zero s = omega (arith, unlimited s)
  steps_left-le (suc n) s = by (next s) refl (steps_left-le n)
    where
      by : (o : Option S) → next s ≡ o → ((t : S) → steps_left n t ≤ n) → steps_left (suc n) s ≤ suc n
      by None e rest = omega (arith, stopped n s e)
      by (Some t) e rest = omega (arith, stepped n s t e, rest t)

  -- Where the count ends below its limit, a higher limit changes nothing.
  steps_left-stable : (n : ℕ) (s : S) → steps_left n s < n → steps_left (suc n) s ≡ steps_left n s
  steps_left-stable zero s h = absurd (omega arith)
  steps_left-stable (suc n) s h = by (next s) refl (steps_left-stable n)
    where
      by : (o : Option S) → next s ≡ o → ((t : S) → steps_left n t < n → steps_left (suc n) t ≡ steps_left n t) → steps_left (suc (suc n)) s ≡ steps_left (suc n) s
      by None e rest = stopped (suc n) s e ∙ sym (stopped n s e)
      by (Some t) e rest =
          let here = stepped n s t e in
          stepped (suc n) s t e ∙ (ap suc (rest t (omega arith)) ∙ sym here)

  -- Where the count ends below its limit, each step lowers it by one.
  pub steps_left_fall : (n : ℕ) (s t : S) → steps_left n s < n → next s ≡ Some t → steps_left n t < steps_left n s
  steps_left_fall zero s t h e = absurd (omega arith)
  steps_left_fall (suc n) s t h e =
      let here = stepped n s t e in
      let same = steps_left-stable n t (omega arith) in
      omega arith

  -- All of n steps are taken, so each state of the run leads to the later ones.
  pub run_leads : (n : ℕ) (s : S) → steps_left n s ≡ n → (i j : ℕ) → i < j → j ≤ n → Leads next (state_after i s) (state_after j s)
  run_leads zero s whole i j low high = absurd (omega arith)
  run_leads (suc n) s whole i j low high = by (next s) refl (run_leads n)
    where
      from : (t : S) → next s ≡ Some t → ((u v : ℕ) → u < v → v ≤ n → Leads next (state_after u t) (state_after v t)) → (u v : ℕ) → u < v → v ≤ suc n → Leads next (state_after u s) (state_after v s)
      from t e rest u zero l h = absurd (omega arith)
      from t e rest zero (suc zero) l h = rw (none_after s, moved 0 s t e, none_after t) (one_step e)
      from t e rest zero (suc (suc v)) l h = rw (none_after s, moved (suc v) s t e) (more_steps e (subst (λ x. Leads next x (state_after (suc v) t)) (none_after t) (rest 0 (suc v) (omega arith) (omega arith))))
      from t e rest (suc u) (suc v) l h = rw (moved u s t e, moved v s t e) (rest u v (omega arith) (omega arith))

      by : (o : Option S) → next s ≡ o → ((t : S) → steps_left n t ≡ n → (u v : ℕ) → u < v → v ≤ n → Leads next (state_after u t) (state_after v t)) → Leads next (state_after i s) (state_after j s)
      by None e rest = absurd (omega (arith, stopped n s e))
      by (Some t) e rest = from t e (rest t (omega (arith, stepped n s t e))) i j low high

  -- Where the count ends below its limit, the rule has stopped by then.
  pub settled : (n : ℕ) (s : S) → steps_left n s < n → next (state_after n s) ≡ None
  settled zero s h = absurd (omega arith)
  settled (suc n) s h = by (next s) refl (settled n)
    where
      by : (o : Option S) → next s ≡ o → ((t : S) → steps_left n t < n → next (state_after n t) ≡ None) → next (state_after (suc n) s) ≡ None
      by None e rest = ap next (stayed n s e) ∙ e
      by (Some t) e rest = let here = stepped n s t e in ap next (moved n s t e) ∙ rest t (omega arith)

  pub reaches : (n : ℕ) (s : S) → (state_after n s ≡ s) ⊎ Leads next s (state_after n s)
  reaches zero s = inl (none_after s)
  reaches (suc n) s = by (next s) refl (reaches n)
    where
      by : (o : Option S) → next s ≡ o → ((t : S) → (state_after n t ≡ t) ⊎ Leads next t (state_after n t)) → (state_after (suc n) s ≡ s) ⊎ Leads next s (state_after (suc n) s)
      by None e rest = inl (stayed n s e)
      by (Some t) e rest =
          ⊎_elim
          (λ same. inr (subst (λ x. Leads next s x) (sym (moved n s t e ∙ same)) (one_step e)))
          (λ leads. inr (subst (λ x. Leads next s x) (sym (moved n s t e)) (more_steps e leads)))
          (rest t)
