-- The first program that doesn't fit, among those of notions one behind the other: by recursion on the notions.
use Rattle.std.proofs.Common.{◌≡◌, ℕ, ◌+◌, ◌<◌, zero, suc, List, [], ◌∷◌, ◌++◌, Some, arith, inl, inr, slice_get, refl, subst, sym, ◌∙◌}
use Rattle.std.proofs.lemmas.Bool.{cases_lt}
use Rattle.cert_check.specs.Fits.{AllFit}
use Rattle.connected_pairs.specs.Connected.{PairsView}
use Rattle.corr_game.specs.declared.notions.Notion.{Notion}
use Rattle.corr_game.specs.Game.{GameView}
use Rattle.report_form.specs.declared.refusals.Refusal.{Refusal}
use Rattle.report_form.specs.declared.reports.NamedBlock.{NamedBlock}
use Rattle.corr_run.specs.FirstRefusal.{IsOfSize, IsOfSizes}
use Rattle.corr_run.specs.Reports.{FitsProgram, FitPrograms, notions_of}

module _ (g : GameView) (p : PairsView) where
  -- two lists whose programs fit
  pub fit_both : (these those : List Notion) → FitPrograms g p these → FitPrograms g p those → FitPrograms g p (these ++ those)
  fit_both [] those fit more = more
  fit_both (notion ∷ these) those fit more = (fit.0, fit_both these those fit.1 more)

  -- the first of a list is the first of the list with others behind it
  pub first_in_front : (these those : List Notion) (refusal : Refusal) → IsOfSizes g p these refusal → IsOfSizes g p (these ++ those) refusal
  first_in_front [] those refusal first = absurd first
  first_in_front (notion ∷ these) those refusal (inl here) = inl here
  first_in_front (notion ∷ these) those refusal (inr later) = inr (later.0, first_in_front these those refusal later.1)

  -- and with others before it that fit
  pub first_behind : (these those : List Notion) (refusal : Refusal) → FitPrograms g p these → IsOfSizes g p those refusal → IsOfSizes g p (these ++ those) refusal
  first_behind [] those refusal fit first = first
  first_behind (notion ∷ these) those refusal fit first = inr (fit.0, first_behind these those refusal fit.1 first)

  -- of one notion alone
  pub only_first : (notion : Notion) (refusal : Refusal) → IsOfSizes g p (notion ∷ []) refusal → IsOfSize g p notion refusal
  only_first notion refusal (inl here) = here
  only_first notion refusal (inr later) = absurd later.1

  -- those of blocks, each by its place
  pub fit_each : (blocks : List NamedBlock) → ((j : ℕ) (named : NamedBlock) → slice_get blocks j ≡ Some named → FitsProgram g p named.notion) → FitPrograms g p (notions_of blocks)
  fit_each [] fit = tt
  fit_each (named ∷ rest) fit = (fit 0 named refl, fit_each rest (λ j other e. fit (suc j) other e))

  pub fit_at : (blocks : List NamedBlock) → FitPrograms g p (notions_of blocks) → AllFit g p blocks
  fit_at [] fit j named e = absurd (cc e)
  fit_at (first ∷ rest) fit zero named e = let same : first ≡ named = cc in rw (← same) fit.0
  fit_at (first ∷ rest) fit (suc j) named e = fit_at rest fit.1 j named e

  -- the first by its place
  pub first_at : (blocks : List NamedBlock) (k : ℕ) (named : NamedBlock) (refusal : Refusal) → slice_get blocks k ≡ Some named
      → ((j : ℕ) (other : NamedBlock) → j < k → slice_get blocks j ≡ Some other → FitsProgram g p other.notion)
      → IsOfSize g p named.notion refusal → IsOfSizes g p (notions_of blocks) refusal
  first_at [] k named refusal e before over = absurd (cc e)
  first_at (first ∷ rest) zero named refusal e before over = let same : first ≡ named = cc in inl (rw same over)
  first_at (first ∷ rest) (suc k) named refusal e before over =
      inr (before 0 first (omega arith) refl, first_at rest k named refusal e (λ j other lt f. before (suc j) other (omega (arith, lt)) f) over)

  -- one block more
  pub fits_next : (blocks : List NamedBlock) (k : ℕ) (here : NamedBlock) → slice_get blocks k ≡ Some here → FitsProgram g p here.notion
      → ((j : ℕ) (named : NamedBlock) → j < k → slice_get blocks j ≡ Some named → FitsProgram g p named.notion)
      → (j : ℕ) (named : NamedBlock) → j < k + 1 → slice_get blocks j ≡ Some named → FitsProgram g p named.notion
  fits_next blocks k here at fits before j named lt e = elim (cases_lt j k) [
    | inl below ↦ before j named below e
    | inr over ↦
        let same : j ≡ k = omega arith in
        let there : slice_get blocks k ≡ Some named = subst (λ (i : ℕ). slice_get blocks i ≡ Some named) same e in
        let both : Some here ≡ Some named = sym at ∙ there in
        let it : here ≡ named = cc in
        subst (λ (n : NamedBlock). FitsProgram g p n.notion) it fits
  ]
