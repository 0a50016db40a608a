-- A number is whole where its word has no slash.
use Rattle.std.proofs.Common.{ℤ, length, take, drop, inl, inr, refl, subst, sym, ap, ◌∙◌, arith}
use Rattle.corr_num.proofs.PrintedTerms.{returned}
use Rattle.report_form.specs.Ranges.{IsPayoff}
use Rattle.report_reader.proofs.Numerals.{one_signed}
use Rattle.report_reader.proofs.Slashes.{behind_first, frac_cut}
use Rattle.report_reader.proofs.Fractions.{whole_frac, no_rest}
use Rattle.report_reader.proofs.words.fraction.Goals as goal

pub returns-in-empty-clause-text : goal.returns-in-empty-clause-text
returns-in-empty-clause-text c =
    let same = returned c.in_ok-num.num (omega (arith, c.in_ok-num.ensures.below)) in
    no_rest c.before_slash.result c.args.word.now (omega (arith, c.in-empty.len_below, ap length c.split_at.ensures.back))
    ∙ sym c.split_at.ensures.front ∙ c.in_ok-num.ensures.text ∙ whole_frac c.in_ok-num.num c.of.result (rw same at c.of.ensures)

pub returns-in_err-num-clause-none : goal.returns-in_err-num-clause-none
returns-in_err-num-clause-none c = λ none f payoff is.
    let cut = frac_cut c.args.word.now f payoff is in
    c.in_err-num.ensures.none refl f.num payoff.num
    (c.split_at.ensures.front ∙ ap (λ n. take n c.args.word.now) c.before_slash.ensures.value ∙ cut.num)

pub returns-in-len1-up-clause-none : goal.returns-in-len1-up-clause-none
returns-in-len1-up-clause-none c = λ none f payoff is.
    let cut = frac_cut c.args.word.now f payoff is in
    let front = c.split_at.ensures.front ∙ ap (λ n. take n c.args.word.now) c.before_slash.ensures.value ∙ cut.num in
    let back = c.split_at.ensures.back ∙ ap (λ n. drop n c.args.word.now) c.before_slash.ensures.value in
    let one =
    one_signed f.num c.in_ok-num.num (omega (arith, payoff.num)) (omega (arith, c.in_ok-num.ensures.below))
    front c.in_ok-num.ensures.text in
    elim cut.den [
      | inl nothing ↦ absurd (omega (arith, ap length (back ∙ nothing), c.in-len1-up.len_at_least))
      | inr den ↦
          let num = one ∙ sym (returned c.in_ok-num.num (omega (arith, c.in_ok-num.ensures.below))) in
          let good = subst (λ (n : ℤ). IsPayoff (record { num = n; den = f.den })) num payoff in
          c.quotient.ensures.none none f.den good den.0 (behind_first 47 (back ∙ den.1))
    ]
