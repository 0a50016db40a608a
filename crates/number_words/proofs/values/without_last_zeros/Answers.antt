use Rattle.std.proofs.Common.{◌≡◌, ℕ, ◌+◌, ◌-◌, take, ap, sym, ◌∙◌, arith}
use Rattle.number_words.specs.Value.{without_last_zeros}
use Rattle.number_words.proofs.Zeros.{zero_dropped, none_dropped, all_dropped}
use Rattle.number_words.proofs.values.without_last_zeros.Goals as goal
use Rattle.number_words.proofs.values.without_last_zeros.Goals.{then-loop-end-test+else-digits-end-eq48, else-loop-end-test}

pub loop-end-preserved : goal.loop-end-preserved
loop-end-preserved c =
    let end = c.loop-end.end in
    let digits = c.args.digits.now in
    let back : end - 1 + 1 ≡ end = omega (arith, c.loop-end-test.true) in
    record {
      within = omega (arith, c.loop-end.invariant.within);
      zeros =
          sym (zero_dropped digits (end - 1) 0 (omega (arith, c.loop-end-test.true, c.loop-end.invariant.within)) c.if-digits-end-eq48.true)
          ∙ ap (λ (n : ℕ). without_last_zeros (take n digits)) back ∙ c.loop-end.invariant.zeros;
    }

pub returns : goal.returns
returns c =
    let end = c.loop-end.end in
    let digits = c.args.digits.now in
    c.split_at.ensures.front ∙ elim c.loop-end-test.branch [
      | then-loop-end-test+else-digits-end-eq48 w ↦ none_dropped digits end 0 w.loop-end-test.true c.loop-end.invariant.within w.if-digits-end-eq48.false c.loop-end.invariant.zeros
      | else-loop-end-test w ↦ all_dropped digits end w.loop-end-test.false c.loop-end.invariant.zeros
    ]
