-- One value more has lost the weight, or it is as it was, as its pair is played or not.
use Rattle.std.proofs.Common.{◌≡◌, ◌≢◌, ◌<◌, ◌-ℤ◌, ℤ, pos, length, true, inl, inr, get_or, to_z, of_z, ap, ◌∙◌, arith}
use Rattle.std.specs.Int.{w128}
use Rattle.std.proofs.lemmas.Bool.{cases_eq}
use Rattle.std.proofs.lemmas.List.{get_or-set_same, get_or-set_other}
use Rattle.corr_num.specs.Narrow.{Narrow}
use Rattle.plan_decompose.proofs.Taking.{taken}
use Rattle.plan_decompose.proofs.entries.take_off.Goals as goal
use Rattle.plan_decompose.proofs.entries.take_off.Goals.{then-both_play, else-both_play}

pub loop-k-preserved : goal.loop-k-preserved
loop-k-preserved c =
    let before = c.loop-k.invariant in
    let at = c.loop-k.k in
    let low : at < length c.loop-k.values = omega (arith, c.requires.per_pair, c.len-k-end.ensures.count) in
    let value = get_or c.loop-k.values at (pos 0) in
    let old = before.left at (omega arith) in
    elim c.if-both_play.branch [
      | then-both_play w ↦
          let narrow : Narrow value = rw old (c.requires.narrow at (pos 0) (omega arith)) in
          let less = taken w.difference.result value c.args.weight narrow c.requires.narrow_weight w.difference.ensures in
          rw w.values-is (record {
            done = λ k pair h e. elim (cases_eq k at) [
              | inl same ↦ rw same (inl (
                (c.both_play.ensures pair (rw same at e)).0 w.if-both_play.true,
                get_or-set_same c.loop-k.values at _ (pos 0) low ∙ (less ∙ ap (λ (z : ℤ). z -ℤ to_z w128 (of_z w128 c.args.weight)) old),
              ))
              | inr apart ↦ rw (get_or-set_other c.loop-k.values at k (to_z w128 (of_z w128 w.difference.result)) (pos 0) apart) (before.done k pair (omega arith) e)
            ];
            left = λ k h. let apart : k ≢ at = omega arith in get_or-set_other c.loop-k.values at k _ (pos 0) apart ∙ before.left k (omega arith);
          })
      | else-both_play w ↦ rw w.values-is (record {
        done = λ k pair h e. elim (cases_eq k at) [
          | inl same ↦ rw same (inr (λ b. let played : c.both_play.result ≡ true = (c.both_play.ensures pair (rw same at e)).1 b in cc, old))
          | inr apart ↦ before.done k pair (omega arith) e
        ];
        left = λ k h. before.left k (omega arith);
      })
    ]
