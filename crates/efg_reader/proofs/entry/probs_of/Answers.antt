use Rattle.std.proofs.Common.{◌≡◌, ◌+◌, drop, sym, subst, ◌∙◌, arith}
use Rattle.efg_reader.specs.Entry.{values, probability}
use Rattle.efg_reader.proofs.ListedValues.{behind, values_more, values_none}
use Rattle.efg_reader.proofs.entry.probs_of.Goals as goal

pub returns-in_default-clause-value : goal.returns-in_default-clause-value
returns-in_default-clause-value c = values_none probability c.args.acts.now c.loop-k.k c.at.result.now c.loop-k.probs.items (values probability c.args.acts.now) c.at.ensures.item (sym c.prob_of.ensures ∙ c.in_default.is) c.loop-k.invariant.whole

pub loop-k-preserved : goal.loop-k-preserved
loop-k-preserved c = record {
  count = omega (arith, c.in_ok-push.ensures.len, c.loop-k.invariant.count);
  whole =
      subst (λ done. behind done (values probability (drop (c.loop-k.k + 1) c.args.acts.now)) ≡ values probability c.args.acts.now) (sym c.in_ok-push.ensures.items)
      (values_more probability c.args.acts.now c.loop-k.k c.at.result.now c.in-Some.prob c.loop-k.probs.items (values probability c.args.acts.now) c.at.ensures.item (sym c.prob_of.ensures ∙ c.in-Some.is) c.loop-k.invariant.whole);
}
