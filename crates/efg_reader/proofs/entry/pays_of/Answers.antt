use Rattle.std.proofs.Common.{◌≡◌, ◌+◌, drop, sym, ap, subst, ◌∙◌}
use Rattle.number_words.specs.Value.{number_value}
use Rattle.efg_reader.specs.Entry.{values}
use Rattle.efg_reader.proofs.ListedValues.{behind, values_more, values_none}
use Rattle.efg_reader.proofs.entry.pays_of.Goals as goal

pub returns-in_default : goal.returns-in_default
returns-in_default c =
    values_none number_value c.args.words.now c.loop-k.k c.at.result.now c.loop-k.pays.items (values number_value c.args.words.now) c.at.ensures.item
    (ap number_value (sym c.as_slice.ensures.bytes) ∙ sym c.number_value.ensures ∙ c.in_default.is) c.loop-k.invariant

pub loop-k-preserved : goal.loop-k-preserved
loop-k-preserved c =
    subst (λ done. behind done (values number_value (drop (c.loop-k.k + 1) c.args.words.now)) ≡ values number_value c.args.words.now) (sym c.in_ok-push.ensures.items)
    (values_more number_value c.args.words.now c.loop-k.k c.at.result.now c.in-Some.pay c.loop-k.pays.items (values number_value c.args.words.now) c.at.ensures.item
    (ap number_value (sym c.as_slice.ensures.bytes) ∙ sym c.number_value.ensures ∙ c.in-Some.is) c.loop-k.invariant)
