-- The names at the place are the same, or they aren't.
use Rattle.std.proofs.Common.{◌≡◌, nat_eq, true, false, ap, sym, ◌∙◌}
use Rattle.std.specs.Cmp.Lexicographic.{pointwise}
use Rattle.std.proofs.lemmas.Bool.{not-true, not-false}
use Rattle.efg_reader.proofs.SameNames.{names_from}
use Rattle.efg_reader.proofs.set_lists.has_same_names.Goals as goal

pub returns-then-ne : goal.returns-then-ne
returns-then-ne c =
    let one = c.at.result.now in
    let two = c.at-in-loop-k.result.now in
    let differ : pointwise nat_eq one.name two.name ≡ false =
    ap (λ names. pointwise nat_eq names two.name) (sym c.as_slice.ensures.bytes) ∙ ap (pointwise nat_eq c.as_slice.result.now) (sym c.as_slice-in-loop-k.ensures.bytes)
    ∙ not-true (pointwise nat_eq c.as_slice.result.now c.as_slice-in-loop-k.result.now) (sym c.ne.ensures ∙ c.if-ne.true) in
    sym (c.loop-k.invariant.same ∙ names_from c.args.one.now c.args.two.now c.loop-k.k one two false c.at.ensures.item c.at-in-loop-k.ensures.item differ)

pub loop-k-preserved : goal.loop-k-preserved
loop-k-preserved c =
    let one = c.at.result.now in
    let two = c.at-in-loop-k.result.now in
    let agree : pointwise nat_eq one.name two.name ≡ true =
    ap (λ names. pointwise nat_eq names two.name) (sym c.as_slice.ensures.bytes) ∙ ap (pointwise nat_eq c.as_slice.result.now) (sym c.as_slice-in-loop-k.ensures.bytes)
    ∙ not-false (pointwise nat_eq c.as_slice.result.now c.as_slice-in-loop-k.result.now) (sym c.ne.ensures ∙ c.if-ne.false) in
    record {
      long = c.loop-k.invariant.long;
      same = c.loop-k.invariant.same ∙ names_from c.args.one.now c.args.two.now c.loop-k.k one two true c.at.ensures.item c.at-in-loop-k.ensures.item agree;
    }
