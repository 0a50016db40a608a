-- One pair more of the row is listed.
use Rattle.std.proofs.Common.{◌≡◌, ◌<◌, ◌+◌, ◌*◌, ◌∙◌, sym, refl, arith}
use Rattle.sequences.specs.Number.{count_of}
use Rattle.connected_pairs.proofs.Listing.{few_cells, list-relevant, list-other}
use Rattle.connected_pairs.proofs.pairs.add_row.Goals as goal
use Rattle.connected_pairs.proofs.pairs.add_row.Goals.{then-relevant+in_ok-push, else-relevant}

pub overflow_cast-place : goal.overflow_cast-place
overflow_cast-place c =
    let s = c.args.seqs.now in
    omega (arith, few_cells c.args.one c.loop-two.two (count_of s.two) (count_of s.one) c.requires.in_range (omega arith) (omega (arith, c.count-two-end.ensures.rules.few)) c.requires.few, c.loop-two.invariant.at_most)

pub loop-two-preserved : goal.loop-two-preserved
loop-two-preserved c =
    let s = c.args.seqs.now in
    let table = c.args.table.now in
    let count = c.args.one * count_of s.two + c.loop-two.two in
    let low : c.loop-two.two < count_of s.two = omega arith in
    let more : c.args.one * count_of s.two + (c.loop-two.two + 1) ≡ count + 1 = omega arith in
    elim c.if-relevant.branch [
      | then-relevant+in_ok-push w ↦
          rw (c.in_ok-push-2.ensures.items, w.listed-is, w.place-is, w.in_ok-push.ensures.items, w.len.ensures, c.loop-two.listed.pairs.ok.0)
          (list-relevant s table count c.args.one c.loop-two.two _ c.loop-two.listed.pairs.items c.loop-two.listed.places.items c.loop-two.invariant c.requires.in_range low refl more (sym c.relevant.ensures ∙ w.if-relevant.true))
      | else-relevant w ↦
          rw (c.in_ok-push-2.ensures.items, w.listed-is, w.place-is)
          (list-other s table count c.args.one c.loop-two.two _ c.loop-two.listed.pairs.items c.loop-two.listed.places.items c.loop-two.invariant low refl more (sym c.relevant.ensures ∙ w.if-relevant.false))
    ]
