-- A second one that is found makes two.
use Rattle.std.proofs.Common.{◌≡◌, ◌<◌, ◌∙◌, Some, None, length, get_or, ap, sym, refl, arith}
use Rattle.std.proofs.lemmas.Option.{slice_get-get_or}
use Rattle.connected_pairs.specs.Connected.{other, touches}
use Rattle.plan_decompose.proofs.Joining.{found_first, found_two, found_some, found_none}
use Rattle.plan_decompose.proofs.opens.only_joined.Goals as goal

pub loop-set-preserved : goal.loop-set-preserved
loop-set-preserved c =
    let to = other c.args.first.side in
    let joined = touches c.args.pairs.now c.args.first.side c.args.first.set.0 in
    let beside = c.args.beside.now in
    let n = c.loop-set.set in
    let count = rw c.other_side-side.ensures at c.sets-set-end.ensures.count in
    let low : n < length beside = omega (arith, count, c.requires.per_set) in
    let entry : get_or beside n None ≡ Some c.in-Some.sequence = c.in-Some.is in
    let waits = slice_get-get_or beside n None low ∙ ap Some entry in
    found_first to joined beside n c.loop-set.only _ c.loop-set.invariant (sym c.is_some.ensures ∙ c.if-is_some.false) c.other_side-side.ensures refl waits (sym c.touches.ensures ∙ c.if-not-touches.false)

pub returns-then-is_some-clause-none : goal.returns-then-is_some-clause-none
returns-then-is_some-clause-none c =
    let to = other c.args.first.side in
    let joined = touches c.args.pairs.now c.args.first.side c.args.first.set.0 in
    let beside = c.args.beside.now in
    let n = c.loop-set.set in
    let count = rw c.other_side-side.ensures at c.sets-set-end.ensures.count in
    let low : n < length beside = omega (arith, count, c.requires.per_set) in
    let entry : get_or beside n None ≡ Some c.in-Some.sequence = c.in-Some.is in
    let waits = slice_get-get_or beside n None low ∙ ap Some entry in
    found_two to joined beside n c.in-Some.sequence c.loop-set.only c.loop-set.invariant (sym c.is_some.ensures ∙ c.if-is_some.true) waits (sym c.touches.ensures ∙ c.if-not-touches.false)

pub returns-clause-some : goal.returns-clause-some
returns-clause-some c =
    let to = other c.args.first.side in
    let joined = touches c.args.pairs.now c.args.first.side c.args.first.set.0 in
    let count = rw c.other_side-side.ensures at c.sets-set-end.ensures.count in
    found_some to joined c.args.beside.now c.loop-set.set c.loop-set.only c.loop-set.invariant (omega (arith, count, c.requires.per_set))

pub returns-clause-none : goal.returns-clause-none
returns-clause-none c =
    let to = other c.args.first.side in
    let joined = touches c.args.pairs.now c.args.first.side c.args.first.set.0 in
    let count = rw c.other_side-side.ensures at c.sets-set-end.ensures.count in
    found_none to joined c.args.beside.now c.loop-set.set c.loop-set.only c.loop-set.invariant (omega (arith, count, c.requires.per_set))
