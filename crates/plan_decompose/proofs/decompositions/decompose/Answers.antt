-- An entry more is one of the game's, and it keeps what entries and the rest make together.
use Rattle.std.proofs.Common.{true, All, ◌≡◌, ◌∙◌, pos, length, slice_index_or, ap, arith}
use Rattle.std.proofs.lemmas.List.{length_push}
use Rattle.std.proofs.lemmas.List.Elements.{All-nil, All-push}
use Rattle.std.proofs.lemmas.Option.{slice_get_within}
use Rattle.plan_decompose.specs.Entry.{IsEntry}
use Rattle.plan_decompose.proofs.Turns.{positives_most}
use Rattle.plan_decompose.proofs.Whole.{total_left}
use Rattle.plan_decompose.proofs.Sums.{none_shared, one_more_shared, whole, written_back}
use Rattle.plan_decompose.proofs.decompositions.decompose.Goals as goal

pub loop-list-init : goal.loop-list-init
loop-list-init c = rw (c.new-list.ensures.empty, c.in_ok-rest.ensures) (record {
  entries = All-nil (IsEntry c.args.game.now c.args.pairs.now.seqs);
  as_many = c.requires.per_pair;
  narrow = c.requires.narrow;
  left = omega (arith, positives_most c.args.values, c.requires.per_pair);
  solution = c.requires.solution;
  shared = none_shared c.args.pairs.now c.args.values;
})

pub loop-list-preserved : goal.loop-list-preserved
loop-list-preserved c =
    let before = c.loop-list.invariant in
    let p = c.args.pairs.now in
    let entry = c.in_ok-entry.entry in
    let old = c.loop-list.rest.items in
    let left = c.take_entry.new.values in
    let same : length left ≡ length old = omega (arith, c.take_entry.auto.values, ap length c.deref_mut.ensures.value) in
    let back = written_back old left c.loop-list.rest.len same (omega (arith, c.loop-list.rest.ok.0)) in
    let fewer = rw c.deref_mut.ensures.value at c.in_ok-entry.ensures.fewer in
    let rows = c.in_ok-entry.ensures.rows in
    let some : All (λ value. value ≡ pos 0) left → ⊥ = λ all. (
    let there = c.deref.ensures.value ∙ back in
    let nothing : c.nothing_left.result ≡ true = c.nothing_left.ensures.1 (rw there all) in
    cc (nothing, c.if-nothing_left.false)) in
    let more = length_push c.loop-list.list entry in
    rw (back, c.in_ok-push.ensures.ok) (record {
      entries = All-push (IsEntry c.args.game.now c.args.pairs.now.seqs) c.loop-list.list entry before.entries c.in_ok-entry.ensures.entry;
      as_many = same ∙ before.as_many;
      narrow = c.in_ok-entry.ensures.narrow;
      left = omega (arith, before.left, fewer, more);
      solution = record {
        rows = rows;
        total = total_left p c.requires.whose c.len.ensures.rules left rows (same ∙ before.as_many) some;
        no_triangle = before.solution.no_triangle;
      };
      shared = one_more_shared p c.loop-list.list entry old left c.args.values before.shared (rw c.deref_mut.ensures.value at c.in_ok-entry.ensures.taken);
    })

pub returns-then-nothing_left-clause-entries : goal.returns-then-nothing_left-clause-entries
returns-then-nothing_left-clause-entries c =
    rw c.in_ok-push.ensures.ok (All-push (IsEntry c.args.game.now c.args.pairs.now.seqs) c.loop-list.list c.in_ok-entry.entry c.loop-list.invariant.entries c.in_ok-entry.ensures.entry)

pub returns-then-nothing_left-clause-sums : goal.returns-then-nothing_left-clause-sums
returns-then-nothing_left-clause-sums c = λ k pair e.
    let p = c.args.pairs.now in
    let entry = c.in_ok-entry.entry in
    let left = c.take_entry.new.values in
    let same : length left ≡ length c.loop-list.rest.items = omega (arith, c.take_entry.auto.values, ap length c.deref_mut.ensures.value) in
    let back = written_back c.loop-list.rest.items left c.loop-list.rest.len same (omega (arith, c.loop-list.rest.ok.0)) in
    let none = rw (c.deref.ensures.value, back) at (c.nothing_left.ensures.0 c.if-nothing_left.true) in
    let shared = one_more_shared p c.loop-list.list entry c.loop-list.rest.items left c.args.values c.loop-list.invariant.shared (rw c.deref_mut.ensures.value at c.in_ok-entry.ensures.taken) in
    rw c.in_ok-push.ensures.ok (whole p.seqs pair _ (slice_index_or left k (pos 0)) _ (shared k pair e) (none k (pos 0) (omega (arith, same, c.loop-list.invariant.as_many, slice_get_within p.pairs k pair e))))
