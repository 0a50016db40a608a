-- The pairs of few sequences are few. A new program has 0 everywhere, so it has behind its first row. The payoff rows leave the
-- other rows as they are. What solves correlation rows meets them, and is bounded.
use Rattle.std.proofs.Common.{◌≡◌, ℕ, ◌+◌, ◌^◌, ◌∙◌, List, length, pos, subst, ap, inl, arith, rules}
use Rattle.std.proofs.lemmas.Grind.{common_steps}
use Rattle.lp_form.specs.declared.entries.Entry.{Entry}
use Rattle.lp_form.specs.Program.{LpView, right_of}
use Rattle.plan_polytope.specs.declared.rows.Row.{Row}
use Rattle.plan_polytope.specs.Bounds.{AreUnits, IsWithin}
use Rattle.plan_polytope.specs.CorrelationRow.{AreFilled}
use Rattle.plan_polytope.proofs.Counting.{both_counts_one}
use Rattle.plan_polytope.proofs.FewSets.{few_columns}
use Rattle.plan_polytope.proofs.Filling.{blank_0, blank_count, filled_still, right_apart, rows_still, total_put}
use Rattle.plan_polytope.proofs.Meeting.{polytope_bounded, solutions_meet}
use Rattle.plan_polytope.proofs.Smallness.{units_small}
use Rattle.plan_polytope.proofs.polytopes.polytope.Goals as goal

pub new-requires-clause-few_columns : goal.new-requires-clause-few_columns
new-requires-clause-few_columns c = omega (arith, few_columns c.args.pairs.now c.len-columns.ensures.rules)

pub fill_rows-requires-clause-all_0 : goal.fill_rows-requires-clause-all_0
fill_rows-requires-clause-all_0 c = λ r k.
    c.in_ok-place.ensures.put.elsewhere (r + 1) k (inl (λ e. omega (arith, e)))
    ∙ right_apart c.in_ok-lp.lp c.set_right.new.self _ c.set_right.ensures.right_alone (r + 1) k
    ∙ blank_0 c.in_ok-lp.lp _ _ c.in_ok-lp.ensures.all_0 (r + 1) k

pub returns-clause-correlation : goal.returns-clause-correlation
returns-clause-correlation c =
    let p = c.args.pairs.now in
    let kept = rows_still c.fill_rows.new.lp c.add_payoffs.new.lp c.in_ok-add_payoffs.ensures.rows.rows in
    let Filled : List Row → Type 0 = λ rows. AreFilled p rows c.fill_rows.new.lp in
    record {
      rows = c.in_ok-rows.rows.items;
      listed = c.in_ok-rows.ensures.listed;
      both_players = c.in_ok-rows.ensures.count;
      count = omega (
        arith,
        ap (λ (rows : List (List Entry)). length rows) c.in_ok-add_payoffs.ensures.rows.rows,
        c.in_ok-fill_rows.ensures.count,
        c.in_ok-place.ensures.count,
        ap (λ (lp : LpView). length lp.rows) c.set_right.ensures.right_alone,
        blank_count c.in_ok-lp.lp _ _ c.in_ok-lp.ensures.all_0,
        c.len.ensures,
        c.in_ok-rows.ensures.few,
      );
      total = total_put p c.set_right.new.self c.place.new.lp c.add_payoffs.new.lp
          (λ k. right_apart c.in_ok-lp.lp c.set_right.new.self _ c.set_right.ensures.right_alone 0 k ∙ blank_0 c.in_ok-lp.lp _ _ c.in_ok-lp.ensures.all_0 0 k)
          c.in_ok-place.ensures.put (λ k. kept 0 k ∙ c.in_ok-fill_rows.ensures.first_row k);
      filled = filled_still p c.in_ok-rows.rows.items c.fill_rows.new.lp c.add_payoffs.new.lp kept (subst Filled c.deref.ensures.value c.in_ok-fill_rows.ensures.filled);
    }

pub returns-clause-rows : goal.returns-clause-rows
returns-clause-rows c = λ count counted.
    let are = returns-clause-correlation c in
    omega (arith, are.count, both_counts_one c.args.game.now c.args.pairs.now (length are.rows) count are.both_players counted)

pub returns-clause-meets : goal.returns-clause-meets
returns-clause-meets c =
    let lp = c.add_payoffs.new.lp in
    let columns : lp.cols ≡ length c.args.pairs.now.pairs = search rules in
    let one : right_of lp 0 ≡ pos 1 = grind (arith, common_steps) in
    let zeros : (r : ℕ) → right_of lp (r + 1) ≡ pos 0 = grind (arith, common_steps) in
    solutions_meet c.args.game.now c.args.pairs.now lp
    (record { rules = c.len-columns.ensures.rules; whose = c.requires; columns = columns; rows = returns-clause-correlation c; one = one; zeros = zeros })

pub returns-clause-bounded : goal.returns-clause-bounded
returns-clause-bounded c =
    let lp = c.add_payoffs.new.lp in
    let columns : lp.cols ≡ length c.args.pairs.now.pairs = search rules in
    let one : right_of lp 0 ≡ pos 1 = grind (arith, common_steps) in
    let zeros : (r : ℕ) → right_of lp (r + 1) ≡ pos 0 = grind (arith, common_steps) in
    polytope_bounded c.args.game.now c.args.pairs.now lp
    (record { rules = c.len-columns.ensures.rules; whose = c.requires; columns = columns; rows = returns-clause-correlation c; one = one; zeros = zeros })

pub returns-clause-small : goal.returns-clause-small
returns-clause-small c =
    let lp = c.add_payoffs.new.lp in
    let units : AreUnits lp = search rules in
    let amounts : IsWithin (2 ^ 40) lp = search rules in
    let one : right_of lp 0 ≡ pos 1 = grind (arith, common_steps) in
    let zeros : (r : ℕ) → right_of lp (r + 1) ≡ pos 0 = grind (arith, common_steps) in
    units_small lp units amounts one zeros
