-- The pair of a leaf's sequences has a column; the second amount finds the other payoff row as it was.
use Rattle.std.proofs.Common.{sym, ap, arith}
use Rattle.std.specs.Prelude.{unsigned_abs}
use Rattle.corr_game.specs.declared.sides.Side.TheVariants.{One, Two}
use Rattle.lp_form.specs.Program.{LpView, payoff_of}
use Rattle.connected_pairs.proofs.Indices.{index_in, node_in}
use Rattle.plan_polytope.proofs.Growing.{raised_both}
use Rattle.plan_polytope.proofs.payoffs.add_leaf.Goals as goal

pub index_of-requires-clause-one_in : goal.index_of-requires-clause-one_in
index_of-requires-clause-one_in c =
    let here = rw c.seqs-seqs.ensures at c.leaf.ensures in
    omega (arith, here, node_in c.args.pairs.now.seqs.one (c.requires.rules.sides One) c.args.n c.requires.in_one)

pub index_of-requires-clause-two_in : goal.index_of-requires-clause-two_in
index_of-requires-clause-two_in c =
    let here = rw c.seqs-seqs.ensures at c.leaf-2.ensures in
    omega (arith, here, node_in c.args.pairs.now.seqs.two (c.requires.rules.sides Two) c.args.n c.requires.in_two)

pub add_amount-requires-clause-in_columns : goal.add_amount-requires-clause-in_columns
add_amount-requires-clause-in_columns c =
    omega (arith, index_in c.args.pairs.now c.requires.rules c.leaf.result c.leaf-2.result c.in-Some.col (sym c.in-Some.ensures.value))

pub add_amount-requires-in-Some-clause-in_columns : goal.add_amount-requires-in-Some-clause-in_columns
add_amount-requires-in-Some-clause-in_columns c =
    let same = ap (λ (lp : LpView). lp.cols) c.in_ok-add_amount-in-Some.ensures.that_row_alone in
    omega (arith, same, index_in c.args.pairs.now c.requires.rules c.leaf.result c.leaf-2.result c.in-Some.col (sym c.in-Some.ensures.value))

pub add_amount-requires-in-Some-clause-before : goal.add_amount-requires-in-Some-clause-before
add_amount-requires-in-Some-clause-before c =
    let same = ap (λ (lp : LpView). unsigned_abs (payoff_of Two lp c.in-Some.col)) c.in_ok-add_amount-in-Some.ensures.that_row_alone in
    omega (arith, same, c.requires.before Two c.in-Some.col)

pub returns-in_ok-add_amount-in-Some-2-clause-within : goal.returns-in_ok-add_amount-in-Some-2-clause-within
returns-in_ok-add_amount-in-Some-2-clause-within c = λ bound h side k.
    raised_both c.args.lp.now c.add_amount.new.lp c.add_amount-in-Some.new.lp c.in_ok-add_amount-in-Some.ensures.that_row_alone c.in_ok-add_amount-in-Some-2.ensures.that_row_alone
    c.in_ok-add_amount-in-Some.ensures.within c.in_ok-add_amount-in-Some-2.ensures.within bound h side k
