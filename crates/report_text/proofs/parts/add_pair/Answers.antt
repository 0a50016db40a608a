-- Each piece stands behind the ones before it; where memory runs out the rest is cut off.
use Rattle.text_pieces.proofs.Pieces.{Adds-join, AddsFront-behind, AddsFront-cut, AddsFront-none}
use Rattle.std.specs.Prelude.{codes}
use Rattle.std.specs.Fmt.{signed_decimal}
use Rattle.report_text.specs.Joined.{each_text}
use Rattle.report_text.specs.PartText.{action_text, pair_text}
use Rattle.report_text.proofs.Items.{at_exit}
use Rattle.report_text.proofs.parts.add_pair.Goals as goal

pub returns-clause-ok : goal.returns-clause-ok
unfolding pair_text
returns-clause-ok c =
    Adds-join (Adds-join (Adds-join (Adds-join (Adds-join (Adds-join c.in_ok-add_bytes.ensures.ok c.in_ok-add_number.ensures.ok) c.in_ok-add_bytes-2.ensures.ok) c.in_ok-add_plan.ensures.ok) c.in_ok-add_bytes-3.ensures.ok) c.in_ok-add_plan-2.ensures.ok) c.in_ok-add_bytes-4.ensures.ok

pub returns-in_err-add_bytes-clause-err : goal.returns-in_err-add_bytes-clause-err
unfolding pair_text
returns-in_err-add_bytes-clause-err c =
    at_exit _ (AddsFront-cut (codes "\n") (AddsFront-cut (each_text action_text c.args.pair.now.two) (AddsFront-cut (codes "\ntwo") (AddsFront-cut (each_text action_text c.args.pair.now.one) (AddsFront-cut (codes "\none") (AddsFront-cut (signed_decimal c.args.pair.now.weight) (AddsFront-none (codes "weight ") c.in_err-add_bytes.ensures.err)))))))

pub returns-in_err-add_number-clause-err : goal.returns-in_err-add_number-clause-err
unfolding pair_text
returns-in_err-add_number-clause-err c =
    at_exit _ (AddsFront-cut (codes "\n") (AddsFront-cut (each_text action_text c.args.pair.now.two) (AddsFront-cut (codes "\ntwo") (AddsFront-cut (each_text action_text c.args.pair.now.one) (AddsFront-cut (codes "\none") (AddsFront-behind c.in_ok-add_bytes.ensures.ok (AddsFront-none (signed_decimal c.args.pair.now.weight) c.in_err-add_number.ensures.err)))))))

pub returns-in_err-add_bytes-2-clause-err : goal.returns-in_err-add_bytes-2-clause-err
unfolding pair_text
returns-in_err-add_bytes-2-clause-err c =
    at_exit _ (AddsFront-cut (codes "\n") (AddsFront-cut (each_text action_text c.args.pair.now.two) (AddsFront-cut (codes "\ntwo") (AddsFront-cut (each_text action_text c.args.pair.now.one) (AddsFront-behind (Adds-join c.in_ok-add_bytes.ensures.ok c.in_ok-add_number.ensures.ok) (AddsFront-none (codes "\none") c.in_err-add_bytes-2.ensures.err))))))

pub returns-in_err-add_plan-clause-err : goal.returns-in_err-add_plan-clause-err
unfolding pair_text
returns-in_err-add_plan-clause-err c =
    at_exit _ (AddsFront-cut (codes "\n") (AddsFront-cut (each_text action_text c.args.pair.now.two) (AddsFront-cut (codes "\ntwo") (AddsFront-behind (Adds-join (Adds-join c.in_ok-add_bytes.ensures.ok c.in_ok-add_number.ensures.ok) c.in_ok-add_bytes-2.ensures.ok) c.in_err-add_plan.ensures.err))))

pub returns-in_err-add_bytes-3-clause-err : goal.returns-in_err-add_bytes-3-clause-err
unfolding pair_text
returns-in_err-add_bytes-3-clause-err c =
    at_exit _ (AddsFront-cut (codes "\n") (AddsFront-cut (each_text action_text c.args.pair.now.two) (AddsFront-behind (Adds-join (Adds-join (Adds-join c.in_ok-add_bytes.ensures.ok c.in_ok-add_number.ensures.ok) c.in_ok-add_bytes-2.ensures.ok) c.in_ok-add_plan.ensures.ok) (AddsFront-none (codes "\ntwo") c.in_err-add_bytes-3.ensures.err))))

pub returns-in_err-add_plan-2-clause-err : goal.returns-in_err-add_plan-2-clause-err
unfolding pair_text
returns-in_err-add_plan-2-clause-err c =
    at_exit _ (AddsFront-cut (codes "\n") (AddsFront-behind (Adds-join (Adds-join (Adds-join (Adds-join c.in_ok-add_bytes.ensures.ok c.in_ok-add_number.ensures.ok) c.in_ok-add_bytes-2.ensures.ok) c.in_ok-add_plan.ensures.ok) c.in_ok-add_bytes-3.ensures.ok) c.in_err-add_plan-2.ensures.err))

pub returns-in_err-add_bytes-4-clause-err : goal.returns-in_err-add_bytes-4-clause-err
unfolding pair_text
returns-in_err-add_bytes-4-clause-err c =
    at_exit _ (AddsFront-behind (Adds-join (Adds-join (Adds-join (Adds-join (Adds-join c.in_ok-add_bytes.ensures.ok c.in_ok-add_number.ensures.ok) c.in_ok-add_bytes-2.ensures.ok) c.in_ok-add_plan.ensures.ok) c.in_ok-add_bytes-3.ensures.ok) c.in_ok-add_plan-2.ensures.ok) (AddsFront-none (codes "\n") c.in_err-add_bytes-4.ensures.err))
