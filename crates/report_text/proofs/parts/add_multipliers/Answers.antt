-- Each piece stands behind the ones before it; where memory runs out the rest is cut off.
use Rattle.text_pieces.proofs.Pieces.{Adds-join, AddsFront-behind, AddsFront-cut, AddsFront-none}
use Rattle.std.specs.Prelude.{codes}
use Rattle.report_text.specs.Joined.{each_text}
use Rattle.report_text.specs.PartText.{int_text, multipliers_text}
use Rattle.report_text.proofs.Items.{at_exit}
use Rattle.report_text.proofs.parts.add_multipliers.Goals as goal

pub returns-clause-ok : goal.returns-clause-ok
unfolding multipliers_text
returns-clause-ok c =
    Adds-join (Adds-join c.in_ok-add_bytes.ensures.ok c.in_ok-add_numbers.ensures.ok) c.in_ok-add_bytes-2.ensures.ok

pub returns-in_err-add_bytes-clause-err : goal.returns-in_err-add_bytes-clause-err
unfolding multipliers_text
returns-in_err-add_bytes-clause-err c =
    at_exit _ (AddsFront-cut (codes "\n") (AddsFront-cut (each_text int_text c.args.multipliers.now) (AddsFront-none (codes "multipliers") c.in_err-add_bytes.ensures.err)))

pub returns-in_err-add_numbers-clause-err : goal.returns-in_err-add_numbers-clause-err
unfolding multipliers_text
returns-in_err-add_numbers-clause-err c =
    at_exit _ (AddsFront-cut (codes "\n") (AddsFront-behind c.in_ok-add_bytes.ensures.ok c.in_err-add_numbers.ensures.err))

pub returns-in_err-add_bytes-2-clause-err : goal.returns-in_err-add_bytes-2-clause-err
unfolding multipliers_text
returns-in_err-add_bytes-2-clause-err c =
    at_exit _ (AddsFront-behind (Adds-join c.in_ok-add_bytes.ensures.ok c.in_ok-add_numbers.ensures.ok) (AddsFront-none (codes "\n") c.in_err-add_bytes-2.ensures.err))
