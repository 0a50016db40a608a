-- Each piece stands behind the ones before it; where memory runs out the rest is cut off.
use Rattle.text_pieces.proofs.Pieces.{Adds-join, AddsFront-behind, AddsFront-cut, AddsFront-none}
use Rattle.std.specs.Prelude.{codes}
use Rattle.report_text.specs.PartText.{behind_space}
use Rattle.report_text.proofs.Items.{at_exit}
use Rattle.report_text.proofs.lists.add_spaced.Goals as goal

pub returns-clause-ok : goal.returns-clause-ok
unfolding behind_space
returns-clause-ok g c =
    Adds-join c.in_ok-add_bytes.ensures.ok c.in_ok-add_number.ensures.ok

pub returns-in_err-add_bytes-clause-err : goal.returns-in_err-add_bytes-clause-err
unfolding behind_space
returns-in_err-add_bytes-clause-err g c =
    at_exit _ (AddsFront-cut (g.I.Integer.text c.args.number.now) (AddsFront-none (codes " ") c.in_err-add_bytes.ensures.err))

pub returns-in_err-add_number-clause-err : goal.returns-in_err-add_number-clause-err
unfolding behind_space
returns-in_err-add_number-clause-err g c =
    at_exit _ (AddsFront-behind c.in_ok-add_bytes.ensures.ok (AddsFront-none (g.I.Integer.text c.args.number.now) c.in_err-add_number.ensures.err))
