-- Each piece stands behind the ones before it; where memory runs out the rest is cut off.
use Rattle.text_pieces.proofs.Pieces.{Adds-join, AddsFront-behind, AddsFront-cut, AddsFront-none}
use Rattle.std.specs.Prelude.{codes}
use Rattle.std.specs.Fmt.{signed_decimal}
use Rattle.report_text.specs.PartText.{quotient_text}
use Rattle.report_text.proofs.Items.{at_exit}
use Rattle.report_text.proofs.parts.add_quotient.Goals as goal

pub returns-clause-ok : goal.returns-clause-ok
unfolding quotient_text
returns-clause-ok c =
    Adds-join (Adds-join c.in_ok-add_number.ensures.ok c.in_ok-add_bytes.ensures.ok) c.in_ok-add_number-2.ensures.ok

pub returns-in_err-add_number-clause-err : goal.returns-in_err-add_number-clause-err
unfolding quotient_text
returns-in_err-add_number-clause-err c =
    at_exit _ (AddsFront-cut (signed_decimal c.args.den.now) (AddsFront-cut (codes "/") (AddsFront-none (signed_decimal c.args.num.now) c.in_err-add_number.ensures.err)))

pub returns-in_err-add_bytes-clause-err : goal.returns-in_err-add_bytes-clause-err
unfolding quotient_text
returns-in_err-add_bytes-clause-err c =
    at_exit _ (AddsFront-cut (signed_decimal c.args.den.now) (AddsFront-behind c.in_ok-add_number.ensures.ok (AddsFront-none (codes "/") c.in_err-add_bytes.ensures.err)))

pub returns-in_err-add_number-2-clause-err : goal.returns-in_err-add_number-2-clause-err
unfolding quotient_text
returns-in_err-add_number-2-clause-err c =
    at_exit _ (AddsFront-behind (Adds-join c.in_ok-add_number.ensures.ok c.in_ok-add_bytes.ensures.ok) (AddsFront-none (signed_decimal c.args.den.now) c.in_err-add_number-2.ensures.err))
