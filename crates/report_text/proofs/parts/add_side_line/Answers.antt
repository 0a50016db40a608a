-- Each piece stands behind the ones before it; where memory runs out the rest is cut off.
use Rattle.text_pieces.proofs.Pieces.{Adds-join, AddsFront-behind, AddsFront-cut, AddsFront-none}
use Rattle.std.specs.Prelude.{codes}
use Rattle.report_text.specs.PartText.{int_text, count_text, side_line}
use Rattle.report_text.proofs.Items.{at_exit}
use Rattle.report_text.proofs.parts.add_side_line.Goals as goal

pub returns-clause-ok : goal.returns-clause-ok
unfolding side_line
returns-clause-ok c =
    Adds-join (Adds-join (Adds-join (Adds-join (Adds-join (Adds-join (Adds-join c.in_ok-add_bytes.ensures.ok c.in_ok-add_spaced.ensures.ok) c.in_ok-add_spaced-2.ensures.ok) c.in_ok-add_bytes-2.ensures.ok) c.in_ok-add_spaced-3.ensures.ok) c.in_ok-add_bytes-3.ensures.ok) c.in_ok-add_spaced-4.ensures.ok) c.in_ok-add_bytes-4.ensures.ok

pub returns-in_err-add_bytes-clause-err : goal.returns-in_err-add_bytes-clause-err
unfolding side_line
returns-in_err-add_bytes-clause-err c =
    at_exit _ (AddsFront-cut (codes "\n") (AddsFront-cut (int_text c.args.side.now.den) (AddsFront-cut (codes " den") (AddsFront-cut (count_text c.args.side.now.corner) (AddsFront-cut (codes " corner") (AddsFront-cut (int_text c.args.side.now.dir.b) (AddsFront-cut (int_text c.args.side.now.dir.a) (AddsFront-none (codes "side") c.in_err-add_bytes.ensures.err))))))))

pub returns-in_err-add_spaced-clause-err : goal.returns-in_err-add_spaced-clause-err
unfolding side_line
returns-in_err-add_spaced-clause-err c =
    at_exit _ (AddsFront-cut (codes "\n") (AddsFront-cut (int_text c.args.side.now.den) (AddsFront-cut (codes " den") (AddsFront-cut (count_text c.args.side.now.corner) (AddsFront-cut (codes " corner") (AddsFront-cut (int_text c.args.side.now.dir.b) (AddsFront-behind c.in_ok-add_bytes.ensures.ok c.in_err-add_spaced.ensures.err)))))))

pub returns-in_err-add_spaced-2-clause-err : goal.returns-in_err-add_spaced-2-clause-err
unfolding side_line
returns-in_err-add_spaced-2-clause-err c =
    at_exit _ (AddsFront-cut (codes "\n") (AddsFront-cut (int_text c.args.side.now.den) (AddsFront-cut (codes " den") (AddsFront-cut (count_text c.args.side.now.corner) (AddsFront-cut (codes " corner") (AddsFront-behind (Adds-join c.in_ok-add_bytes.ensures.ok c.in_ok-add_spaced.ensures.ok) c.in_err-add_spaced-2.ensures.err))))))

pub returns-in_err-add_bytes-2-clause-err : goal.returns-in_err-add_bytes-2-clause-err
unfolding side_line
returns-in_err-add_bytes-2-clause-err c =
    at_exit _ (AddsFront-cut (codes "\n") (AddsFront-cut (int_text c.args.side.now.den) (AddsFront-cut (codes " den") (AddsFront-cut (count_text c.args.side.now.corner) (AddsFront-behind (Adds-join (Adds-join c.in_ok-add_bytes.ensures.ok c.in_ok-add_spaced.ensures.ok) c.in_ok-add_spaced-2.ensures.ok) (AddsFront-none (codes " corner") c.in_err-add_bytes-2.ensures.err))))))

pub returns-in_err-add_spaced-3-clause-err : goal.returns-in_err-add_spaced-3-clause-err
unfolding side_line
returns-in_err-add_spaced-3-clause-err c =
    at_exit _ (AddsFront-cut (codes "\n") (AddsFront-cut (int_text c.args.side.now.den) (AddsFront-cut (codes " den") (AddsFront-behind (Adds-join (Adds-join (Adds-join c.in_ok-add_bytes.ensures.ok c.in_ok-add_spaced.ensures.ok) c.in_ok-add_spaced-2.ensures.ok) c.in_ok-add_bytes-2.ensures.ok) c.in_err-add_spaced-3.ensures.err))))

pub returns-in_err-add_bytes-3-clause-err : goal.returns-in_err-add_bytes-3-clause-err
unfolding side_line
returns-in_err-add_bytes-3-clause-err c =
    at_exit _ (AddsFront-cut (codes "\n") (AddsFront-cut (int_text c.args.side.now.den) (AddsFront-behind (Adds-join (Adds-join (Adds-join (Adds-join c.in_ok-add_bytes.ensures.ok c.in_ok-add_spaced.ensures.ok) c.in_ok-add_spaced-2.ensures.ok) c.in_ok-add_bytes-2.ensures.ok) c.in_ok-add_spaced-3.ensures.ok) (AddsFront-none (codes " den") c.in_err-add_bytes-3.ensures.err))))

pub returns-in_err-add_spaced-4-clause-err : goal.returns-in_err-add_spaced-4-clause-err
unfolding side_line
returns-in_err-add_spaced-4-clause-err c =
    at_exit _ (AddsFront-cut (codes "\n") (AddsFront-behind (Adds-join (Adds-join (Adds-join (Adds-join (Adds-join c.in_ok-add_bytes.ensures.ok c.in_ok-add_spaced.ensures.ok) c.in_ok-add_spaced-2.ensures.ok) c.in_ok-add_bytes-2.ensures.ok) c.in_ok-add_spaced-3.ensures.ok) c.in_ok-add_bytes-3.ensures.ok) c.in_err-add_spaced-4.ensures.err))

pub returns-in_err-add_bytes-4-clause-err : goal.returns-in_err-add_bytes-4-clause-err
unfolding side_line
returns-in_err-add_bytes-4-clause-err c =
    at_exit _ (AddsFront-behind (Adds-join (Adds-join (Adds-join (Adds-join (Adds-join (Adds-join c.in_ok-add_bytes.ensures.ok c.in_ok-add_spaced.ensures.ok) c.in_ok-add_spaced-2.ensures.ok) c.in_ok-add_bytes-2.ensures.ok) c.in_ok-add_spaced-3.ensures.ok) c.in_ok-add_bytes-3.ensures.ok) c.in_ok-add_spaced-4.ensures.ok) (AddsFront-none (codes "\n") c.in_err-add_bytes-4.ensures.err))
