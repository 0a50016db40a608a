-- Each piece stands behind the ones before it; where memory runs out the rest is cut off.
use Rattle.text_pieces.proofs.Pieces.{Adds-join, AddsFront-behind, AddsFront-cut, AddsFront-none}
use Rattle.std.specs.Prelude.{codes}
use Rattle.report_text.specs.Joined.{each_text}
use Rattle.report_text.specs.PartText.{count_text, row_text, place_text}
use Rattle.report_text.proofs.Items.{at_exit}
use Rattle.report_text.proofs.parts.add_place.Goals as goal

pub returns-clause-ok : goal.returns-clause-ok
unfolding place_text
returns-clause-ok c =
    Adds-join (Adds-join (Adds-join (Adds-join (Adds-join c.in_ok-add_bytes.ensures.ok c.in_ok-add_columns.ensures.ok) c.in_ok-add_bytes-2.ensures.ok) c.in_ok-add_row.ensures.ok) c.in_ok-add_spaced.ensures.ok) c.in_ok-add_bytes-3.ensures.ok

pub returns-in_err-add_bytes-clause-err : goal.returns-in_err-add_bytes-clause-err
unfolding place_text
returns-in_err-add_bytes-clause-err c =
    at_exit _ (AddsFront-cut (codes "\n") (AddsFront-cut (count_text c.args.place.now.col) (AddsFront-cut (row_text c.args.place.now.row) (AddsFront-cut (codes "\nat ") (AddsFront-cut (each_text count_text c.args.basis.now) (AddsFront-none (codes "basis") c.in_err-add_bytes.ensures.err))))))

pub returns-in_err-add_columns-clause-err : goal.returns-in_err-add_columns-clause-err
unfolding place_text
returns-in_err-add_columns-clause-err c =
    at_exit _ (AddsFront-cut (codes "\n") (AddsFront-cut (count_text c.args.place.now.col) (AddsFront-cut (row_text c.args.place.now.row) (AddsFront-cut (codes "\nat ") (AddsFront-behind c.in_ok-add_bytes.ensures.ok c.in_err-add_columns.ensures.err)))))

pub returns-in_err-add_bytes-2-clause-err : goal.returns-in_err-add_bytes-2-clause-err
unfolding place_text
returns-in_err-add_bytes-2-clause-err c =
    at_exit _ (AddsFront-cut (codes "\n") (AddsFront-cut (count_text c.args.place.now.col) (AddsFront-cut (row_text c.args.place.now.row) (AddsFront-behind (Adds-join c.in_ok-add_bytes.ensures.ok c.in_ok-add_columns.ensures.ok) (AddsFront-none (codes "\nat ") c.in_err-add_bytes-2.ensures.err)))))

pub returns-in_err-add_row-clause-err : goal.returns-in_err-add_row-clause-err
unfolding place_text
returns-in_err-add_row-clause-err c =
    at_exit _ (AddsFront-cut (codes "\n") (AddsFront-cut (count_text c.args.place.now.col) (AddsFront-behind (Adds-join (Adds-join c.in_ok-add_bytes.ensures.ok c.in_ok-add_columns.ensures.ok) c.in_ok-add_bytes-2.ensures.ok) c.in_err-add_row.ensures.err)))

pub returns-in_err-add_spaced-clause-err : goal.returns-in_err-add_spaced-clause-err
unfolding place_text
returns-in_err-add_spaced-clause-err c =
    at_exit _ (AddsFront-cut (codes "\n") (AddsFront-behind (Adds-join (Adds-join (Adds-join c.in_ok-add_bytes.ensures.ok c.in_ok-add_columns.ensures.ok) c.in_ok-add_bytes-2.ensures.ok) c.in_ok-add_row.ensures.ok) c.in_err-add_spaced.ensures.err))

pub returns-in_err-add_bytes-3-clause-err : goal.returns-in_err-add_bytes-3-clause-err
unfolding place_text
returns-in_err-add_bytes-3-clause-err c =
    at_exit _ (AddsFront-behind (Adds-join (Adds-join (Adds-join (Adds-join c.in_ok-add_bytes.ensures.ok c.in_ok-add_columns.ensures.ok) c.in_ok-add_bytes-2.ensures.ok) c.in_ok-add_row.ensures.ok) c.in_ok-add_spaced.ensures.ok) (AddsFront-none (codes "\n") c.in_err-add_bytes-3.ensures.err))
