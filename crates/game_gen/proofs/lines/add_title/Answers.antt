-- Each piece stands behind the ones before it.
use Rattle.text_pieces.proofs.Pieces.{Adds-join}
use Rattle.game_gen.specs.GameText.{title}
use Rattle.game_gen.proofs.lines.add_title.Goals as goal

pub returns : goal.returns
unfolding title
returns c =
    let name = rw c.kind_text.ensures at c.in_ok-add_bytes-2.ensures.ok in
    Adds-join (Adds-join c.in_ok-add_bytes.ensures.ok name) c.in_ok-add_bytes-3.ensures.ok
