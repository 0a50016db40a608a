-- The line feed behind the basis goes with the next line's word.
use Rattle.std.proofs.Common.{◌++◌, codes}
use Rattle.report_text.specs.Joined.{each_text}
use Rattle.report_text.specs.PartText.{behind_space, count_text, place_text}
use Rattle.report_text.specs.ReportText.{block_text}
use Rattle.report_reader.proofs.Reading.{Reads-behind, Reads-join, Reads-last}
use Rattle.report_reader.proofs.blocks.read_too_wide.Goals as goal

pub returns-clause-text : goal.returns-clause-text
unfolding block_text place_text behind_space
returns-clause-text c =
    let columns = codes "\nbasis" ++ each_text count_text c.in_ok-basis.basis in
    let basis = Reads-join (Reads-join c.in_ok-expect.ensures.text c.in_ok-expect-2.ensures.text) c.in_ok-basis.ensures.text in
    let at = Reads-last columns (codes "\n") (codes "at ") basis (Reads-join c.in_ok-expect-3.ensures.text c.in_ok-expect-4.ensures.text) in
    let place = Reads-join (Reads-join at c.in_ok-row.ensures.text) (Reads-join c.in_ok-expect-5.ensures.text c.in_ok-col.ensures.text) in
    Reads-behind (codes " toowide") (Reads-join place c.in_ok-expect-6.ensures.text)
