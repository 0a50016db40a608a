-- A block with no polygon is one word and its part.
use Rattle.report_text.specs.ReportText.{block_text}
use Rattle.report_text.proofs.Items.{after}
use Rattle.report_text.proofs.blocks.add_block.Goals as goal

pub returns-in_ok-add_bytes-in-Empty : goal.returns-in_ok-add_bytes-in-Empty
unfolding block_text
returns-in_ok-add_bytes-in-Empty c = rw c.in-Empty.is (after _ _ _ c.in_ok-add_bytes-in-Empty.ensures.ok c.add_multipliers.ensures.ok)

pub returns-in_ok-add_bytes-in-TooWide : goal.returns-in_ok-add_bytes-in-TooWide
unfolding block_text
returns-in_ok-add_bytes-in-TooWide c = rw c.in-TooWide.is (after _ _ _ c.in_ok-add_bytes-in-TooWide.ensures.ok c.add_place.ensures.ok)
