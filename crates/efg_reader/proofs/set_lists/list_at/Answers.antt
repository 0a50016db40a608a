use Rattle.std.proofs.Common.{sym}
use Rattle.efg_reader.proofs.set_lists.list_at.Goals as goal

pub returns : goal.returns
returns c = (c.in-Some.field-0-0.now, sym c.in-Some.ensures.entry, c.in-Some.ensures.value)
