use Rattle.command_words.proofs.options.Given.with_labelled.Goals as goal

pub returns-in-Kind : goal.returns-in-Kind
returns-in-Kind c = rw c.in-Kind.is c.with_kind.ensures

pub returns-in-Size : goal.returns-in-Size
returns-in-Size c = rw c.in-Size.is c.with_size.ensures

pub returns-in-Seed : goal.returns-in-Seed
returns-in-Seed c = rw c.in-Seed.is c.with_seed.ensures

pub returns-in-Notion : goal.returns-in-Notion
returns-in-Notion c = rw c.in-Notion.is c.with_notion.ensures
