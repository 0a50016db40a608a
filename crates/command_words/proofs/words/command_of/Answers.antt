use Rattle.command_words.proofs.words.command_of.Goals as goal

pub returns-in-Gen : goal.returns-in-Gen
returns-in-Gen c = rw c.in-Gen.is c.gen_of.ensures

pub returns-in-Work : goal.returns-in-Work
returns-in-Work c = rw c.in-Work.is c.work_of.ensures
