use Rattle.plain_programs.proofs.equilibria.none_gains.Goals as goal

pub returns : goal.returns
returns c = rw c.new.ensures.items at c.in_ok-none.ensures
