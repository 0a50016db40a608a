use Rattle.lp_form.proofs.Certified.{shown_empty}
use Rattle.lp_form.proofs.laws.shown_programs_are_empty.Goals as goal

pub returns : goal.returns
returns c = λ lp multipliers program shows. shown_empty lp program multipliers shows
