use Rattle.lp_form.proofs.Certified.{bounded_along}
use Rattle.lp_form.proofs.laws.certified_directions_are_bounded.Goals as goal

pub returns : goal.returns
returns c = λ lp a b den first second total x program certify solution. bounded_along lp program total x solution a b den first second certify
