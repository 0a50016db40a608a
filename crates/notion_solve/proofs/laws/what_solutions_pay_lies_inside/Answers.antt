use Rattle.notion_solve.proofs.Inside.{inside, shown_at}
use Rattle.notion_solve.proofs.laws.what_solutions_pay_lies_inside.Goals as goal

pub returns : goal.returns
returns c = λ g p lp corners sides total x game program fractions shown positive solution k side at.
    inside g lp corners side total x game program fractions (shown_at g lp corners sides k side shown.1 at) solution
