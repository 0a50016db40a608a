-- Another side keeps all ranges.
use Rattle.std.proofs.Common.{refl}
use Rattle.polygon_sweep.proofs.Growing.{with_side}
use Rattle.polygon_sweep.proofs.sweeps.add_side.Goals as goal

pub returns-clause-kept : goal.returns-clause-kept
returns-clause-kept c = λ lp swept is. with_side lp c.args.swept.now _ c.args.side refl c.in_ok-push.ensures.ok swept is
