use Rattle.equilibrium.proofs.Descents.{leads_by_recall}
use Rattle.equilibrium.proofs.laws.plans_lead_by_recall.Goals as goal

pub returns : goal.returns
returns c = leads_by_recall
