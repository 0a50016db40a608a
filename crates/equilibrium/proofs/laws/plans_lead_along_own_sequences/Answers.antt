use Rattle.equilibrium.proofs.Descents.{leads_plays, plays_leads}
use Rattle.equilibrium.proofs.laws.plans_lead_along_own_sequences.Goals as goal

pub returns : goal.returns
returns c = λ side g rules plan set. (leads_plays side g rules plan set, plays_leads side g rules plan set)
