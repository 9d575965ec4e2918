use Rattle.rx_engine_related.proofs.Recombining.{sole_leads}
use Rattle.rx_engine_related.proofs.histories_laws.sole_actions_lead_to_one_place.Goals as goal

pub returns : goal.returns
returns c = sole_leads
