use Rattle.rx_repair.proofs.RenamingAsking.{imposed_same}
use Rattle.rx_repair.proofs.Verdicts.{solutions_same, least_same, missing_same, bounds_same, loans_same, scopes_same, legal_same, accepted_same}
use Rattle.rx_repair.proofs.renaming_laws.renamings_change_no_verdict.Goals as goal

pub returns : goal.returns
returns c = record {
  asked = λ C g fit r. imposed_same r.to C _ fit;
  solutions = solutions_same;
  least = least_same;
  missing = missing_same;
  bounds = bounds_same;
  loans = λ C g r. loans_same r.to g C.lifetimes.owned;
  scopes = scopes_same;
  legal = legal_same;
  accepted = accepted_same;
}
