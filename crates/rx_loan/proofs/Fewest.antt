-- What some sets accept, the least accept.
use Rattle.std.proofs.Common.{List}
use Rattle.rx_lower_walks.specs.Graph.{Site}
use Rattle.rx_region.specs.Constraints.{Context}
use Rattle.rx_region.specs.Solutions.{site, end, Sets, AreLeast}
use Rattle.rx_region.proofs.LeastLaws.{least_serves, least_is_within}
use Rattle.rx_loan.specs.Loans.{loans_of}
use Rattle.rx_loan.proofs.Walking.{fewer_legal}
use Rattle.rx_loan.specs.Accepted.{at_sites, AcceptedBy}

pub least_too : (C : Context) (g : List Site) (R S : Sets) → AcceptedBy C g R → AreLeast C g S → AcceptedBy C g S
least_too C g R S accepted least = record {
  solution = least_serves C g S least;
  known = λ l k w v h. accepted.known l k w v (least_is_within C g R accepted.solution l (end k) ((least l (end k)).0 h));
  legal = fewer_legal g (at_sites S) (at_sites R) (loans_of g C.lifetimes.owned)
      (λ r p w h. least_is_within C g R accepted.solution r (site p) ((least r (site p)).0 h)) accepted.legal;
}
