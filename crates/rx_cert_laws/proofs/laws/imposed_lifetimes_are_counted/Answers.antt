use Rattle.rx_lower_lifetimes.specs.Lowered.{lifetimes}
use Rattle.rx_lower.specs.Functions.{function}
use Rattle.rx_lower_walks.specs.Text.{actions_of}
use Rattle.rx_region.specs.Constraints.{imposed}
use Rattle.rx_facts.specs.Functions.{sites_of}
use Rattle.rx_check.specs.Contexts.{context_of}
use Rattle.rx_cert_laws.proofs.Counted.{pair_below, pairs_counted}
use Rattle.rx_cert_laws.proofs.laws.imposed_lifetimes_are_counted.Goals as goal

pub returns : goal.returns
returns c D P f well some l k h = pair_below (lifetimes (function D f)).regions (imposed (context_of D P f) (actions_of (sites_of f))) l k
    (pairs_counted D P f well some) h
