use Rattle.rx_repair.proofs.Accepting.{lacking, lacked}
use Rattle.rx_repair.proofs.Existing.{least_sets, are_least}
use Rattle.rx_repair.proofs.Listing.{below_ordered, least_list, are_listed}
use Rattle.rx_repair.proofs.Lists.{one_list}
use Rattle.rx_repair.proofs.bounds_laws.least_bounds_are_missing.Goals as goal

pub returns-clause-exist : goal.returns-clause-exist
returns-clause-exist c C g = (least_list C g, are_listed C g)

pub returns-clause-one : goal.returns-clause-one
returns-clause-one c = one_list

pub returns-clause-missing : goal.returns-clause-missing
returns-clause-missing c C g none l k = (lacking C g none (least_sets C g) (are_least C g) l k, lacked C g none (least_sets C g) (are_least C g) l k)

pub returns-clause-in_order : goal.returns-clause-in_order
returns-clause-in_order c = below_ordered
