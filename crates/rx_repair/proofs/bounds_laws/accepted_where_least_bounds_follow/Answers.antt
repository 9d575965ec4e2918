use Rattle.rx_repair.proofs.Accepting.{all_follow, accepted_with, legal_by_least, least_accepted}
use Rattle.rx_repair.proofs.Existing.{least_sets, are_least}
use Rattle.rx_facts.specs.Functions.{sites_of}
use Rattle.rx_check.specs.Contexts.{context_of}
use Rattle.rx_repair.proofs.bounds_laws.accepted_where_least_bounds_follow.Goals as goal

pub returns-clause-exactly : goal.returns-clause-exactly
returns-clause-exactly c D P f bs R never is least legal = (all_follow D P f bs never is, accepted_with D P f bs never is R least legal)

pub returns-clause-refused : goal.returns-clause-refused
returns-clause-refused c D P f bs R never least l p met a = legal_by_least D P f bs never R least a l p met

pub returns-clause-fewest : goal.returns-clause-fewest
returns-clause-fewest c D P f bs ms never is minimal a =
    least_accepted D P f bs ms never is (least_sets (context_of D P f) (sites_of f)) (are_least (context_of D P f) (sites_of f)) minimal a
