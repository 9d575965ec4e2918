use Rattle.rx_repair.proofs.Asked.{solution_too, least_grows, scope_grows, legal_too}
use Rattle.rx_repair.proofs.bounds_laws.fewer_pairs_ask_less.Goals as goal

pub returns-clause-solutions : goal.returns-clause-solutions
returns-clause-solutions c C K g R a s = solution_too C K g a R s

pub returns-clause-least : goal.returns-clause-least
returns-clause-least c C K g a = least_grows C K g a

pub returns-clause-scopes : goal.returns-clause-scopes
returns-clause-scopes c C K g R S a = scope_grows C K g a R S

pub returns-clause-legal : goal.returns-clause-legal
returns-clause-legal c C K g R S a = legal_too C K g a R S
