use Rattle.rx_repair.proofs.OtherBounds.{same_solutions, same_least, same_needed}
use Rattle.rx_repair.proofs.bounds_laws.own_bounds_ask_nothing.Goals as goal

pub returns-clause-solutions : goal.returns-clause-solutions
returns-clause-solutions c D P f bs never = same_solutions D P f bs never

pub returns-clause-least : goal.returns-clause-least
returns-clause-least c D P f bs never = same_least D P f bs never

pub returns-clause-needed : goal.returns-clause-needed
returns-clause-needed c D P f bs never = same_needed D P f bs never
