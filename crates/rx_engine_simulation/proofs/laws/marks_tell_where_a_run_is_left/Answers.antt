use Rattle.rx_engine_simulation.proofs.Arriving.{behind_closed, behind_statement, behind_end, behind_jump}
use Rattle.rx_engine_simulation.proofs.laws.marks_tell_where_a_run_is_left.Goals as goal

pub returns-clause-statements : goal.returns-clause-statements
returns-clause-statements c = λ g K u r p rest h a. behind_closed g K u r p rest a

pub returns-clause-last : goal.returns-clause-last
returns-clause-last c = λ g K u r e p rest h a. behind_statement g K u r e p rest a

pub returns-clause-end : goal.returns-clause-end
returns-clause-end c = λ g K u r m e rest h a. behind_end g K u r m e rest a

pub returns-clause-jump : goal.returns-clause-jump
returns-clause-jump c = λ g K u q e h a. behind_jump g K u q e a
