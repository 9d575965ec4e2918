use Rattle.rx_exits_plan.proofs.Way.{comes_by, shows_there}
use Rattle.rx_exits_plan.proofs.marks_laws.marks_are_in_the_block_of_the_run.Goals as goal

pub returns-clause-came : goal.returns-clause-came
returns-clause-came c f r ls p w h a = comes_by f r ls p w h a

pub returns-clause-held : goal.returns-clause-held
returns-clause-held c f r ls p s front us i h = shows_there f r ls p s front us i h
