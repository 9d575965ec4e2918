use Rattle.rx_exits_plan.proofs.Marks.{none_new, none_lost}
use Rattle.rx_exits_plan.proofs.marks_laws.marks_change_no_walk.Goals as goal

pub returns-clause-none_new : goal.returns-clause-none_new
returns-clause-none_new c f r ls u h = none_new f r ls u h

pub returns-clause-none_lost : goal.returns-clause-none_lost
returns-clause-none_lost c f r ls w h = none_lost f r ls w h
