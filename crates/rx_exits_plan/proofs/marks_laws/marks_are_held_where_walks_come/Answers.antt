use Rattle.rx_exits_plan.proofs.BehindLemmas.{comes_to_mark, mark_is_behind}
use Rattle.rx_exits_plan.proofs.marks_laws.marks_are_held_where_walks_come.Goals as goal

pub returns-clause-held : goal.returns-clause-held
returns-clause-held c ss p b n d w t = comes_to_mark ss p b n d w t

pub returns-clause-came : goal.returns-clause-came
returns-clause-came c ss p b n d u o f h m = mark_is_behind ss p b n d u o f h m
