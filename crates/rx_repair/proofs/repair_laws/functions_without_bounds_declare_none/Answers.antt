use Rattle.rx_repair.proofs.Unbounded.{function_found, none_declared}
use Rattle.rx_repair.proofs.repair_laws.functions_without_bounds_declare_none.Goals as goal

pub returns-clause-found : goal.returns-clause-found
returns-clause-found c p names t typed n s f there = function_found p names t typed n s f there

pub returns-clause-none : goal.returns-clause-none
returns-clause-none c p names t typed n s f there bare g found P = none_declared p names t typed n s f there bare g found P
