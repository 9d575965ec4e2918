use Rattle.rx_engine_names.proofs.StandingCalls.{call_stands, assignment_stands, let_stands, tail_stands}
use Rattle.rx_engine_names.proofs.laws.calls_stand.Goals as goal

pub returns : goal.returns
returns c = record {
  alone = λ a inside around made start scope f h names behind tail. call_stands a inside around made start scope f h names behind tail;
  assigned = λ a inside around made start scope f h names behind tail. assignment_stands a inside around made start scope f h names behind tail;
  bound = λ a inside around made start scope f h names behind tail. let_stands a inside around made start scope f h names behind tail;
  last = tail_stands;
}
