use Rattle.rx_engine_names.proofs.NewPrograms.{enum_stands}
use Rattle.rx_engine_names.proofs.NewEnums.{every_exit_named, exits_named}
use Rattle.rx_engine_names.proofs.laws.exits_stand.Goals as goal

pub returns : goal.returns
returns c = record {
  found = λ p r plan bounds s f there free loops scope. enum_stands p r plan bounds s f there free;
  meant = λ p q v stands apart place inside there. exits_named p q v stands apart place inside there;
  every = λ p q v stands apart place inside there h. every_exit_named p q v stands apart place inside there h;
}
