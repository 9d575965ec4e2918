use Rattle.rx_resolve_laws.proofs.Programs.{meant_there}
use Rattle.rx_resolve_laws.proofs.laws.names_ignore_spans.Goals as goal

pub returns : goal.returns
returns c p q e ns m = meant_there p q e ns m
