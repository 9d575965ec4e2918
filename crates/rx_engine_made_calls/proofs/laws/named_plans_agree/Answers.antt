use Rattle.rx_engine_made_calls.specs.Plans.{OutIs}
use Rattle.rx_engine_made_calls.proofs.Named.{exits_named, params_named, rows_named}
use Rattle.rx_engine_made_calls.proofs.laws.named_plans_agree.Goals as goal

pub returns-clause-params : goal.returns-clause-params
returns-clause-params c = λ ns t C N q W again R cold A muts xs ms vs e g names types seen. params_named ns t C N q W again R cold A muts xs ms vs e g names types seen

pub returns-clause-outs : goal.returns-clause-outs
returns-clause-outs c = λ ns t G N q W A muts k R xs f. rows_named ns t (OutIs G N q W A muts k R) xs f

pub returns-clause-exits : goal.returns-clause-exits
returns-clause-exits c = λ ns t G N q W A muts k R J ls round E v es told several. exits_named ns t G N q W A muts k R J ls round E v es told several
