use Rattle.rx_engine_changed.proofs.Quiet.{none_waits_at_run, none_waits_there}
use Rattle.rx_engine_changed.proofs.ToldLets.{told_are_quiet}
use Rattle.rx_engine_changed.proofs.laws.nothing_waits_behind_quiet_parts.Goals as goal

pub returns-clause-part : goal.returns-clause-part
returns-clause-part k s f ns x c h q = none_waits_there s f ns x c h q

pub returns-clause-run : goal.returns-clause-run
returns-clause-run k s f r ns c x q front = none_waits_at_run s f r ns c x q front

pub returns-clause-told : goal.returns-clause-told
returns-clause-told k w told = told_are_quiet w told
