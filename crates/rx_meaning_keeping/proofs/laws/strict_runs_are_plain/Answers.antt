use Rattle.rx_meaning_keeping.proofs.Alongside.{strict_runs_are_plain, plain_where_never_behind}
use Rattle.rx_meaning_keeping.proofs.laws.strict_runs_are_plain.Goals as goal

pub returns-clause-each : goal.returns-clause-each
returns-clause-each c = strict_runs_are_plain

pub returns-clause-without_references : goal.returns-clause-without_references
returns-clause-without_references c = plain_where_never_behind
