use Rattle.rx_hoist_extraction.proofs.Unchanged.{same, same_body}
use Rattle.rx_hoist_extraction.proofs.laws.kept_is_same.Goals as goal

pub returns-clause-expression : goal.returns-clause-expression
returns-clause-expression c = same

pub returns-clause-block : goal.returns-clause-block
returns-clause-block c = same_body
