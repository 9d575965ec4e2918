use Rattle.rx_hoist_extraction.proofs.Elsewhere.{elsewhere, block_elsewhere}
use Rattle.rx_hoist_extraction.proofs.laws.elsewhere_is_same.Goals as goal

pub returns-clause-expression : goal.returns-clause-expression
returns-clause-expression c = elsewhere

pub returns-clause-block : goal.returns-clause-block
returns-clause-block c = block_elsewhere
