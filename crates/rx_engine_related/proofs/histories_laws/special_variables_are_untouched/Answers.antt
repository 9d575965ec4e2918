use Rattle.rx_engine_related.proofs.Untouched.{unlent, untouched}
use Rattle.rx_engine_related.proofs.histories_laws.special_variables_are_untouched.Goals as goal

pub returns-clause-untouched : goal.returns-clause-untouched
returns-clause-untouched c A muts acc k p n = untouched A muts acc k p n k.params

pub returns-clause-unlent : goal.returns-clause-unlent
returns-clause-unlent c A muts acc k p n x i m h q b = unlent A muts acc k p n k.params x i m h q b
