use Rattle.rx_engine_changed.proofs.OneCall.{call_numbered, end_numbered}
use Rattle.rx_engine_changed.proofs.laws.functions_with_a_call_have_one_numbering.Goals as goal

pub returns-clause-within : goal.returns-clause-within
returns-clause-within k p q c n m s f r pl G t stands e past like = call_numbered p q c n m s f r pl G t stands e past like

pub returns-clause-at_the_end : goal.returns-clause-at_the_end
returns-clause-at_the_end k p q c n m s f r pl G t stands e past like = end_numbered p q c n m s f r pl G t stands e past like
