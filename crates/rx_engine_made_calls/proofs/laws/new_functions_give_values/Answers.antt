use Rattle.rx_engine_made_calls.proofs.TailEnds.{value_bound, value_in_next}
use Rattle.rx_engine_made_calls.proofs.laws.new_functions_give_values.Goals as goal

pub returns-clause-in_variant : goal.returns-clause-in_variant
returns-clause-in_variant c = λ E q V M N W R items gain U others J vs xs x e g h f n t e' ds p z s rows v parts met num like reads. value_in_next E q V M N W R items gain U others J f n t e' ds p z s rows v parts met num like reads

pub returns-clause-in_tuple : goal.returns-clause-in_tuple
returns-clause-in_tuple k = λ E q V M N W R items gain U others J vs xs e g o os n j b m c x u w e' p z s rows outs i new num like reads. value_bound E q V M N W R items gain U others J n j b m c x u w e' p z s rows outs i new num like reads
