use Rattle.rx_engine_made_calls.proofs.Asked.{asks_so, asks_tail_so}
use Rattle.rx_engine_made_calls.proofs.laws.made_calls_meet_what_is_asked.Goals as goal

pub returns-clause-run : goal.returns-clause-run
returns-clause-run c = λ T S A muts k modes J R cold hows g enum unit items gain U names one all y r l m N b after new never. asks_so T S A muts k modes J R cold hows g enum unit items gain U names one all m N b after new never

pub returns-clause-tail : goal.returns-clause-tail
returns-clause-tail c = λ T S A muts k modes J R cold hows g enum unit items gain U names one all y r l e has o m N lasts rest b n F after is back behind new never. asks_tail_so T S A muts k modes J R cold hows g enum unit items gain U names one all m N lasts rest b n F after is back behind new never
