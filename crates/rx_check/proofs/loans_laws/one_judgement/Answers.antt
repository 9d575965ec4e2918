use Rattle.rx_check.proofs.Settling.{borrow_in, lacks_in, meets_in}
use Rattle.rx_check.proofs.loans_laws.one_judgement.Goals as goal

pub returns-clause-accepted : goal.returns-clause-accepted
returns-clause-accepted c p names t u a b = borrow_in t u (c.one_typing.ensures p names t u a b) a.recorded b.recorded

pub returns-clause-lacks : goal.returns-clause-lacks
returns-clause-lacks c p names t u e a b = lacks_in t u (c.one_typing.ensures p names t u a b) a.recorded b.recorded e

pub returns-clause-meets : goal.returns-clause-meets
returns-clause-meets c p names t u e a b = meets_in t u (c.one_typing.ensures p names t u a b) a.recorded b.recorded e
