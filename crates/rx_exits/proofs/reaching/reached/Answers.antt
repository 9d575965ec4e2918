use Rattle.rx_exits.proofs.reaching.reached.Goals as goal

pub returns-in-Ok : goal.returns-in-Ok
returns-in-Ok c A K = c.answer.ensures A (c.in-Ok.ensures A K)
