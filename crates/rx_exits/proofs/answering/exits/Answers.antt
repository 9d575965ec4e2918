use Rattle.rx_exits.proofs.answering.exits.Goals as goal

pub returns-in-Ok : goal.returns-in-Ok
returns-in-Ok c A K fn = c.exits_by-answer.ensures A K fn (c.in-Ok.ensures A K.run K.home)
