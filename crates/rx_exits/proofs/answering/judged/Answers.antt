use Rattle.rx_exits.proofs.answering.judged.Goals as goal

pub returns-in-Some : goal.returns-in-Some
returns-in-Some c A p F P none = c.in-Some.ensures A p F P none

pub returns-in-None : goal.returns-in-None
returns-in-None c A p F P none = c.in-None.ensures A p F P none
