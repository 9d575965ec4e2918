use Rattle.std.proofs.Common.{inl}
use Rattle.rx_exits.proofs.ReachingLemmas.{tells_true, tells_false, tells_other}
use Rattle.rx_exits.proofs.refusing.is_partly.Goals as goal

pub returns-then-is_there_in_part : goal.returns-then-is_there_in_part
returns-then-is_there_in_part c A p = inl (tells_true _ _ c.if-is_there_in_part.true (c.is_there_in_part.ensures A p))

pub returns-else-is_there_in_part : goal.returns-else-is_there_in_part
returns-else-is_there_in_part c A p = tells_other _ _ _ (tells_false _ _ c.if-is_there_in_part.false (c.is_there_in_part.ensures A p)) (c.is_out_in_part.ensures A p)
