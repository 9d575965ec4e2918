use Rattle.std.proofs.Common.{inl}
use Rattle.rx_exits.proofs.ReachingLemmas.{tells_true, tells_false, tells_other}
use Rattle.rx_exits.proofs.reaching.is_to_end.Goals as goal

pub returns-then-has_end : goal.returns-then-has_end
returns-then-has_end c = inl (tells_true _ _ c.if-has_end.true c.has_end.ensures)

pub returns-else-has_end : goal.returns-else-has_end
returns-else-has_end c = tells_other _ _ _ (tells_false _ _ c.if-has_end.false c.has_end.ensures) c.has_value.ensures
