use Rattle.std.proofs.Common.{inl}
use Rattle.rx_exits.proofs.ReachingLemmas.{tells_true, tells_false, tells_other}
use Rattle.rx_exits.proofs.refusing.is_shadowed.Goals as goal

pub returns-then-is_shadowed_at : goal.returns-then-is_shadowed_at
returns-then-is_shadowed_at c = inl (tells_true _ _ c.if-is_shadowed_at.true c.is_shadowed_at.ensures)

pub returns-else-is_shadowed_at : goal.returns-else-is_shadowed_at
returns-else-is_shadowed_at c = tells_other _ _ _ (tells_false _ _ c.if-is_shadowed_at.false c.is_shadowed_at.ensures) c.is_shadowed_at_jump.ensures
