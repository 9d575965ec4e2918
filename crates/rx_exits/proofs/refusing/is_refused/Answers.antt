use Rattle.std.proofs.Common.{sym, subst}
use Rattle.rx_exits.specs.Reaching.{Tells}
use Rattle.rx_exits.specs.Telling.{IsReadyFor, IsOf, Refused}
use Rattle.rx_exits.proofs.refusing.is_refused.Goals as goal

pub is_mixed-requires : goal.is_mixed-requires
is_mixed-requires c = subst IsReadyFor c.in-Mixed.is c.requires

pub is_partly-requires : goal.is_partly-requires
is_partly-requires c = subst IsReadyFor c.in-Partly.is c.requires

pub returns-in-Mixed : goal.returns-in-Mixed
returns-in-Mixed c A of = subst (λ d. Tells c.is_mixed.result (Refused A d c.args.variable)) (sym c.in-Mixed.is) (c.is_mixed.ensures A (subst (IsOf A) c.in-Mixed.is of))

pub returns-in-Partly : goal.returns-in-Partly
returns-in-Partly c A of = subst (λ d. Tells c.is_partly.result (Refused A d c.args.variable)) (sym c.in-Partly.is) (c.is_partly.ensures A (subst (IsOf A) c.in-Partly.is of))

pub returns-in-Shadowed : goal.returns-in-Shadowed
returns-in-Shadowed c A of = subst (λ d. Tells c.is_shadowed.result (Refused A d c.args.variable)) (sym c.in-Shadowed.is) c.is_shadowed.ensures
