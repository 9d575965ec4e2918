use Rattle.std.proofs.Common.{◌≡◌, ◌↔◌, true, sym, subst}
use Rattle.rx_exits.specs.Choosing.{IsReadyFor, IsOf, Means}
use Rattle.rx_exits.proofs.choosing.is_chosen.Goals as goal

pub is_param-requires : goal.is_param-requires
is_param-requires c = subst IsReadyFor c.in-Param.is c.requires

pub is_live_at-requires : goal.is_live_at-requires
is_live_at-requires c = subst IsReadyFor c.in-LiveAt.is c.requires

pub returns-in-Param : goal.returns-in-Param
returns-in-Param c A ps of =
    subst (λ d. (c.is_param.result ≡ true) ↔ Means A ps d c.args.variable) (sym c.in-Param.is) (c.is_param.ensures A (subst (IsOf A ps) c.in-Param.is of))

pub returns-in-Local : goal.returns-in-Local
returns-in-Local c A ps of =
    subst (λ d. (c.is_local.result ≡ true) ↔ Means A ps d c.args.variable) (sym c.in-Local.is) (c.is_local.ensures A (subst (IsOf A ps) c.in-Local.is of))

pub returns-in-LiveAt : goal.returns-in-LiveAt
returns-in-LiveAt c A ps of =
    subst (λ d. (c.is_live_at.result ≡ true) ↔ Means A ps d c.args.variable) (sym c.in-LiveAt.is) (c.is_live_at.ensures A ps (subst (IsOf A ps) c.in-LiveAt.is of))
