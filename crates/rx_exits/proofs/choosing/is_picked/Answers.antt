use Rattle.std.proofs.Common.{sym, ap, ◌∙◌}
use Rattle.rx_exits.specs.Choosing.{picks}
use Rattle.rx_exits.proofs.choosing.is_picked.Goals as goal

pub returns-in-Offered : goal.returns-in-Offered
returns-in-Offered c = c.is_offered.ensures ∙ ap (λ d. picks d c.args.variable) (sym c.in-Offered.is)

pub returns-in-Redeclared : goal.returns-in-Redeclared
returns-in-Redeclared c = c.is_redeclared.ensures ∙ ap (λ d. picks d c.args.variable) (sym c.in-Redeclared.is)

pub returns-in-Loose : goal.returns-in-Loose
returns-in-Loose c = c.is_loose.ensures ∙ ap (λ d. picks d c.args.variable) (sym c.in-Loose.is)
