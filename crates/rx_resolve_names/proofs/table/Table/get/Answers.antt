use Rattle.std.proofs.Common.{ap, ◌∙◌}
use Rattle.rx_resolve_names.specs.Scopes.{declared_as}
use Rattle.rx_resolve_names.proofs.table.Table.get.Goals as goal
use Rattle.rx_resolve_names.proofs.Lookups.{lookup_declared}

pub returns : goal.returns
returns c = c.copied.ensures ∙ c.get.ensures.value ∙ lookup_declared (λ n. n.now) c.args.name.now c.self.inside.names.entries ∙ ap (λ l. declared_as l c.args.name.now) c.self.view_is
