use Rattle.std.proofs.Common.{◌∙◌}
use Rattle.rx_typed_declarations.proofs.VarianceLemmas.{variances_at}
use Rattle.rx_typed_declarations.proofs.invariance.variances.Goals as goal

pub returns : goal.returns
returns c =
    variances_at c.args.items.now c.requires c.as_slice.result.now c.in_ok-order.order c.as_slice-2.result.now
    c.in_ok-table.table.items c.fill.new.table.items (c.as_slice.ensures ∙ c.in_ok-edges.ensures) c.in_ok-order.ensures
    c.as_slice-2.ensures c.in_ok-table.ensures c.in_ok-fill.ensures
