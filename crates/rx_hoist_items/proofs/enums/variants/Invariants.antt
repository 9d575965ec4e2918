use Rattle.std.proofs.Common.{◌≡◌, ◌++◌, map, drop}
use Rattle.rx_tree.specs.PlainOf.{plain-EnumVariant, plain-Program}
use Rattle.rx_hoist_plan.specs.PlainPlan.{plain-Leaving, plain-Plan}
use Rattle.rx_hoist_made.specs.Rows.{nth_name}
use Rattle.rx_hoist_items.specs.Signatures as signatures
use Rattle.rx_hoist_items.proofs.enums.variants.Given as goal

abbrev pub invariant-loop-leaving : goal.invariant-loop-leaving
invariant-loop-leaving l =
    map plain-EnumVariant l.all ++ signatures.variants (plain-Program l.program) (plain-Plan l.plan) l.span (nth_name l.row) 0 (map plain-Leaving (drop l.leaving-index l.exits))
    ≡ signatures.variants (plain-Program l.program) (plain-Plan l.plan) l.span (nth_name l.fn.row) 0 (map plain-Leaving l.exits)
