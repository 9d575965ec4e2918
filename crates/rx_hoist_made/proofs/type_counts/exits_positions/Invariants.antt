use Rattle.std.proofs.Common.{◌≡◌, ◌≤◌, ◌+◌, map, drop}
use Rattle.rx_tree.specs.PlainOf.{plain-Program}
use Rattle.rx_hoist_made.specs.Counts.{capped}
use Rattle.rx_hoist_plan.specs.PlainPlan.{plain-Leaving, plain-Plan}
use Rattle.rx_hoist_extraction.specs.NewEnum.{all_fields}
use Rattle.rx_hoist_extraction.specs.WrittenTypes.{positions_of}
use Rattle.rx_hoist_made.proofs.type_counts.exits_positions.Given as goal

abbrev pub invariant-loop-leaving : goal.invariant-loop-leaving
invariant-loop-leaving l =
    record {
      same : capped (l.total + positions_of (plain-Program l.program) (all_fields (plain-Plan l.plan) (map plain-Leaving (drop l.leaving-index l.exits)))) ≡ capped (positions_of (plain-Program l.program) (all_fields (plain-Plan l.plan) (map plain-Leaving l.exits)));
      small : l.total ≤ 18446744073709551615;
    }
