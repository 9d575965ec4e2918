use Rattle.std.proofs.Common.{◌≡◌, ◌≤◌, ◌+◌, map, drop}
use Rattle.rx_typed.specs.Types.{shapes_of, sum_of_parts}
use Rattle.rx_typed_declarations.specs.Sizes.{told}
use Rattle.rx_hoist_plan.specs.PlainPlan.{plain-Leaving, plain-Plan}
use Rattle.rx_hoist_extraction.specs.NewEnum.{all_fields}
use Rattle.rx_hoist_made.specs.Counts.{capped}
use Rattle.rx_hoist.proofs.limits.exits_parts.Given as goal

abbrev pub invariant-loop-leaving : goal.invariant-loop-leaving
invariant-loop-leaving l =
    record {
      same : capped (l.total + sum_of_parts (told l.sizes) (shapes_of (all_fields (plain-Plan l.plan) (map plain-Leaving (drop l.leaving-index l.exits)))))
          ≡ capped (1 + sum_of_parts (told l.sizes) (shapes_of (all_fields (plain-Plan l.plan) (map plain-Leaving l.exits))));
      small : l.total ≤ 18446744073709551615;
    }
