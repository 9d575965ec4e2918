use Rattle.std.proofs.Common.{◌≡◌, ◌≤◌, ◌+◌, map, drop}
use Rattle.rx_typed.specs.Types.{shapes_of, sum_of_parts}
use Rattle.rx_typed_declarations.specs.Sizes.{told}
use Rattle.rx_hoist_plan.specs.PlainPlan.{plain-Variable}
use Rattle.rx_hoist_extraction.specs.Values.{variables_held, types_of}
use Rattle.rx_hoist_made.specs.Counts.{capped}
use Rattle.rx_hoist.proofs.limits.with_outs.Given as goal

abbrev pub invariant-loop-out : goal.invariant-loop-out
invariant-loop-out l =
    record {
      same : capped (l.total + sum_of_parts (told l.sizes) (shapes_of (types_of (variables_held (map plain-Variable (drop l.out-index l.outs))))))
          ≡ capped (l.fn.number + sum_of_parts (told l.sizes) (shapes_of (types_of (variables_held (map plain-Variable l.outs)))));
      small : l.total ≤ 18446744073709551615;
    }
