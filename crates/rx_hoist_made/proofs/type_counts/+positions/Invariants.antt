use Rattle.std.proofs.Common.{◌≡◌, ◌≤◌, ◌+◌, map, drop}
use Rattle.rx_tree.specs.PlainOf.{plain-Program}
use Rattle.rx_hoist_made.specs.Counts.{capped}
use Rattle.rx_typed.specs.PlainTypes.{plain-Ty}
use Rattle.rx_hoist_extraction.specs.WrittenTypes.{positions_of}
use Rattle.rx_hoist_made.proofs.type_counts.+positions.Given as goal

abbrev pub invariant-all_positions-loop-ty : goal.invariant-all_positions-loop-ty
invariant-all_positions-loop-ty l =
    record {
      same : capped (l.total + positions_of (plain-Program l.program) (map plain-Ty (drop l.ty-index l.parts))) ≡ capped (positions_of (plain-Program l.fn.program) (map plain-Ty l.fn.parts));
      small : l.total ≤ 18446744073709551615;
    }
