use Rattle.std.proofs.Common.{◌≡◌, map, take}
use Rattle.rx_tree.specs.PlainOf.{plain-Program, plain-TypeText}
use Rattle.rx_typed.specs.PlainTypes.{plain-Ty}
use Rattle.rx_hoist_made.specs.Rows.{elideds}
use Rattle.rx_hoist_made.proofs.written_types.+elided.Given as goal

abbrev pub invariant-elided_all-loop-part : goal.invariant-elided_all-loop-part
invariant-elided_all-loop-part l =
    map plain-TypeText l.all ≡ elideds (plain-Program l.program) l.span (map plain-Ty (take l.part-index l.parts))
