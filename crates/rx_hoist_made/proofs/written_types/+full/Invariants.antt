use Rattle.std.proofs.Common.{◌≡◌, ◌++◌, map, drop}
use Rattle.rx_tree.specs.PlainOf.{plain-Program, plain-TypeText}
use Rattle.rx_typed.specs.PlainTypes.{plain-Ty}
use Rattle.rx_hoist_extraction.specs.WrittenTypes.{positions_of}
use Rattle.rx_hoist_made.specs.Rows.{fulls, nth_name}
use Rattle.rx_hoist_made.proofs.written_types.+full.Given as goal

abbrev pub invariant-full_all-loop-part : goal.invariant-full_all-loop-part
invariant-full_all-loop-part l =
    record {
      made : map plain-TypeText l.all ++ fulls (plain-Program l.program) l.span (nth_name l.row) 0 (map plain-Ty (drop l.part-index l.parts))
          ≡ fulls (plain-Program l.program) l.span (nth_name l.fn.row) 0 (map plain-Ty l.parts);
      rest : drop (positions_of (plain-Program l.program) (map plain-Ty (drop l.part-index l.parts))) l.row
          ≡ drop (positions_of (plain-Program l.program) (map plain-Ty l.parts)) l.fn.row;
    }
