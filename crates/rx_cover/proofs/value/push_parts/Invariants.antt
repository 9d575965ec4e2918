use Rattle.std.proofs.Common.{◌≡◌, ◌++◌, drop}
use Rattle.rx_cover.specs.PlainValue.{plain_values, nodes_of}
use Rattle.rx_cover.proofs.value.push_parts.Given as goal

abbrev pub invariant-loop-part : goal.invariant-loop-part
invariant-loop-part l = l.row ++ nodes_of (plain_values (drop l.part-index l.parts)) ≡ l.fn.row ++ nodes_of (plain_values l.fn.parts)
