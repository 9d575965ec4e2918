use Rattle.std.proofs.Common.{◌≡◌, ◌≤◌, ◌+◌, map, drop}
use Rattle.rx_typed.specs.Types.{sum_of_parts, shapes_of}
use Rattle.rx_typed.specs.PlainTypes.{plain-Ty}
use Rattle.rx_typed_declarations.specs.Sizes.{capped, told}
use Rattle.rx_facts_tables.proofs.counting.+parts.Given as goal

abbrev pub invariant-sum_of-loop-ty : goal.invariant-sum_of-loop-ty
invariant-sum_of-loop-ty l = record {
  same : capped (l.total + sum_of_parts (told l.sizes) (shapes_of (map plain-Ty (drop l.ty-index l.parts))))
      ≡ capped (sum_of_parts (told l.fn.sizes) (shapes_of (map plain-Ty l.fn.parts)));
  small : l.total ≤ 18446744073709551615;
}
