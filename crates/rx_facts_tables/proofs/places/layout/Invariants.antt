use Rattle.std.proofs.Common.{◌≡◌, ◌≤◌, ◌+◌, ◌++◌, map, option_map, drop}
use Rattle.rx_typed.specs.PlainTypes.{plain-Ty}
use Rattle.rx_typed_declarations.specs.Sizes.{told}
use Rattle.rx_facts_tables.specs.Places.{all_parts}
use Rattle.rx_facts_tables.specs.Layouts.{starts_from}
use Rattle.rx_facts_tables.proofs.places.layout.Given as goal

abbrev pub invariant-loop-ty : goal.invariant-loop-ty
invariant-loop-ty l = record {
  starts : l.starts ++ starts_from (told l.frame.sizes.now) l.total (map (option_map plain-Ty) (drop l.ty-index l.frame.types.now))
      ≡ starts_from (told l.frame.sizes.now) 0 (map (option_map plain-Ty) l.frame.types.now);
  total : l.total + all_parts (told l.frame.sizes.now) (map (option_map plain-Ty) (drop l.ty-index l.frame.types.now))
      ≡ all_parts (told l.frame.sizes.now) (map (option_map plain-Ty) l.frame.types.now);
  small : l.total ≤ 4294967295;
}
