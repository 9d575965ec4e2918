use Rattle.std.proofs.Common.{◌≡◌, ◌++◌, map, drop}
use Rattle.rx_tree.specs.PlainOf.{plain-Pattern, plain-FieldPattern, patterns_of, field_patterns_of}
use Rattle.rx_typed.specs.Naming.{of_patterns, of_field_patterns}
use Rattle.rx_typed.specs.Regions.{region-Ty}
use Rattle.rx_typeck_typed.specs.Bindings as spec
use Rattle.rx_typeck_typed.specs.Walks.{plain-Variable, declared}
use Rattle.rx_typeck_typed.proofs.lets.Lets.+pattern.Given as goal

abbrev pub invariant-parts-loop-number : goal.invariant-parts-loop-number
invariant-parts-loop-number l =
    let left = of_patterns (patterns_of (map plain-Pattern (drop l.number l.parts))) l.cursor in
    let whole = of_patterns (patterns_of (map plain-Pattern l.fn.parts)) l.fn.cursor in
    (map plain-Variable l.all ++ spec.parts (declared l.self) l.self.free l.round l.variant l.number left.0 (region-Ty l.ty)
    ≡ map plain-Variable l.fn.all ++ spec.parts (declared l.fn.self) l.fn.self.free l.fn.round l.fn.variant 0 whole.0 (region-Ty l.fn.ty))
    × (left.1 ≡ whole.1)

abbrev pub invariant-fields-loop-field : goal.invariant-fields-loop-field
invariant-fields-loop-field l =
    let left = of_field_patterns (field_patterns_of (map plain-FieldPattern (drop l.field-index l.fields))) l.cursor in
    let whole = of_field_patterns (field_patterns_of (map plain-FieldPattern l.fn.fields)) l.fn.cursor in
    (map plain-Variable l.all ++ spec.fields (declared l.self) l.self.free l.round l.item left.0 (region-Ty l.ty)
    ≡ map plain-Variable l.fn.all ++ spec.fields (declared l.fn.self) l.fn.self.free l.fn.round l.fn.item whole.0 (region-Ty l.fn.ty))
    × (left.1 ≡ whole.1)
