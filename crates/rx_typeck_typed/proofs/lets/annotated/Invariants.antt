use Rattle.std.proofs.Common.{◌≡◌, ◌++◌, map, drop}
use Rattle.rx_tree.specs.PlainOf.{plain-Item}
use Rattle.rx_typeck_elaborate_parts.specs.Entries.{plain_annotation}
use Rattle.rx_typeck_typed.specs.Bindings.{of_lets, annotated}
use Rattle.rx_typeck_typed.specs.Walks.{plain-Variable, declared, program}
use Rattle.rx_typeck_typed.proofs.lets.annotated.Given as goal

abbrev pub invariant-loop-annotation : goal.invariant-loop-annotation
invariant-loop-annotation l =
    map plain-Variable l.all ++ of_lets (program l.lets) (declared l.lets) l.lets.free (map plain_annotation (drop l.annotation-index l.annotations))
    ≡ annotated (map plain-Item l.fn.items) l.fn.decls.items l.fn.item (map plain_annotation l.fn.annotations)
