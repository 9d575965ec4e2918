use Rattle.std.proofs.Common.{◌≡◌, ◌++◌, map, drop}
use Rattle.rx_tree.specs.PlainOf.{plain-Param}
use Rattle.rx_splice_laws.specs.Edits.{written}
use Rattle.rx_compact_text.specs.CompactedText.{parameters_edits}
use Rattle.rx_compact_edits.specs.Writing.{becoming}
use Rattle.rx_compact_edits.proofs.types.Changes.push_parameters.Given as goal

abbrev pub invariant-loop-param : goal.invariant-loop-param
invariant-loop-param l =
    l.out ++ map written (parameters_edits l.self.text.now (becoming l.self) (map plain-Param (drop l.param-index l.params)))
    ≡ l.fn.out ++ map written (parameters_edits l.self.text.now (becoming l.self) (map plain-Param l.params))
