use Rattle.std.proofs.Common.{◌≡◌, ◌++◌, map, drop}
use Rattle.rx_tree.specs.PlainOf.{plain-TypeText, types_of}
use Rattle.rx_splice_laws.specs.Edits.{written}
use Rattle.rx_compact_text.specs.CompactedText.{types_edits}
use Rattle.rx_compact_edits.specs.Writing.{becoming}
use Rattle.rx_compact_edits.proofs.types.Changes.+types.Given as goal

abbrev pub invariant-push_types-loop-typ : goal.invariant-push_types-loop-typ
invariant-push_types-loop-typ l =
    l.out ++ map written (types_edits l.self.text.now (becoming l.self) (types_of (map plain-TypeText (drop l.typ-index l.types))))
    ≡ l.fn.out ++ map written (types_edits l.self.text.now (becoming l.self) (types_of (map plain-TypeText l.types)))
