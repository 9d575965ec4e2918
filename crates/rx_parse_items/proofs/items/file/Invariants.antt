-- The parser at the entry is the parser of the turns that are left, behind the items that were found.
use Rattle.std.proofs.Common.{◌≡◌, ◌-◌, map}
use Rattle.rx_tree.specs.PlainOf.{plain-Item}
use Rattle.rx_parse_grammar.specs.parser.Items.{file, items_from}
use Rattle.rx_parse_items.proofs.items.file.Given as goal

abbrev pub invariant-loop-turn : goal.invariant-loop-turn
invariant-loop-turn l = file l.depth l.fn.cursor ≡ items_from l.depth (l._turn-end - l._turn) (map plain-Item l.found.list) l.found.height l.cursor
