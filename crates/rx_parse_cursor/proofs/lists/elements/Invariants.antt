-- The parser at the entry is the parser of the turns that are left, behind what was found.
use Rattle.std.proofs.Common.{◌≡◌, ◌≤◌, ◌-◌, map}
use Rattle.rx_parse_grammar.specs.parser.Lists.{elements, elements_from}
use Rattle.rx_parse_cursor.proofs.lists.elements.Given as goal

abbrev pub invariant-loop-turn : goal.invariant-loop-turn
invariant-loop-turn g l = record {
  same : elements l.bracket (g.R.Reader.parser l.reader) (map g.R.Reader.plain l.fn.found.list) l.fn.found.height l.fn.cursor
      ≡ elements_from l.bracket (g.R.Reader.parser l.reader) (l._turn-end - l._turn) (map g.R.Reader.plain l.found.list) l.found.height l.cursor;
  low : l.found.height ≤ g.R.Reader.most l.reader;
}
