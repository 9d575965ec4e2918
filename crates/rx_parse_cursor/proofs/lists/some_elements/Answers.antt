use Rattle.std.proofs.Common.{◌≡◌, ◌∙◌, ap, sym, true, [], Ok, map, rules}
use Rattle.rx_parse_grammar.specs.declared.symbol.Symbol.TheVariants as symbol
use Rattle.rx_parse_grammar.specs.parser.Steps.{sees}
use Rattle.rx_parse_grammar.specs.parser.Lists.{elements, some_elements}
use Rattle.rx_parse_cursor.specs.GotOf.{items_of}
use Rattle.rx_parse_cursor.specs.Elements.{another}
use Rattle.rx_parse_cursor.proofs.ListSteps.{reads_as, some_more}
use Rattle.rx_parse_cursor.proofs.lists.some_elements.Goals as goal

pub returns-then-sees-clause-reads : goal.returns-then-sees-clause-reads
returns-then-sees-clause-reads g c =
    let P = g.R.Reader.parser c.args.reader.now in
    let f = g.R.Reader.plain in
    let y = c.in_ok-found.found in
    let r : another P [] 0 c.args.cursor.now ≡ Ok ((map f y.list, y.height), c.with_next.new.cursor) = rw (c.new.ensures.list, c.new.ensures.height) at c.in_ok-found.ensures.reads in
    let t : sees symbol.Comma c.with_next.new.cursor ≡ true = first_of (cc, search rules) in
    reads_as (items_of f) (some_elements c.args.bracket P c.args.cursor.now) (elements c.args.bracket P (map f y.list) y.height c.take.new.self)
    c.elements.result c.elements.new.cursor
    (some_more c.args.bracket P (map f y.list) y.height c.args.cursor.now c.with_next.new.cursor r t ∙ ap (elements c.args.bracket P (map f y.list) y.height) (sym c.take.ensures.after))
    c.elements.ensures.reads
