use Rattle.std.proofs.Common.{◌≡◌, false, Ok, rules}
use Rattle.rx_lex.specs.Tok.{tok}
use Rattle.rx_parse_grammar.specs.declared.symbol.Symbol.TheVariants as symbol
use Rattle.rx_parse_grammar.specs.parser.Steps.{sees, expect}
use Rattle.rx_parse_grammar.specs.parser.Lists.{group, group_by}
use Rattle.rx_parse_cursor.specs.GotOf.{got_of}
use Rattle.rx_parse_cursor.specs.GroupedOf.{grouped_of}
use Rattle.rx_parse_cursor.proofs.ListSteps.{reads_as, group_first}
use Rattle.rx_parse_cursor.proofs.groups.group.Goals as goal

pub returns-clause-reads : goal.returns-clause-reads
returns-clause-reads g c =
    let P = g.R.Reader.parser c.args.reader.now in
    let o = tok c.in_ok-open.open in
    let x = got_of g.R.Reader.plain c.in_ok-first.first in
    let r : expect symbol.OpenParen c.args.cursor.now ≡ Ok (o, c.expect.new.self) = search rules in
    let s : sees symbol.CloseParen c.expect.new.self ≡ false = first_of (cc, search rules) in
    λ tuple. reads_as (grouped_of g.R.Reader.plain tuple) (group P tuple c.args.cursor.now) (group_by P tuple o x c.read.new.cursor)
    c.group_behind.result c.group_behind.new.cursor
    (group_first P tuple o x c.args.cursor.now c.expect.new.self c.read.new.cursor r s c.in_ok-first.ensures.reads) (c.group_behind.ensures.reads tuple)
