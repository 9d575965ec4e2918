use Rattle.std.proofs.Common.{◌<◌, ◌-◌, rules, arith}
use Rattle.rx_tree.specs.PlainOf.{plain-TypeText}
use Rattle.rx_parse_grammar.specs.parser.Symbols.{peek}
use Rattle.rx_parse_grammar.specs.parser.Types.{typ, type_by}
use Rattle.rx_parse_cursor.specs.GotOf.{got_of}
use Rattle.rx_parse_cursor.proofs.ListSteps.{reads_as}
use Rattle.rx_parse_types.proofs.TypeSteps.{typ_is}
use Rattle.rx_parse_types.proofs.types.+typ.Goals as goal

pub returns-clause-reads : goal.returns-clause-reads
returns-clause-reads t c =
    let d = c.args.depth - 1 in
    let i = c.args.cursor.now in
    let z : 0 < c.args.depth = first_of (omega arith, search rules) in
    reads_as (got_of plain-TypeText) (typ c.args.depth i) (type_by (typ d) d (peek i) i) c.level.result c.level.new.cursor (typ_is c.args.depth i z) c.level.ensures.reads
