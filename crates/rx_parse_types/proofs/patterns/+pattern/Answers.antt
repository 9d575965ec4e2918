use Rattle.std.proofs.Common.{◌<◌, ◌-◌, rules, arith}
use Rattle.rx_tree.specs.PlainOf.{plain-Pattern}
use Rattle.rx_parse_grammar.specs.parser.Symbols.{peek}
use Rattle.rx_parse_grammar.specs.parser.Patterns.{pattern, pattern_by}
use Rattle.rx_parse_cursor.specs.GotOf.{got_of}
use Rattle.rx_parse_cursor.proofs.ListSteps.{reads_as}
use Rattle.rx_parse_types.proofs.PatternSteps.{pattern_is}
use Rattle.rx_parse_types.proofs.patterns.+pattern.Goals as goal

pub returns-clause-reads : goal.returns-clause-reads
returns-clause-reads t c =
    let d = c.args.depth - 1 in
    let i = c.args.cursor.now in
    let z : 0 < c.args.depth = first_of (omega arith, search rules) in
    reads_as (got_of plain-Pattern) (pattern c.args.depth i) (pattern_by (pattern d) d (peek i) i) c.level.result c.level.new.cursor (pattern_is c.args.depth i z) c.level.ensures.reads
