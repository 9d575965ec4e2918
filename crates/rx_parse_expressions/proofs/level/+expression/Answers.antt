use Rattle.std.proofs.Common.{◌≡◌, ◌<◌, ◌-◌, true, false, rules, arith}
use Rattle.std.proofs.lemmas.Grind.{common_steps}
use Rattle.rx_tree.specs.PlainOf.{plain-Expr}
use Rattle.rx_parse_grammar.specs.parser.Symbols.{peek}
use Rattle.rx_parse_cursor.specs.GotOf.{got_of}
use Rattle.rx_parse_cursor.proofs.ListSteps.{reads_as}
use Rattle.rx_parse_choices.specs.Wants.{wanted_of, begins_wanted}
use Rattle.rx_parse_expressions.specs.Nests.{level_of}
use Rattle.rx_parse_expressions.proofs.LevelSteps.{wanted_above, wanted_deep, wanted_other}
use Rattle.rx_parse_expressions.proofs.level.+expression.Goals as goal

pub returns-then-begins-clause-reads : goal.returns-then-begins-clause-reads
returns-then-begins-clause-reads t c =
    let z : c.args.depth ≡ 0 = omega arith in
    let b : begins_wanted c.args.wanted (peek c.args.cursor.now) ≡ true = first_of (cc, search rules, grind (arith, common_steps)) in
    let e = wanted_deep c.args.wanted c.args.depth c.args.cursor.now z b in
    first_of (search rules, grind (arith, common_steps))

pub returns-then-depth-eq0-clause-reads : goal.returns-then-depth-eq0-clause-reads
returns-then-depth-eq0-clause-reads t c =
    let z : c.args.depth ≡ 0 = omega arith in
    let b : begins_wanted c.args.wanted (peek c.args.cursor.now) ≡ false = first_of (cc, search rules, grind (arith, common_steps)) in
    let e = wanted_other c.args.wanted c.args.depth c.args.cursor.now z b in
    first_of (search rules, grind (arith, common_steps))

pub returns-clause-reads : goal.returns-clause-reads
returns-clause-reads t c =
    let z : 0 < c.args.depth = omega arith in
    reads_as (got_of plain-Expr) (wanted_of c.args.wanted c.args.depth c.args.cursor.now) (level_of c.args.wanted (c.args.depth - 1) c.args.cursor.now)
    c.level.result c.level.new.cursor (wanted_above c.args.wanted c.args.depth c.args.cursor.now z) c.level.ensures.reads
