use Rattle.std.proofs.Common.{◌≡◌, ◌<◌, ◌-◌, true, false, rules, arith}
use Rattle.std.proofs.lemmas.Grind.{common_steps}
use Rattle.rx_tree.specs.PlainOf.{plain-Block}
use Rattle.rx_parse_grammar.specs.parser.Symbols.{peek}
use Rattle.rx_parse_grammar.specs.parser.Blocks.{whole, like, block, block_of, opens}
use Rattle.rx_parse_cursor.specs.GotOf.{got_of}
use Rattle.rx_parse_cursor.proofs.ListSteps.{reads_as}
use Rattle.rx_parse_expressions.proofs.LevelSteps.{block_above, block_deep, block_other}
use Rattle.rx_parse_expressions.proofs.level.Level.block.Goals as goal

pub returns-then-opens-clause-reads : goal.returns-then-opens-clause-reads
returns-then-opens-clause-reads g c =
    let z : c.args.self.now.below ≡ 0 = omega arith in
    let b : opens (peek c.args.cursor.now) ≡ true = first_of (cc, search rules, grind (arith, common_steps)) in
    let e = block_deep c.args.self.now.below c.args.cursor.now z b in
    first_of (search rules, grind (arith, common_steps))

pub returns-then-self-eq0-clause-reads : goal.returns-then-self-eq0-clause-reads
returns-then-self-eq0-clause-reads g c =
    let z : c.args.self.now.below ≡ 0 = omega arith in
    let b : opens (peek c.args.cursor.now) ≡ false = first_of (cc, search rules, grind (arith, common_steps)) in
    let e = block_other c.args.self.now.below c.args.cursor.now z b in
    first_of (search rules, grind (arith, common_steps))

pub returns-clause-reads : goal.returns-clause-reads
returns-clause-reads g c =
    let z : 0 < c.args.self.now.below = omega arith in
    let d = c.args.self.now.below in
    reads_as (got_of plain-Block) (block d c.args.cursor.now) (block_of (whole (d - 1)) (like (d - 1)) (d - 1) c.args.cursor.now) c.block_of.result c.block_of.new.cursor
    (block_above d c.args.cursor.now z) c.block_of.ensures.reads
