use Rattle.std.proofs.Common.{◌≡◌, Some, sym, rules, arith}
use Rattle.std.proofs.lemmas.Grind.{common_steps}
use Rattle.rx_tree.specs.PlainOf.{plain-Expr}
use Rattle.rx_parse_grammar.specs.parser.Symbols.{peek}
use Rattle.rx_parse_grammar.specs.parser.Operators.{setting}
use Rattle.rx_parse_cursor.specs.GotOf.{got_of}
use Rattle.rx_parse_cursor.proofs.ListSteps.{reads_as}
use Rattle.rx_parse_choices.specs.SettingOf.{setting_of}
use Rattle.rx_parse_expressions.specs.Levels as levels
use Rattle.rx_parse_expressions.proofs.OperandSteps.{set_is}
use Rattle.rx_parse_expressions.proofs.level.Level.set_behind.Goals as goal

pub returns-in-Some-clause-reads : goal.returns-in-Some-clause-reads
returns-in-Some-clause-reads g c =
    let d = c.args.self.now.below in
    let i = c.args.cursor.now in
    let l = got_of plain-Expr c.args.left in
    let q = c.peek-symbol.result in
    let u = setting_of c.in-Some.how in
    let h : setting (peek i) ≡ Some (setting_of c.in-Some.how) = first_of (cc, search rules, grind (arith, common_steps)) in
    reads_as (got_of plain-Expr) (levels.set_by d l (peek i) (setting (peek i)) i) (levels.set d l q u i) c.set.result c.set.new.cursor
    (set_is d l q (peek i) (setting (peek i)) u i (sym c.peek-symbol.ensures) h) c.set.ensures.reads
