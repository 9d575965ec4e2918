use Rattle.std.proofs.Common.{◌≡◌, [], Ok, Err, rules, arith}
use Rattle.std.proofs.lemmas.Grind.{common_steps}
use Rattle.rx_tree.specs.PlainOf.{plain-Expr, plain-FieldExpr}
use Rattle.rx_lex.specs.Tok.{tok}
use Rattle.rx_parse_grammar.specs.declared.symbol.Symbol.TheVariants as symbol
use Rattle.rx_parse_grammar.specs.parser.Steps.{expect}
use Rattle.rx_parse_grammar.specs.parser.Lists.{elements}
use Rattle.rx_parse_grammar.specs.parser.Expressions as spec
use Rattle.rx_parse_grammar.specs.parser.Blocks.{whole}
use Rattle.rx_parse_cursor.specs.GotOf.{got_of, items_of}
use Rattle.rx_parse_cursor.proofs.ListSteps.{carried}
use Rattle.rx_parse_expressions.proofs.OperandSteps.{struct_fault}
use Rattle.rx_parse_expressions.proofs.level.Level.struct_literal.Goals as goal

pub returns-in_err-items-clause-reads : goal.returns-in_err-items-clause-reads
returns-in_err-items-clause-reads g c =
    let d = c.args.self.now.below in
    let a : c.elements.result ≡ Err c.in_err-items.field-0.0 = first_of (cc, search rules, grind (arith, common_steps)) in
    let b : c.from_residual-in_err-items.result ≡ Err c.in_err-items.field-0.0 = first_of (cc, search rules, grind (arith, common_steps)) in
    let o : expect symbol.OpenBrace c.args.cursor.now ≡ Ok (tok c.in_ok-expect.field-0, c.expect.new.self) = first_of (cc, search rules, grind (arith, common_steps)) in
    let h = rw (c.new-found.ensures.list, c.new-found.ensures.height) at c.elements.ensures.reads in
    carried (items_of plain-FieldExpr) (got_of plain-Expr) (elements symbol.CloseBrace (spec.field (whole d) d) [] 0 c.expect.new.self)
    (spec.struct_literal (whole d) d (tok c.args.name) c.args.cursor.now)
    c.elements.result c.from_residual-in_err-items.result c.in_err-items.field-0.0 c.elements.new.cursor c.elements.new.cursor a b h
    (λ k. struct_fault d (tok c.args.name) (tok c.in_ok-expect.field-0) c.args.cursor.now c.expect.new.self c.in_err-items.field-0.0 o k)
