use Rattle.std.proofs.Common.{◌≡◌, [], Ok, Err, rules}
use Rattle.rx_tree.specs.PlainOf.{plain-Pattern, plain-FieldPattern}
use Rattle.rx_lex.specs.Tok.{tok}
use Rattle.rx_parse_grammar.specs.declared.symbol.Symbol.TheVariants as symbol
use Rattle.rx_parse_grammar.specs.parser.Steps.{expect}
use Rattle.rx_parse_grammar.specs.parser.Lists.{elements}
use Rattle.rx_parse_grammar.specs.parser.Patterns.{pattern, field_pattern, struct_pattern}
use Rattle.rx_parse_cursor.specs.GotOf.{got_of, items_of}
use Rattle.rx_parse_cursor.proofs.ListSteps.{carried}
use Rattle.rx_parse_types.proofs.PatternSteps.{struct_fault}
use Rattle.rx_parse_types.proofs.patterns.PatternLevel.struct_pattern.Goals as goal

pub returns-in_err-items-clause-reads : goal.returns-in_err-items-clause-reads
returns-in_err-items-clause-reads g c =
    let d = c.args.self.now.below in
    let N = pattern d in
    let i = c.args.cursor.now in
    let t = tok c.in_ok-expect.field-0 in
    let e : expect symbol.OpenBrace i ≡ Ok (t, c.expect.new.self) = search rules in
    let a : c.elements.result ≡ Err c.in_err-items.field-0.0 = search rules in
    let b : c.from_residual-in_err-items.result ≡ Err c.in_err-items.field-0.0 = search rules in
    let h = rw (c.new.ensures.list, c.new.ensures.height) at c.elements.ensures.reads in
    carried (items_of plain-FieldPattern) (got_of plain-Pattern) (elements symbol.CloseBrace (field_pattern N d) [] 0 c.expect.new.self)
    (struct_pattern N d (tok c.args.name) i) c.elements.result c.from_residual-in_err-items.result c.in_err-items.field-0.0
    c.elements.new.cursor c.elements.new.cursor a b h
    (λ k. struct_fault N d (tok c.args.name) t i c.expect.new.self c.in_err-items.field-0.0 e k)
