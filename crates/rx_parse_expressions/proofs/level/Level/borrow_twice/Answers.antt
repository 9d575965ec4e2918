use Rattle.std.proofs.Common.{◌≡◌, ◌∙◌, ◌∷◌, ◌<◌, sym, false, Ok, Err, ap, rules, arith}
use Rattle.std.proofs.lemmas.Grind.{common_steps}
use Rattle.rx_tree.specs.Plain as plain
use Rattle.rx_tree.specs.PlainOf.{plain-Expr}
use Rattle.rx_lex.specs.Tok.{Tok}
use Rattle.rx_parse_grammar.specs.grammar.Words.{join, second_ampersand}
use Rattle.rx_parse_grammar.specs.parser.Symbols.{head, tail}
use Rattle.rx_parse_grammar.specs.parser.Steps.{ReadsAs, node}
use Rattle.rx_parse_grammar.specs.parser.Blocks.{operand}
use Rattle.rx_parse_cursor.specs.GotOf.{got_of}
use Rattle.rx_parse_cursor.proofs.ListSteps.{carried, reads_as}
use Rattle.rx_parse_choices.specs.declared.wanted.Wanted.{Wanted}
use Rattle.rx_parse_choices.specs.Wants.{wanted_of}
use Rattle.rx_parse_expressions.specs.Levels.{borrow_twice}
use Rattle.rx_parse_expressions.proofs.OperandSteps.{twice_fault, twice_made}
use Rattle.rx_parse_expressions.proofs.level.Level.borrow_twice.Goals as goal

pub returns-in_err-value-clause-reads : goal.returns-in_err-value-clause-reads
returns-in_err-value-clause-reads g c =
    let d = c.args.self.now.below in
    let z : 0 < d = first_of (omega arith, search rules, grind (arith, common_steps)) in
    let a : c.expression.result ≡ Err c.in_err-value.field-0.0 = first_of (cc, search rules, grind (arith, common_steps)) in
    let b : c.from_residual.result ≡ Err c.in_err-value.field-0.0 = first_of (cc, search rules, grind (arith, common_steps)) in
    let w : operand d c.args.literals 0 c.halve-start.new.self ≡ wanted_of c.unary_operand.result d c.halve-start.new.self =
    ap (λ (x : Wanted). wanted_of x d c.halve-start.new.self) (sym c.unary_operand.ensures) in
    let k : ReadsAs (got_of plain-Expr) (operand d c.args.literals 0 c.halve-start.new.self) c.expression.result c.expression.new.cursor =
    reads_as (got_of plain-Expr) (operand d c.args.literals 0 c.halve-start.new.self) (wanted_of c.unary_operand.result d c.halve-start.new.self) c.expression.result c.expression.new.cursor w c.expression.ensures.reads in
    let h : ReadsAs (got_of plain-Expr) (operand d c.args.literals 0 (second_ampersand (head c.args.cursor.now) ∷ tail c.args.cursor.now)) c.expression.result c.expression.new.cursor =
    rw (← c.halve-start.ensures.after) k in
    carried (got_of plain-Expr) (got_of plain-Expr) (operand d c.args.literals 0 (second_ampersand (head c.args.cursor.now) ∷ tail c.args.cursor.now))
    (borrow_twice d c.args.literals c.args.cursor.now)
    c.expression.result c.from_residual.result c.in_err-value.field-0.0 c.expression.new.cursor c.expression.new.cursor a b h
    (λ f. twice_fault d c.args.literals c.args.cursor.now c.in_err-value.field-0.0 z c.requires.two f)

pub returns-clause-reads : goal.returns-clause-reads
returns-clause-reads g c =
    let d = c.args.self.now.below in
    let z : 0 < d = first_of (omega arith, search rules, grind (arith, common_steps)) in
    let y = got_of plain-Expr c.in_ok-value.value in
    let r : operand d c.args.literals 0 c.halve-start.new.self ≡ Ok (y, c.expression.new.cursor) = first_of (cc, search rules, grind (arith, common_steps)) in
    twice_made d c.args.literals c.args.cursor.now c.expression.new.cursor y z c.requires.two (ap (operand d c.args.literals 0) (sym c.halve-start.ensures.after) ∙ r)
    ∙ ap (λ (t : Tok). Ok (node (λ s. plain.borrow s false (plain-Expr c.in_ok-value.value.tree)) (join t.span c.in_ok-value.value.span) c.in_ok-value.value.height, c.expression.new.cursor)) (sym c.halve-start.ensures.token)
    ∙ ap (λ x. Ok (x, c.expression.new.cursor)) (sym c.in_ok-borrow_of.ensures.tree)
