use Rattle.std.proofs.Common.{◌≡◌, ◌∙◌, suc, ◌-◌, length, Some, None, Err, rules, arith}
use Rattle.std.proofs.lemmas.Grind.{common_steps}
use Rattle.rx_tree.specs.PlainOf.{plain-Expr}
use Rattle.rx_parse_grammar.specs.parser.Symbols.{peek}
use Rattle.rx_parse_grammar.specs.parser.Operators.{operator_at}
use Rattle.rx_parse_grammar.specs.parser.Expressions as spec
use Rattle.rx_parse_cursor.specs.GotOf.{got_of}
use Rattle.rx_parse_cursor.proofs.ListSteps.{carried}
use Rattle.rx_parse_cursor.proofs.Turns.{one_more, no_more}
use Rattle.rx_parse_choices.specs.Rows.{turns}
use Rattle.rx_parse_expressions.specs.Levels as levels
use Rattle.rx_parse_expressions.proofs.OperandSteps.{row_more, row_fault, row_end, row_over}
use Rattle.rx_parse_expressions.proofs.level.Level.chain.Goals as goal

pub returns-in_err-left-in-Some-clause-reads : goal.returns-in_err-left-in-Some-clause-reads
returns-in_err-left-in-Some-clause-reads g c =
    let d = c.args.self.now.below in
    let f = c.args.literals in
    let j = c.args.strength - 1 in
    let l = got_of plain-Expr c.loop-turn.left in
    let u : c.args.strength ≡ suc (c.args.strength - 1) = omega arith in
    let e = one_more (λ n. spec.chain (levels.binary_step d f j) n l c.loop-turn.cursor) _ c.loop-turn._turn c.loop-turn-test.true c.loop-turn.invariant.same in
    let w : operator_at c.args.strength (peek c.loop-turn.cursor) ≡ Some c.in-Some.op = first_of (cc, search rules, grind (arith, common_steps)) in
    let h : c.peek-symbol.result ≡ peek c.loop-turn.cursor = c.peek-symbol.ensures in
    let a : c.longer.result ≡ Err c.in_err-left-in-Some.field-0.0 = first_of (cc, search rules, grind (arith, common_steps)) in
    let b : c.from_residual.result ≡ Err c.in_err-left-in-Some.field-0.0 = first_of (cc, search rules, grind (arith, common_steps)) in
    carried (got_of plain-Expr) (got_of plain-Expr) (levels.longer d f j l c.peek-symbol.result c.in-Some.op c.loop-turn.cursor)
    (spec.chain (levels.binary_step d f j) (turns j (length c.args.cursor.now)) (got_of plain-Expr c.args.left) c.args.cursor.now)
    c.longer.result c.from_residual.result c.in_err-left-in-Some.field-0.0 c.longer.new.cursor c.longer.new.cursor a b c.longer.ensures.reads
    (λ k. e ∙ row_fault d _ c.args.strength j f l c.in-Some.op c.loop-turn.cursor c.in_err-left-in-Some.field-0.0 u w (rw (← h) k))

pub returns-in-None : goal.returns-in-None
returns-in-None g c =
    let d = c.args.self.now.below in
    let f = c.args.literals in
    let j = c.args.strength - 1 in
    let l = got_of plain-Expr c.loop-turn.left in
    let u : c.args.strength ≡ suc (c.args.strength - 1) = omega arith in
    let e = one_more (λ n. spec.chain (levels.binary_step d f j) n l c.loop-turn.cursor) _ c.loop-turn._turn c.loop-turn-test.true c.loop-turn.invariant.same in
    let w : operator_at c.args.strength (peek c.loop-turn.cursor) ≡ None = first_of (cc, search rules, grind (arith, common_steps)) in
    record {
      reads = e ∙ row_end d _ c.args.strength j f l c.loop-turn.cursor u w;
      low = c.loop-turn.invariant.low;
    }

pub loop-turn-preserved : goal.loop-turn-preserved
loop-turn-preserved g c =
    let d = c.args.self.now.below in
    let f = c.args.literals in
    let j = c.args.strength - 1 in
    let l = got_of plain-Expr c.loop-turn.left in
    let x = got_of plain-Expr c.in_ok-left-in-Some.left in
    let u : c.args.strength ≡ suc (c.args.strength - 1) = omega arith in
    let e = one_more (λ n. spec.chain (levels.binary_step d f j) n l c.loop-turn.cursor) _ c.loop-turn._turn c.loop-turn-test.true c.loop-turn.invariant.same in
    let w : operator_at c.args.strength (peek c.loop-turn.cursor) ≡ Some c.in-Some.op = first_of (cc, search rules, grind (arith, common_steps)) in
    let h : c.peek-symbol.result ≡ peek c.loop-turn.cursor = c.peek-symbol.ensures in
    record {
      same = e ∙ row_more d _ c.args.strength j f l x c.in-Some.op c.loop-turn.cursor c.longer.new.cursor u w (rw (← h) c.in_ok-left-in-Some.ensures.reads);
      low = c.in_ok-left-in-Some.ensures.low;
    }

pub returns-clause-reads : goal.returns-clause-reads
returns-clause-reads g c =
    let d = c.args.self.now.below in
    let j = c.args.strength - 1 in
    let l = got_of plain-Expr c.loop-turn.left in
    let e = no_more (λ n. spec.chain (levels.binary_step d c.args.literals j) n l c.loop-turn.cursor) _ c.loop-turn._turn c.loop-turn-test.false c.loop-turn.invariant.same in
    e ∙ row_over d j c.args.literals l c.loop-turn.cursor
