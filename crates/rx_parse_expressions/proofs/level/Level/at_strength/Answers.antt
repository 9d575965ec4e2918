use Rattle.std.proofs.Common.{◌≡◌, ◌∙◌, ◌≤◌, ◌+◌, ◌-◌, length, Err, rules, arith}
use Rattle.std.proofs.lemmas.Grind.{common_steps}
use Rattle.rx_tree.specs.PlainOf.{plain-Expr}
use Rattle.rx_parse_grammar.specs.parser.Expressions as spec
use Rattle.rx_parse_cursor.specs.GotOf.{got_of}
use Rattle.rx_parse_cursor.proofs.ListSteps.{carried}
use Rattle.rx_parse_choices.specs.Rows.{turns}
use Rattle.rx_parse_expressions.specs.Levels as levels
use Rattle.rx_parse_expressions.proofs.OperandSteps.{strength_none, strength_made, strength_fault}
use Rattle.rx_parse_expressions.proofs.level.Level.at_strength.Goals as goal

pub returns-in_err-left-clause-reads : goal.returns-in_err-left-clause-reads
returns-in_err-left-clause-reads g c =
    let d = c.args.self.now.below in
    let i = c.args.cursor.now in
    let low : 0 ≤ c.args.strength = omega arith in
    let a : c.unary.result ≡ Err c.in_err-left.field-0.0 = first_of (cc, search rules, grind (arith, common_steps)) in
    let b : c.from_residual.result ≡ Err c.in_err-left.field-0.0 = first_of (cc, search rules, grind (arith, common_steps)) in
    carried (got_of plain-Expr) (got_of plain-Expr) (levels.unary d c.args.literals i) (levels.at_strength d c.args.literals c.args.strength i)
    c.unary.result c.from_residual.result c.in_err-left.field-0.0 c.unary.new.cursor c.unary.new.cursor a b c.unary.ensures.reads
    (λ k. strength_fault d 0 c.args.strength c.args.literals i c.in_err-left.field-0.0 low (strength_none d c.args.literals i ∙ k))

pub loop-below-init : goal.loop-below-init
loop-below-init g c = record {
  read = strength_none c.args.self.now.below c.args.literals c.args.cursor.now ∙ c.in_ok-left.ensures.reads;
  low = c.in_ok-left.ensures.low;
}

pub returns-in_err-left-2-clause-reads : goal.returns-in_err-left-2-clause-reads
returns-in_err-left-2-clause-reads g c =
    let d = c.args.self.now.below in
    let f = c.args.literals in
    let i = c.args.cursor.now in
    let j = c.loop-below.below in
    let l = got_of plain-Expr c.loop-below.left in
    let low : c.loop-below.below + 1 ≤ c.args.strength = first_of (omega arith, search rules, grind (arith, common_steps)) in
    let a : c.chain.result ≡ Err c.in_err-left-2.field-0.0 = first_of (cc, search rules, grind (arith, common_steps)) in
    let b : c.from_residual-in_err-left-2.result ≡ Err c.in_err-left-2.field-0.0 = first_of (cc, search rules, grind (arith, common_steps)) in
    let made = strength_made d j f l i c.loop-below.cursor c.loop-below.invariant.read in
    carried (got_of plain-Expr) (got_of plain-Expr)
    (spec.chain (levels.binary_step d f (j + 1 - 1)) (turns (j + 1 - 1) (length c.loop-below.cursor)) l c.loop-below.cursor)
    (levels.at_strength d f c.args.strength i)
    c.chain.result c.from_residual-in_err-left-2.result c.in_err-left-2.field-0.0 c.chain.new.cursor c.chain.new.cursor a b c.chain.ensures.reads
    (λ k. strength_fault d (j + 1) c.args.strength f i c.in_err-left-2.field-0.0 low (made ∙ k))

pub loop-below-preserved : goal.loop-below-preserved
loop-below-preserved g c = record {
  read = strength_made c.args.self.now.below c.loop-below.below c.args.literals (got_of plain-Expr c.loop-below.left) c.args.cursor.now c.loop-below.cursor c.loop-below.invariant.read
      ∙ c.in_ok-left-2.ensures.reads;
  low = c.in_ok-left-2.ensures.low;
}
