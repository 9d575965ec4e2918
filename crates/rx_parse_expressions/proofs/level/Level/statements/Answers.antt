use Rattle.std.proofs.Common.{◌≡◌, ◌∙◌, map, length, Ok, Err, refl, ap, sym, rules, arith}
use Rattle.std.proofs.lemmas.Grind.{common_steps}
use Rattle.rx_tree.specs.PlainOf.{plain-Stmt, plain-Block}
use Rattle.rx_parse_cursor.specs.GotOf.{got_of}
use Rattle.rx_parse_cursor.proofs.Turns.{one_more, no_more}
use Rattle.rx_parse_cursor.proofs.ListSteps.{carried}
use Rattle.rx_parse_expressions.specs.Pieces.{statements_from, turn}
use Rattle.rx_parse_expressions.specs.PieceOf.{turn_of, ending_of}
use Rattle.rx_parse_expressions.specs.declared.blocks.Turn.TheVariants as turns
use Rattle.rx_parse_expressions.proofs.StatementSteps.{turn_fault, turn_more, turn_last, no_turn}
use Rattle.rx_parse_expressions.proofs.level.Level.statements.Goals as goal

pub returns-in_err-read-clause-reads : goal.returns-in_err-read-clause-reads
returns-in_err-read-clause-reads g c =
    let n = c.args.self.now.below in
    let s = c.args.start in
    let f = map plain-Stmt c.loop-turn.found.list in
    let h = c.loop-turn.found.height in
    let e = one_more (λ k. statements_from n s k f h c.loop-turn.cursor) _ c.loop-turn._turn c.loop-turn-test.true c.loop-turn.invariant.same in
    let a : c.turn.result ≡ Err c.in_err-read.field-0.0 = first_of (cc, search rules, grind (arith, common_steps)) in
    let b : c.from_residual.result ≡ Err c.in_err-read.field-0.0 = first_of (cc, search rules, grind (arith, common_steps)) in
    carried turn_of (got_of plain-Block) (turn n f h c.loop-turn.cursor) (statements_from n s (length c.args.cursor.now) (map plain-Stmt c.args.found.list) c.args.found.height c.args.cursor.now)
    c.turn.result c.from_residual.result c.in_err-read.field-0.0 c.turn.new.cursor c.turn.new.cursor a b c.turn.ensures.reads
    (λ k. e ∙ turn_fault n s _ f h c.loop-turn.cursor c.in_err-read.field-0.0 k)

pub returns-in-Ended-clause-reads : goal.returns-in-Ended-clause-reads
returns-in-Ended-clause-reads g c =
    let n = c.args.self.now.below in
    let s = c.args.start in
    let f = map plain-Stmt c.loop-turn.found.list in
    let h = c.loop-turn.found.height in
    let e = one_more (λ k. statements_from n s k f h c.loop-turn.cursor) _ c.loop-turn._turn c.loop-turn-test.true c.loop-turn.invariant.same in
    let t = turn_of (turns.Ended c.in-Ended.all c.in-Ended.ending) in
    let r : turn n f h c.loop-turn.cursor ≡ Ok (turn_of (turns.Ended c.in-Ended.all c.in-Ended.ending), c.turn.new.cursor) = first_of (cc, search rules, grind (arith, common_steps)) in
    e ∙ turn_last n s _ f h t (ending_of c.in-Ended.ending) c.loop-turn.cursor c.turn.new.cursor r refl
    ∙ ap (λ x. Ok (x, c.turn.new.cursor)) (sym c.body_of.ensures.tree)

pub loop-turn-preserved : goal.loop-turn-preserved
loop-turn-preserved g c =
    let n = c.args.self.now.below in
    let s = c.args.start in
    let f = map plain-Stmt c.loop-turn.found.list in
    let h = c.loop-turn.found.height in
    let e = one_more (λ k. statements_from n s k f h c.loop-turn.cursor) _ c.loop-turn._turn c.loop-turn-test.true c.loop-turn.invariant.same in
    let t = turn_of (turns.Further c.in-Further.further) in
    let r : turn n f h c.loop-turn.cursor ≡ Ok (turn_of (turns.Further c.in-Further.further), c.turn.new.cursor) = first_of (cc, search rules, grind (arith, common_steps)) in
    record {
      same = e ∙ turn_more n s _ f h t c.loop-turn.cursor c.turn.new.cursor r refl;
      low = first_of (search rules, grind (arith, common_steps));
    }

pub returns-clause-reads : goal.returns-clause-reads
returns-clause-reads g c =
    let n = c.args.self.now.below in
    let s = c.args.start in
    let f = map plain-Stmt c.loop-turn.found.list in
    let h = c.loop-turn.found.height in
    let e = no_more (λ k. statements_from n s k f h c.loop-turn.cursor) _ c.loop-turn._turn c.loop-turn-test.false c.loop-turn.invariant.same in
    let z = e ∙ no_turn n s f h c.loop-turn.cursor in
    first_of (search rules, grind (arith, common_steps))
