use Rattle.std.proofs.Common.{◌≡◌, ◌∙◌, map, length, true, false, Ok, Err, rules, arith}
use Rattle.std.proofs.lemmas.Grind.{common_steps}
use Rattle.rx_tree.specs.PlainOf.{plain-Arm}
use Rattle.rx_parse_cursor.specs.GotOf.{items_of}
use Rattle.rx_parse_cursor.proofs.Turns.{one_more, no_more}
use Rattle.rx_parse_cursor.proofs.ListSteps.{carried, reads_as}
use Rattle.rx_parse_expressions.specs.Arms.{arms_from, arm, closing}
use Rattle.rx_parse_expressions.specs.ArmOf.{turn_of}
use Rattle.rx_parse_expressions.proofs.ArmSteps.{turn_fault, turn_more, turn_last, no_turn}
use Rattle.rx_parse_expressions.proofs.level.Level.arms.Goals as goal

pub returns-in_err-read-clause-reads : goal.returns-in_err-read-clause-reads
returns-in_err-read-clause-reads g c =
    let n = c.args.self.now.below in
    let f = map plain-Arm c.loop-turn.found.list in
    let h = c.loop-turn.found.height in
    let e = one_more (λ k. arms_from n k f h c.loop-turn.cursor) _ c.loop-turn._turn c.loop-turn-test.true c.loop-turn.invariant.same in
    let a : c.arm.result ≡ Err c.in_err-read.field-0.0 = first_of (cc, search rules, grind (arith, common_steps)) in
    let b : c.from_residual.result ≡ Err c.in_err-read.field-0.0 = first_of (cc, search rules, grind (arith, common_steps)) in
    carried turn_of (items_of plain-Arm) (arm n f h c.loop-turn.cursor) (arms_from n (length c.args.cursor.now) (map plain-Arm c.args.found.list) c.args.found.height c.args.cursor.now)
    c.arm.result c.from_residual.result c.in_err-read.field-0.0 c.arm.new.cursor c.arm.new.cursor a b c.arm.ensures.reads
    (λ k. e ∙ turn_fault n _ f h c.loop-turn.cursor c.in_err-read.field-0.0 k)

pub returns-then-not-more-clause-reads : goal.returns-then-not-more-clause-reads
returns-then-not-more-clause-reads g c =
    let n = c.args.self.now.below in
    let f = map plain-Arm c.loop-turn.found.list in
    let h = c.loop-turn.found.height in
    let e = one_more (λ k. arms_from n k f h c.loop-turn.cursor) _ c.loop-turn._turn c.loop-turn-test.true c.loop-turn.invariant.same in
    let t = turn_of c.in_ok-read.read in
    let r : arm n f h c.loop-turn.cursor ≡ Ok (turn_of c.in_ok-read.read, c.arm.new.cursor) = first_of (cc, search rules, grind (arith, common_steps)) in
    let m : c.in_ok-read.read.more ≡ false = first_of (cc, search rules, grind (arith, common_steps)) in
    reads_as (items_of plain-Arm) (arms_from n (length c.args.cursor.now) (map plain-Arm c.args.found.list) c.args.found.height c.args.cursor.now)
    (closing t.list t.height c.arm.new.cursor) c.closed.result c.closed.new.cursor (e ∙ turn_last n _ f h t c.loop-turn.cursor c.arm.new.cursor r m) c.closed.ensures.reads

pub loop-turn-preserved : goal.loop-turn-preserved
loop-turn-preserved g c =
    let n = c.args.self.now.below in
    let f = map plain-Arm c.loop-turn.found.list in
    let h = c.loop-turn.found.height in
    let e = one_more (λ k. arms_from n k f h c.loop-turn.cursor) _ c.loop-turn._turn c.loop-turn-test.true c.loop-turn.invariant.same in
    let t = turn_of c.in_ok-read.read in
    let r : arm n f h c.loop-turn.cursor ≡ Ok (turn_of c.in_ok-read.read, c.arm.new.cursor) = first_of (cc, search rules, grind (arith, common_steps)) in
    let m : c.in_ok-read.read.more ≡ true = first_of (cc, search rules, grind (arith, common_steps)) in
    record {
      same = e ∙ turn_more n _ f h t c.loop-turn.cursor c.arm.new.cursor r m;
      low = first_of (search rules, grind (arith, common_steps));
    }

pub returns-clause-reads : goal.returns-clause-reads
returns-clause-reads g c =
    let n = c.args.self.now.below in
    let f = map plain-Arm c.loop-turn.found.list in
    let h = c.loop-turn.found.height in
    let e = no_more (λ k. arms_from n k f h c.loop-turn.cursor) _ c.loop-turn._turn c.loop-turn-test.false c.loop-turn.invariant.same in
    let z = e ∙ no_turn n f h c.loop-turn.cursor in
    first_of (search rules, grind (arith, common_steps))
