use Rattle.std.proofs.Common.{◌≡◌, ◌∙◌, length, Err, sym, rules, arith}
use Rattle.std.specs.Prelude.{◌≢◌}
use Rattle.std.proofs.lemmas.Grind.{common_steps}
use Rattle.rx_tree.specs.PlainOf.{plain-Expr}
use Rattle.rx_parse_grammar.specs.declared.symbol.Symbol.TheVariants as symbol
use Rattle.rx_parse_grammar.specs.parser.Symbols.{peek}
use Rattle.rx_parse_grammar.specs.parser.Expressions.{chain}
use Rattle.rx_parse_cursor.specs.GotOf.{got_of}
use Rattle.rx_parse_expressions.specs.Levels.{member_step}
use Rattle.rx_parse_expressions.specs.Members.{member}
use Rattle.rx_parse_cursor.proofs.ListSteps.{carried}
use Rattle.rx_parse_expressions.proofs.MemberSteps.{chain_more, chain_fault, chain_end, chain_over}
use Rattle.rx_parse_cursor.proofs.Turns.{one_more, no_more}
use Rattle.rx_parse_expressions.proofs.members.members.Goals as goal

pub returns-in_err-left-in-Dot-clause-reads : goal.returns-in_err-left-in-Dot-clause-reads
returns-in_err-left-in-Dot-clause-reads c =
    let l = got_of plain-Expr c.loop-turn.left in
    let e = one_more (λ n. chain (member_step c.args.below) n l c.loop-turn.cursor) _ c.loop-turn._turn c.loop-turn-test.true c.loop-turn.invariant.same in
    let p : peek c.loop-turn.cursor ≡ symbol.Dot = sym c.peek.ensures ∙ c.in-Dot.is in
    let a : c.one_member.result ≡ Err c.in_err-left-in-Dot.field-0.0 = first_of (cc, search rules, grind (arith, common_steps)) in
    let b : c.from_residual.result ≡ Err c.in_err-left-in-Dot.field-0.0 = first_of (cc, search rules, grind (arith, common_steps)) in
    carried (got_of plain-Expr) (got_of plain-Expr) (member c.args.below l c.loop-turn.cursor)
    (chain (member_step c.args.below) (length c.args.cursor.now) (got_of plain-Expr c.args.left) c.args.cursor.now)
    c.one_member.result c.from_residual.result c.in_err-left-in-Dot.field-0.0 c.one_member.new.cursor c.one_member.new.cursor a b c.one_member.ensures.reads
    (λ k. e ∙ chain_fault c.args.below _ l c.loop-turn.cursor c.in_err-left-in-Dot.field-0.0 p k)

pub returns-in_default : goal.returns-in_default
returns-in_default c =
    let l = got_of plain-Expr c.loop-turn.left in
    let e = one_more (λ n. chain (member_step c.args.below) n l c.loop-turn.cursor) _ c.loop-turn._turn c.loop-turn-test.true c.loop-turn.invariant.same in
    let p : peek c.loop-turn.cursor ≢ symbol.Dot = λ q. c.in_default.not-Dot (c.peek.ensures ∙ q) in
    record {
      reads = e ∙ chain_end c.args.below _ l c.loop-turn.cursor p;
      low = c.loop-turn.invariant.low;
    }

pub loop-turn-preserved : goal.loop-turn-preserved
loop-turn-preserved c =
    let l = got_of plain-Expr c.loop-turn.left in
    let x = got_of plain-Expr c.in_ok-left-in-Dot.left in
    let e = one_more (λ n. chain (member_step c.args.below) n l c.loop-turn.cursor) _ c.loop-turn._turn c.loop-turn-test.true c.loop-turn.invariant.same in
    let p : peek c.loop-turn.cursor ≡ symbol.Dot = sym c.peek.ensures ∙ c.in-Dot.is in
    record {
      same = e ∙ chain_more c.args.below _ l x c.loop-turn.cursor c.one_member.new.cursor p c.in_ok-left-in-Dot.ensures.reads;
      low = c.in_ok-left-in-Dot.ensures.low;
    }

pub returns-clause-reads : goal.returns-clause-reads
returns-clause-reads c =
    let l = got_of plain-Expr c.loop-turn.left in
    let e = no_more (λ n. chain (member_step c.args.below) n l c.loop-turn.cursor) _ c.loop-turn._turn c.loop-turn-test.false c.loop-turn.invariant.same in
    e ∙ chain_over c.args.below l c.loop-turn.cursor
