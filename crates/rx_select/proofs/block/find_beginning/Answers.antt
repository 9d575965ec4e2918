use Rattle.std.proofs.Common.{ap, sym, ◌∙◌}
use Rattle.rx_tree.specs.declared.tree.Stmt.{Stmt}
use Rattle.rx_select.specs.Search.{begins_with}
use Rattle.rx_select.proofs.Forms.{begins_here, begins_later}
use Rattle.rx_select.proofs.block.find_beginning.Goals as goal

pub returns-then-begins : goal.returns-then-begins
returns-then-begins c =
    sym (begins_here c.args.places c.loop-i.i c.args.stmts.now c.args.tail c.index-stmts-i.result c.loop-i-test.true c.index-stmts-i.is
    (ap (λ (a : Stmt). begins_with c.args.places a.span) c.index-stmts-i.is ∙ sym c.begins.ensures ∙ c.if-begins.true))
    ∙ c.loop-i.invariant

pub loop-i-preserved : goal.loop-i-preserved
loop-i-preserved c =
    sym (begins_later c.args.places c.loop-i.i c.args.stmts.now c.args.tail c.index-stmts-i.result c.loop-i-test.true c.index-stmts-i.is
    (ap (λ (a : Stmt). begins_with c.args.places a.span) c.index-stmts-i.is ∙ sym c.begins.ensures ∙ c.if-begins.false))
    ∙ c.loop-i.invariant
