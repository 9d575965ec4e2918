use Rattle.std.proofs.Common.{ap, sym, ◌∙◌}
use Rattle.rx_tree.specs.declared.tree.Stmt.{Stmt}
use Rattle.rx_select.specs.Search.{ends_with}
use Rattle.rx_select.proofs.Forms.{ends_here, ends_later}
use Rattle.rx_select.proofs.block.find_ending.Goals as goal

pub returns-then-ends : goal.returns-then-ends
returns-then-ends c =
    sym (ends_here c.args.places c.loop-i.i c.args.stmts.now c.args.tail c.index-stmts-i.result c.loop-i-test.true c.index-stmts-i.is
    (ap (λ (a : Stmt). ends_with c.args.places a.span) c.index-stmts-i.is ∙ sym c.ends.ensures ∙ c.if-ends.true))
    ∙ c.loop-i.invariant

pub loop-i-preserved : goal.loop-i-preserved
loop-i-preserved c =
    sym (ends_later c.args.places c.loop-i.i c.args.stmts.now c.args.tail c.index-stmts-i.result c.loop-i-test.true c.index-stmts-i.is
    (ap (λ (a : Stmt). ends_with c.args.places a.span) c.index-stmts-i.is ∙ sym c.ends.ensures ∙ c.if-ends.false))
    ∙ c.loop-i.invariant
