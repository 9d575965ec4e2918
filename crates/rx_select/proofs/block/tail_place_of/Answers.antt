use Rattle.std.proofs.Common.{◌+◌, List, not, ap, sym, ◌∙◌, map}
use Rattle.rx_tree.specs.declared.tree.Block.{out-Block}
use Rattle.rx_tree.specs.declared.tree.Stmt.{Stmt}
use Rattle.rx_tree.specs.PlainOf.{plain-Stmt}
use Rattle.rx_select.specs.Parts.{end_of}
use Rattle.rx_select.proofs.Forms.{no_tail, with_tail}
use Rattle.rx_select.proofs.block.tail_place_of.Goals as goal

pub returns-then-is_none : goal.returns-then-is_none
returns-then-is_none c = no_tail c.args.block.now (c.is_none.ensures ∙ ap not c.if-is_none.true)

pub returns : goal.returns
returns c =
    let b = out-Block c.args.block.now in
    let front = c.end_of_last-start.ensures ∙ ap (λ (l : List Stmt). end_of (b.span.start + 1) (map plain-Stmt l)) c.as_slice.ensures in
    with_tail c.args.block.now c.end_of_last-start.result (c.is_none.ensures ∙ ap not c.if-is_none.false) front
