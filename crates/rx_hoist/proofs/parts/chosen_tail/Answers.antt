use Rattle.std.proofs.Common.{sym, ◌∙◌}
use Rattle.rx_tree.specs.PlainOf.{plain-Block}
use Rattle.rx_tree.specs.Lists.{statements, tail}
use Rattle.rx_hoist_extraction.specs.Run.{goes_past as past}
use Rattle.rx_hoist.specs.Runs.{run_of}
use Rattle.rx_hoist.proofs.PlaceLemmas.{past_is, tail_past, tail_not_past}
use Rattle.rx_hoist.proofs.parts.chosen_tail.Goals as goal

pub returns-then-goes_past : goal.returns-then-goes_past
returns-then-goes_past c =
    let r = run_of c.args.run.now in
    let b = c.args.block.now in
    tail_past _ (past r (statements (plain-Block b))) (tail (plain-Block b)) (sym (past_is r b c.as_slice.result.now c.goes_past.result c.as_slice.ensures c.goes_past.ensures) ∙ c.if-goes_past.true) c.tail_of.ensures

pub returns-else-goes_past : goal.returns-else-goes_past
returns-else-goes_past c =
    let r = run_of c.args.run.now in
    let b = c.args.block.now in
    tail_not_past (past r (statements (plain-Block b))) (tail (plain-Block b)) (sym (past_is r b c.as_slice.result.now c.goes_past.result c.as_slice.ensures c.goes_past.ensures) ∙ c.if-goes_past.false)
