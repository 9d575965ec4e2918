use Rattle.std.proofs.Common.{sym, ◌∙◌, arith}
use Rattle.rx_lex.proofs.BlockSteps.{block_opens, block_closes, block_goes, block_ends}
use Rattle.rx_lex.proofs.scan.block_length.Goals as goal

pub loop-at-preserved-then-has_pair : goal.loop-at-preserved-then-has_pair
loop-at-preserved-then-has_pair c =
    let e = block_opens c.loop-at.depth c.loop-at.at c.args.rest.now c.loop-at-test.true (sym c.has_pair.ensures ∙ c.if-has_pair.true) in
    (sym e ∙ c.loop-at.invariant.0, omega arith, omega arith)

pub loop-at-preserved-then-has_pair-2 : goal.loop-at-preserved-then-has_pair-2
loop-at-preserved-then-has_pair-2 c =
    let e = block_closes c.loop-at.depth c.loop-at.at c.args.rest.now c.loop-at-test.true (sym c.has_pair.ensures ∙ c.if-has_pair.false)
    (sym c.has_pair-else-has_pair.ensures ∙ c.if-has_pair-2.true) c.if-depth-eq0.false in
    (sym e ∙ c.loop-at.invariant.0, omega arith, omega arith)

pub loop-at-preserved : goal.loop-at-preserved
loop-at-preserved c =
    let e = block_goes c.loop-at.depth c.loop-at.at c.args.rest.now c.loop-at-test.true (sym c.has_pair.ensures ∙ c.if-has_pair.false)
    (sym c.has_pair-else-has_pair.ensures ∙ c.if-has_pair-2.false) in
    (sym e ∙ c.loop-at.invariant.0, omega arith, omega arith)

pub returns : goal.returns
returns c = sym c.loop-at.invariant.0 ∙ block_ends c.loop-at.depth c.loop-at.at c.args.rest.now c.loop-at-test.false
