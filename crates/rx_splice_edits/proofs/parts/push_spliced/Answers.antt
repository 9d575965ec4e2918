use Rattle.std.proofs.Common.{◌++◌, ap, ◌∙◌, arith}
use Rattle.std.proofs.lemmas.Result.{on_ok_weaker}
use Rattle.rx_splice_edits.proofs.PartLemmas.{begins, next_cut, step, done}
use Rattle.rx_splice_edits.proofs.parts.push_spliced.Goals as goal

pub loop-edit-init : goal.loop-edit-init
loop-edit-init c = begins c.args.text.now c.args.from c.args.to c.args.edits.now c.args.out.now c.requires

pub push_next-requires-clause-begins : goal.push_next-requires-clause-begins
push_next-requires-clause-begins c = c.loop-edit.invariant.at_cut

pub push_next-requires-clause-cut : goal.push_next-requires-clause-cut
push_next-requires-clause-cut c =
    next_cut c.args.text.now c.args.from c.args.to c.args.edits.now c.args.out.now c.loop-edit.out c.loop-edit.at c.loop-edit.edit-index c.edit-item.result c.loop-edit-test.true c.edit-item.is c.loop-edit.invariant

pub loop-edit-preserved : goal.loop-edit-preserved
loop-edit-preserved c =
    step c.args.text.now c.args.from c.args.to c.args.edits.now c.args.out.now c.loop-edit.out c.push_next.new.out c.loop-edit.at c.in_ok-at.at c.loop-edit.edit-index c.edit-item.result
    c.loop-edit-test.true c.edit-item.is c.in_ok-at.ensures.0 c.in_ok-at.ensures.1 c.loop-edit.invariant

pub returns : goal.returns
returns c =
    on_ok_weaker c.push.result
    (λ e. e ∙ ap (λ x. c.loop-edit.out ++ x) c.range.ensures.value ∙ done c.args.text.now c.args.from c.args.to c.args.edits.now c.args.out.now c.loop-edit.out c.loop-edit.at c.loop-edit.edit-index (omega arith) c.loop-edit.invariant) c.push.ensures.ok
