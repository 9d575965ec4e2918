use Rattle.std.proofs.Common.{length, sym, ◌∙◌, arith}
use Rattle.std.proofs.lemmas.Bool.{false≢true}
use borrow.Author.Tests.{leb-true, le-leb}
use Rattle.rx_compact_edits.proofs.Cuts.{all_left, left_behind, cut_here, all_cut}
use Rattle.rx_compact_edits.proofs.cutting.can_be_cut.Goals as goal

pub loop-edit-init : goal.loop-edit-init
loop-edit-init c = all_left c.args.text.now c.args.edits.now

pub loop-edit-preserved : goal.loop-edit-preserved
loop-edit-preserved c =
    left_behind c.args.text.now c.args.edits.now c.loop-edit.at c.loop-edit.edit-index c.edit-item.result c.loop-edit-test.true c.edit-item.is
    (c.is_cut.ensures.0 c.if-not-is_cut.false) c.loop-edit.invariant

pub returns-then-not-is_cut : goal.returns-then-not-is_cut
returns-then-not-is_cut c = (
  λ y. absurd (false≢true y),
  λ a. sym c.if-not-is_cut.true ∙ c.is_cut.ensures.1
      (cut_here c.args.text.now c.args.edits.now c.loop-edit.at c.loop-edit.edit-index c.edit-item.result c.loop-edit-test.true c.edit-item.is c.loop-edit.invariant a),
)

pub returns : goal.returns
returns c = all_cut c.args.text.now c.args.edits.now c.loop-edit.at c.loop-edit.edit-index _ (omega arith) c.loop-edit.invariant (leb-true c.loop-edit.at (length c.args.text.now), le-leb c.loop-edit.at (length c.args.text.now))
