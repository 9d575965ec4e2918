use Rattle.std.proofs.Common.{rules}
use Rattle.std.proofs.lemmas.Result.{on_ok_weaker}
use Rattle.rx_splice_edits.proofs.LineLemmas.{reindented_step, reindented_end}
use Rattle.rx_splice_edits.proofs.indent.push_reindented.Goals as goal

pub loop-first-preserved : goal.loop-first-preserved
loop-first-preserved c = (
  search rules,
  reindented_step c.args.indent.now c.in-Some.first.0.now c.in-Some.first.1.now c.in_ok-rest.rest.now c.loop-first.out _ _ _ _ c.loop-first.rest.now c.in-Some.ensures.0 c.in-Some.ensures.1
      c.in_ok-push.ensures.ok c.in_ok-push-2.ensures.ok c.in_ok-rest.ensures.text c.loop-first.invariant.1,
)

pub returns : goal.returns
returns c =
    on_ok_weaker c.push-2.result (λ e. reindented_end c.args.indent.now c.loop-first.rest.now c.loop-first.out _ _ c.in_default.ensures e c.loop-first.invariant.1) c.push-2.ensures.ok
