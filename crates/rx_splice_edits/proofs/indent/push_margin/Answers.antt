use Rattle.rx_splice_edits.proofs.LineLemmas.{margin_written}
use Rattle.rx_splice_edits.proofs.indent.push_margin.Goals as goal

pub returns-in_ok-push-in-Some-clause-text : goal.returns-in_ok-push-in-Some-clause-text
returns-in_ok-push-in-Some-clause-text c = margin_written c.args.indent.now c.in-Some.rest.now c.args.text.now c.args.out.now _ c.in-Some.ensures c.in_ok-push-in-Some.ensures.ok
