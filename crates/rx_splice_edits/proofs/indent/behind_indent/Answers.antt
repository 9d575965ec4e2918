use Rattle.rx_splice_edits.proofs.LineLemmas.{prefix_is}
use Rattle.rx_splice_edits.proofs.indent.behind_indent.Goals as goal

pub returns : goal.returns
returns c = prefix_is c.args.indent.now c.args.text.now c.strip_prefix.result c.strip_prefix.ensures.cases
