use Rattle.std.proofs.Common.{sym, ◌∙◌}
use Rattle.rx_splice_edits.proofs.parts.push_next.Goals as goal

pub push_edit-requires-clause-cut : goal.push_edit-requires-clause-cut
push_edit-requires-clause-cut c = c.requires.cut (sym c.stands_within.ensures ∙ c.if-stands_within.true)
