use Rattle.std.proofs.Common.{sym, ◌∙◌}
use Rattle.std.proofs.lemmas.Bool.{false≢true}
use Rattle.rx_splice_edits.proofs.text.text_by_parts.Goals as goal

pub text_in_order-requires : goal.text_in_order-requires
text_in_order-requires c = sym c.are_in_order.ensures ∙ c.if-are_in_order.true

pub returns-else-are_in_order : goal.returns-else-are_in_order
returns-else-are_in_order c = λ f. absurd (false≢true (sym c.if-are_in_order.false ∙ c.are_in_order.ensures ∙ f.tokens))
