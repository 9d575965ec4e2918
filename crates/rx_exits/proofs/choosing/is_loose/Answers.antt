use Rattle.std.proofs.Common.{sym, ◌∙◌}
use Rattle.rx_exits.proofs.ChoosingLemmas.{second_stops, third_stops, first_goes}
use Rattle.rx_exits.proofs.choosing.is_loose.Goals as goal

pub returns-then-is_listed : goal.returns-then-is_listed
returns-then-is_listed c = second_stops _ _ _ (sym c.is_listed.ensures ∙ c.if-is_listed.true)

pub returns-then-is_out : goal.returns-then-is_out
returns-then-is_out c = third_stops _ _ _ (sym c.is_out.ensures ∙ c.if-is_out.true)

pub returns-else-is_out : goal.returns-else-is_out
returns-else-is_out c = c.is_in_either.ensures ∙ first_goes _ _ _ (sym c.is_listed.ensures ∙ c.if-is_listed.false) (sym c.is_out.ensures ∙ c.if-is_out.false)
