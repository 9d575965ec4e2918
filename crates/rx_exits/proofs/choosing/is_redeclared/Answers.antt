use Rattle.std.proofs.Common.{sym, ◌∙◌}
use Rattle.rx_exits_plan.specs.Occurrences.{has_number}
use Rattle.rx_exits.proofs.ChoosingLemmas.{none_of_three, two_of_three}
use Rattle.rx_exits.proofs.choosing.is_redeclared.Goals as goal

pub returns-then-is_listed : goal.returns-then-is_listed
returns-then-is_listed c = none_of_three (has_number c.args.variable c.args.direct.now) (has_number c.args.variable c.args.behind.now) (has_number c.args.variable c.args.outs.now) (sym c.is_listed.ensures ∙ c.if-is_listed.true)

pub returns-else-is_listed : goal.returns-else-is_listed
returns-else-is_listed c = c.is_in_both.ensures ∙ two_of_three (has_number c.args.variable c.args.direct.now) (has_number c.args.variable c.args.behind.now) (has_number c.args.variable c.args.outs.now) (sym c.is_listed.ensures ∙ c.if-is_listed.false)
