use Rattle.std.proofs.Common.{sym, ap, ◌&&◌, ◌∙◌}
use Rattle.rx_exits_plan.specs.Occurrences.{has_number}
use Rattle.rx_exits.proofs.listed.is_in_both.Goals as goal

pub returns-then-is_listed : goal.returns-then-is_listed
returns-then-is_listed c =
    c.is_listed-then-is_listed.ensures ∙ ap (λ b. b && has_number c.args.variable c.args.other.now) (sym (sym c.is_listed.ensures ∙ c.if-is_listed.true))

pub returns-else-is_listed : goal.returns-else-is_listed
returns-else-is_listed c = ap (λ b. b && has_number c.args.variable c.args.other.now) (sym (sym c.is_listed.ensures ∙ c.if-is_listed.false))
