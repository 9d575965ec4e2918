use Rattle.std.proofs.Common.{sym, ap, ◌||◌, ◌∙◌}
use Rattle.std.proofs.lemmas.Bool.{or_left}
use Rattle.rx_exits_plan.specs.Occurrences.{has_number}
use Rattle.rx_exits.proofs.choosing.is_offered.Goals as goal

pub returns-then-is_listed : goal.returns-then-is_listed
returns-then-is_listed c = sym (or_left _ _ (sym c.is_listed.ensures ∙ c.if-is_listed.true))

pub returns-else-is_listed : goal.returns-else-is_listed
returns-else-is_listed c =
    c.is_in_either.ensures ∙ ap (λ b. b || (has_number c.args.variable c.args.locals.now || has_number c.args.variable c.args.direct.now)) (sym (sym c.is_listed.ensures ∙ c.if-is_listed.false))
