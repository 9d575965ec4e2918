use Rattle.std.proofs.Common.{ℕ, not, List, map, ap, ◌∙◌}
use Rattle.rx_exits_plan.specs.Occurrences as occurrences
use Rattle.rx_exits_plan.specs.PlainPlan.{plain-Run}
use Rattle.rx_exits_plan.specs.PlainSyntax.{plain-Home}
use Rattle.rx_exits_occurrences.specs.PlainOccurrence.{plain-Occurrence}
use Rattle.rx_exits_occurrences.proofs.naming.variables_of.Goals as goal

pub returns-clause-all : goal.returns-clause-all
returns-clause-all c = (c.in_ok-all.ensures ∙ ap occurrences.firsts (c.as_slice-2.ensures ∙ c.in_ok-named.ensures ∙ ap occurrences.variables_among (ap (map plain-Occurrence) c.as_slice.ensures ∙ c.in_ok-found.ensures)))

pub returns-clause-foreign : goal.returns-clause-foreign
returns-clause-foreign c =
    let r = plain-Run c.args.run in
    let b = (plain-Home c.args.home.now).body in
    c.in_ok-foreign.ensures
    ∙ ap (λ (os : List occurrences.Occurrence). occurrences.those (λ x. not (occurrences.has_number x (occurrences.declared_among os))) c.as_slice-4.result.now)
    (ap (map plain-Occurrence) c.as_slice-3.ensures ∙ c.in_ok-found.ensures)
    ∙ ap (λ (l : List ℕ). occurrences.those (λ x. not (occurrences.is_declared_in_run r b x)) l) (c.as_slice-4.ensures ∙ (c.in_ok-all.ensures ∙ ap occurrences.firsts (c.as_slice-2.ensures ∙ c.in_ok-named.ensures ∙ ap occurrences.variables_among (ap (map plain-Occurrence) c.as_slice.ensures ∙ c.in_ok-found.ensures))))

pub returns-clause-direct : goal.returns-clause-direct
returns-clause-direct c =
    c.in_ok-direct.ensures ∙ ap (occurrences.those (occurrences.is_direct (plain-Run c.args.run) (plain-Home c.args.home.now).body)) (c.as_slice-5.ensures ∙ (c.in_ok-all.ensures ∙ ap occurrences.firsts (c.as_slice-2.ensures ∙ c.in_ok-named.ensures ∙ ap occurrences.variables_among (ap (map plain-Occurrence) c.as_slice.ensures ∙ c.in_ok-found.ensures))))

pub returns-clause-behind : goal.returns-clause-behind
returns-clause-behind c =
    c.in_ok-behind.ensures ∙ ap (occurrences.those (occurrences.is_named_behind (plain-Run c.args.run) (plain-Home c.args.home.now).body)) (c.as_slice-6.ensures ∙ (c.in_ok-all.ensures ∙ ap occurrences.firsts (c.as_slice-2.ensures ∙ c.in_ok-named.ensures ∙ ap occurrences.variables_among (ap (map plain-Occurrence) c.as_slice.ensures ∙ c.in_ok-found.ensures))))
