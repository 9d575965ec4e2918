use Rattle.rx_typed.specs.PlainTypes.{declarations}
use Rattle.rx_machine.specs.Functions.{program_of}
use Rattle.rx_meaning_accepted.proofs.laws.accepted_runs_follow_references.Goals as goal

pub returns-clause-plain : goal.returns-clause-plain
returns-clause-plain c = λ p t few front m F q np given n told e. let x = c.accepted_programs_act_by_their_types.ensures p t few front m in
    c.typed_runs_follow_references.ensures.plain (declarations t.decls.items) x.0 (program_of t m) x.1 (c.accepted_programs_are_initial.ensures p t few front m).formed F q np given n told e

pub returns-clause-strict : goal.returns-clause-strict
returns-clause-strict c = λ p t few front m F q np given n told e. let x = c.accepted_programs_act_by_their_types.ensures p t few front m in
    c.typed_runs_follow_references.ensures.strict (declarations t.decls.items) x.0 (program_of t m) x.1 (c.accepted_programs_are_initial.ensures p t few front m).formed F q np given n told e
