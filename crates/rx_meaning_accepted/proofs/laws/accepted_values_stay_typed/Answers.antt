use Rattle.std.specs.Prelude.{false}
use Rattle.rx_typed.specs.PlainTypes.{declarations}
use Rattle.rx_machine.specs.Functions.{program_of}
use Rattle.rx_meaning_accepted.proofs.laws.accepted_values_stay_typed.Goals as goal

pub returns-clause-plain : goal.returns-clause-plain
returns-clause-plain c = λ p t few front m. let x = c.accepted_programs_act_by_their_types.ensures p t few front m in
    (x.0, λ given n f vs s1 w s K a r. c.typed_values_stay_typed.ensures.plain (declarations t.decls.items) x.0 (program_of t m) x.1 false (λ g G q u b is. tt) given n f vs s1 w s K a r)

pub returns-clause-strict : goal.returns-clause-strict
returns-clause-strict c = λ p t few front m. let x = c.accepted_programs_act_by_their_types.ensures p t few front m in
    (x.0, λ given n f vs s1 w s K a r. c.typed_values_stay_typed.ensures.strict (declarations t.decls.items) x.0 (program_of t m) x.1 false (λ g G q u b is. tt) given n f vs s1 w s K a r)
