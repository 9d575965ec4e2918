use Rattle.rx_check.proofs.ExclusionLemmas.{fronted_or_faulty, accepted_or_faulty}
use Rattle.rx_check.proofs.laws.passed_or_faulty.Goals as goal

pub returns-clause-fronted : goal.returns-clause-fronted
returns-clause-fronted c = fronted_or_faulty c.typed_or_wrong.ensures c.one_typed_program.ensures c.one_typing.ensures c.typed_declarations_are_finite.ensures.finite c.one_size_each.ensures.one

pub returns-clause-accepted : goal.returns-clause-accepted
returns-clause-accepted c = accepted_or_faulty c.typed_or_wrong.ensures c.one_typed_program.ensures c.one_typing.ensures c.typed_declarations_are_finite.ensures.finite c.one_size_each.ensures.one
