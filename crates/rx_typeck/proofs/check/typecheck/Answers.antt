use Rattle.std.proofs.Common.{ap, ◌∙◌}
use Rattle.rx_typeck_typed.specs.Typing.{in_declaration, of_declaration}
use Rattle.rx_typeck.proofs.TypingLemmas.{given_err}
use Rattle.rx_typeck.proofs.check.typecheck.Goals as goal

pub returns-in-Err-clause-fault : goal.returns-in-Err-clause-fault
returns-in-Err-clause-fault c told =
    in_declaration c.in-Err.fault
    (given_err _ c.declare.result c.in-Err.fault c.declare.ensures.fault c.in-Err.is (λ same. told (c.of_declaration.ensures ∙ ap of_declaration same)))
    c.of_declaration.ensures
