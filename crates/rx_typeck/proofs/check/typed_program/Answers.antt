use Rattle.rx_typeck_typed.specs.Typing.{in_function}
use Rattle.rx_typeck.proofs.TypingLemmas.{given_err}
use Rattle.rx_typeck.proofs.check.typed_program.Goals as goal

pub returns-in-Err-clause-untyped : goal.returns-in-Err-clause-untyped
returns-in-Err-clause-untyped c told =
    let u = given_err _ c.typed_functions.result c.in-Err.fault c.typed_functions.ensures.untyped c.in-Err.is told in
    in_function c.args.decls.items c.requires.declares u.sizes u.is_sizes u.first
