use Rattle.std.proofs.Common.{◌∙◌, ap, [], ◌∷◌, ◌++◌, slice_get}
use Rattle.rx_tree.specs.PlainOf.{plain-Func}
use Rattle.rx_typeck_typed.specs.Typing.{entries, variables_at, FunctionTyped}
use Rattle.rx_typeck.specs.Checking.{given_of}
use Rattle.rx_typeck.proofs.TypingLemmas.{function_item, given}
use Rattle.rx_typeck.proofs.check.Check.item.Goals as goal

pub returns-in-Ok-clause-typed : goal.returns-in-Ok-clause-typed
returns-in-Ok-clause-typed c =
    let held = c.in_ok-typed-in-Func.ensures in
    function_item (given_of c.args.self.now) c.args.self.now.names.now.items c.args.number c.args.item.now c.in-Func.function c.args.all c.in-Ok.all c.in_ok-typed-in-Func.typed c.in-Func.is
    (c.in-Ok.ensures ∙ ap (λ l. l ++ c.in_ok-typed-in-Func.typed ∷ []) held.1)
    (given (FunctionTyped (given_of c.args.self.now) c.args.number c.args.item.now.span (plain-Func c.in-Func.function) (entries (slice_get c.args.self.now.names.now.items c.args.number)) (variables_at (slice_get c.args.self.now.names.now.items c.args.number)))
    c.function_at.result c.in_ok-typed-in-Func.typed c.function_at.ensures.typed held.0)
