use Rattle.std.proofs.Common.{◌≢◌, IfOk, IfErr, refl, sym, ap, ◌∙◌, slice_get}
use Rattle.std.specs.Option.{option_copied}
use Rattle.rx_tree.specs.PlainOf.{plain-Func}
use Rattle.rx_typed.specs.Naming.{function_named}
use Rattle.rx_typeck_typed.specs.declared.typed.TypeFault.TheVariants as fault
use Rattle.rx_typeck_typed.specs.Typing.{FunctionTyped, FunctionUntyped}
use Rattle.rx_typeck.specs.Checking.{given_of, known_of}
use Rattle.rx_typeck.proofs.TypingLemmas.{by_table, without_table}
use Rattle.rx_typeck.proofs.check.Check.function_at.Goals as goal

pub returns-in-Some-clause-typed : goal.returns-in-Some-clause-typed
returns-in-Some-clause-typed c = by_table (λ ns vars. IfOk c.function.result (λ t. FunctionTyped (given_of c.args.self.now) c.args.item c.args.span (plain-Func c.args.function.now) ns vars t))
    (slice_get c.args.self.now.names.now.items c.args.item) c.in-Some.table.now c.as_slice-variables.result.now (sym c.get.ensures.value ∙ ap option_copied c.in-Some.is) c.as_slice-variables.ensures c.function.ensures.typed

pub returns-in-Some-clause-untyped : goal.returns-in-Some-clause-untyped
returns-in-Some-clause-untyped c = by_table (λ ns vars. IfErr c.function.result (λ e. e ≢ fault.OutOfMemory → FunctionUntyped (known_of c.args.self.now) (function_named c.args.item c.args.span (plain-Func c.args.function.now) ns) vars e))
    (slice_get c.args.self.now.names.now.items c.args.item) c.in-Some.table.now c.as_slice-variables.result.now (sym c.get.ensures.value ∙ ap option_copied c.in-Some.is) c.as_slice-variables.ensures c.function.ensures.untyped

pub returns-in-None-clause-typed : goal.returns-in-None-clause-typed
returns-in-None-clause-typed c = without_table (λ ns vars. IfOk c.function-in-None.result (λ t. FunctionTyped (given_of c.args.self.now) c.args.item c.args.span (plain-Func c.args.function.now) ns vars t))
    (slice_get c.args.self.now.names.now.items c.args.item) _ _ (sym c.get.ensures.value ∙ ap option_copied c.in-None.is) c.new-names.ensures refl c.function-in-None.ensures.typed

pub returns-in-None-clause-untyped : goal.returns-in-None-clause-untyped
returns-in-None-clause-untyped c = without_table (λ ns vars. IfErr c.function-in-None.result (λ e. e ≢ fault.OutOfMemory → FunctionUntyped (known_of c.args.self.now) (function_named c.args.item c.args.span (plain-Func c.args.function.now) ns) vars e))
    (slice_get c.args.self.now.names.now.items c.args.item) _ _ (sym c.get.ensures.value ∙ ap option_copied c.in-None.is) c.new-names.ensures refl c.function-in-None.ensures.untyped
