use Rattle.std.proofs.Common.{map, slice_get, subst, ap, ◌∙◌}
use Rattle.rx_typed.specs.PlainTree.{plain-TypedTree, plain-Param}
use Rattle.rx_lower_lifetimes.specs.Values.{lifetimes_of}
use Rattle.rx_lower_lifetimes.specs.Variables.{open_types}
use Rattle.rx_lower_lifetimes.specs.Lowered.{function_of}
use Rattle.rx_lower_lifetimes.specs.Answer.{AnswersWithin}
use Rattle.rx_lower_lifetimes.specs.PlainOf.{plain-Open, plain-Told}
use Rattle.rx_lower_lifetimes.proofs.Answering.{walks}
use Rattle.rx_lower_lifetimes.proofs.whole.lower_function_within.Goals as goal

pub returns-in-Ok-clause-walked : goal.returns-in-Ok-clause-walked
returns-in-Ok-clause-walked c =
    let own = lifetimes_of (slice_get c.args.decls.now.items c.args.item) in
    walks c.args.limit (function_of c.args.decls.now.items c.args.item (plain-TypedTree c.args.tree.now) c.args.raws.now (map plain-Told c.args.written.now)) c.args.mutable.now c.with_variables-answer.result
    (subst (λ V. AnswersWithin c.args.limit (record { items = c.args.decls.now.items; item = c.args.item; body = plain-TypedTree c.args.tree.now; variables = V }) c.args.mutable.now c.with_variables-answer.result)
    (ap (map plain-Open) c.as_slice-in-Ok.ensures ∙ c.in-Ok.ensures
    ∙ ap (λ n. open_types n (map plain-Param c.as_slice.result.now) c.parameters-types.result.now (map plain-Told c.args.written.now) 0 c.args.raws.now) c.lifetimes_of-own.ensures
    ∙ ap (λ l. open_types own (map plain-Param l) c.parameters-types.result.now (map plain-Told c.args.written.now) 0 c.args.raws.now) c.as_slice.ensures
    ∙ ap (λ ts. open_types own (map plain-Param c.args.tree.now.params) ts (map plain-Told c.args.written.now) 0 c.args.raws.now) c.parameters-types.ensures)
    c.with_variables-answer.ensures)
