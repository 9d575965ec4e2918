use Rattle.std.proofs.Common.{◌≡◌, []}
use Rattle.rx_tree.specs.declared.tree.Func.{Func}
use Rattle.rx_tree.specs.PlainOf.{plain-Block, plain-Func, plain-Program}
use Rattle.rx_hoist_plan.specs.PlainPlan.{plain-Plan}
use Rattle.rx_hoist_extraction.specs.Run.{numbered}
use Rattle.rx_hoist_extraction.specs.NewFunction.{new_function as new_function_of}
use Rattle.rx_hoist_made.specs.PlainParts.{plain-Labels, plain-RunParts}
use Rattle.rx_hoist_made.proofs.Dropped.{ok_map}
use Rattle.rx_hoist.proofs.FunctionLemmas.{function_made}
use Rattle.rx_hoist.proofs.function.made_function.Goals as goal

pub returns : goal.returns
returns c =
    let P = plain-Program c.args.program.now in
    let pl = plain-Plan c.args.plan.now in
    let labels = plain-Labels c.args.labels.now in
    let run = plain-RunParts c.args.run in
    ok_map _ (λ (it : Func). plain-Func it ≡ new_function_of P pl [] c.args.span (numbered 1 labels) run) c.new_function.result
    (λ it e. function_made P pl c.args.span labels run c.args.copied.now (plain-Block c.in_ok-body.body) (plain-Func it) c.requires.copied c.in_ok-body.ensures e)
    c.new_function.ensures
