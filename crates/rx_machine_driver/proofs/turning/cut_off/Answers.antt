use Rattle.std.proofs.Common.{map, option_map, sym, subst}
use Rattle.rx_machine_values.specs.PlainValues.{plain-Value}
use Rattle.rx_typed.specs.PlainTree.{plain-Mark, plain-Expr, plain-TypedTree}
use Rattle.rx_meaning.specs.declared.outcome.End.{End}
use Rattle.rx_meaning.specs.Values.{element}
use Rattle.rx_machine_driver.specs.Fitting.{functions_of, plain-Turn}
use Rattle.rx_machine_driver.specs.Running.{IsFunction, IsCutOff}
use Rattle.rx_machine_driver.proofs.RunLemmas.{call_cut, call_none, loop_cut}
use Rattle.rx_machine_driver.proofs.turning.cut_off.Goals as goal

pub returns-in-Some : goal.returns-in-Some
returns-in-Some c =
    subst (λ u. IsCutOff (functions_of c.args.functions.now) (plain-Turn u) End.Running) (sym c.in-Calls.is)
    (call_cut (functions_of c.args.functions.now) c.in-Calls.item (plain-TypedTree c.in-Some.field-0.now) (map plain-Value c.in-Calls.arguments)
    (subst (λ o. IsFunction (element (functions_of c.args.functions.now) c.in-Calls.item) (option_map (λ f. plain-TypedTree f.now) o)) c.in-Some.is c.function_at.ensures))

pub returns-in-None : goal.returns-in-None
returns-in-None c =
    subst (λ u. IsCutOff (functions_of c.args.functions.now) (plain-Turn u) End.Wrong) (sym c.in-Calls.is)
    (call_none (functions_of c.args.functions.now) c.in-Calls.item (map plain-Value c.in-Calls.arguments) (subst (λ o. IsFunction (element (functions_of c.args.functions.now) c.in-Calls.item) (option_map (λ f. plain-TypedTree f.now) o)) c.in-None.is c.function_at.ensures))

pub returns-in-Loops : goal.returns-in-Loops
returns-in-Loops c =
    subst (λ u. IsCutOff (functions_of c.args.functions.now) (plain-Turn u) End.Running) (sym c.in-Loops.is)
    (loop_cut (functions_of c.args.functions.now) (plain-Mark c.in-Loops.field-0.now) c.in-Loops.field-1 (plain-Expr c.in-Loops.field-2.now))
