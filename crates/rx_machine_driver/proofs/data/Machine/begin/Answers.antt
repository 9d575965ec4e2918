use Rattle.std.proofs.Common.{map, option_map, sym, subst}
use Rattle.rx_machine_values.specs.PlainValues.{plain-Value}
use Rattle.rx_typed.specs.PlainTree.{plain-TypedTree}
use Rattle.rx_meaning.specs.declared.outcome.End.{End}
use Rattle.rx_meaning.specs.Values.{element}
use Rattle.rx_machine_driver.specs.declared.data.Step.TheVariants as step_to
use Rattle.rx_machine_driver.specs.Fitting.{functions_of, plain-Turn}
use Rattle.rx_machine_driver.specs.Running.{IsFunction, Turns}
use Rattle.rx_machine_driver.proofs.FrameLemmas.{call_takes, call_wrong}
use Rattle.rx_machine_driver.proofs.ReachLemmas.{one_turn}
use Rattle.rx_machine_driver.proofs.data.Machine.begin.Goals as goal

pub returns-in_ok-step-in-Loops : goal.returns-in_ok-step-in-Loops
returns-in_ok-step-in-Loops c =
    subst (λ u. Turns (functions_of c.args.functions.now) c.args.self.now (plain-Turn u) c.pass.new.self c.in_ok-step-in-Loops.step) (sym c.in-Loops.is) (c.in_ok-step-in-Loops.ensures (functions_of c.args.functions.now))

pub returns-in_ok-step-in-Some : goal.returns-in_ok-step-in-Some
returns-in_ok-step-in-Some c =
    subst (λ u. Turns (functions_of c.args.functions.now) c.args.self.now (plain-Turn u) c.enter.new.self c.in_ok-step-in-Some.step) (sym c.in-Calls.is)
    (one_turn (functions_of c.args.functions.now) c.args.self.now _ c.enter.new.self c.in_ok-step-in-Some.step (call_takes (functions_of c.args.functions.now) c.args.self.now c.enter.new.self c.in-Calls.item (plain-TypedTree c.in-Some.callee.now) (map plain-Value c.in-Calls.arguments) c.in_ok-step-in-Some.step
    (subst (λ o. IsFunction (element (functions_of c.args.functions.now) c.in-Calls.item) (option_map (λ f. plain-TypedTree f.now) o)) c.in-Some.is c.function_at.ensures) c.in_ok-step-in-Some.ensures))

pub returns-in-None : goal.returns-in-None
returns-in-None c =
    subst (λ u. Turns (functions_of c.args.functions.now) c.args.self.now (plain-Turn u) c.args.self.now (step_to.End End.Wrong)) (sym c.in-Calls.is)
    (one_turn (functions_of c.args.functions.now) c.args.self.now _ c.args.self.now (step_to.End End.Wrong) (call_wrong (functions_of c.args.functions.now) c.args.self.now c.in-Calls.item (map plain-Value c.in-Calls.arguments) (subst (λ o. IsFunction (element (functions_of c.args.functions.now) c.in-Calls.item) (option_map (λ f. plain-TypedTree f.now) o)) c.in-None.is c.function_at.ensures)))
