use Rattle.std.proofs.Common.{arith, subst}
use Rattle.rx_machine_driver.specs.Fitting.{functions_of, plain-Turn}
use Rattle.rx_machine_driver.specs.Running.{Turns}
use Rattle.rx_machine_driver.proofs.RunLemmas.{takes_next, takes_turn, takes_end}
use Rattle.rx_machine_driver.proofs.data.Machine.turn.Goals as goal

pub returns-in_ok-paused-in-Next : goal.returns-in_ok-paused-in-Next
returns-in_ok-paused-in-Next c = λ n t o l st.
    c.in_ok-paused-in-Next.ensures (functions_of c.args.functions.now) n t o (omega (arith, l))
    (takes_next (functions_of c.args.functions.now) n t o c.args.self.now c.begin.new.self (plain-Turn c.args.turn) c.in-Next.next l (subst (λ z. Turns (functions_of c.args.functions.now) c.args.self.now (plain-Turn c.args.turn) c.begin.new.self z) c.in-Next.is c.in_ok-step.ensures) st)

pub returns-in-Turn : goal.returns-in-Turn
returns-in-Turn c = λ n t o l st. takes_turn (functions_of c.args.functions.now) n t o c.args.self.now c.begin.new.self (plain-Turn c.args.turn) c.in-Turn.turn l (subst (λ z. Turns (functions_of c.args.functions.now) c.args.self.now (plain-Turn c.args.turn) c.begin.new.self z) c.in-Turn.is c.in_ok-step.ensures) st

pub returns-in-End : goal.returns-in-End
returns-in-End c = λ n t o l st. takes_end (functions_of c.args.functions.now) n t o c.args.self.now c.begin.new.self (plain-Turn c.args.turn) c.in-End.end l (subst (λ z. Turns (functions_of c.args.functions.now) c.args.self.now (plain-Turn c.args.turn) c.begin.new.self z) c.in-End.is c.in_ok-step.ensures) st
