use Rattle.rx_facts.specs.Functions.{IsSmall, IsLarge}
use Rattle.rx_facts.specs.Answers.{IsGraphOf}
use Rattle.rx_facts.proofs.Passing.{next_done, next_refused, end_done}
use Rattle.rx_facts.proofs.Telling.{lower_err}
use Rattle.rx_facts.proofs.lowering.lower_each.Goals as goal

pub loop-function-preserved : goal.loop-function-preserved
loop-function-preserved c =
    next_done (IsGraphOf c.args.decls.now.items) (IsSmall c.args.decls.now.items) (IsLarge c.args.decls.now.items) c.args.functions.now c.loop-function.function-index c.loop-function.all
    c.in-Ok.more c.function-item.result c.loop-function-test.true c.function-item.is c.in-Ok.ensures.more (λ g h. record { sites = h.few_sites; positions_are = h.few_positions }) c.loop-function.invariant

pub returns-in-Err : goal.returns-in-Err
returns-in-Err c = lower_err c.args.decls.now.items c.args.functions.now c.in-Err.fault
    (next_refused (IsGraphOf c.args.decls.now.items) (IsSmall c.args.decls.now.items) (IsLarge c.args.decls.now.items) c.args.functions.now c.loop-function.function-index c.loop-function.all
    c.function-item.result c.in-Err.fault c.loop-function-test.true c.function-item.is c.in-Err.ensures.large c.loop-function.invariant)

pub returns : goal.returns
returns c = end_done (IsGraphOf c.args.decls.now.items) (IsSmall c.args.decls.now.items) (IsLarge c.args.decls.now.items) c.args.functions.now c.loop-function.function-index c.loop-function.all
    c.loop-function-test.false c.loop-function.invariant
