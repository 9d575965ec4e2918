use Rattle.std.proofs.Common.{sym, subst}
use Rattle.rx_exits_plan.specs.PlainSyntax.{plain-Home}
use Rattle.rx_engine_extraction.specs.declared.refusal.Fault.{Fault}
use Rattle.rx_engine_extraction.specs.Deciding.{text_of, case_at, IsUndecided}
use Rattle.rx_engine_extraction.proofs.Seating.{seat_at, function_known}
use Rattle.rx_engine_extraction.proofs.deciding.decided.Goals as goal

pub function-function-requires : goal.function-function-requires
function-function-requires g c = function_known (text_of c.args.given.now) c.args.run c.requires

pub seat-requires : goal.seat-requires
seat-requires g c = seat_at (text_of c.args.given.now) c.args.run c.requires c.function-function.result.now c.function-function.ensures

pub returns-in-Err-clause-fault : goal.returns-in-Err-clause-fault
returns-in-Err-clause-fault g c =
    let T = text_of c.args.given.now in let f = c.function-function.result.now in let h = c.requires.1 in
    (f, h, subst (λ (x : Fault). IsUndecided T (case_at c.args.run f h) x) (sym c.in-Err.ensures.fault) tt)

pub decided_at-requires-clause-run : goal.decided_at-requires-clause-run
decided_at-requires-clause-run g c = c.in-Ok.ensures.found.0

pub decided_at-requires-clause-seated : goal.decided_at-requires-clause-seated
decided_at-requires-clause-seated g c = record { function = c.function-function.ensures; sits = c.in-Ok.ensures.found.1; first = c.in-Ok.ensures.first }

pub returns-in-Ok-decided_at-clause-found : goal.returns-in-Ok-decided_at-clause-found
returns-in-Ok-decided_at-clause-found g c = record { run = c.in-Ok.ensures.found.0; decided = c.in-Ok-decided_at.ensures.found }

pub returns-clause-fault : goal.returns-clause-fault
returns-clause-fault g c = (c.function-function.result.now, plain-Home c.in-Ok.seat.home, c.in-Err-decided_at.ensures.fault)
