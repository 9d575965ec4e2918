use Rattle.std.proofs.Common.{◌<◌, ◌≤◌, ◌-◌, ◌+◌, suc, refl, map, ap, ◌∙◌, arith}
use Rattle.rx_meaning.specs.Programs.{Program, run}
use Rattle.rx_meaning.specs.declared.outcome.Outcome.{Outcome}
use Rattle.rx_machine_values.specs.PlainValues.{plain-Value}
use Rattle.rx_machine_driver.specs.declared.data.Machine.{Machine}
use Rattle.rx_machine_driver.specs.declared.data.Paused.TheVariants as paused
use Rattle.rx_machine_driver.specs.declared.data.Turn.TheVariants as turn_form
use Rattle.rx_machine_driver.specs.Fitting.{functions_of}
use Rattle.rx_machine_driver.proofs.RunLemmas.{starts, pauses_at, pauses_turn, pauses_end, last_ends}
use Rattle.rx_machine_driver.proofs.runs.run.Goals as goal

pub loop-turn-init : goal.loop-turn-init
loop-turn-init c =
    let P : Program = record { functions = functions_of c.args.functions.now; main = c.args.main } in
    let m : Machine = record { memory = c.new.result; slots = c.new-2.result; frames = c.new-3.result; input = c.args.input; printed = c.empty.result } in
    pauses_at P.functions c.args.turns (run P c.args.input.now c.args.turns) m (paused.Turn (turn_form.Calls c.args.main c.new-4.result)) c.args.turns (c.args.turns - 0) (omega arith)
    (starts P c.args.turns m c.args.input.now (map plain-Value c.new-4.result) c.new.ensures c.new-2.ensures c.new-3.ensures refl c.empty.ensures (ap (map plain-Value) c.new-4.ensures))

pub loop-turn-preserved : goal.loop-turn-preserved
loop-turn-preserved c =
    let P : Program = record { functions = functions_of c.args.functions.now; main = c.args.main } in
    let o : Outcome = run P c.args.input.now c.args.turns in
    let i : c.loop-turn._turn < c.args.turns = c.loop-turn-test.true in
    c.in_ok-paused-in-Turn.ensures c.args.turns (c.args.turns - (c.loop-turn._turn + 1)) o (omega arith)
    (pauses_turn P.functions c.args.turns o c.loop-turn.machine c.loop-turn.paused c.in-Turn.turn (suc (c.args.turns - (c.loop-turn._turn + 1))) c.in-Turn.is
    (pauses_at P.functions c.args.turns o c.loop-turn.machine c.loop-turn.paused (c.args.turns - c.loop-turn._turn) (suc (c.args.turns - (c.loop-turn._turn + 1))) (omega arith) c.loop-turn.invariant))

pub returns-in-End : goal.returns-in-End
returns-in-End c =
    let P : Program = record { functions = functions_of c.args.functions.now; main = c.args.main } in
    c.finished.ensures
    ∙ pauses_end P.functions c.args.turns (run P c.args.input.now c.args.turns) c.loop-turn.machine c.loop-turn.paused c.in-End.end (c.args.turns - c.loop-turn._turn) c.in-End.is c.loop-turn.invariant

pub returns : goal.returns
returns c =
    let P : Program = record { functions = functions_of c.args.functions.now; main = c.args.main } in
    let o : Outcome = run P c.args.input.now c.args.turns in
    let i : c.args.turns ≤ c.loop-turn._turn = c.loop-turn-test.false in
    c.finished-2.ensures
    ∙ last_ends P.functions c.args.turns o c.loop-turn.machine c.loop-turn.paused c.end_of-end.result c.end_of-end.ensures
    (pauses_at P.functions c.args.turns o c.loop-turn.machine c.loop-turn.paused (c.args.turns - c.loop-turn._turn) 0 (omega arith) c.loop-turn.invariant)
