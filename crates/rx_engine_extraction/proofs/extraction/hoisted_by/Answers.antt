use Rattle.std.proofs.Common.{◌≡◌, ◌<◌, ◌≤◌, ◌^◌, ℕ, List, length, Some, refl, sym, subst, arith}
use Rattle.rx_core.specs.declared.types.Span.{Span}
use Rattle.rx_lex.specs.Tok.{Tok}
use Rattle.rx_tree.specs.Lists.{nth}
use Rattle.rx_tree.specs.Plain.{Function, ProgramTree}
use Rattle.rx_tree.specs.Plain as plain
use Rattle.rx_tree.specs.PlainOf.{plain-Program}
use Rattle.rx_exits_plan.specs.PlainSyntax.{plain-Home}
use Rattle.rx_typed_runs.specs.declared.runs.RunPos.{RunPos}
use Rattle.rx_select.specs.RunOf.{RunOf}
use Rattle.rx_engine_extraction.specs.Beginning.{IsChosen}
use Rattle.rx_engine_extraction.specs.Deciding.{text_of}
use Rattle.rx_engine_extraction.proofs.Ends.{block_function}
use Rattle.rx_engine_extraction.proofs.FewItems.{item_below}
use Rattle.rx_engine_extraction.proofs.Forming.{call_formed, function_there, few_behind}
use Rattle.rx_engine_extraction.proofs.Moving.{moved_is_hoisted, unmoved_stops}
use Rattle.rx_engine_extraction.proofs.Seating.{seat_of}
use Rattle.rx_engine_extraction.proofs.Stopping.{unchosen, undecided_stops}
use Rattle.rx_engine_extraction.proofs.extraction.hoisted_by.Goals as goal

few_bytes : (n m : ℕ) → n ≡ m → m ≤ 1048576 → n ≤ 1048576
few_bytes n m e h = omega (arith, e, h)

short : (n m : ℕ) → n ≡ m → m ≤ 1048576 → n < 2 ^ 32
short n m e h = omega (arith, e, h)

-- what is chosen is what is decided
chosen_too : {ts : List Tok} {n start end : ℕ} {p : ProgramTree} {name : List ℕ} {r s : RunPos} → s ≡ r → IsChosen ts n p start end name r → IsChosen ts n p start end name s
chosen_too {ts} {n} {start} {end} {p} {name} e h = subst (λ (x : RunPos). IsChosen ts n p start end name x) (sym e) h

-- its item is a function
selected_at : (p : ProgramTree) {bytes start end : ℕ} {ts : List Tok} {r : RunPos} → RunOf bytes ts p start end r → (s : Span) × (f : Function) × (nth p r.function ≡ Some (plain.function_item s f))
selected_at p {r = r} is = block_function p r.function r.block.path is.block is.at

pub chosen-requires-clause-short : goal.chosen-requires-clause-short
chosen-requires-clause-short g c = let n = c.args.given.now.tokens.now.length in short n n refl c.requires.short

pub returns-in-Err-clause-fault : goal.returns-in-Err-clause-fault
returns-in-Err-clause-fault g c = let q = c.args.request.now in
    unchosen (text_of c.args.given.now) (record { start = q.selection.start; end = q.selection.end; name = q.name.now; choice = g.P.Policy.choice c.args.policy.now }) c.in-Err.fault c.in-Err.ensures.fault

pub decided-requires : goal.decided-requires
decided-requires g c = let q = c.args.request.now in let front = c.requires.front.accepted in
    seat_of c.runs_sit.ensures.function c.runs_sit.ensures.sits (text_of c.args.given.now) front.names front.typed q.selection.start q.selection.end c.in-Ok.run' c.in-Ok.ensures.found.run

pub returns-in-Err-decided-clause-fault : goal.returns-in-Err-decided-clause-fault
returns-in-Err-decided-clause-fault g c = let q = c.args.request.now in let h = c.in-Err-decided.ensures.fault in
    undecided_stops (text_of c.args.given.now) (record { start = q.selection.start; end = q.selection.end; name = q.name.now; choice = g.P.Policy.choice c.args.policy.now })
    c.in-Ok.run' h.0 h.1 c.in-Ok.ensures.found c.in-Err-decided.fault h.2

pub moved-requires-clause-function : goal.moved-requires-clause-function
moved-requires-clause-function g c = let p = plain-Program c.args.given.now.program.now in let r = c.in-Ok-decided.decision.run in
    let b = selected_at p (chosen_too c.in-Ok-decided.ensures.run c.in-Ok.ensures.found).run in
    function_there p r.function b.0 b.1 b.2

pub moved-requires-clause-few : goal.moved-requires-clause-few
moved-requires-clause-few g c = let p = plain-Program c.args.given.now.program.now in let r = c.in-Ok-decided.decision.run in
    let b = selected_at p (chosen_too c.in-Ok-decided.ensures.run c.in-Ok.ensures.found).run in
    let one = c.requires.one_text in
    few_behind r.function (length one.text) (item_below one.text p r.function (plain.function_item b.0 b.1) one.parsed b.2)
    (few_bytes (length one.text) c.args.given.now.tokens.now.length one.long c.requires.short)

pub moved-requires-clause-formed : goal.moved-requires-clause-formed
moved-requires-clause-formed g c = let q = c.args.request.now in let front = c.requires.front.accepted in let one = c.requires.one_text in
    let x = c.in-Ok-decided.decision in let is = c.in-Ok-decided.ensures.found in
    call_formed c.calls_are_formed.ensures (text_of c.args.given.now) one.text front.names one.lexed one.parsed
    (short (length one.text) c.args.given.now.tokens.now.length one.long c.requires.short) front.meant front.typed
    (record { start = q.selection.start; end = q.selection.end; name = q.name.now; choice = g.P.Policy.choice c.args.policy.now })
    x.run x.function.now (plain-Home x.seat.home) x.plans (chosen_too c.in-Ok-decided.ensures.run c.in-Ok.ensures.found) is.decided

pub returns-in-Ok-moved-clause-found : goal.returns-in-Ok-moved-clause-found
returns-in-Ok-moved-clause-found g c = let q = c.args.request.now in let x = c.in-Ok-decided.decision in let is = c.in-Ok-decided.ensures.found in let m = c.in-Ok-moved.made in
    record {
      run = is.run;
      plan = let decided = is.decided in decided.named;
      hoisted = moved_is_hoisted (text_of c.args.given.now) (record { start = q.selection.start; end = q.selection.end; name = q.name.now; choice = g.P.Policy.choice c.args.policy.now })
          x.run x.function.now (plain-Home x.seat.home) x.plans (chosen_too c.in-Ok-decided.ensures.run c.in-Ok.ensures.found) is.decided
          (plain-Program m.program) m.new_fn c.in-Ok-moved.ensures.found;
      given_away = let decided = is.decided in decided.given_away;
    }

pub returns-clause-fault : goal.returns-clause-fault
returns-clause-fault g c = let q = c.args.request.now in let x = c.in-Ok-decided.decision in let is = c.in-Ok-decided.ensures.found in
    unmoved_stops (text_of c.args.given.now) (record { start = q.selection.start; end = q.selection.end; name = q.name.now; choice = g.P.Policy.choice c.args.policy.now })
    x.run x.function.now (plain-Home x.seat.home) x.plans (chosen_too c.in-Ok-decided.ensures.run c.in-Ok.ensures.found) is.decided
    c.in-Err-moved.fault c.in-Err-moved.ensures.fault
