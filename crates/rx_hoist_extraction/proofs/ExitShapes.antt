-- Extractions with an enum of exits, computed: jumps and returns of every shape. Each example has a program, by its text, and the
-- text of its extraction.
use Rattle.std.proofs.Common.{◌≡◌, true, false, [], ◌∷◌, Some, None, codes, refl}
use Rattle.std.specs.Fmt.{digits}
use Rattle.rx_core.specs.declared.types.Kind.TheVariants as kind
use Rattle.rx_tree.specs.declared.tree.BinaryOp.TheVariants as op
use Rattle.rx_tree.specs.Plain as plain
use Rattle.rx_tree.specs.Plain.{ProgramTree}
use Rattle.rx_tree.specs.Erase.{nowhere}
use Rattle.rx_print_spelling.specs.Items.{print_program}
use Rattle.rx_hoist_extraction.specs.Run.{Run}
use Rattle.rx_hoist_extraction.specs.Plan.{Plan, to_next, to_break, to_continue, to_return, by_value, by_mut}
use Rattle.rx_hoist_extraction.specs.Extraction.{extraction}
use Rattle.rx_hoist_extraction.proofs.Trees.{here, name, number, long, var, two, call, set, set_mut, does, block_at, function, i64_type, variable, mutable, passed_by, leaving, run_at, no_plan, lines}

-- a break and a continue without outs
abbrev pub gate : ProgramTree
gate =
    (plain.rt_item nowhere nowhere) ∷
    (function (codes "main") [] [] None (block_at nowhere (
    set_mut (codes "sum") (long 0) ∷
    plain.expression_statement nowhere (plain.loop nowhere None (block_at here (
    set (codes "n") (plain.next_input nowhere) ∷
    plain.expression_statement nowhere (plain.if nowhere (two op.Eq (var (codes "n")) (number 0)) (block_at nowhere (
    does (plain.break nowhere None) ∷
    []) plain.absent) plain.absent) false ∷
    plain.expression_statement nowhere (plain.if nowhere (two op.Lt (var (codes "n")) (number 0)) (block_at nowhere (
    does (plain.continue nowhere None) ∷
    []) plain.absent) plain.absent) false ∷
    does (plain.assign nowhere (var (codes "sum")) (two op.Add (var (codes "sum")) (var (codes "n")))) ∷
    []) plain.absent)) false ∷
    does (plain.print nowhere (var (codes "sum"))) ∷
    []) plain.absent)) ∷ []

abbrev pub gate_run : Run
gate_run = run_at 1 (1 ∷ 0 ∷ 0 ∷ []) 1 2

abbrev pub gate_plan : Plan
gate_plan = record no_plan {
  name = codes "gate";
  exits = leaving to_next [] ∷ leaving (to_break 0) [] ∷ leaving (to_continue 0) [] ∷ [];
  params = passed_by by_value false (variable (codes "n") i64_type) ∷ [];
}

pub gate_extracted :
    (print_program gate ≡ (lines (
    codes "mod rt;" ∷
    codes "" ∷
    codes "fn main() {" ∷
    codes "    let mut sum = 0i64;" ∷
    codes "    loop {" ∷
    codes "        let n = rt::next();" ∷
    codes "        if n == 0 {" ∷
    codes "            break;" ∷
    codes "        }" ∷
    codes "        if n < 0 {" ∷
    codes "            continue;" ∷
    codes "        }" ∷
    codes "        sum = sum + n;" ∷
    codes "    }" ∷
    codes "    println!(\"{}\", sum);" ∷
    codes "}" ∷
    [])))
    × (print_program (extraction gate gate_run gate_plan []) ≡ (lines (
    codes "mod rt;" ∷
    codes "" ∷
    codes "fn main() {" ∷
    codes "    let mut sum = 0i64;" ∷
    codes "    loop {" ∷
    codes "        let n = rt::next();" ∷
    codes "        match gate(n) {" ∷
    codes "            Exit_gate::Next => {}" ∷
    codes "            Exit_gate::Break_0 => break," ∷
    codes "            Exit_gate::Continue_0 => continue," ∷
    codes "        };" ∷
    codes "        sum = sum + n;" ∷
    codes "    }" ∷
    codes "    println!(\"{}\", sum);" ∷
    codes "}" ∷
    codes "" ∷
    codes "enum Exit_gate {" ∷
    codes "    Next," ∷
    codes "    Break_0," ∷
    codes "    Continue_0," ∷
    codes "}" ∷
    codes "" ∷
    codes "fn gate(n: i64) -> Exit_gate {" ∷
    codes "    if n == 0 {" ∷
    codes "        return Exit_gate::Break_0;" ∷
    codes "    }" ∷
    codes "    if n < 0 {" ∷
    codes "        return Exit_gate::Continue_0;" ∷
    codes "    }" ∷
    codes "    Exit_gate::Next" ∷
    codes "}" ∷
    [])))
unfolding digits
gate_extracted = (refl, refl)

-- a jump to a loop further out has its label; a return hands out its operand
abbrev pub step : ProgramTree
step =
    (plain.rt_item nowhere nowhere) ∷
    (function (codes "find") [] ((name (codes "limit"), false, (plain.kind_type nowhere kind.I64)) ∷ []) (Some (plain.kind_type nowhere kind.I64)) (block_at nowhere (
    set_mut (codes "i") (long 0) ∷
    plain.expression_statement nowhere (plain.loop nowhere (Some (name (codes "'outer"))) (block_at nowhere [] (plain.present (plain.loop nowhere None (block_at here (
    set (codes "n") (plain.next_input nowhere) ∷
    plain.expression_statement nowhere (plain.if nowhere (two op.Eq (var (codes "n")) (number 0)) (block_at nowhere (
    does (plain.break nowhere (Some (name (codes "'outer")))) ∷
    []) plain.absent) plain.absent) false ∷
    plain.expression_statement nowhere (plain.if nowhere (two op.Gt (var (codes "n")) (var (codes "limit"))) (block_at nowhere (
    does (plain.return nowhere (plain.present (var (codes "n")))) ∷
    []) plain.absent) plain.absent) false ∷
    does (plain.assign nowhere (var (codes "i")) (two op.Add (var (codes "i")) (number 1))) ∷
    []) plain.absent))))) false ∷
    []) (plain.present (var (codes "i"))))) ∷
    (function (codes "main") [] [] None (block_at nowhere (
    does (plain.print nowhere (call (codes "find") ((number 10) ∷ []))) ∷
    []) plain.absent)) ∷ []

abbrev pub step_run : Run
step_run = run_at 1 (1 ∷ 0 ∷ 0 ∷ 0 ∷ 0 ∷ []) 1 3

abbrev pub step_plan : Plan
step_plan = record no_plan {
  name = codes "step";
  exits = leaving to_next [] ∷ leaving (to_break 1) [] ∷ leaving to_return [] ∷ [];
  result = i64_type;
  params = passed_by by_value false (variable (codes "n") i64_type) ∷ passed_by by_value false (variable (codes "limit") i64_type) ∷ passed_by by_mut false (mutable (codes "i") i64_type) ∷ [];
}

pub step_extracted :
    (print_program step ≡ (lines (
    codes "mod rt;" ∷
    codes "" ∷
    codes "fn find(limit: i64) -> i64 {" ∷
    codes "    let mut i = 0i64;" ∷
    codes "    'outer: loop {" ∷
    codes "        loop {" ∷
    codes "            let n = rt::next();" ∷
    codes "            if n == 0 {" ∷
    codes "                break 'outer;" ∷
    codes "            }" ∷
    codes "            if n > limit {" ∷
    codes "                return n;" ∷
    codes "            }" ∷
    codes "            i = i + 1;" ∷
    codes "        }" ∷
    codes "    }" ∷
    codes "    i" ∷
    codes "}" ∷
    codes "" ∷
    codes "fn main() {" ∷
    codes "    println!(\"{}\", find(10));" ∷
    codes "}" ∷
    [])))
    × (print_program (extraction step step_run step_plan []) ≡ (lines (
    codes "mod rt;" ∷
    codes "" ∷
    codes "fn find(limit: i64) -> i64 {" ∷
    codes "    let mut i = 0i64;" ∷
    codes "    'outer: loop {" ∷
    codes "        loop {" ∷
    codes "            let n = rt::next();" ∷
    codes "            match step(n, limit, &mut i) {" ∷
    codes "                Exit_step::Next => {}" ∷
    codes "                Exit_step::Break_1 => break 'outer," ∷
    codes "                Exit_step::Return(out_0) => return out_0," ∷
    codes "            };" ∷
    codes "        }" ∷
    codes "    }" ∷
    codes "    i" ∷
    codes "}" ∷
    codes "" ∷
    codes "enum Exit_step {" ∷
    codes "    Next," ∷
    codes "    Break_1," ∷
    codes "    Return(i64)," ∷
    codes "}" ∷
    codes "" ∷
    codes "fn step<'r0>(n: i64, limit: i64, i: &'r0 mut i64) -> Exit_step {" ∷
    codes "    if n == 0 {" ∷
    codes "        return Exit_step::Break_1;" ∷
    codes "    }" ∷
    codes "    if n > limit {" ∷
    codes "        return Exit_step::Return(n);" ∷
    codes "    }" ∷
    codes "    *i = *i + 1;" ∷
    codes "    Exit_step::Next" ∷
    codes "}" ∷
    codes "" ∷
    codes "fn main() {" ∷
    codes "    println!(\"{}\", find(10));" ∷
    codes "}" ∷
    [])))
unfolding digits
step_extracted = (refl, refl)

-- a return out of a function that calls itself
abbrev pub stop : ProgramTree
stop =
    (function (codes "down") [] ((name (codes "n"), false, (plain.kind_type nowhere kind.I64)) ∷ []) (Some (plain.kind_type nowhere kind.I64)) (block_at here (
    plain.expression_statement nowhere (plain.if nowhere (two op.Eq (var (codes "n")) (number 0)) (block_at nowhere (
    does (plain.return nowhere (plain.present (number 0))) ∷
    []) plain.absent) plain.absent) false ∷
    []) (plain.present (call (codes "down") ((two op.Sub (var (codes "n")) (number 1)) ∷ []))))) ∷
    (function (codes "main") [] [] None (block_at nowhere (
    does (plain.print nowhere (call (codes "down") ((number 998) ∷ []))) ∷
    []) plain.absent)) ∷ []

abbrev pub stop_run : Run
stop_run = run_at 0 [] 0 0

abbrev pub stop_plan : Plan
stop_plan = record no_plan {
  name = codes "stop";
  exits = leaving to_next [] ∷ leaving to_return [] ∷ [];
  result = i64_type;
  params = passed_by by_value false (variable (codes "n") i64_type) ∷ [];
}

pub stop_extracted :
    (print_program stop ≡ (lines (
    codes "fn down(n: i64) -> i64 {" ∷
    codes "    if n == 0 {" ∷
    codes "        return 0;" ∷
    codes "    }" ∷
    codes "    down(n - 1)" ∷
    codes "}" ∷
    codes "" ∷
    codes "fn main() {" ∷
    codes "    println!(\"{}\", down(998));" ∷
    codes "}" ∷
    [])))
    × (print_program (extraction stop stop_run stop_plan []) ≡ (lines (
    codes "fn down(n: i64) -> i64 {" ∷
    codes "    match stop(n) {" ∷
    codes "        Exit_stop::Next => {}" ∷
    codes "        Exit_stop::Return(out_0) => return out_0," ∷
    codes "    };" ∷
    codes "    down(n - 1)" ∷
    codes "}" ∷
    codes "" ∷
    codes "enum Exit_stop {" ∷
    codes "    Next," ∷
    codes "    Return(i64)," ∷
    codes "}" ∷
    codes "" ∷
    codes "fn stop(n: i64) -> Exit_stop {" ∷
    codes "    if n == 0 {" ∷
    codes "        return Exit_stop::Return(0);" ∷
    codes "    }" ∷
    codes "    Exit_stop::Next" ∷
    codes "}" ∷
    codes "" ∷
    codes "fn main() {" ∷
    codes "    println!(\"{}\", down(998));" ∷
    codes "}" ∷
    [])))
unfolding digits
stop_extracted = (refl, refl)

-- returns where the result is the unit: what stands behind `return` is evaluated first
abbrev pub early : ProgramTree
early =
    (function (codes "note") [] ((name (codes "n"), false, (plain.kind_type nowhere kind.I64)) ∷ []) None (block_at nowhere (
    does (plain.print nowhere (var (codes "n"))) ∷
    []) plain.absent)) ∷
    (function (codes "check") [] ((name (codes "n"), false, (plain.kind_type nowhere kind.I64)) ∷ []) None (block_at here (
    plain.expression_statement nowhere (plain.if nowhere (two op.Eq (var (codes "n")) (number 0)) (block_at nowhere (
    does (plain.return nowhere plain.absent) ∷
    []) plain.absent) plain.absent) false ∷
    plain.expression_statement nowhere (plain.if nowhere (two op.Eq (var (codes "n")) (number 1)) (block_at nowhere (
    does (plain.return nowhere (plain.present (call (codes "note") ((var (codes "n")) ∷ [])))) ∷
    []) plain.absent) plain.absent) false ∷
    does (plain.print nowhere (var (codes "n"))) ∷
    []) plain.absent)) ∷
    (function (codes "main") [] [] None (block_at nowhere (
    does (call (codes "check") ((number 2) ∷ [])) ∷
    []) plain.absent)) ∷ []

abbrev pub early_run : Run
early_run = run_at 1 [] 0 1

abbrev pub early_plan : Plan
early_plan = record no_plan {
  name = codes "early";
  exits = leaving to_next [] ∷ leaving to_return [] ∷ [];
  params = passed_by by_value false (variable (codes "n") i64_type) ∷ [];
}

pub early_extracted :
    (print_program early ≡ (lines (
    codes "fn note(n: i64) {" ∷
    codes "    println!(\"{}\", n);" ∷
    codes "}" ∷
    codes "" ∷
    codes "fn check(n: i64) {" ∷
    codes "    if n == 0 {" ∷
    codes "        return;" ∷
    codes "    }" ∷
    codes "    if n == 1 {" ∷
    codes "        return note(n);" ∷
    codes "    }" ∷
    codes "    println!(\"{}\", n);" ∷
    codes "}" ∷
    codes "" ∷
    codes "fn main() {" ∷
    codes "    check(2);" ∷
    codes "}" ∷
    [])))
    × (print_program (extraction early early_run early_plan []) ≡ (lines (
    codes "fn note(n: i64) {" ∷
    codes "    println!(\"{}\", n);" ∷
    codes "}" ∷
    codes "" ∷
    codes "fn check(n: i64) {" ∷
    codes "    match early(n) {" ∷
    codes "        Exit_early::Next => {}" ∷
    codes "        Exit_early::Return => return," ∷
    codes "    };" ∷
    codes "    println!(\"{}\", n);" ∷
    codes "}" ∷
    codes "" ∷
    codes "enum Exit_early {" ∷
    codes "    Next," ∷
    codes "    Return," ∷
    codes "}" ∷
    codes "" ∷
    codes "fn early(n: i64) -> Exit_early {" ∷
    codes "    if n == 0 {" ∷
    codes "        return Exit_early::Return;" ∷
    codes "    }" ∷
    codes "    if n == 1 {" ∷
    codes "        return {" ∷
    codes "            let out_0: () = note(n);" ∷
    codes "            Exit_early::Return" ∷
    codes "        };" ∷
    codes "    }" ∷
    codes "    Exit_early::Next" ∷
    codes "}" ∷
    codes "" ∷
    codes "fn main() {" ∷
    codes "    check(2);" ∷
    codes "}" ∷
    [])))
unfolding digits
early_extracted = (refl, refl)

-- the end is not reached, and the tail is a jump
abbrev pub pick : ProgramTree
pick =
    (function (codes "all") [] ((name (codes "n"), false, (plain.kind_type nowhere kind.I64)) ∷ []) (Some (plain.kind_type nowhere kind.I64)) (block_at here (
    plain.expression_statement nowhere (plain.if nowhere (two op.Gt (var (codes "n")) (number 0)) (block_at nowhere (
    does (plain.return nowhere (plain.present (var (codes "n")))) ∷
    []) plain.absent) plain.absent) false ∷
    []) (plain.present (plain.return nowhere (plain.present (number 0)))))) ∷
    (function (codes "main") [] [] None (block_at nowhere (
    does (plain.print nowhere (call (codes "all") ((number 2) ∷ []))) ∷
    []) plain.absent)) ∷ []

abbrev pub pick_run : Run
pick_run = run_at 0 [] 0 1

abbrev pub pick_plan : Plan
pick_plan = record no_plan {
  name = codes "pick";
  exits = leaving to_return [] ∷ [];
  never = true;
  result = i64_type;
  params = passed_by by_value false (variable (codes "n") i64_type) ∷ [];
}

pub pick_extracted :
    (print_program pick ≡ (lines (
    codes "fn all(n: i64) -> i64 {" ∷
    codes "    if n > 0 {" ∷
    codes "        return n;" ∷
    codes "    }" ∷
    codes "    return 0" ∷
    codes "}" ∷
    codes "" ∷
    codes "fn main() {" ∷
    codes "    println!(\"{}\", all(2));" ∷
    codes "}" ∷
    [])))
    × (print_program (extraction pick pick_run pick_plan []) ≡ (lines (
    codes "fn all(n: i64) -> i64 {" ∷
    codes "    match pick(n) {" ∷
    codes "        Exit_pick::Return(out_0) => return out_0," ∷
    codes "    };" ∷
    codes "}" ∷
    codes "" ∷
    codes "enum Exit_pick {" ∷
    codes "    Return(i64)," ∷
    codes "}" ∷
    codes "" ∷
    codes "fn pick(n: i64) -> Exit_pick {" ∷
    codes "    if n > 0 {" ∷
    codes "        return Exit_pick::Return(n);" ∷
    codes "    }" ∷
    codes "    return Exit_pick::Return(0)" ∷
    codes "}" ∷
    codes "" ∷
    codes "fn main() {" ∷
    codes "    println!(\"{}\", all(2));" ∷
    codes "}" ∷
    [])))
unfolding digits
pick_extracted = (refl, refl)

-- the end is not reached, and the last statement is a unit: it stays a statement
abbrev pub quit : ProgramTree
quit =
    (function (codes "last") [] ((name (codes "n"), false, (plain.kind_type nowhere kind.I64)) ∷ []) (Some (plain.kind_type nowhere kind.I64)) (block_at here (
    plain.expression_statement nowhere (plain.while nowhere None (plain.return nowhere (plain.present (var (codes "n")))) (block_at nowhere [] plain.absent)) false ∷
    []) (plain.present (var (codes "n"))))) ∷
    (function (codes "main") [] [] None (block_at nowhere (
    does (plain.print nowhere (call (codes "last") ((number 2) ∷ []))) ∷
    []) plain.absent)) ∷ []

abbrev pub quit_run : Run
quit_run = run_at 0 [] 0 0

abbrev pub quit_plan : Plan
quit_plan = record no_plan {
  name = codes "quit";
  exits = leaving to_return [] ∷ [];
  result = i64_type;
  params = passed_by by_value false (variable (codes "n") i64_type) ∷ [];
}

pub quit_extracted :
    (print_program quit ≡ (lines (
    codes "fn last(n: i64) -> i64 {" ∷
    codes "    while (return n) {}" ∷
    codes "    n" ∷
    codes "}" ∷
    codes "" ∷
    codes "fn main() {" ∷
    codes "    println!(\"{}\", last(2));" ∷
    codes "}" ∷
    [])))
    × (print_program (extraction quit quit_run quit_plan []) ≡ (lines (
    codes "fn last(n: i64) -> i64 {" ∷
    codes "    match quit(n) {" ∷
    codes "        Exit_quit::Return(out_0) => return out_0," ∷
    codes "    };" ∷
    codes "    n" ∷
    codes "}" ∷
    codes "" ∷
    codes "enum Exit_quit {" ∷
    codes "    Return(i64)," ∷
    codes "}" ∷
    codes "" ∷
    codes "fn quit(n: i64) -> Exit_quit {" ∷
    codes "    while (return Exit_quit::Return(n)) {};" ∷
    codes "}" ∷
    codes "" ∷
    codes "fn main() {" ∷
    codes "    println!(\"{}\", last(2));" ∷
    codes "}" ∷
    [])))
unfolding digits
quit_extracted = (refl, refl)

-- the end is not reached, and the tail of a loop is an `if` without a value
abbrev pub leave : ProgramTree
leave =
    (function (codes "main") [] [] None (block_at nowhere (
    set (codes "n") (long 3) ∷
    []) (plain.present (plain.loop nowhere None (block_at here [] (plain.present (plain.if nowhere (two op.Gt (var (codes "n")) (number 2)) (block_at nowhere (
    does (plain.break nowhere None) ∷
    []) plain.absent) (plain.present (plain.block nowhere (block_at nowhere (
    does (plain.continue nowhere None) ∷
    []) plain.absent)))))))))) ∷ []

abbrev pub leave_run : Run
leave_run = run_at 0 (1 ∷ 0 ∷ []) 0 0

abbrev pub leave_plan : Plan
leave_plan = record no_plan {
  name = codes "leave";
  exits = leaving (to_break 0) [] ∷ leaving (to_continue 0) [] ∷ [];
  never = true;
  params = passed_by by_value false (variable (codes "n") i64_type) ∷ [];
}

pub leave_extracted :
    (print_program leave ≡ (lines (
    codes "fn main() {" ∷
    codes "    let n = 3i64;" ∷
    codes "    loop {" ∷
    codes "        if n > 2 {" ∷
    codes "            break;" ∷
    codes "        } else {" ∷
    codes "            continue;" ∷
    codes "        }" ∷
    codes "    }" ∷
    codes "}" ∷
    [])))
    × (print_program (extraction leave leave_run leave_plan []) ≡ (lines (
    codes "fn main() {" ∷
    codes "    let n = 3i64;" ∷
    codes "    loop {" ∷
    codes "        match leave(n) {" ∷
    codes "            Exit_leave::Break_0 => break," ∷
    codes "            Exit_leave::Continue_0 => continue," ∷
    codes "        };" ∷
    codes "    }" ∷
    codes "}" ∷
    codes "" ∷
    codes "enum Exit_leave {" ∷
    codes "    Break_0," ∷
    codes "    Continue_0," ∷
    codes "}" ∷
    codes "" ∷
    codes "fn leave(n: i64) -> Exit_leave {" ∷
    codes "    if n > 2 {" ∷
    codes "        return Exit_leave::Break_0;" ∷
    codes "    } else {" ∷
    codes "        return Exit_leave::Continue_0;" ∷
    codes "    }" ∷
    codes "}" ∷
    [])))
unfolding digits
leave_extracted = (refl, refl)
