-- Extractions whose exits hand out variables, computed: with the value of the run, out of nested loops, a local. Each example has a
-- program, by its text, and the text of its extraction.
use Rattle.std.proofs.Common.{◌≡◌, true, false, [], ◌∷◌, Some, None, codes, refl}
use Rattle.std.specs.Fmt.{digits}
use Rattle.rx_core.specs.declared.types.Kind.TheVariants as kind
use Rattle.rx_tree.specs.declared.tree.BinaryOp.TheVariants as op
use Rattle.rx_tree.specs.Plain as plain
use Rattle.rx_tree.specs.Plain.{ProgramTree}
use Rattle.rx_tree.specs.Erase.{nowhere}
use Rattle.rx_typed.specs.Types.{named}
use Rattle.rx_print_spelling.specs.Items.{print_program}
use Rattle.rx_hoist_extraction.specs.Run.{Run}
use Rattle.rx_hoist_extraction.specs.Plan.{Plan, to_next, to_break, to_continue, by_value, by_mut}
use Rattle.rx_hoist_extraction.specs.Extraction.{extraction}
use Rattle.rx_hoist_extraction.proofs.Trees.{here, name, bind, number, var, field, two, call, make, set, set_mut, does, block_at, structure, function, i64_type, variable, mutable, passed_by, leaving, run_at, no_plan, lines}

-- a variable that the run moves is handed out by each exit; a tail becomes a statement
abbrev pub advance : ProgramTree
advance =
    (plain.rt_item nowhere nowhere) ∷
    (structure (codes "State") [] [] ((name (codes "n"), (plain.kind_type nowhere kind.I64)) ∷ [])) ∷
    (function (codes "advance") [] ((name (codes "s"), false, (plain.named_type nowhere (name (codes "State")) None)) ∷ (name (codes "k"), false, (plain.kind_type nowhere kind.I64)) ∷ []) (Some (plain.named_type nowhere (name (codes "State")) None)) (block_at nowhere [] (plain.present (make (codes "State") ((name (codes "n"), (two op.Add (field (var (codes "s")) (codes "n")) (var (codes "k")))) ∷ []))))) ∷
    (function (codes "main") [] [] None (block_at nowhere (
    set_mut (codes "s") (make (codes "State") ((name (codes "n"), (number 1)) ∷ [])) ∷
    plain.expression_statement nowhere (plain.loop nowhere None (block_at here (
    set (codes "k") (plain.next_input nowhere) ∷
    does (plain.assign nowhere (var (codes "s")) (call (codes "advance") ((var (codes "s")) ∷ (var (codes "k")) ∷ []))) ∷
    []) (plain.present (plain.if nowhere (two op.Gt (field (var (codes "s")) (codes "n")) (number 100)) (block_at nowhere (
    does (plain.break nowhere None) ∷
    []) plain.absent) plain.absent)))) false ∷
    does (plain.print nowhere (field (var (codes "s")) (codes "n"))) ∷
    []) plain.absent)) ∷ []

abbrev pub advance_run : Run
advance_run = run_at 3 (1 ∷ 0 ∷ 0 ∷ []) 1 2

abbrev pub advance_plan : Plan
advance_plan = record no_plan {
  name = codes "step";
  exits = leaving to_next (mutable (codes "s") (named 1) ∷ []) ∷ leaving (to_break 0) (mutable (codes "s") (named 1) ∷ []) ∷ [];
  params = passed_by by_value true (mutable (codes "s") (named 1)) ∷ passed_by by_value false (variable (codes "k") i64_type) ∷ [];
}

pub advance_extracted :
    (print_program advance ≡ (lines (
    codes "mod rt;" ∷
    codes "" ∷
    codes "struct State {" ∷
    codes "    n: i64," ∷
    codes "}" ∷
    codes "" ∷
    codes "fn advance(s: State, k: i64) -> State {" ∷
    codes "    State { n: s.n + k }" ∷
    codes "}" ∷
    codes "" ∷
    codes "fn main() {" ∷
    codes "    let mut s = State { n: 1 };" ∷
    codes "    loop {" ∷
    codes "        let k = rt::next();" ∷
    codes "        s = advance(s, k);" ∷
    codes "        if s.n > 100 {" ∷
    codes "            break;" ∷
    codes "        }" ∷
    codes "    }" ∷
    codes "    println!(\"{}\", s.n);" ∷
    codes "}" ∷
    [])))
    × (print_program (extraction advance advance_run advance_plan []) ≡ (lines (
    codes "mod rt;" ∷
    codes "" ∷
    codes "struct State {" ∷
    codes "    n: i64," ∷
    codes "}" ∷
    codes "" ∷
    codes "fn advance(s: State, k: i64) -> State {" ∷
    codes "    State { n: s.n + k }" ∷
    codes "}" ∷
    codes "" ∷
    codes "fn main() {" ∷
    codes "    let mut s = State { n: 1 };" ∷
    codes "    loop {" ∷
    codes "        let k = rt::next();" ∷
    codes "        s = match step(s, k) {" ∷
    codes "            Exit_step::Next(out_0) => out_0," ∷
    codes "            Exit_step::Break_0(out_0) => {" ∷
    codes "                s = out_0;" ∷
    codes "                break;" ∷
    codes "            }" ∷
    codes "        };" ∷
    codes "    }" ∷
    codes "    println!(\"{}\", s.n);" ∷
    codes "}" ∷
    codes "" ∷
    codes "enum Exit_step {" ∷
    codes "    Next(State)," ∷
    codes "    Break_0(State)," ∷
    codes "}" ∷
    codes "" ∷
    codes "fn step(mut s: State, k: i64) -> Exit_step {" ∷
    codes "    s = advance(s, k);" ∷
    codes "    if s.n > 100 {" ∷
    codes "        return Exit_step::Break_0(s);" ∷
    codes "    };" ∷
    codes "    Exit_step::Next(s)" ∷
    codes "}" ∷
    [])))
unfolding digits
advance_extracted = (refl, refl)

-- the value of the run and an out, with an enum
abbrev pub grow : ProgramTree
grow =
    (structure (codes "State") [] [] ((name (codes "n"), (plain.kind_type nowhere kind.I64)) ∷ [])) ∷
    (function (codes "advance") [] ((name (codes "s"), false, (plain.named_type nowhere (name (codes "State")) None)) ∷ []) (Some (plain.named_type nowhere (name (codes "State")) None)) (block_at nowhere [] (plain.present (make (codes "State") ((name (codes "n"), (two op.Add (field (var (codes "s")) (codes "n")) (number 1))) ∷ []))))) ∷
    (function (codes "main") [] [] None (block_at nowhere (
    set_mut (codes "s") (make (codes "State") ((name (codes "n"), (number 1)) ∷ [])) ∷
    plain.expression_statement nowhere (plain.loop nowhere None (block_at nowhere (
    set (codes "v") (plain.block nowhere (block_at here (
    does (plain.assign nowhere (var (codes "s")) (call (codes "advance") ((var (codes "s")) ∷ []))) ∷
    plain.expression_statement nowhere (plain.if nowhere (two op.Gt (field (var (codes "s")) (codes "n")) (number 9)) (block_at nowhere (
    does (plain.break nowhere None) ∷
    []) plain.absent) plain.absent) false ∷
    []) (plain.present (two op.Add (field (var (codes "s")) (codes "n")) (number 1))))) ∷
    does (plain.print nowhere (var (codes "v"))) ∷
    []) plain.absent)) false ∷
    does (plain.print nowhere (field (var (codes "s")) (codes "n"))) ∷
    []) plain.absent)) ∷ []

abbrev pub grow_run : Run
grow_run = run_at 2 (1 ∷ 0 ∷ 0 ∷ 0 ∷ 1 ∷ 0 ∷ []) 0 2

abbrev pub grow_plan : Plan
grow_plan = record no_plan {
  name = codes "grow";
  exits = leaving to_next (mutable (codes "s") (named 0) ∷ []) ∷ leaving (to_break 0) (mutable (codes "s") (named 0) ∷ []) ∷ [];
  value = Some i64_type;
  params = passed_by by_value true (mutable (codes "s") (named 0)) ∷ [];
}

pub grow_extracted :
    (print_program grow ≡ (lines (
    codes "struct State {" ∷
    codes "    n: i64," ∷
    codes "}" ∷
    codes "" ∷
    codes "fn advance(s: State) -> State {" ∷
    codes "    State { n: s.n + 1 }" ∷
    codes "}" ∷
    codes "" ∷
    codes "fn main() {" ∷
    codes "    let mut s = State { n: 1 };" ∷
    codes "    loop {" ∷
    codes "        let v = {" ∷
    codes "            s = advance(s);" ∷
    codes "            if s.n > 9 {" ∷
    codes "                break;" ∷
    codes "            }" ∷
    codes "            s.n + 1" ∷
    codes "        };" ∷
    codes "        println!(\"{}\", v);" ∷
    codes "    }" ∷
    codes "    println!(\"{}\", s.n);" ∷
    codes "}" ∷
    [])))
    × (print_program (extraction grow grow_run grow_plan []) ≡ (lines (
    codes "struct State {" ∷
    codes "    n: i64," ∷
    codes "}" ∷
    codes "" ∷
    codes "fn advance(s: State) -> State {" ∷
    codes "    State { n: s.n + 1 }" ∷
    codes "}" ∷
    codes "" ∷
    codes "fn main() {" ∷
    codes "    let mut s = State { n: 1 };" ∷
    codes "    loop {" ∷
    codes "        let v = {" ∷
    codes "            let (out_0, out_1) = match grow(s) {" ∷
    codes "                Exit_grow::Next(out_0, out_1) => (out_0, out_1)," ∷
    codes "                Exit_grow::Break_0(out_0) => {" ∷
    codes "                    s = out_0;" ∷
    codes "                    break;" ∷
    codes "                }" ∷
    codes "            };" ∷
    codes "            s = out_1;" ∷
    codes "            out_0" ∷
    codes "        };" ∷
    codes "        println!(\"{}\", v);" ∷
    codes "    }" ∷
    codes "    println!(\"{}\", s.n);" ∷
    codes "}" ∷
    codes "" ∷
    codes "enum Exit_grow {" ∷
    codes "    Next(i64, State)," ∷
    codes "    Break_0(State)," ∷
    codes "}" ∷
    codes "" ∷
    codes "fn grow(mut s: State) -> Exit_grow {" ∷
    codes "    s = advance(s);" ∷
    codes "    if s.n > 9 {" ∷
    codes "        return Exit_grow::Break_0(s);" ∷
    codes "    }" ∷
    codes "    Exit_grow::Next(s.n + 1, s)" ∷
    codes "}" ∷
    [])))
unfolding digits
grow_extracted = (refl, refl)

-- loops in the run with jumps of their own, and jumps with outs to both loops round it
abbrev pub cell : ProgramTree
cell =
    (plain.rt_item nowhere nowhere) ∷
    (structure (codes "Sum") [] [] ((name (codes "n"), (plain.kind_type nowhere kind.I64)) ∷ [])) ∷
    (function (codes "add") [] ((name (codes "s"), false, (plain.named_type nowhere (name (codes "Sum")) None)) ∷ (name (codes "k"), false, (plain.kind_type nowhere kind.I64)) ∷ []) (Some (plain.named_type nowhere (name (codes "Sum")) None)) (block_at nowhere [] (plain.present (make (codes "Sum") ((name (codes "n"), (two op.Add (field (var (codes "s")) (codes "n")) (var (codes "k")))) ∷ []))))) ∷
    (function (codes "main") [] [] None (block_at nowhere (
    set_mut (codes "total") (make (codes "Sum") ((name (codes "n"), (number 0)) ∷ [])) ∷
    plain.expression_statement nowhere (plain.loop nowhere (Some (name (codes "'rows"))) (block_at nowhere (
    set_mut (codes "k") (plain.next_input nowhere) ∷
    []) (plain.present (plain.while nowhere (Some (name (codes "'cells"))) (two op.Gt (var (codes "k")) (number 0)) (block_at here (
    does (plain.assign nowhere (var (codes "total")) (call (codes "add") ((var (codes "total")) ∷ (var (codes "k")) ∷ []))) ∷
    plain.expression_statement nowhere (plain.loop nowhere None (block_at nowhere (
    plain.expression_statement nowhere (plain.if nowhere (two op.Gt (field (var (codes "total")) (codes "n")) (number 100)) (block_at nowhere (
    does (plain.break nowhere (Some (name (codes "'rows")))) ∷
    []) plain.absent) plain.absent) false ∷
    plain.expression_statement nowhere (plain.if nowhere (two op.Gt (field (var (codes "total")) (codes "n")) (number 50)) (block_at nowhere (
    does (plain.continue nowhere (Some (name (codes "'rows")))) ∷
    []) plain.absent) plain.absent) false ∷
    plain.expression_statement nowhere (plain.if nowhere (two op.Gt (field (var (codes "total")) (codes "n")) (number 20)) (block_at nowhere (
    does (plain.continue nowhere (Some (name (codes "'cells")))) ∷
    []) plain.absent) plain.absent) false ∷
    plain.expression_statement nowhere (plain.if nowhere (two op.Gt (field (var (codes "total")) (codes "n")) (number 10)) (block_at nowhere (
    does (plain.break nowhere None) ∷
    []) plain.absent) plain.absent) false ∷
    does (plain.assign nowhere (var (codes "k")) (two op.Sub (var (codes "k")) (number 1))) ∷
    []) (plain.present (plain.if nowhere (two op.Eq (var (codes "k")) (number 3)) (block_at nowhere (
    does (plain.continue nowhere None) ∷
    []) plain.absent) plain.absent)))) false ∷
    does (plain.assign nowhere (var (codes "k")) (two op.Sub (var (codes "k")) (number 1))) ∷
    []) plain.absent))))) false ∷
    does (plain.print nowhere (field (var (codes "total")) (codes "n"))) ∷
    []) plain.absent)) ∷ []

abbrev pub cell_run : Run
cell_run = run_at 3 (1 ∷ 0 ∷ 0 ∷ 1 ∷ 1 ∷ []) 0 1

abbrev pub cell_plan : Plan
cell_plan = record no_plan {
  name = codes "cell";
  exits = leaving to_next (mutable (codes "total") (named 1) ∷ []) ∷ leaving (to_continue 0) (mutable (codes "total") (named 1) ∷ []) ∷ leaving (to_break 1) (mutable (codes "total") (named 1) ∷ []) ∷ leaving (to_continue 1) (mutable (codes "total") (named 1) ∷ []) ∷ [];
  params = passed_by by_value true (mutable (codes "total") (named 1)) ∷ passed_by by_mut false (mutable (codes "k") i64_type) ∷ [];
}

pub cell_extracted :
    (print_program cell ≡ (lines (
    codes "mod rt;" ∷
    codes "" ∷
    codes "struct Sum {" ∷
    codes "    n: i64," ∷
    codes "}" ∷
    codes "" ∷
    codes "fn add(s: Sum, k: i64) -> Sum {" ∷
    codes "    Sum { n: s.n + k }" ∷
    codes "}" ∷
    codes "" ∷
    codes "fn main() {" ∷
    codes "    let mut total = Sum { n: 0 };" ∷
    codes "    'rows: loop {" ∷
    codes "        let mut k = rt::next();" ∷
    codes "        'cells: while k > 0 {" ∷
    codes "            total = add(total, k);" ∷
    codes "            loop {" ∷
    codes "                if total.n > 100 {" ∷
    codes "                    break 'rows;" ∷
    codes "                }" ∷
    codes "                if total.n > 50 {" ∷
    codes "                    continue 'rows;" ∷
    codes "                }" ∷
    codes "                if total.n > 20 {" ∷
    codes "                    continue 'cells;" ∷
    codes "                }" ∷
    codes "                if total.n > 10 {" ∷
    codes "                    break;" ∷
    codes "                }" ∷
    codes "                k = k - 1;" ∷
    codes "                if k == 3 {" ∷
    codes "                    continue;" ∷
    codes "                }" ∷
    codes "            }" ∷
    codes "            k = k - 1;" ∷
    codes "        }" ∷
    codes "    }" ∷
    codes "    println!(\"{}\", total.n);" ∷
    codes "}" ∷
    [])))
    × (print_program (extraction cell cell_run cell_plan []) ≡ (lines (
    codes "mod rt;" ∷
    codes "" ∷
    codes "struct Sum {" ∷
    codes "    n: i64," ∷
    codes "}" ∷
    codes "" ∷
    codes "fn add(s: Sum, k: i64) -> Sum {" ∷
    codes "    Sum { n: s.n + k }" ∷
    codes "}" ∷
    codes "" ∷
    codes "fn main() {" ∷
    codes "    let mut total = Sum { n: 0 };" ∷
    codes "    'rows: loop {" ∷
    codes "        let mut k = rt::next();" ∷
    codes "        'cells: while k > 0 {" ∷
    codes "            total = match cell(total, &mut k) {" ∷
    codes "                Exit_cell::Next(out_0) => out_0," ∷
    codes "                Exit_cell::Continue_0(out_0) => {" ∷
    codes "                    total = out_0;" ∷
    codes "                    continue;" ∷
    codes "                }" ∷
    codes "                Exit_cell::Break_1(out_0) => {" ∷
    codes "                    total = out_0;" ∷
    codes "                    break 'rows;" ∷
    codes "                }" ∷
    codes "                Exit_cell::Continue_1(out_0) => {" ∷
    codes "                    total = out_0;" ∷
    codes "                    continue 'rows;" ∷
    codes "                }" ∷
    codes "            };" ∷
    codes "            k = k - 1;" ∷
    codes "        }" ∷
    codes "    }" ∷
    codes "    println!(\"{}\", total.n);" ∷
    codes "}" ∷
    codes "" ∷
    codes "enum Exit_cell {" ∷
    codes "    Next(Sum)," ∷
    codes "    Continue_0(Sum)," ∷
    codes "    Break_1(Sum)," ∷
    codes "    Continue_1(Sum)," ∷
    codes "}" ∷
    codes "" ∷
    codes "fn cell<'r0>(mut total: Sum, k: &'r0 mut i64) -> Exit_cell {" ∷
    codes "    total = add(total, *k);" ∷
    codes "    loop {" ∷
    codes "        if total.n > 100 {" ∷
    codes "            return Exit_cell::Break_1(total);" ∷
    codes "        }" ∷
    codes "        if total.n > 50 {" ∷
    codes "            return Exit_cell::Continue_1(total);" ∷
    codes "        }" ∷
    codes "        if total.n > 20 {" ∷
    codes "            return Exit_cell::Continue_0(total);" ∷
    codes "        }" ∷
    codes "        if total.n > 10 {" ∷
    codes "            break;" ∷
    codes "        }" ∷
    codes "        *k = *k - 1;" ∷
    codes "        if *k == 3 {" ∷
    codes "            continue;" ∷
    codes "        }" ∷
    codes "    }" ∷
    codes "    Exit_cell::Next(total)" ∷
    codes "}" ∷
    [])))
unfolding digits
cell_extracted = (refl, refl)

-- several outs of a jump, one of them a local that only the jump hands out
abbrev pub on : ProgramTree
on =
    (plain.rt_item nowhere nowhere) ∷
    (structure (codes "State") [] [] ((name (codes "n"), (plain.kind_type nowhere kind.I64)) ∷ [])) ∷
    (function (codes "advance") [] ((name (codes "s"), false, (plain.named_type nowhere (name (codes "State")) None)) ∷ []) (Some (plain.named_type nowhere (name (codes "State")) None)) (block_at nowhere [] (plain.present (make (codes "State") ((name (codes "n"), (two op.Add (field (var (codes "s")) (codes "n")) (number 1))) ∷ []))))) ∷
    (function (codes "main") [] [] None (block_at nowhere (
    set_mut (codes "s") (make (codes "State") ((name (codes "n"), (number 1)) ∷ [])) ∷
    plain.let_statement nowhere (bind (codes "top")) None plain.absent ∷
    plain.expression_statement nowhere (plain.loop nowhere None (block_at here (
    does (plain.assign nowhere (var (codes "s")) (call (codes "advance") ((var (codes "s")) ∷ []))) ∷
    plain.expression_statement nowhere (plain.if nowhere (two op.Gt (field (var (codes "s")) (codes "n")) (number 9)) (block_at nowhere (
    does (plain.assign nowhere (var (codes "top")) (field (var (codes "s")) (codes "n"))) ∷
    does (plain.break nowhere None) ∷
    []) plain.absent) plain.absent) false ∷
    set (codes "k") (field (var (codes "s")) (codes "n")) ∷
    does (plain.print nowhere (var (codes "k"))) ∷
    []) plain.absent)) false ∷
    does (plain.print nowhere (two op.Add (var (codes "top")) (field (var (codes "s")) (codes "n")))) ∷
    []) plain.absent)) ∷ []

abbrev pub on_run : Run
on_run = run_at 3 (2 ∷ 0 ∷ 0 ∷ []) 0 2

abbrev pub on_plan : Plan
on_plan = record no_plan {
  name = codes "move_on";
  exits = leaving to_next (mutable (codes "s") (named 1) ∷ variable (codes "k") i64_type ∷ []) ∷ leaving (to_break 0) (mutable (codes "s") (named 1) ∷ variable (codes "top") i64_type ∷ []) ∷ [];
  params = passed_by by_value true (mutable (codes "s") (named 1)) ∷ [];
  locals = variable (codes "top") i64_type ∷ [];
}

pub on_extracted :
    (print_program on ≡ (lines (
    codes "mod rt;" ∷
    codes "" ∷
    codes "struct State {" ∷
    codes "    n: i64," ∷
    codes "}" ∷
    codes "" ∷
    codes "fn advance(s: State) -> State {" ∷
    codes "    State { n: s.n + 1 }" ∷
    codes "}" ∷
    codes "" ∷
    codes "fn main() {" ∷
    codes "    let mut s = State { n: 1 };" ∷
    codes "    let top;" ∷
    codes "    loop {" ∷
    codes "        s = advance(s);" ∷
    codes "        if s.n > 9 {" ∷
    codes "            top = s.n;" ∷
    codes "            break;" ∷
    codes "        }" ∷
    codes "        let k = s.n;" ∷
    codes "        println!(\"{}\", k);" ∷
    codes "    }" ∷
    codes "    println!(\"{}\", top + s.n);" ∷
    codes "}" ∷
    [])))
    × (print_program (extraction on on_run on_plan []) ≡ (lines (
    codes "mod rt;" ∷
    codes "" ∷
    codes "struct State {" ∷
    codes "    n: i64," ∷
    codes "}" ∷
    codes "" ∷
    codes "fn advance(s: State) -> State {" ∷
    codes "    State { n: s.n + 1 }" ∷
    codes "}" ∷
    codes "" ∷
    codes "fn main() {" ∷
    codes "    let mut s = State { n: 1 };" ∷
    codes "    let top;" ∷
    codes "    loop {" ∷
    codes "        let (out_0, k) = match move_on(s) {" ∷
    codes "            Exit_move_on::Next(out_0, out_1) => (out_0, out_1)," ∷
    codes "            Exit_move_on::Break_0(out_0, out_1) => {" ∷
    codes "                s = out_0;" ∷
    codes "                top = out_1;" ∷
    codes "                break;" ∷
    codes "            }" ∷
    codes "        };" ∷
    codes "        s = out_0;" ∷
    codes "        println!(\"{}\", k);" ∷
    codes "    }" ∷
    codes "    println!(\"{}\", top + s.n);" ∷
    codes "}" ∷
    codes "" ∷
    codes "enum Exit_move_on {" ∷
    codes "    Next(State, i64)," ∷
    codes "    Break_0(State, i64)," ∷
    codes "}" ∷
    codes "" ∷
    codes "fn move_on(mut s: State) -> Exit_move_on {" ∷
    codes "    let top: i64;" ∷
    codes "    s = advance(s);" ∷
    codes "    if s.n > 9 {" ∷
    codes "        top = s.n;" ∷
    codes "        return Exit_move_on::Break_0(s, top);" ∷
    codes "    }" ∷
    codes "    let k = s.n;" ∷
    codes "    Exit_move_on::Next(s, k)" ∷
    codes "}" ∷
    [])))
unfolding digits
on_extracted = (refl, refl)
