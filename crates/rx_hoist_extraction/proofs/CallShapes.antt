-- Extractions without an enum, computed: what is handed in and out, and each shape of the call. Each example has a program, by
-- its text, and the text of its extraction.
use Rattle.std.proofs.Common.{◌≡◌, true, false, [], ◌∷◌, Some, None, codes, refl}
use Rattle.std.specs.Fmt.{digits}
use Rattle.rx_core.specs.declared.types.Kind.TheVariants as kind
use Rattle.rx_tree.specs.declared.tree.BinaryOp.TheVariants as op
use Rattle.rx_tree.specs.Plain as plain
use Rattle.rx_tree.specs.Plain.{ProgramTree}
use Rattle.rx_tree.specs.Erase.{nowhere}
use Rattle.rx_typed.specs.Types.{integer, boolean, tuple_of, shapes_of, reference, named}
use Rattle.rx_print_spelling.specs.Items.{print_program}
use Rattle.rx_hoist_extraction.specs.Run.{Run}
use Rattle.rx_hoist_extraction.specs.Plan.{Plan, to_next, by_value, by_reborrow, by_view, by_shared, by_mut}
use Rattle.rx_hoist_extraction.specs.Extraction.{extraction}
use Rattle.rx_hoist_extraction.proofs.Trees.{here, name, bind, number, long, tuple, var, field, two, call, make, set, set_mut, does, block_at, structure, function, i64_type, i32_type, variable, mutable, passed_by, leaving, run_at, no_plan, lines}

-- two params by value, one out that the run declares
abbrev pub times : ProgramTree
times =
    (function (codes "main") [] [] None (block_at here (
    set (codes "a") (long 2) ∷
    set (codes "b") (long 3) ∷
    set (codes "c") (two op.Mul (var (codes "a")) (var (codes "b"))) ∷
    does (plain.print nowhere (var (codes "c"))) ∷
    []) plain.absent)) ∷ []

abbrev pub times_run : Run
times_run = run_at 0 [] 2 2

abbrev pub times_plan : Plan
times_plan = record no_plan {
  name = codes "times";
  exits = leaving to_next (variable (codes "c") i64_type ∷ []) ∷ [];
  params = passed_by by_value false (variable (codes "a") i64_type) ∷ passed_by by_value false (variable (codes "b") i64_type) ∷ [];
}

pub times_extracted :
    (print_program times ≡ (lines (
    codes "fn main() {" ∷
    codes "    let a = 2i64;" ∷
    codes "    let b = 3i64;" ∷
    codes "    let c = a * b;" ∷
    codes "    println!(\"{}\", c);" ∷
    codes "}" ∷
    [])))
    × (print_program (extraction times times_run times_plan []) ≡ (lines (
    codes "fn main() {" ∷
    codes "    let a = 2i64;" ∷
    codes "    let b = 3i64;" ∷
    codes "    let c = times(a, b);" ∷
    codes "    println!(\"{}\", c);" ∷
    codes "}" ∷
    codes "" ∷
    codes "fn times(a: i64, b: i64) -> i64 {" ∷
    codes "    let c = a * b;" ∷
    codes "    c" ∷
    codes "}" ∷
    [])))
unfolding digits
times_extracted = (refl, refl)

-- a shared param: each occurrence is dereferenced, in steps to fields with parentheses
abbrev pub norm : ProgramTree
norm =
    (structure (codes "P") [] [] ((name (codes "x"), (plain.kind_type nowhere kind.I64)) ∷ (name (codes "y"), (plain.kind_type nowhere kind.I64)) ∷ [])) ∷
    (function (codes "main") [] [] None (block_at here (
    set (codes "p") (make (codes "P") ((name (codes "x"), (number 3)) ∷ (name (codes "y"), (number 4)) ∷ [])) ∷
    set (codes "s") (two op.Add (two op.Mul (field (var (codes "p")) (codes "x")) (field (var (codes "p")) (codes "x"))) (two op.Mul (field (var (codes "p")) (codes "y")) (field (var (codes "p")) (codes "y")))) ∷
    does (plain.print nowhere (var (codes "s"))) ∷
    does (plain.print nowhere (field (var (codes "p")) (codes "x"))) ∷
    []) plain.absent)) ∷ []

abbrev pub norm_run : Run
norm_run = run_at 1 [] 1 1

abbrev pub norm_plan : Plan
norm_plan = record no_plan {
  name = codes "norm";
  exits = leaving to_next (variable (codes "s") i64_type ∷ []) ∷ [];
  params = passed_by by_shared false (variable (codes "p") (named 0)) ∷ [];
}

pub norm_extracted :
    (print_program norm ≡ (lines (
    codes "struct P {" ∷
    codes "    x: i64," ∷
    codes "    y: i64," ∷
    codes "}" ∷
    codes "" ∷
    codes "fn main() {" ∷
    codes "    let p = P { x: 3, y: 4 };" ∷
    codes "    let s = p.x * p.x + p.y * p.y;" ∷
    codes "    println!(\"{}\", s);" ∷
    codes "    println!(\"{}\", p.x);" ∷
    codes "}" ∷
    [])))
    × (print_program (extraction norm norm_run norm_plan []) ≡ (lines (
    codes "struct P {" ∷
    codes "    x: i64," ∷
    codes "    y: i64," ∷
    codes "}" ∷
    codes "" ∷
    codes "fn main() {" ∷
    codes "    let p = P { x: 3, y: 4 };" ∷
    codes "    let s = norm(&p);" ∷
    codes "    println!(\"{}\", s);" ∷
    codes "    println!(\"{}\", p.x);" ∷
    codes "}" ∷
    codes "" ∷
    codes "fn norm<'r0>(p: &'r0 P) -> i64 {" ∷
    codes "    let s = (*p).x * (*p).x + (*p).y * (*p).y;" ∷
    codes "    s" ∷
    codes "}" ∷
    [])))
unfolding digits
norm_extracted = (refl, refl)

-- a param of a type that is Copy, by reference
abbrev pub add : ProgramTree
add =
    (function (codes "main") [] [] None (block_at here (
    set (codes "k") (number 7) ∷
    set (codes "d") (two op.Add (var (codes "k")) (number 1)) ∷
    does (plain.print nowhere (var (codes "d"))) ∷
    []) plain.absent)) ∷ []

abbrev pub add_run : Run
add_run = run_at 0 [] 1 1

abbrev pub add_plan : Plan
add_plan = record no_plan {
  name = codes "add";
  exits = leaving to_next (variable (codes "d") i32_type ∷ []) ∷ [];
  params = passed_by by_shared false (variable (codes "k") i32_type) ∷ [];
}

pub add_extracted :
    (print_program add ≡ (lines (
    codes "fn main() {" ∷
    codes "    let k = 7;" ∷
    codes "    let d = k + 1;" ∷
    codes "    println!(\"{}\", d);" ∷
    codes "}" ∷
    [])))
    × (print_program (extraction add add_run add_plan []) ≡ (lines (
    codes "fn main() {" ∷
    codes "    let k = 7;" ∷
    codes "    let d = add(&k);" ∷
    codes "    println!(\"{}\", d);" ∷
    codes "}" ∷
    codes "" ∷
    codes "fn add<'r0>(k: &'r0 i32) -> i32 {" ∷
    codes "    let d = *k + 1;" ∷
    codes "    d" ∷
    codes "}" ∷
    [])))
unfolding digits
add_extracted = (refl, refl)

-- no values: the call is a statement, and the last statement stays the last of the body
abbrev pub gather : ProgramTree
gather =
    (plain.rt_item nowhere nowhere) ∷
    (function (codes "main") [] [] None (block_at nowhere (
    set_mut (codes "sum") (long 0) ∷
    set_mut (codes "n") (plain.next_input nowhere) ∷
    plain.expression_statement nowhere (plain.while nowhere None (two op.Ne (var (codes "n")) (number 0)) (block_at here (
    does (plain.assign nowhere (var (codes "sum")) (two op.Add (var (codes "sum")) (two op.Mul (var (codes "n")) (var (codes "n"))))) ∷
    does (plain.assign nowhere (var (codes "n")) (plain.next_input nowhere)) ∷
    []) plain.absent)) false ∷
    does (plain.print nowhere (var (codes "sum"))) ∷
    []) plain.absent)) ∷ []

abbrev pub gather_run : Run
gather_run = run_at 1 (2 ∷ 0 ∷ 1 ∷ []) 0 0

abbrev pub gather_plan : Plan
gather_plan = record no_plan {
  name = codes "gather";
  exits = leaving to_next [] ∷ [];
  params = passed_by by_mut false (mutable (codes "sum") i64_type) ∷ passed_by by_value false (mutable (codes "n") i64_type) ∷ [];
}

pub gather_extracted :
    (print_program gather ≡ (lines (
    codes "mod rt;" ∷
    codes "" ∷
    codes "fn main() {" ∷
    codes "    let mut sum = 0i64;" ∷
    codes "    let mut n = rt::next();" ∷
    codes "    while n != 0 {" ∷
    codes "        sum = sum + n * n;" ∷
    codes "        n = rt::next();" ∷
    codes "    }" ∷
    codes "    println!(\"{}\", sum);" ∷
    codes "}" ∷
    [])))
    × (print_program (extraction gather gather_run gather_plan []) ≡ (lines (
    codes "mod rt;" ∷
    codes "" ∷
    codes "fn main() {" ∷
    codes "    let mut sum = 0i64;" ∷
    codes "    let mut n = rt::next();" ∷
    codes "    while n != 0 {" ∷
    codes "        gather(&mut sum, n);" ∷
    codes "        n = rt::next();" ∷
    codes "    }" ∷
    codes "    println!(\"{}\", sum);" ∷
    codes "}" ∷
    codes "" ∷
    codes "fn gather<'r0>(sum: &'r0 mut i64, n: i64) {" ∷
    codes "    *sum = *sum + n * n;" ∷
    codes "}" ∷
    [])))
unfolding digits
gather_extracted = (refl, refl)

-- the value of a tail: the call is the tail
abbrev pub whole : ProgramTree
whole =
    (function (codes "area") [] ((name (codes "w"), false, (plain.kind_type nowhere kind.I64)) ∷ (name (codes "h"), false, (plain.kind_type nowhere kind.I64)) ∷ []) (Some (plain.kind_type nowhere kind.I64)) (block_at here (
    set (codes "base") (two op.Mul (var (codes "w")) (var (codes "h"))) ∷
    []) (plain.present (two op.Add (var (codes "base")) (number 1))))) ∷
    (function (codes "main") [] [] None (block_at nowhere [] plain.absent)) ∷ []

abbrev pub whole_run : Run
whole_run = run_at 0 [] 0 1

abbrev pub whole_plan : Plan
whole_plan = record no_plan {
  name = codes "whole";
  exits = leaving to_next [] ∷ [];
  value = Some i64_type;
  result = i64_type;
  params = passed_by by_value false (variable (codes "w") i64_type) ∷ passed_by by_value false (variable (codes "h") i64_type) ∷ [];
}

pub whole_extracted :
    (print_program whole ≡ (lines (
    codes "fn area(w: i64, h: i64) -> i64 {" ∷
    codes "    let base = w * h;" ∷
    codes "    base + 1" ∷
    codes "}" ∷
    codes "" ∷
    codes "fn main() {}" ∷
    [])))
    × (print_program (extraction whole whole_run whole_plan []) ≡ (lines (
    codes "fn area(w: i64, h: i64) -> i64 {" ∷
    codes "    whole(w, h)" ∷
    codes "}" ∷
    codes "" ∷
    codes "fn whole(w: i64, h: i64) -> i64 {" ∷
    codes "    let base = w * h;" ∷
    codes "    base + 1" ∷
    codes "}" ∷
    codes "" ∷
    codes "fn main() {}" ∷
    [])))
unfolding digits
whole_extracted = (refl, refl)

-- a local, which the call assigns
abbrev pub twice : ProgramTree
twice =
    (function (codes "main") [] [] None (block_at here (
    set (codes "k") (long 4) ∷
    plain.let_statement nowhere (bind (codes "y")) None plain.absent ∷
    does (plain.assign nowhere (var (codes "y")) (two op.Mul (var (codes "k")) (number 2))) ∷
    does (plain.print nowhere (var (codes "y"))) ∷
    []) plain.absent)) ∷ []

abbrev pub twice_run : Run
twice_run = run_at 0 [] 2 2

abbrev pub twice_plan : Plan
twice_plan = record no_plan {
  name = codes "twice";
  exits = leaving to_next (variable (codes "y") i64_type ∷ []) ∷ [];
  params = passed_by by_value false (variable (codes "k") i64_type) ∷ [];
  locals = variable (codes "y") i64_type ∷ [];
}

pub twice_extracted :
    (print_program twice ≡ (lines (
    codes "fn main() {" ∷
    codes "    let k = 4i64;" ∷
    codes "    let y;" ∷
    codes "    y = k * 2;" ∷
    codes "    println!(\"{}\", y);" ∷
    codes "}" ∷
    [])))
    × (print_program (extraction twice twice_run twice_plan []) ≡ (lines (
    codes "fn main() {" ∷
    codes "    let k = 4i64;" ∷
    codes "    let y;" ∷
    codes "    y = twice(k);" ∷
    codes "    println!(\"{}\", y);" ∷
    codes "}" ∷
    codes "" ∷
    codes "fn twice(k: i64) -> i64 {" ∷
    codes "    let y: i64;" ∷
    codes "    y = k * 2;" ∷
    codes "    y" ∷
    codes "}" ∷
    [])))
unfolding digits
twice_extracted = (refl, refl)

-- the value of the run and an out: a `let` in front of the tuple, and the value behind the assignment
abbrev pub both : ProgramTree
both =
    (structure (codes "State") [] [] ((name (codes "n"), (plain.kind_type nowhere kind.I64)) ∷ [])) ∷
    (function (codes "advance") [] ((name (codes "s"), false, (plain.named_type nowhere (name (codes "State")) None)) ∷ (name (codes "k"), false, (plain.kind_type nowhere kind.I64)) ∷ []) (Some (plain.named_type nowhere (name (codes "State")) None)) (block_at nowhere [] (plain.present (make (codes "State") ((name (codes "n"), (two op.Add (field (var (codes "s")) (codes "n")) (var (codes "k")))) ∷ []))))) ∷
    (function (codes "main") [] [] None (block_at nowhere (
    set_mut (codes "s") (make (codes "State") ((name (codes "n"), (number 1)) ∷ [])) ∷
    set (codes "v") (plain.block nowhere (block_at here (
    does (plain.assign nowhere (var (codes "s")) (call (codes "advance") ((var (codes "s")) ∷ (number 2) ∷ []))) ∷
    []) (plain.present (field (var (codes "s")) (codes "n"))))) ∷
    does (plain.print nowhere (two op.Add (field (var (codes "s")) (codes "n")) (var (codes "v")))) ∷
    []) plain.absent)) ∷ []

abbrev pub both_run : Run
both_run = run_at 2 (1 ∷ 1 ∷ 0 ∷ []) 0 1

abbrev pub both_plan : Plan
both_plan = record no_plan {
  name = codes "both";
  exits = leaving to_next (mutable (codes "s") (named 0) ∷ []) ∷ [];
  value = Some i64_type;
  params = passed_by by_value true (mutable (codes "s") (named 0)) ∷ [];
}

pub both_extracted :
    (print_program both ≡ (lines (
    codes "struct State {" ∷
    codes "    n: i64," ∷
    codes "}" ∷
    codes "" ∷
    codes "fn advance(s: State, k: i64) -> State {" ∷
    codes "    State { n: s.n + k }" ∷
    codes "}" ∷
    codes "" ∷
    codes "fn main() {" ∷
    codes "    let mut s = State { n: 1 };" ∷
    codes "    let v = {" ∷
    codes "        s = advance(s, 2);" ∷
    codes "        s.n" ∷
    codes "    };" ∷
    codes "    println!(\"{}\", s.n + v);" ∷
    codes "}" ∷
    [])))
    × (print_program (extraction both both_run both_plan []) ≡ (lines (
    codes "struct State {" ∷
    codes "    n: i64," ∷
    codes "}" ∷
    codes "" ∷
    codes "fn advance(s: State, k: i64) -> State {" ∷
    codes "    State { n: s.n + k }" ∷
    codes "}" ∷
    codes "" ∷
    codes "fn main() {" ∷
    codes "    let mut s = State { n: 1 };" ∷
    codes "    let v = {" ∷
    codes "        let (out_0, out_1) = both(s);" ∷
    codes "        s = out_1;" ∷
    codes "        out_0" ∷
    codes "    };" ∷
    codes "    println!(\"{}\", s.n + v);" ∷
    codes "}" ∷
    codes "" ∷
    codes "fn both(mut s: State) -> (i64, State) {" ∷
    codes "    s = advance(s, 2);" ∷
    codes "    let out_0: i64 = s.n;" ∷
    codes "    (out_0, s)" ∷
    codes "}" ∷
    [])))
unfolding digits
both_extracted = (refl, refl)

-- three outs: one that the run declares, one that it declares `mut`, and a local, for which a fresh variable stands; `out_2` is
-- taken, so the third is out_3
abbrev pub three : ProgramTree
three =
    (function (codes "main") [] [] None (block_at here (
    set (codes "out_2") (plain.int nowhere 1 (Some kind.U8)) ∷
    plain.let_statement nowhere (bind (codes "c")) None plain.absent ∷
    set (codes "a") (tuple ((var (codes "out_2")) ∷ (plain.bool nowhere true) ∷ [])) ∷
    set_mut (codes "b") (plain.part nowhere (var (codes "a")) 0) ∷
    does (plain.assign nowhere (var (codes "c")) (var (codes "b"))) ∷
    does (plain.assign nowhere (var (codes "b")) (plain.int nowhere 2 (Some kind.U8))) ∷
    does (plain.print nowhere (two op.Add (two op.Add (plain.part nowhere (var (codes "a")) 0) (var (codes "b"))) (var (codes "c")))) ∷
    []) plain.absent)) ∷ []

abbrev pub three_run : Run
three_run = run_at 0 [] 2 4

abbrev pub three_plan : Plan
three_plan = record no_plan {
  name = codes "three";
  exits = leaving to_next (variable (codes "a") (tuple_of (shapes_of ((integer kind.U8) ∷ boolean ∷ []))) ∷ mutable (codes "b") (integer kind.U8) ∷ variable (codes "c") (integer kind.U8) ∷ []) ∷ [];
  params = passed_by by_value false (variable (codes "out_2") (integer kind.U8)) ∷ [];
  locals = variable (codes "c") (integer kind.U8) ∷ [];
  identifiers = codes "main" ∷ codes "out_2" ∷ codes "a" ∷ codes "b" ∷ codes "c" ∷ [];
}

pub three_extracted :
    (print_program three ≡ (lines (
    codes "fn main() {" ∷
    codes "    let out_2 = 1u8;" ∷
    codes "    let c;" ∷
    codes "    let a = (out_2, true);" ∷
    codes "    let mut b = a.0;" ∷
    codes "    c = b;" ∷
    codes "    b = 2u8;" ∷
    codes "    println!(\"{}\", a.0 + b + c);" ∷
    codes "}" ∷
    [])))
    × (print_program (extraction three three_run three_plan []) ≡ (lines (
    codes "fn main() {" ∷
    codes "    let out_2 = 1u8;" ∷
    codes "    let c;" ∷
    codes "    let (a, mut b, out_3) = three(out_2);" ∷
    codes "    c = out_3;" ∷
    codes "    b = 2u8;" ∷
    codes "    println!(\"{}\", a.0 + b + c);" ∷
    codes "}" ∷
    codes "" ∷
    codes "fn three(out_2: u8) -> ((u8, bool), u8, u8) {" ∷
    codes "    let c: u8;" ∷
    codes "    let a = (out_2, true);" ∷
    codes "    let mut b = a.0;" ∷
    codes "    c = b;" ∷
    codes "    (a, b, c)" ∷
    codes "}" ∷
    [])))
unfolding digits
three_extracted = (refl, refl)

-- a statement without `;` that nothing follows is the tail of the new body; a redeclared variable is declared behind the call
abbrev pub last : ProgramTree
last =
    (function (codes "main") [] [] None (block_at here (
    set (codes "c") (plain.bool nowhere true) ∷
    set_mut (codes "n") (long 1) ∷
    plain.let_statement nowhere (bind (codes "t")) (Some (plain.kind_type nowhere kind.I64)) plain.absent ∷
    plain.expression_statement nowhere (plain.if nowhere (var (codes "c")) (block_at nowhere (
    does (plain.assign nowhere (var (codes "n")) (long 2)) ∷
    []) plain.absent) plain.absent) false ∷
    does (plain.assign nowhere (var (codes "t")) (var (codes "n"))) ∷
    does (plain.print nowhere (var (codes "t"))) ∷
    []) plain.absent)) ∷ []

abbrev pub last_run : Run
last_run = run_at 0 [] 2 3

abbrev pub last_plan : Plan
last_plan = record no_plan {
  name = codes "last";
  exits = leaving to_next [] ∷ [];
  params = passed_by by_value false (variable (codes "c") boolean) ∷ passed_by by_mut false (mutable (codes "n") i64_type) ∷ [];
  redeclared = variable (codes "t") i64_type ∷ [];
}

pub last_extracted :
    (print_program last ≡ (lines (
    codes "fn main() {" ∷
    codes "    let c = true;" ∷
    codes "    let mut n = 1i64;" ∷
    codes "    let t: i64;" ∷
    codes "    if c {" ∷
    codes "        n = 2i64;" ∷
    codes "    }" ∷
    codes "    t = n;" ∷
    codes "    println!(\"{}\", t);" ∷
    codes "}" ∷
    [])))
    × (print_program (extraction last last_run last_plan []) ≡ (lines (
    codes "fn main() {" ∷
    codes "    let c = true;" ∷
    codes "    let mut n = 1i64;" ∷
    codes "    last(c, &mut n);" ∷
    codes "    let t: i64;" ∷
    codes "    t = n;" ∷
    codes "    println!(\"{}\", t);" ∷
    codes "}" ∷
    codes "" ∷
    codes "fn last<'r0>(c: bool, n: &'r0 mut i64) {" ∷
    codes "    let t: i64;" ∷
    codes "    if c {" ∷
    codes "        *n = 2i64;" ∷
    codes "    }" ∷
    codes "}" ∷
    [])))
unfolding digits
last_extracted = (refl, refl)

-- a tail without a value, where an out follows, becomes a statement
abbrev pub done : ProgramTree
done =
    (function (codes "show") [] ((name (codes "n"), false, (plain.kind_type nowhere kind.I64)) ∷ []) None (block_at nowhere (
    does (plain.print nowhere (var (codes "n"))) ∷
    []) plain.absent)) ∷
    (function (codes "main") [] [] None (block_at nowhere (
    set_mut (codes "n") (long 1) ∷
    []) (plain.present (plain.loop nowhere None (block_at here (
    does (plain.assign nowhere (var (codes "n")) (two op.Add (var (codes "n")) (number 1))) ∷
    []) (plain.present (call (codes "show") ((var (codes "n")) ∷ [])))))))) ∷ []

abbrev pub done_run : Run
done_run = run_at 1 (1 ∷ 0 ∷ []) 0 1

abbrev pub done_plan : Plan
done_plan = record no_plan {
  name = codes "next";
  exits = leaving to_next (mutable (codes "n") i64_type ∷ []) ∷ [];
  params = passed_by by_value true (mutable (codes "n") i64_type) ∷ [];
}

pub done_extracted :
    (print_program done ≡ (lines (
    codes "fn show(n: i64) {" ∷
    codes "    println!(\"{}\", n);" ∷
    codes "}" ∷
    codes "" ∷
    codes "fn main() {" ∷
    codes "    let mut n = 1i64;" ∷
    codes "    loop {" ∷
    codes "        n = n + 1;" ∷
    codes "        show(n)" ∷
    codes "    }" ∷
    codes "}" ∷
    [])))
    × (print_program (extraction done done_run done_plan []) ≡ (lines (
    codes "fn show(n: i64) {" ∷
    codes "    println!(\"{}\", n);" ∷
    codes "}" ∷
    codes "" ∷
    codes "fn main() {" ∷
    codes "    let mut n = 1i64;" ∷
    codes "    loop {" ∷
    codes "        n = next(n);" ∷
    codes "    }" ∷
    codes "}" ∷
    codes "" ∷
    codes "fn next(mut n: i64) -> i64 {" ∷
    codes "    n = n + 1;" ∷
    codes "    show(n);" ∷
    codes "    n" ∷
    codes "}" ∷
    [])))
unfolding digits
done_extracted = (refl, refl)

-- references handed in as themselves, and as shared ones
abbrev pub reborrow : ProgramTree
reborrow =
    (function (codes "raise") [] ((name (codes "a"), false, (plain.ref_type nowhere None true (plain.kind_type nowhere kind.I64))) ∷ (name (codes "b"), false, (plain.ref_type nowhere None true (plain.kind_type nowhere kind.I64))) ∷ []) None (block_at here (
    does (plain.assign nowhere (plain.deref nowhere (var (codes "a"))) (two op.Add (plain.deref nowhere (var (codes "b"))) (number 1))) ∷
    does (plain.print nowhere (plain.deref nowhere (var (codes "a")))) ∷
    []) plain.absent)) ∷
    (function (codes "main") [] [] None (block_at nowhere [] plain.absent)) ∷ []

abbrev pub reborrow_run : Run
reborrow_run = run_at 0 [] 0 0

abbrev pub reborrow_plan : Plan
reborrow_plan = record no_plan {
  name = codes "put";
  exits = leaving to_next [] ∷ [];
  params = passed_by by_reborrow false (variable (codes "a") (reference true i64_type)) ∷ passed_by by_view false (variable (codes "b") (reference true i64_type)) ∷ [];
}

pub reborrow_extracted :
    (print_program reborrow ≡ (lines (
    codes "fn raise(a: &mut i64, b: &mut i64) {" ∷
    codes "    *a = *b + 1;" ∷
    codes "    println!(\"{}\", *a);" ∷
    codes "}" ∷
    codes "" ∷
    codes "fn main() {}" ∷
    [])))
    × (print_program (extraction reborrow reborrow_run reborrow_plan []) ≡ (lines (
    codes "fn raise(a: &mut i64, b: &mut i64) {" ∷
    codes "    put(a, b);" ∷
    codes "    println!(\"{}\", *a);" ∷
    codes "}" ∷
    codes "" ∷
    codes "fn put<'r0, 'r1>(a: &'r0 mut i64, b: &'r1 i64) {" ∷
    codes "    *a = *b + 1;" ∷
    codes "}" ∷
    codes "" ∷
    codes "fn main() {}" ∷
    [])))
unfolding digits
reborrow_extracted = (refl, refl)
