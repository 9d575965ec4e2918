-- Lifetimes of new functions, computed: a name of its own at each position, those that the run names, the bounds, and elided ones.
-- Each example has a program, by its text, and the text of its extraction.
use Rattle.std.proofs.Common.{◌≡◌, true, false, [], ◌∷◌, Some, None, codes, refl}
use Rattle.std.specs.Fmt.{digits}
use Rattle.rx_core.specs.declared.types.Kind.TheVariants as kind
use Rattle.rx_tree.specs.declared.tree.BinaryOp.TheVariants as op
use Rattle.rx_tree.specs.Plain as plain
use Rattle.rx_tree.specs.Plain.{ProgramTree}
use Rattle.rx_tree.specs.Erase.{nowhere}
use Rattle.rx_typed.specs.Types.{tuple_of, shapes_of, reference, named}
use Rattle.rx_print_spelling.specs.Items.{print_program}
use Rattle.rx_hoist_extraction.specs.Run.{Run}
use Rattle.rx_hoist_extraction.specs.Plan.{Plan, to_next, to_return, by_value, by_reborrow, by_shared, by_mut}
use Rattle.rx_hoist_extraction.specs.Extraction.{extraction}
use Rattle.rx_hoist_extraction.proofs.Trees.{here, name, bind, number, long, tuple, var, field, two, make, set, set_mut, does, block_at, structure, function, i64_type, variable, mutable, passed_by, leaving, run_at, no_plan, lines}

-- a bound, and a `mut` param behind a reference of the function's own
abbrev pub best : ProgramTree
best =
    (function (codes "main") [] [] None (block_at here (
    set (codes "a") (long 3) ∷
    set (codes "b") (long 9) ∷
    set (codes "p") (plain.borrow nowhere false (var (codes "a"))) ∷
    set (codes "q") (plain.borrow nowhere false (var (codes "b"))) ∷
    set_mut (codes "best") (var (codes "p")) ∷
    plain.expression_statement nowhere (plain.if nowhere (two op.Gt (plain.deref nowhere (var (codes "q"))) (plain.deref nowhere (var (codes "best")))) (block_at nowhere (
    does (plain.assign nowhere (var (codes "best")) (var (codes "q"))) ∷
    []) plain.absent) plain.absent) false ∷
    does (plain.print nowhere (plain.deref nowhere (var (codes "best")))) ∷
    []) plain.absent)) ∷ []

abbrev pub best_run : Run
best_run = run_at 0 [] 5 5

abbrev pub best_plan : Plan
best_plan = record no_plan {
  name = codes "pick";
  exits = leaving to_next [] ∷ [];
  params = passed_by by_value false (variable (codes "q") (reference false i64_type)) ∷ passed_by by_mut false (mutable (codes "best") (reference false i64_type)) ∷ [];
}

pub best_extracted :
    (print_program best ≡ (lines (
    codes "fn main() {" ∷
    codes "    let a = 3i64;" ∷
    codes "    let b = 9i64;" ∷
    codes "    let p = &a;" ∷
    codes "    let q = &b;" ∷
    codes "    let mut best = p;" ∷
    codes "    if *q > *best {" ∷
    codes "        best = q;" ∷
    codes "    }" ∷
    codes "    println!(\"{}\", *best);" ∷
    codes "}" ∷
    [])))
    × (print_program (extraction best best_run best_plan ((codes "'r0", codes "'r2") ∷ [])) ≡ (lines (
    codes "fn main() {" ∷
    codes "    let a = 3i64;" ∷
    codes "    let b = 9i64;" ∷
    codes "    let p = &a;" ∷
    codes "    let q = &b;" ∷
    codes "    let mut best = p;" ∷
    codes "    pick(q, &mut best);" ∷
    codes "    println!(\"{}\", *best);" ∷
    codes "}" ∷
    codes "" ∷
    codes "fn pick<'r0: 'r2, 'r1, 'r2>(q: &'r0 i64, best: &'r1 mut &'r2 i64) {" ∷
    codes "    if *q > **best {" ∷
    codes "        *best = q;" ∷
    codes "    }" ∷
    codes "}" ∷
    [])))
unfolding digits
best_extracted = (refl, refl)

-- lifetimes of a struct, which outlive one another
abbrev pub swap : ProgramTree
swap =
    (structure (codes "Keep") [] (name (codes "'k") ∷ []) ((name (codes "best"), (plain.ref_type nowhere (Some (name (codes "'k"))) false (plain.kind_type nowhere kind.I64))) ∷ [])) ∷
    (function (codes "order") ((name (codes "'a"), []) ∷ []) ((name (codes "x"), false, (plain.ref_type nowhere None true (plain.named_type nowhere (name (codes "Keep")) (Some ((Some (name (codes "'a"))) ∷ []))))) ∷ (name (codes "y"), false, (plain.ref_type nowhere None true (plain.named_type nowhere (name (codes "Keep")) (Some ((Some (name (codes "'a"))) ∷ []))))) ∷ []) None (block_at here (
    set (codes "t") (field (var (codes "x")) (codes "best")) ∷
    does (plain.assign nowhere (field (var (codes "x")) (codes "best")) (field (var (codes "y")) (codes "best"))) ∷
    does (plain.assign nowhere (field (var (codes "y")) (codes "best")) (var (codes "t"))) ∷
    []) plain.absent)) ∷
    (function (codes "main") [] [] None (block_at nowhere [] plain.absent)) ∷ []

abbrev pub swap_run : Run
swap_run = run_at 1 [] 0 2

abbrev pub swap_plan : Plan
swap_plan = record no_plan {
  name = codes "swap";
  exits = leaving to_next [] ∷ [];
  params = passed_by by_reborrow false (variable (codes "x") (reference true (named 0))) ∷ passed_by by_reborrow false (variable (codes "y") (reference true (named 0))) ∷ [];
}

pub swap_extracted :
    (print_program swap ≡ (lines (
    codes "struct Keep<'k> {" ∷
    codes "    best: &'k i64," ∷
    codes "}" ∷
    codes "" ∷
    codes "fn order<'a>(x: &mut Keep<'a>, y: &mut Keep<'a>) {" ∷
    codes "    let t = x.best;" ∷
    codes "    x.best = y.best;" ∷
    codes "    y.best = t;" ∷
    codes "}" ∷
    codes "" ∷
    codes "fn main() {}" ∷
    [])))
    × (print_program (extraction swap swap_run swap_plan ((codes "'r1", codes "'r3") ∷ (codes "'r3", codes "'r1") ∷ [])) ≡ (lines (
    codes "struct Keep<'k> {" ∷
    codes "    best: &'k i64," ∷
    codes "}" ∷
    codes "" ∷
    codes "fn order<'a>(x: &mut Keep<'a>, y: &mut Keep<'a>) {" ∷
    codes "    swap(x, y);" ∷
    codes "}" ∷
    codes "" ∷
    codes "fn swap<'r0, 'r1: 'r3, 'r2, 'r3: 'r1>(x: &'r0 mut Keep<'r1>, y: &'r2 mut Keep<'r3>) {" ∷
    codes "    let t = x.best;" ∷
    codes "    x.best = y.best;" ∷
    codes "    y.best = t;" ∷
    codes "}" ∷
    codes "" ∷
    codes "fn main() {}" ∷
    [])))
unfolding digits
swap_extracted = (refl, refl)

-- the run names 'a, and 'r1 is a label of the text; an enum has lifetimes of its own; bounds stand in the order of the list
abbrev pub part : ProgramTree
part =
    (structure (codes "Keep") [] (name (codes "'k") ∷ []) ((name (codes "best"), (plain.ref_type nowhere (Some (name (codes "'k"))) false (plain.kind_type nowhere kind.I64))) ∷ [])) ∷
    (function (codes "find") ((name (codes "'a"), []) ∷ []) ((name (codes "keep"), false, (plain.ref_type nowhere None true (plain.named_type nowhere (name (codes "Keep")) (Some ((Some (name (codes "'a"))) ∷ []))))) ∷ (name (codes "list"), false, (plain.ref_type nowhere (Some (name (codes "'a"))) false (plain.kind_type nowhere kind.I64))) ∷ (name (codes "other"), false, (plain.ref_type nowhere (Some (name (codes "'a"))) false (plain.kind_type nowhere kind.I64))) ∷ []) (Some (plain.ref_type nowhere (Some (name (codes "'a"))) false (plain.kind_type nowhere kind.I64))) (block_at nowhere (
    plain.expression_statement nowhere (plain.loop nowhere (Some (name (codes "'r1"))) (block_at here (
    plain.let_statement nowhere (bind (codes "first")) (Some (plain.ref_type nowhere (Some (name (codes "'a"))) false (plain.kind_type nowhere kind.I64))) (plain.present (var (codes "list"))) ∷
    plain.expression_statement nowhere (plain.if nowhere (two op.Gt (plain.deref nowhere (var (codes "first"))) (number 3)) (block_at nowhere (
    does (plain.assign nowhere (field (var (codes "keep")) (codes "best")) (var (codes "first"))) ∷
    does (plain.return nowhere (plain.present (var (codes "first")))) ∷
    []) plain.absent) plain.absent) false ∷
    set (codes "both") (tuple ((var (codes "other")) ∷ (field (var (codes "keep")) (codes "best")) ∷ [])) ∷
    plain.expression_statement nowhere (plain.if nowhere (two op.Gt (plain.deref nowhere (plain.part nowhere (var (codes "both")) 0)) (number 5)) (block_at nowhere (
    does (plain.break nowhere (Some (name (codes "'r1")))) ∷
    []) plain.absent) plain.absent) false ∷
    does (plain.print nowhere (plain.deref nowhere (plain.part nowhere (var (codes "both")) 1))) ∷
    []) plain.absent)) false ∷
    []) (plain.present (var (codes "other"))))) ∷
    (function (codes "main") [] [] None (block_at nowhere [] plain.absent)) ∷ []

abbrev pub part_run : Run
part_run = run_at 1 (0 ∷ 0 ∷ 0 ∷ []) 0 2

abbrev pub part_plan : Plan
part_plan = record no_plan {
  name = codes "part";
  exits = leaving to_next (variable (codes "both") (tuple_of (shapes_of ((reference false i64_type) ∷ (reference false i64_type) ∷ []))) ∷ []) ∷ leaving to_return [] ∷ [];
  result = (reference false i64_type);
  params = passed_by by_value false (variable (codes "list") (reference false i64_type)) ∷ passed_by by_reborrow false (variable (codes "keep") (reference true (named 0))) ∷ passed_by by_value false (variable (codes "other") (reference false i64_type)) ∷ [];
  lifetimes = codes "'k" ∷ codes "'a" ∷ codes "'r1" ∷ [];
}

pub part_extracted :
    (print_program part ≡ (lines (
    codes "struct Keep<'k> {" ∷
    codes "    best: &'k i64," ∷
    codes "}" ∷
    codes "" ∷
    codes "fn find<'a>(keep: &mut Keep<'a>, list: &'a i64, other: &'a i64) -> &'a i64 {" ∷
    codes "    'r1: loop {" ∷
    codes "        let first: &'a i64 = list;" ∷
    codes "        if *first > 3 {" ∷
    codes "            keep.best = first;" ∷
    codes "            return first;" ∷
    codes "        }" ∷
    codes "        let both = (other, keep.best);" ∷
    codes "        if *both.0 > 5 {" ∷
    codes "            break 'r1;" ∷
    codes "        }" ∷
    codes "        println!(\"{}\", *both.1);" ∷
    codes "    }" ∷
    codes "    other" ∷
    codes "}" ∷
    codes "" ∷
    codes "fn main() {}" ∷
    [])))
    × (print_program (extraction part part_run part_plan ((codes "'r4", codes "'r5") ∷ (codes "'a", codes "'r7") ∷ (codes "'r0", codes "'a") ∷ (codes "'a", codes "'r3") ∷ (codes "'r3", codes "'r6") ∷ [])) ≡ (lines (
    codes "struct Keep<'k> {" ∷
    codes "    best: &'k i64," ∷
    codes "}" ∷
    codes "" ∷
    codes "fn find<'a>(keep: &mut Keep<'a>, list: &'a i64, other: &'a i64) -> &'a i64 {" ∷
    codes "    'r1: loop {" ∷
    codes "        let both = match part(list, keep, other) {" ∷
    codes "            Exit_part::Next(out_0) => out_0," ∷
    codes "            Exit_part::Return(out_0) => return out_0," ∷
    codes "        };" ∷
    codes "        if *both.0 > 5 {" ∷
    codes "            break 'r1;" ∷
    codes "        }" ∷
    codes "        println!(\"{}\", *both.1);" ∷
    codes "    }" ∷
    codes "    other" ∷
    codes "}" ∷
    codes "" ∷
    codes "enum Exit_part<'r0, 'r2, 'r3> {" ∷
    codes "    Next((&'r0 i64, &'r2 i64))," ∷
    codes "    Return(&'r3 i64)," ∷
    codes "}" ∷
    codes "" ∷
    codes "fn part<'a: 'r3 + 'r7, 'r0: 'a, 'r2, 'r3: 'r6, 'r4: 'r5, 'r5, 'r6, 'r7>(list: &'r0 i64, keep: &'r2 mut Keep<'r3>, other: &'r4 i64) -> Exit_part<'r5, 'r6, 'r7> {" ∷
    codes "    let first: &'a i64 = list;" ∷
    codes "    if *first > 3 {" ∷
    codes "        keep.best = first;" ∷
    codes "        return Exit_part::Return(first);" ∷
    codes "    }" ∷
    codes "    let both = (other, keep.best);" ∷
    codes "    Exit_part::Next(both)" ∷
    codes "}" ∷
    codes "" ∷
    codes "fn main() {}" ∷
    [])))
unfolding digits
part_extracted = (refl, refl)

-- the type of a local is written without lifetimes
abbrev pub view : ProgramTree
view =
    (structure (codes "Keep") [] (name (codes "'k") ∷ []) ((name (codes "best"), (plain.ref_type nowhere (Some (name (codes "'k"))) false (plain.kind_type nowhere kind.I64))) ∷ [])) ∷
    (function (codes "main") [] [] None (block_at here (
    set (codes "n") (long 1) ∷
    set (codes "k") (make (codes "Keep") ((name (codes "best"), (plain.borrow nowhere false (var (codes "n")))) ∷ [])) ∷
    plain.let_statement nowhere (bind (codes "y")) None plain.absent ∷
    does (plain.assign nowhere (var (codes "y")) (plain.borrow nowhere false (var (codes "k")))) ∷
    does (plain.print nowhere (plain.deref nowhere (field (var (codes "y")) (codes "best")))) ∷
    []) plain.absent)) ∷ []

abbrev pub view_run : Run
view_run = run_at 1 [] 3 3

abbrev pub view_plan : Plan
view_plan = record no_plan {
  name = codes "view";
  exits = leaving to_next (variable (codes "y") (reference false (named 0)) ∷ []) ∷ [];
  params = passed_by by_shared false (variable (codes "k") (named 0)) ∷ [];
  locals = variable (codes "y") (reference false (named 0)) ∷ [];
}

pub view_extracted :
    (print_program view ≡ (lines (
    codes "struct Keep<'k> {" ∷
    codes "    best: &'k i64," ∷
    codes "}" ∷
    codes "" ∷
    codes "fn main() {" ∷
    codes "    let n = 1i64;" ∷
    codes "    let k = Keep { best: &n };" ∷
    codes "    let y;" ∷
    codes "    y = &k;" ∷
    codes "    println!(\"{}\", *y.best);" ∷
    codes "}" ∷
    [])))
    × (print_program (extraction view view_run view_plan ((codes "'r0", codes "'r2") ∷ (codes "'r1", codes "'r3") ∷ [])) ≡ (lines (
    codes "struct Keep<'k> {" ∷
    codes "    best: &'k i64," ∷
    codes "}" ∷
    codes "" ∷
    codes "fn main() {" ∷
    codes "    let n = 1i64;" ∷
    codes "    let k = Keep { best: &n };" ∷
    codes "    let y;" ∷
    codes "    y = view(&k);" ∷
    codes "    println!(\"{}\", *y.best);" ∷
    codes "}" ∷
    codes "" ∷
    codes "fn view<'r0: 'r2, 'r1: 'r3, 'r2, 'r3>(k: &'r0 Keep<'r1>) -> &'r2 Keep<'r3> {" ∷
    codes "    let y: &Keep;" ∷
    codes "    y = &*k;" ∷
    codes "    y" ∷
    codes "}" ∷
    [])))
unfolding digits
view_extracted = (refl, refl)
