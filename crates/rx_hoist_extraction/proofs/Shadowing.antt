-- Names that the run binds, and labels of its own loops, computed: what they hide stays as it is. Each example has a program, by
-- its text, and the text of its extraction.
use Rattle.std.proofs.Common.{◌≡◌, false, [], ◌∷◌, Some, None, codes, refl}
use Rattle.std.specs.Fmt.{digits}
use Rattle.rx_core.specs.declared.types.Kind.TheVariants as kind
use Rattle.rx_tree.specs.declared.tree.BinaryOp.TheVariants as op
use Rattle.rx_tree.specs.Plain as plain
use Rattle.rx_tree.specs.Plain.{ProgramTree}
use Rattle.rx_tree.specs.Erase.{nowhere}
use Rattle.rx_typed.specs.Types.{tuple_of, shapes_of, named}
use Rattle.rx_print_spelling.specs.Items.{print_program}
use Rattle.rx_hoist_extraction.specs.Run.{Run}
use Rattle.rx_hoist_extraction.specs.Plan.{Plan, to_next, to_break, by_shared, by_mut}
use Rattle.rx_hoist_extraction.specs.Made.{variant, variant_pattern, as_patterns}
use Rattle.rx_hoist_extraction.specs.Extraction.{extraction}
use Rattle.rx_hoist_extraction.proofs.Trees.{here, name, bind, number, long, tuple, var, field, two, make, match_of, set, set_mut, does, block_at, structure, enumeration, function, i64_type, variable, mutable, passed_by, leaving, run_at, no_plan, lines}

-- a param whose name a block, an arm, an `if let`, a `while let` and a `let` of the run bind again; a field that has its name
abbrev pub mix : ProgramTree
mix =
    (structure (codes "P") [] [] ((name (codes "x"), (plain.kind_type nowhere kind.I64)) ∷ [])) ∷
    (enumeration (codes "O") [] [] ((name (codes "Some"), ((plain.kind_type nowhere kind.I64) ∷ [])) ∷ (name (codes "None"), []) ∷ [])) ∷
    (function (codes "main") [] [] None (block_at here (
    set (codes "x") (long 1) ∷
    set (codes "o") (variant nowhere (codes "O") (codes "Some") ((long 2) ∷ [])) ∷
    set (codes "p") (make (codes "P") ((name (codes "x"), (var (codes "x"))) ∷ [])) ∷
    set (codes "y") (plain.block nowhere (block_at nowhere (
    set (codes "x") (two op.Add (var (codes "x")) (number 1)) ∷
    []) (plain.present (var (codes "x"))))) ∷
    plain.expression_statement nowhere (match_of (var (codes "o")) ((
      (variant_pattern nowhere (codes "O") (codes "Some") ((bind (codes "x")) ∷ [])),
      (plain.block nowhere (block_at nowhere (
          does (plain.print nowhere (var (codes "x"))) ∷
          []) plain.absent)),
    ) ∷ (
      (variant_pattern nowhere (codes "O") (codes "None") []),
      (plain.block nowhere (block_at nowhere (
          does (plain.print nowhere (var (codes "x"))) ∷
          []) plain.absent)),
    ) ∷ [])) false ∷
    plain.expression_statement nowhere (plain.if_let nowhere (variant_pattern nowhere (codes "O") (codes "Some") ((bind (codes "x")) ∷ [])) (var (codes "o")) (block_at nowhere (
    does (plain.print nowhere (var (codes "x"))) ∷
    []) plain.absent) (plain.present (plain.block nowhere (block_at nowhere (
    does (plain.print nowhere (var (codes "x"))) ∷
    []) plain.absent)))) false ∷
    plain.expression_statement nowhere (plain.while_let nowhere None (variant_pattern nowhere (codes "O") (codes "Some") ((bind (codes "x")) ∷ [])) (variant nowhere (codes "O") (codes "None") []) (block_at nowhere (
    does (plain.print nowhere (var (codes "x"))) ∷
    []) plain.absent)) false ∷
    set (codes "x") (two op.Add (var (codes "x")) (var (codes "y"))) ∷
    set (codes "q") (make (codes "P") ((name (codes "x"), (var (codes "x"))) ∷ [])) ∷
    does (plain.print nowhere (two op.Add (two op.Add (field (var (codes "p")) (codes "x")) (var (codes "x"))) (field (var (codes "q")) (codes "x")))) ∷
    []) plain.absent)) ∷ []

abbrev pub mix_run : Run
mix_run = run_at 2 [] 2 8

abbrev pub mix_plan : Plan
mix_plan = record no_plan {
  name = codes "mix";
  exits = leaving to_next (variable (codes "p") (named 0) ∷ variable (codes "x") i64_type ∷ variable (codes "q") (named 0) ∷ []) ∷ [];
  params = passed_by by_shared false (variable (codes "x") i64_type) ∷ passed_by by_shared false (variable (codes "o") (named 1)) ∷ [];
}

pub mix_extracted :
    (print_program mix ≡ (lines (
    codes "struct P {" ∷
    codes "    x: i64," ∷
    codes "}" ∷
    codes "" ∷
    codes "enum O {" ∷
    codes "    Some(i64)," ∷
    codes "    None," ∷
    codes "}" ∷
    codes "" ∷
    codes "fn main() {" ∷
    codes "    let x = 1i64;" ∷
    codes "    let o = O::Some(2i64);" ∷
    codes "    let p = P { x: x };" ∷
    codes "    let y = {" ∷
    codes "        let x = x + 1;" ∷
    codes "        x" ∷
    codes "    };" ∷
    codes "    match o {" ∷
    codes "        O::Some(x) => {" ∷
    codes "            println!(\"{}\", x);" ∷
    codes "        }" ∷
    codes "        O::None => {" ∷
    codes "            println!(\"{}\", x);" ∷
    codes "        }" ∷
    codes "    }" ∷
    codes "    if let O::Some(x) = o {" ∷
    codes "        println!(\"{}\", x);" ∷
    codes "    } else {" ∷
    codes "        println!(\"{}\", x);" ∷
    codes "    }" ∷
    codes "    while let O::Some(x) = O::None {" ∷
    codes "        println!(\"{}\", x);" ∷
    codes "    }" ∷
    codes "    let x = x + y;" ∷
    codes "    let q = P { x: x };" ∷
    codes "    println!(\"{}\", p.x + x + q.x);" ∷
    codes "}" ∷
    [])))
    × (print_program (extraction mix mix_run mix_plan []) ≡ (lines (
    codes "struct P {" ∷
    codes "    x: i64," ∷
    codes "}" ∷
    codes "" ∷
    codes "enum O {" ∷
    codes "    Some(i64)," ∷
    codes "    None," ∷
    codes "}" ∷
    codes "" ∷
    codes "fn main() {" ∷
    codes "    let x = 1i64;" ∷
    codes "    let o = O::Some(2i64);" ∷
    codes "    let (p, x, q) = mix(&x, &o);" ∷
    codes "    println!(\"{}\", p.x + x + q.x);" ∷
    codes "}" ∷
    codes "" ∷
    codes "fn mix<'r0, 'r1>(x: &'r0 i64, o: &'r1 O) -> (P, i64, P) {" ∷
    codes "    let p = P { x: *x };" ∷
    codes "    let y = {" ∷
    codes "        let x = *x + 1;" ∷
    codes "        x" ∷
    codes "    };" ∷
    codes "    match *o {" ∷
    codes "        O::Some(x) => {" ∷
    codes "            println!(\"{}\", x);" ∷
    codes "        }" ∷
    codes "        O::None => {" ∷
    codes "            println!(\"{}\", *x);" ∷
    codes "        }" ∷
    codes "    }" ∷
    codes "    if let O::Some(x) = *o {" ∷
    codes "        println!(\"{}\", x);" ∷
    codes "    } else {" ∷
    codes "        println!(\"{}\", *x);" ∷
    codes "    }" ∷
    codes "    while let O::Some(x) = O::None {" ∷
    codes "        println!(\"{}\", x);" ∷
    codes "    }" ∷
    codes "    let x = *x + y;" ∷
    codes "    let q = P { x: x };" ∷
    codes "    (p, x, q)" ∷
    codes "}" ∷
    [])))
unfolding digits
mix_extracted = (refl, refl)

-- a pattern with several names, and a `let` that reads what it hides, in a block with a value
abbrev pub inner : ProgramTree
inner =
    (function (codes "main") [] [] None (block_at nowhere (
    set (codes "n") (long 3) ∷
    set (codes "a") (tuple ((long 1) ∷ (long 2) ∷ [])) ∷
    set (codes "s") (plain.block nowhere (block_at here (
    plain.let_statement nowhere (plain.tuple_pattern nowhere (as_patterns ((bind (codes "x")) ∷ (bind (codes "y")) ∷ []))) None (plain.present (var (codes "a"))) ∷
    set (codes "n") (two op.Add (var (codes "n")) (var (codes "x"))) ∷
    []) (plain.present (two op.Mul (var (codes "n")) (var (codes "y")))))) ∷
    does (plain.print nowhere (two op.Add (var (codes "s")) (var (codes "n")))) ∷
    []) plain.absent)) ∷ []

abbrev pub inner_run : Run
inner_run = run_at 0 (2 ∷ 1 ∷ 0 ∷ []) 0 2

abbrev pub inner_plan : Plan
inner_plan = record no_plan {
  name = codes "sum";
  exits = leaving to_next [] ∷ [];
  value = Some i64_type;
  params = passed_by by_shared false (variable (codes "a") (tuple_of (shapes_of (i64_type ∷ i64_type ∷ [])))) ∷ passed_by by_shared false (variable (codes "n") i64_type) ∷ [];
}

pub inner_extracted :
    (print_program inner ≡ (lines (
    codes "fn main() {" ∷
    codes "    let n = 3i64;" ∷
    codes "    let a = (1i64, 2i64);" ∷
    codes "    let s = {" ∷
    codes "        let (x, y) = a;" ∷
    codes "        let n = n + x;" ∷
    codes "        n * y" ∷
    codes "    };" ∷
    codes "    println!(\"{}\", s + n);" ∷
    codes "}" ∷
    [])))
    × (print_program (extraction inner inner_run inner_plan []) ≡ (lines (
    codes "fn main() {" ∷
    codes "    let n = 3i64;" ∷
    codes "    let a = (1i64, 2i64);" ∷
    codes "    let s = {" ∷
    codes "        sum(&a, &n)" ∷
    codes "    };" ∷
    codes "    println!(\"{}\", s + n);" ∷
    codes "}" ∷
    codes "" ∷
    codes "fn sum<'r0, 'r1>(a: &'r0 (i64, i64), n: &'r1 i64) -> i64 {" ∷
    codes "    let (x, y) = *a;" ∷
    codes "    let n = *n + x;" ∷
    codes "    n * y" ∷
    codes "}" ∷
    [])))
unfolding digits
inner_extracted = (refl, refl)

-- a loop of the run with the label of a loop round it
abbrev pub own : ProgramTree
own =
    (function (codes "main") [] [] None (block_at nowhere (
    set_mut (codes "n") (long 9) ∷
    []) (plain.present (plain.loop nowhere (Some (name (codes "'a"))) (block_at nowhere (
    plain.expression_statement nowhere (plain.while nowhere (Some (name (codes "'b"))) (two op.Gt (var (codes "n")) (number 0)) (block_at here (
    plain.expression_statement nowhere (plain.loop nowhere (Some (name (codes "'a"))) (block_at nowhere (
    does (plain.assign nowhere (var (codes "n")) (two op.Sub (var (codes "n")) (number 1))) ∷
    plain.expression_statement nowhere (plain.if nowhere (two op.Gt (var (codes "n")) (number 6)) (block_at nowhere (
    does (plain.continue nowhere (Some (name (codes "'a")))) ∷
    []) plain.absent) plain.absent) false ∷
    plain.expression_statement nowhere (plain.if nowhere (two op.Gt (var (codes "n")) (number 3)) (block_at nowhere (
    does (plain.break nowhere (Some (name (codes "'a")))) ∷
    []) plain.absent) plain.absent) false ∷
    does (plain.break nowhere (Some (name (codes "'b")))) ∷
    []) plain.absent)) false ∷
    []) (plain.present (plain.while nowhere None (two op.Gt (var (codes "n")) (number 1)) (block_at nowhere (
    does (plain.break nowhere None) ∷
    []) plain.absent))))) false ∷
    does (plain.break nowhere None) ∷
    []) plain.absent))))) ∷ []

abbrev pub own_run : Run
own_run = run_at 0 (1 ∷ 0 ∷ 0 ∷ 0 ∷ 1 ∷ []) 0 1

abbrev pub own_plan : Plan
own_plan = record no_plan {
  name = codes "own";
  exits = leaving to_next [] ∷ leaving (to_break 0) [] ∷ [];
  params = passed_by by_mut false (mutable (codes "n") i64_type) ∷ [];
}

pub own_extracted :
    (print_program own ≡ (lines (
    codes "fn main() {" ∷
    codes "    let mut n = 9i64;" ∷
    codes "    'a: loop {" ∷
    codes "        'b: while n > 0 {" ∷
    codes "            'a: loop {" ∷
    codes "                n = n - 1;" ∷
    codes "                if n > 6 {" ∷
    codes "                    continue 'a;" ∷
    codes "                }" ∷
    codes "                if n > 3 {" ∷
    codes "                    break 'a;" ∷
    codes "                }" ∷
    codes "                break 'b;" ∷
    codes "            }" ∷
    codes "            while n > 1 {" ∷
    codes "                break;" ∷
    codes "            }" ∷
    codes "        }" ∷
    codes "        break;" ∷
    codes "    }" ∷
    codes "}" ∷
    [])))
    × (print_program (extraction own own_run own_plan []) ≡ (lines (
    codes "fn main() {" ∷
    codes "    let mut n = 9i64;" ∷
    codes "    'a: loop {" ∷
    codes "        'b: while n > 0 {" ∷
    codes "            match own(&mut n) {" ∷
    codes "                Exit_own::Next => {}" ∷
    codes "                Exit_own::Break_0 => break," ∷
    codes "            };" ∷
    codes "        }" ∷
    codes "        break;" ∷
    codes "    }" ∷
    codes "}" ∷
    codes "" ∷
    codes "enum Exit_own {" ∷
    codes "    Next," ∷
    codes "    Break_0," ∷
    codes "}" ∷
    codes "" ∷
    codes "fn own<'r0>(n: &'r0 mut i64) -> Exit_own {" ∷
    codes "    'a: loop {" ∷
    codes "        *n = *n - 1;" ∷
    codes "        if *n > 6 {" ∷
    codes "            continue 'a;" ∷
    codes "        }" ∷
    codes "        if *n > 3 {" ∷
    codes "            break 'a;" ∷
    codes "        }" ∷
    codes "        return Exit_own::Break_0;" ∷
    codes "    }" ∷
    codes "    while *n > 1 {" ∷
    codes "        break;" ∷
    codes "    };" ∷
    codes "    Exit_own::Next" ∷
    codes "}" ∷
    [])))
unfolding digits
own_extracted = (refl, refl)
