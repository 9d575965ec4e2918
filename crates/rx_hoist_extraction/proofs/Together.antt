-- Extractions in which several rules meet, computed. Each example has a program, by its text, and the text of its extraction.
use Rattle.std.proofs.Common.{◌≡◌, true, false, [], ◌∷◌, Some, None, codes, refl}
use Rattle.std.specs.Fmt.{digits}
use Rattle.rx_core.specs.declared.types.Kind.TheVariants as kind
use Rattle.rx_tree.specs.declared.tree.BinaryOp.TheVariants as op
use Rattle.rx_tree.specs.Plain as plain
use Rattle.rx_tree.specs.Plain.{ProgramTree}
use Rattle.rx_tree.specs.Erase.{nowhere}
use Rattle.rx_typed.specs.Types.{reference, named}
use Rattle.rx_print_spelling.specs.Items.{print_program}
use Rattle.rx_hoist_extraction.specs.Run.{Run}
use Rattle.rx_hoist_extraction.specs.Plan.{Plan, to_next, to_break, to_return, by_value, by_view, by_shared}
use Rattle.rx_hoist_extraction.specs.Extraction.{extraction}
use Rattle.rx_hoist_extraction.proofs.Trees.{here, at, name, bind, number, var, field, two, call, make, set, set_mut, does, block_at, structure, function, i64_type, variable, mutable, passed_by, leaving, run_at, no_plan, lines}

-- a unit return beside two outs of Next, one a local; a view; fresh variables in the call and in the run
abbrev pub visit : ProgramTree
visit =
    (structure (codes "Log") [] [] ((name (codes "n"), (plain.kind_type nowhere kind.I64)) ∷ [])) ∷
    (function (codes "note") [] ((name (codes "l"), false, (plain.named_type nowhere (name (codes "Log")) None)) ∷ []) (Some (plain.named_type nowhere (name (codes "Log")) None)) (block_at nowhere [] (plain.present (make (codes "Log") ((name (codes "n"), (two op.Add (field (var (codes "l")) (codes "n")) (number 1))) ∷ []))))) ∷
    (function (codes "show") [] ((name (codes "n"), false, (plain.kind_type nowhere kind.I64)) ∷ []) None (block_at nowhere (
    does (plain.print nowhere (var (codes "n"))) ∷
    []) plain.absent)) ∷
    (function (codes "visit") [] ((name (codes "seen"), false, (plain.ref_type nowhere None true (plain.kind_type nowhere kind.I64))) ∷ (name (codes "limit"), false, (plain.kind_type nowhere kind.I64)) ∷ []) None (block_at here (
    set_mut (codes "log") (make (codes "Log") ((name (codes "n"), (number 0)) ∷ [])) ∷
    plain.let_statement nowhere (bind (codes "last")) None plain.absent ∷
    does (plain.assign nowhere (var (codes "log")) (call (codes "note") ((var (codes "log")) ∷ []))) ∷
    plain.expression_statement nowhere (plain.if nowhere (two op.Gt (plain.deref nowhere (var (codes "seen"))) (var (codes "limit"))) (block_at nowhere (
    does (plain.return nowhere plain.absent) ∷
    []) plain.absent) plain.absent) false ∷
    plain.expression_statement nowhere (plain.if nowhere (two op.Gt (field (var (codes "log")) (codes "n")) (var (codes "limit"))) (block_at nowhere (
    does (plain.return nowhere (plain.present (call (codes "show") ((plain.deref nowhere (var (codes "seen"))) ∷ [])))) ∷
    []) plain.absent) plain.absent) false ∷
    does (plain.assign nowhere (var (codes "last")) (field (var (codes "log")) (codes "n"))) ∷
    does (plain.print nowhere (two op.Add (var (codes "last")) (field (var (codes "log")) (codes "n")))) ∷
    does (plain.assign nowhere (plain.deref nowhere (var (codes "seen"))) (var (codes "last"))) ∷
    []) plain.absent)) ∷
    (function (codes "main") [] [] None (block_at nowhere [] plain.absent)) ∷ []

abbrev pub visit_run : Run
visit_run = run_at 3 [] 2 5

abbrev pub visit_plan : Plan
visit_plan = record no_plan {
  name = codes "step";
  exits = leaving to_next (mutable (codes "log") (named 0) ∷ variable (codes "last") i64_type ∷ []) ∷ leaving to_return [] ∷ [];
  params = passed_by by_value true (mutable (codes "log") (named 0)) ∷ passed_by by_view false (variable (codes "seen") (reference true i64_type)) ∷ passed_by by_value false (variable (codes "limit") i64_type) ∷ [];
  locals = variable (codes "last") i64_type ∷ [];
}

pub visit_extracted :
    (print_program visit ≡ (lines (
    codes "struct Log {" ∷
    codes "    n: i64," ∷
    codes "}" ∷
    codes "" ∷
    codes "fn note(l: Log) -> Log {" ∷
    codes "    Log { n: l.n + 1 }" ∷
    codes "}" ∷
    codes "" ∷
    codes "fn show(n: i64) {" ∷
    codes "    println!(\"{}\", n);" ∷
    codes "}" ∷
    codes "" ∷
    codes "fn visit(seen: &mut i64, limit: i64) {" ∷
    codes "    let mut log = Log { n: 0 };" ∷
    codes "    let last;" ∷
    codes "    log = note(log);" ∷
    codes "    if *seen > limit {" ∷
    codes "        return;" ∷
    codes "    }" ∷
    codes "    if log.n > limit {" ∷
    codes "        return show(*seen);" ∷
    codes "    }" ∷
    codes "    last = log.n;" ∷
    codes "    println!(\"{}\", last + log.n);" ∷
    codes "    *seen = last;" ∷
    codes "}" ∷
    codes "" ∷
    codes "fn main() {}" ∷
    [])))
    × (print_program (extraction visit visit_run visit_plan []) ≡ (lines (
    codes "struct Log {" ∷
    codes "    n: i64," ∷
    codes "}" ∷
    codes "" ∷
    codes "fn note(l: Log) -> Log {" ∷
    codes "    Log { n: l.n + 1 }" ∷
    codes "}" ∷
    codes "" ∷
    codes "fn show(n: i64) {" ∷
    codes "    println!(\"{}\", n);" ∷
    codes "}" ∷
    codes "" ∷
    codes "fn visit(seen: &mut i64, limit: i64) {" ∷
    codes "    let mut log = Log { n: 0 };" ∷
    codes "    let last;" ∷
    codes "    let (out_0, out_1) = match step(log, seen, limit) {" ∷
    codes "        Exit_step::Next(out_0, out_1) => (out_0, out_1)," ∷
    codes "        Exit_step::Return => return," ∷
    codes "    };" ∷
    codes "    log = out_0;" ∷
    codes "    last = out_1;" ∷
    codes "    println!(\"{}\", last + log.n);" ∷
    codes "    *seen = last;" ∷
    codes "}" ∷
    codes "" ∷
    codes "enum Exit_step {" ∷
    codes "    Next(Log, i64)," ∷
    codes "    Return," ∷
    codes "}" ∷
    codes "" ∷
    codes "fn step<'r0>(mut log: Log, seen: &'r0 i64, limit: i64) -> Exit_step {" ∷
    codes "    let last: i64;" ∷
    codes "    log = note(log);" ∷
    codes "    if *seen > limit {" ∷
    codes "        return Exit_step::Return;" ∷
    codes "    }" ∷
    codes "    if log.n > limit {" ∷
    codes "        return {" ∷
    codes "            let out_0: () = show(*seen);" ∷
    codes "            Exit_step::Return" ∷
    codes "        };" ∷
    codes "    }" ∷
    codes "    last = log.n;" ∷
    codes "    Exit_step::Next(log, last)" ∷
    codes "}" ∷
    codes "" ∷
    codes "fn main() {}" ∷
    [])))
unfolding digits
visit_extracted = (refl, refl)

-- pins in the run and outside beside an enum with a lifetime, a local and a redeclared variable; a jump with a label that the call
-- does not need
abbrev pub scan : ProgramTree
scan =
    (function (codes "scan") [] ((name (codes "items"), false, (plain.ref_type nowhere None false (plain.kind_type nowhere kind.I64))) ∷ []) (Some (plain.kind_type nowhere kind.I64)) (block_at nowhere (
    plain.expression_statement nowhere (plain.loop nowhere (Some (name (codes "'top"))) (block_at here (
    set (codes "step") (plain.int (at 66 67) 2 None) ∷
    plain.let_statement nowhere (plain.bind (at 81 85) (name (codes "word")) false) None plain.absent ∷
    plain.expression_statement nowhere (plain.if nowhere (two op.Gt (plain.deref nowhere (var (codes "items"))) (var (codes "step"))) (block_at nowhere (
    does (plain.break nowhere (Some (name (codes "'top")))) ∷
    []) plain.absent) plain.absent) false ∷
    does (plain.assign nowhere (var (codes "word")) (var (codes "items"))) ∷
    set (codes "count") (plain.int (at 190 191) 7 None) ∷
    does (plain.print nowhere (var (codes "count"))) ∷
    plain.let_statement nowhere (plain.bind (at 236 240) (name (codes "next")) false) None plain.absent ∷
    does (plain.assign nowhere (var (codes "next")) (var (codes "word"))) ∷
    []) (plain.present (plain.if nowhere (two op.Gt (plain.deref nowhere (var (codes "next"))) (plain.int (at 282 283) 9 None)) (block_at nowhere (
    does (plain.return nowhere (plain.present (plain.deref nowhere (var (codes "next"))))) ∷
    []) plain.absent) plain.absent)))) false ∷
    []) (plain.present (plain.int (at 332 333) 0 None)))) ∷
    (function (codes "main") [] [] None (block_at nowhere [] plain.absent)) ∷ []

abbrev pub scan_run : Run
scan_run = run_at 0 (0 ∷ 0 ∷ 0 ∷ []) 2 6

abbrev pub scan_plan : Plan
scan_plan = record no_plan {
  name = codes "part";
  exits = leaving to_next (variable (codes "word") (reference false i64_type) ∷ []) ∷ leaving (to_break 0) [] ∷ [];
  result = i64_type;
  params = passed_by by_value false (variable (codes "items") (reference false i64_type)) ∷ passed_by by_value false (variable (codes "step") i64_type) ∷ [];
  locals = variable (codes "word") (reference false i64_type) ∷ [];
  redeclared = variable (codes "next") (reference false i64_type) ∷ [];
  pins = Some (record { kinds = ((at 66 67, kind.I64) ∷ (at 190 191, kind.I32) ∷ (at 282 283, kind.I64) ∷ (at 332 333, kind.I64) ∷ []); types = ((at 81 85, (reference false i64_type)) ∷ (at 236 240, (reference false i64_type)) ∷ []) });
}

pub scan_extracted :
    (print_program scan ≡ (lines (
    codes "fn scan(items: &i64) -> i64 {" ∷
    codes "    'top: loop {" ∷
    codes "        let step = 2;" ∷
    codes "        let word;" ∷
    codes "        if *items > step {" ∷
    codes "            break 'top;" ∷
    codes "        }" ∷
    codes "        word = items;" ∷
    codes "        let count = 7;" ∷
    codes "        println!(\"{}\", count);" ∷
    codes "        let next;" ∷
    codes "        next = word;" ∷
    codes "        if *next > 9 {" ∷
    codes "            return *next;" ∷
    codes "        }" ∷
    codes "    }" ∷
    codes "    0" ∷
    codes "}" ∷
    codes "" ∷
    codes "fn main() {}" ∷
    [])))
    × (print_program (extraction scan scan_run scan_plan ((codes "'r0", codes "'r1") ∷ [])) ≡ (lines (
    codes "fn scan(items: &i64) -> i64 {" ∷
    codes "    'top: loop {" ∷
    codes "        let step = 2i64;" ∷
    codes "        let word: &i64;" ∷
    codes "        word = match part(items, step) {" ∷
    codes "            Exit_part::Next(out_0) => out_0," ∷
    codes "            Exit_part::Break_0 => break," ∷
    codes "        };" ∷
    codes "        let next: &i64;" ∷
    codes "        next = word;" ∷
    codes "        if *next > 9i64 {" ∷
    codes "            return *next;" ∷
    codes "        }" ∷
    codes "    }" ∷
    codes "    0i64" ∷
    codes "}" ∷
    codes "" ∷
    codes "enum Exit_part<'r0> {" ∷
    codes "    Next(&'r0 i64)," ∷
    codes "    Break_0," ∷
    codes "}" ∷
    codes "" ∷
    codes "fn part<'r0: 'r1, 'r1>(items: &'r0 i64, step: i64) -> Exit_part<'r1> {" ∷
    codes "    let word: &i64;" ∷
    codes "    if *items > step {" ∷
    codes "        return Exit_part::Break_0;" ∷
    codes "    }" ∷
    codes "    word = items;" ∷
    codes "    let count = 7;" ∷
    codes "    println!(\"{}\", count);" ∷
    codes "    let next: &i64;" ∷
    codes "    Exit_part::Next(word)" ∷
    codes "}" ∷
    codes "" ∷
    codes "fn main() {}" ∷
    [])))
unfolding digits
scan_extracted = (refl, refl)

-- the value of a run that returns too, references behind references, a shadowed param, a lifetime that the run names
abbrev pub choose : ProgramTree
choose =
    (structure (codes "Keep") [] (name (codes "'k") ∷ []) ((name (codes "best"), (plain.ref_type nowhere (Some (name (codes "'k"))) false (plain.kind_type nowhere kind.I64))) ∷ (name (codes "n"), (plain.kind_type nowhere kind.I64)) ∷ [])) ∷
    (function (codes "choose") ((name (codes "'a"), []) ∷ []) ((name (codes "a"), false, (plain.ref_type nowhere (Some (name (codes "'a"))) false (plain.kind_type nowhere kind.I64))) ∷ (name (codes "b"), false, (plain.ref_type nowhere (Some (name (codes "'a"))) false (plain.kind_type nowhere kind.I64))) ∷ []) (Some (plain.named_type nowhere (name (codes "Keep")) (Some ((Some (name (codes "'a"))) ∷ [])))) (block_at nowhere (
    set_mut (codes "k") (make (codes "Keep") ((name (codes "best"), (var (codes "a"))) ∷ (name (codes "n"), (number 0)) ∷ [])) ∷
    set (codes "k") (plain.block nowhere (block_at here (
    plain.let_statement nowhere (bind (codes "b")) (Some (plain.ref_type nowhere (Some (name (codes "'a"))) false (plain.kind_type nowhere kind.I64))) (plain.present (var (codes "b"))) ∷
    plain.expression_statement nowhere (plain.if nowhere (two op.Gt (plain.deref nowhere (var (codes "b"))) (plain.deref nowhere (var (codes "a")))) (block_at nowhere (
    does (plain.assign nowhere (field (var (codes "k")) (codes "best")) (var (codes "b"))) ∷
    []) plain.absent) plain.absent) false ∷
    plain.expression_statement nowhere (plain.if nowhere (two op.Gt (plain.deref nowhere (var (codes "a"))) (number 9)) (block_at nowhere (
    does (plain.return nowhere (plain.present (var (codes "k")))) ∷
    []) plain.absent) plain.absent) false ∷
    []) (plain.present (make (codes "Keep") ((name (codes "best"), (field (var (codes "k")) (codes "best"))) ∷ (name (codes "n"), (two op.Add (plain.deref nowhere (var (codes "a"))) (plain.deref nowhere (var (codes "b"))))) ∷ []))))) ∷
    []) (plain.present (var (codes "k"))))) ∷
    (function (codes "main") [] [] None (block_at nowhere [] plain.absent)) ∷ []

abbrev pub choose_run : Run
choose_run = run_at 1 (1 ∷ 1 ∷ 0 ∷ []) 0 3

abbrev pub choose_plan : Plan
choose_plan = record no_plan {
  name = codes "pick";
  exits = leaving to_next [] ∷ leaving to_return [] ∷ [];
  value = Some (named 0);
  result = (named 0);
  params = passed_by by_shared false (variable (codes "b") (reference false i64_type)) ∷ passed_by by_shared false (variable (codes "a") (reference false i64_type)) ∷ passed_by by_value true (mutable (codes "k") (named 0)) ∷ [];
  lifetimes = codes "'k" ∷ codes "'a" ∷ [];
}

pub choose_extracted :
    (print_program choose ≡ (lines (
    codes "struct Keep<'k> {" ∷
    codes "    best: &'k i64," ∷
    codes "    n: i64," ∷
    codes "}" ∷
    codes "" ∷
    codes "fn choose<'a>(a: &'a i64, b: &'a i64) -> Keep<'a> {" ∷
    codes "    let mut k = Keep { best: a, n: 0 };" ∷
    codes "    let k = {" ∷
    codes "        let b: &'a i64 = b;" ∷
    codes "        if *b > *a {" ∷
    codes "            k.best = b;" ∷
    codes "        }" ∷
    codes "        if *a > 9 {" ∷
    codes "            return k;" ∷
    codes "        }" ∷
    codes "        Keep { best: k.best, n: *a + *b }" ∷
    codes "    };" ∷
    codes "    k" ∷
    codes "}" ∷
    codes "" ∷
    codes "fn main() {}" ∷
    [])))
    × (print_program (extraction choose choose_run choose_plan []) ≡ (lines (
    codes "struct Keep<'k> {" ∷
    codes "    best: &'k i64," ∷
    codes "    n: i64," ∷
    codes "}" ∷
    codes "" ∷
    codes "fn choose<'a>(a: &'a i64, b: &'a i64) -> Keep<'a> {" ∷
    codes "    let mut k = Keep { best: a, n: 0 };" ∷
    codes "    let k = {" ∷
    codes "        match pick(&b, &a, k) {" ∷
    codes "            Exit_pick::Next(out_0) => out_0," ∷
    codes "            Exit_pick::Return(out_0) => return out_0," ∷
    codes "        }" ∷
    codes "    };" ∷
    codes "    k" ∷
    codes "}" ∷
    codes "" ∷
    codes "enum Exit_pick<'r0, 'r1> {" ∷
    codes "    Next(Keep<'r0>)," ∷
    codes "    Return(Keep<'r1>)," ∷
    codes "}" ∷
    codes "" ∷
    codes "fn pick<'a, 'r0, 'r1, 'r2, 'r3, 'r4, 'r5, 'r6>(b: &'r0 &'r1 i64, a: &'r2 &'r3 i64, mut k: Keep<'r4>) -> Exit_pick<'r5, 'r6> {" ∷
    codes "    let b: &'a i64 = *b;" ∷
    codes "    if *b > **a {" ∷
    codes "        k.best = b;" ∷
    codes "    }" ∷
    codes "    if **a > 9 {" ∷
    codes "        return Exit_pick::Return(k);" ∷
    codes "    }" ∷
    codes "    Exit_pick::Next(Keep { best: k.best, n: **a + *b })" ∷
    codes "}" ∷
    codes "" ∷
    codes "fn main() {}" ∷
    [])))
unfolding digits
choose_extracted = (refl, refl)
