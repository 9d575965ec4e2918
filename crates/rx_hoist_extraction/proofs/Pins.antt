-- Literals and `let`s where a variable is loose, computed: kinds and types are written out in all of the function, in the run and
-- outside. Each example has a program, by its text, and the text of its extraction.
use Rattle.std.proofs.Common.{◌≡◌, false, [], ◌∷◌, Some, None, codes, refl}
use Rattle.std.specs.Fmt.{digits}
use Rattle.rx_core.specs.declared.types.Kind.TheVariants as kind
use Rattle.rx_tree.specs.declared.tree.BinaryOp.TheVariants as op
use Rattle.rx_tree.specs.Plain as plain
use Rattle.rx_tree.specs.Plain.{ProgramTree}
use Rattle.rx_tree.specs.Erase.{nowhere}
use Rattle.rx_typed.specs.Types.{integer, reference}
use Rattle.rx_print_spelling.specs.Items.{print_program}
use Rattle.rx_hoist_extraction.specs.Run.{Run}
use Rattle.rx_hoist_extraction.specs.Plan.{Plan, to_next, by_value}
use Rattle.rx_hoist_extraction.specs.Extraction.{extraction}
use Rattle.rx_hoist_extraction.proofs.Trees.{here, at, name, long, var, two, match_of, set, does, block_at, function, i64_type, variable, passed_by, leaving, run_at, no_plan, lines}

-- a redeclared variable
abbrev pub show : ProgramTree
show =
    (function (codes "main") [] [] None (block_at here (
    set (codes "a") (long 1) ∷
    does (plain.print nowhere (var (codes "a"))) ∷
    plain.let_statement nowhere (plain.bind (at 61 62) (name (codes "t")) false) None plain.absent ∷
    does (plain.assign nowhere (var (codes "t")) (two op.Add (var (codes "a")) (plain.int (at 76 77) 1 None))) ∷
    does (plain.print nowhere (var (codes "t"))) ∷
    []) plain.absent)) ∷ []

abbrev pub show_run : Run
show_run = run_at 0 [] 1 2

abbrev pub show_plan : Plan
show_plan = record no_plan {
  name = codes "show";
  exits = leaving to_next [] ∷ [];
  params = passed_by by_value false (variable (codes "a") i64_type) ∷ [];
  redeclared = variable (codes "t") i64_type ∷ [];
  pins = Some (record { kinds = ((at 76 77, kind.I64) ∷ []); types = ((at 61 62, i64_type) ∷ []) });
}

pub show_extracted :
    (print_program show ≡ (lines (
    codes "fn main() {" ∷
    codes "    let a = 1i64;" ∷
    codes "    println!(\"{}\", a);" ∷
    codes "    let t;" ∷
    codes "    t = a + 1;" ∷
    codes "    println!(\"{}\", t);" ∷
    codes "}" ∷
    [])))
    × (print_program (extraction show show_run show_plan []) ≡ (lines (
    codes "fn main() {" ∷
    codes "    let a = 1i64;" ∷
    codes "    show(a);" ∷
    codes "    let t: i64;" ∷
    codes "    t = a + 1i64;" ∷
    codes "    println!(\"{}\", t);" ∷
    codes "}" ∷
    codes "" ∷
    codes "fn show(a: i64) {" ∷
    codes "    println!(\"{}\", a);" ∷
    codes "    let t: i64;" ∷
    codes "}" ∷
    [])))
unfolding digits
show_extracted = (refl, refl)

-- kinds and a type in the run and outside; `i32` is not written, a pattern stays
abbrev pub some : ProgramTree
some =
    (function (codes "main") [] [] None (block_at here (
    plain.let_statement nowhere (plain.bind (at 20 21) (name (codes "r")) false) None plain.absent ∷
    set (codes "base") (plain.int (at 38 39) 5 None) ∷
    set (codes "a") (plain.int (at 53 56) 200 None) ∷
    set (codes "k") (plain.int (at 70 71) 7 None) ∷
    does (plain.print nowhere (var (codes "k"))) ∷
    plain.let_statement nowhere (plain.bind (at 104 105) (name (codes "t")) false) None plain.absent ∷
    does (plain.assign nowhere (var (codes "r")) (plain.borrow nowhere false (var (codes "base")))) ∷
    does (plain.assign nowhere (var (codes "t")) (two op.Add (var (codes "a")) (plain.int nowhere 2 (Some kind.U8)))) ∷
    plain.expression_statement nowhere (match_of (var (codes "t")) ((
      (plain.int_pattern nowhere false 9 None),
      (plain.block nowhere (block_at nowhere (
          does (plain.print nowhere (two op.Add (var (codes "t")) (plain.int (at 199 200) 1 None))) ∷
          []) plain.absent)),
    ) ∷ ((plain.wild nowhere), (plain.block nowhere (block_at nowhere [] plain.absent))) ∷ [])) false ∷
    does (plain.print nowhere (two op.Add (plain.deref nowhere (var (codes "r"))) (long 9))) ∷
    []) plain.absent)) ∷ []

abbrev pub some_run : Run
some_run = run_at 0 [] 2 5

abbrev pub some_plan : Plan
some_plan = record no_plan {
  name = codes "some";
  exits = leaving to_next (variable (codes "a") (integer kind.U8) ∷ []) ∷ [];
  redeclared = variable (codes "t") (integer kind.U8) ∷ [];
  pins = Some (record { kinds = ((at 38 39, kind.I64) ∷ (at 53 56, kind.U8) ∷ (at 70 71, kind.I32) ∷ (at 199 200, kind.U8) ∷ []); types = ((at 20 21, (reference false i64_type)) ∷ (at 104 105, (integer kind.U8)) ∷ []) });
}

pub some_extracted :
    (print_program some ≡ (lines (
    codes "fn main() {" ∷
    codes "    let r;" ∷
    codes "    let base = 5;" ∷
    codes "    let a = 200;" ∷
    codes "    let k = 7;" ∷
    codes "    println!(\"{}\", k);" ∷
    codes "    let t;" ∷
    codes "    r = &base;" ∷
    codes "    t = a + 2u8;" ∷
    codes "    match t {" ∷
    codes "        9 => {" ∷
    codes "            println!(\"{}\", t + 1);" ∷
    codes "        }" ∷
    codes "        _ => {}" ∷
    codes "    }" ∷
    codes "    println!(\"{}\", *r + 9i64);" ∷
    codes "}" ∷
    [])))
    × (print_program (extraction some some_run some_plan []) ≡ (lines (
    codes "fn main() {" ∷
    codes "    let r: &i64;" ∷
    codes "    let base = 5i64;" ∷
    codes "    let a = some();" ∷
    codes "    let t: u8;" ∷
    codes "    r = &base;" ∷
    codes "    t = a + 2u8;" ∷
    codes "    match t {" ∷
    codes "        9 => {" ∷
    codes "            println!(\"{}\", t + 1u8);" ∷
    codes "        }" ∷
    codes "        _ => {}" ∷
    codes "    }" ∷
    codes "    println!(\"{}\", *r + 9i64);" ∷
    codes "}" ∷
    codes "" ∷
    codes "fn some() -> u8 {" ∷
    codes "    let a = 200u8;" ∷
    codes "    let k = 7;" ∷
    codes "    println!(\"{}\", k);" ∷
    codes "    let t: u8;" ∷
    codes "    a" ∷
    codes "}" ∷
    [])))
unfolding digits
some_extracted = (refl, refl)
