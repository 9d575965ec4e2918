-- Whole texts of extractions, computed: comments and layout outside the run stay, and its own lines are moved.
use Rattle.std.proofs.Common.{◌≡◌, ℕ, false, true, List, [], ◌∷◌, ◌++◌, Some, None, codes, refl}
use Rattle.std.specs.Fmt.{digits}
use Rattle.rx_core.specs.declared.types.Kind.TheVariants as kind
use Rattle.rx_tree.specs.declared.tree.BinaryOp.TheVariants as op
use Rattle.rx_tree.specs.Plain as plain
use Rattle.rx_tree.specs.Plain.{Expression, Statement, Function, ProgramTree}
use Rattle.rx_tree.specs.Erase.{nowhere}
use Rattle.rx_lex.specs.declared.token.Class.{Class}
use Rattle.rx_lex.specs.declared.token.Class.TheVariants.{Identifier, Keyword, Number, Format, Mark}
use Rattle.rx_lex.specs.Tok.{Tok}
use Rattle.rx_typed.specs.Types.{boolean}
use Rattle.rx_hoist_extraction.specs.Run.{Run}
use Rattle.rx_hoist_extraction.specs.Plan.{Plan, to_next, to_break, to_return, by_shared, by_value}
use Rattle.rx_hoist_extraction.proofs.Trees.{at, name, block_at, variable, passed_by, leaving, no_plan, lines, i32_type, i64_type}
use Rattle.rx_splice_laws.specs.SplicedText.{spliced_text}

abbrev quoted : List ℕ
quoted = 34 ∷ (codes "{}" ++ 34 ∷ [])

abbrev tok : Class → ℕ → ℕ → List ℕ → Tok
tok c a b w = record { class = c; span = at a b; text = w }

-- ---- a line with a comment behind it; a shared variable

abbrev print_text : List ℕ
print_text = lines (
    codes "fn main() {" ∷
    codes "  let x = 1; // one" ∷
    (codes "  println!(" ++ (quoted ++ codes ", /* it */x/2); // out")) ∷
    codes "} // end" ∷
    [])

abbrev print_tokens : List Tok
print_tokens =
    tok Keyword 0 2 (codes "fn") ∷ tok Identifier 3 7 (codes "main") ∷ tok Mark 7 8 (codes "(") ∷ tok Mark 8 9 (codes ")") ∷ tok Mark 10 11 (codes "{") ∷
    tok Keyword 14 17 (codes "let") ∷ tok Identifier 18 19 (codes "x") ∷ tok Mark 20 21 (codes "=") ∷ tok Number 22 23 (codes "1") ∷ tok Mark 23 24 (codes ";") ∷
    tok Identifier 34 41 (codes "println") ∷ tok Mark 41 42 (codes "!") ∷ tok Mark 42 43 (codes "(") ∷ tok Format 43 47 quoted ∷ tok Mark 47 48 (codes ",") ∷
    tok Identifier 57 58 (codes "x") ∷ tok Mark 58 59 (codes "/") ∷ tok Number 59 60 (codes "2") ∷ tok Mark 60 61 (codes ")") ∷ tok Mark 61 62 (codes ";") ∷
    tok Mark 70 71 (codes "}") ∷ []

abbrev print_function : Function
print_function = record {
  name = name (codes "main");
  lifetimes = [];
  params = [];
  result = None;
  body = block_at (at 10 71) (
      plain.let_statement (at 14 24) (plain.bind (at 18 19) (name (codes "x")) false) None (plain.present (plain.int (at 22 23) 1 None)) ∷
      plain.expression_statement (at 34 62) (plain.print (at 34 61) (plain.binary (at 57 60) op.Div (plain.var (at 57 58) (codes "x")) (plain.int (at 59 60) 2 None))) true ∷
      []) plain.absent;
}

abbrev print_run : Run
print_run = record { item = 0; way = []; first = 1; last = 1; span = at 34 62 }

abbrev print_plan : Plan
print_plan = record no_plan {
  name = codes "show";
  exits = leaving to_next [] ∷ [];
  params = passed_by by_shared false (variable (codes "x") i32_type) ∷ [];
}

pub comment_stays : spliced_text print_text print_tokens (plain.function_item (at 0 71) print_function ∷ []) print_run print_plan [] print_function
    ≡ lines (
    codes "fn main() {" ∷
    codes "  let x = 1; // one" ∷
    codes "  show(&x); // out" ∷
    codes "}" ∷
    [] ∷
    codes "fn show<'r0>(x: &'r0 i32) {" ∷
    (codes "    println!(" ++ (quoted ++ codes ", /* it */*x/2);")) ∷
    codes "} // end" ∷
    [])
unfolding digits
comment_stays = refl

-- ---- jumps that leave, a line with its indent, an enum

abbrev leave_text : List ℕ
leave_text = lines (
    codes "fn f(y: bool) -> i32 {" ∷
    (9 ∷ codes "loop {") ∷
    (9 ∷ 9 ∷ codes "if y { return 7; } // seven") ∷
    (9 ∷ 9 ∷ codes "break") ∷
    (9 ∷ codes "}") ∷
    (9 ∷ codes "1") ∷
    codes "}" ∷
    [])

abbrev leave_tokens : List Tok
leave_tokens =
    tok Keyword 0 2 (codes "fn") ∷ tok Identifier 3 4 (codes "f") ∷ tok Mark 4 5 (codes "(") ∷ tok Identifier 5 6 (codes "y") ∷ tok Mark 6 7 (codes ":") ∷
    tok Identifier 8 12 (codes "bool") ∷ tok Mark 12 13 (codes ")") ∷ tok Mark 14 16 (codes "->") ∷ tok Identifier 17 20 (codes "i32") ∷ tok Mark 21 22 (codes "{") ∷
    tok Keyword 24 28 (codes "loop") ∷ tok Mark 29 30 (codes "{") ∷ tok Keyword 33 35 (codes "if") ∷ tok Identifier 36 37 (codes "y") ∷ tok Mark 38 39 (codes "{") ∷
    tok Keyword 40 46 (codes "return") ∷ tok Number 47 48 (codes "7") ∷ tok Mark 48 49 (codes ";") ∷ tok Mark 50 51 (codes "}") ∷
    tok Keyword 63 68 (codes "break") ∷ tok Mark 70 71 (codes "}") ∷ tok Number 73 74 (codes "1") ∷ tok Mark 75 76 (codes "}") ∷ []

abbrev leave_function : Function
leave_function = record {
  name = name (codes "f");
  lifetimes = [];
  params = record { name = name (codes "y"); mutable = false; typ = plain.bool_type nowhere } ∷ [];
  result = Some (plain.kind_type nowhere kind.I32);
  body = block_at (at 21 76) (
      plain.expression_statement (at 24 71) (plain.loop (at 24 71) None (block_at (at 29 71) (
      plain.expression_statement (at 33 51) (plain.if (at 33 51) (plain.var (at 36 37) (codes "y"))
      (block_at (at 38 51) (plain.expression_statement (at 40 49) (plain.return (at 40 48) (plain.present (plain.int (at 47 48) 7 None))) true ∷ []) plain.absent) plain.absent) false ∷
      []) (plain.present (plain.break (at 63 68) None)))) false ∷
      []) (plain.present (plain.int (at 73 74) 1 None));
}

abbrev leave_run : Run
leave_run = record { item = 0; way = 0 ∷ 0 ∷ 0 ∷ []; first = 0; last = 1; span = at 33 68 }

abbrev leave_plan : Plan
leave_plan = record no_plan {
  name = codes "g";
  exits = leaving (to_break 0) [] ∷ leaving to_return [] ∷ [];
  never = true;
  result = i32_type;
  params = passed_by by_value false (variable (codes "y") boolean) ∷ [];
}

pub jumps_leave : spliced_text leave_text leave_tokens (plain.function_item (at 0 76) leave_function ∷ []) leave_run leave_plan [] leave_function
    ≡ lines (
    codes "fn f(y: bool) -> i32 {" ∷
    (9 ∷ codes "loop {") ∷
    (9 ∷ 9 ∷ codes "match g(y) {") ∷
    (9 ∷ 9 ∷ codes "    Exit_g::Break_0 => break,") ∷
    (9 ∷ 9 ∷ codes "    Exit_g::Return(out_0) => return out_0,") ∷
    (9 ∷ 9 ∷ codes "};") ∷
    (9 ∷ codes "}") ∷
    (9 ∷ codes "1") ∷
    codes "}" ∷
    [] ∷
    codes "enum Exit_g {" ∷
    codes "    Break_0," ∷
    codes "    Return(i32)," ∷
    codes "}" ∷
    [] ∷
    codes "fn g(y: bool) -> Exit_g {" ∷
    codes "    if y { return Exit_g::Return(7); } // seven" ∷
    codes "    return Exit_g::Break_0" ∷
    codes "}" ∷
    [])
unfolding digits
jumps_leave = refl

-- ---- a value in a tuple with an out, a pinned kind in the run and a pinned type outside, a run within a line

abbrev value_text : List ℕ
value_text = lines (
    codes "fn h() -> i64 {" ∷
    codes "    let b;" ∷
    codes "    let t = { b = (2); (b + 1) };" ∷
    codes "    b" ∷
    codes "}" ∷
    [])

abbrev value_tokens : List Tok
value_tokens =
    tok Keyword 0 2 (codes "fn") ∷ tok Identifier 3 4 (codes "h") ∷ tok Mark 4 5 (codes "(") ∷ tok Mark 5 6 (codes ")") ∷ tok Mark 7 9 (codes "->") ∷
    tok Identifier 10 13 (codes "i64") ∷ tok Mark 14 15 (codes "{") ∷ tok Keyword 20 23 (codes "let") ∷ tok Identifier 24 25 (codes "b") ∷ tok Mark 25 26 (codes ";") ∷
    tok Keyword 31 34 (codes "let") ∷ tok Identifier 35 36 (codes "t") ∷ tok Mark 37 38 (codes "=") ∷ tok Mark 39 40 (codes "{") ∷ tok Identifier 41 42 (codes "b") ∷
    tok Mark 43 44 (codes "=") ∷ tok Mark 45 46 (codes "(") ∷ tok Number 46 47 (codes "2") ∷ tok Mark 47 48 (codes ")") ∷ tok Mark 48 49 (codes ";") ∷
    tok Mark 50 51 (codes "(") ∷ tok Identifier 51 52 (codes "b") ∷ tok Mark 53 54 (codes "+") ∷ tok Number 55 56 (codes "1") ∷ tok Mark 56 57 (codes ")") ∷
    tok Mark 58 59 (codes "}") ∷ tok Mark 59 60 (codes ";") ∷ tok Identifier 65 66 (codes "b") ∷ tok Mark 67 68 (codes "}") ∷ []

abbrev value_function : Function
value_function = record {
  name = name (codes "h");
  lifetimes = [];
  params = [];
  result = Some (plain.kind_type nowhere kind.I64);
  body = block_at (at 14 68) (
      plain.let_statement (at 20 26) (plain.bind (at 24 25) (name (codes "b")) false) None plain.absent ∷
      plain.let_statement (at 31 60) (plain.bind (at 35 36) (name (codes "t")) false) None (plain.present (plain.block (at 39 59) (block_at (at 39 59) (
      plain.expression_statement (at 41 49) (plain.assign (at 41 48) (plain.var (at 41 42) (codes "b")) (plain.int (at 46 47) 2 None)) true ∷
      []) (plain.present (plain.binary (at 51 56) op.Add (plain.var (at 51 52) (codes "b")) (plain.int (at 55 56) 1 None)))))) ∷
      []) (plain.present (plain.var (at 65 66) (codes "b")));
}

abbrev value_run : Run
value_run = record { item = 0; way = 1 ∷ 1 ∷ 0 ∷ []; first = 0; last = 1; span = at 41 57 }

abbrev value_plan : Plan
value_plan = record no_plan {
  name = codes "k";
  exits = leaving to_next (variable (codes "b") i64_type ∷ []) ∷ [];
  value = Some i64_type;
  locals = variable (codes "b") i64_type ∷ [];
  pins = Some (record { kinds = (at 46 47, kind.I64) ∷ []; types = (at 24 25, i64_type) ∷ [] });
}

pub value_and_out : spliced_text value_text value_tokens (plain.function_item (at 0 68) value_function ∷ []) value_run value_plan [] value_function
    ≡ lines (
    codes "fn h() -> i64 {" ∷
    codes "    let b: i64;" ∷
    codes "    let t = { let (out_0, out_1) = k();" ∷
    codes "b = out_1;" ∷
    codes "out_0 };" ∷
    codes "    b" ∷
    codes "}" ∷
    [] ∷
    codes "fn k() -> (i64, i64) {" ∷
    codes "    let b: i64;" ∷
    codes "    b = (2i64); let out_0: i64 = (b + 1);" ∷
    codes "    (out_0, b)" ∷
    codes "}" ∷
    [])
unfolding digits
value_and_out = refl
