-- The canonical texts of a few trees where parentheses, blanks, commas or lines are easily wrong: each is computed.
use Rattle.std.proofs.Common.{◌≡◌, ℕ, Bool, false, true, List, [], ◌∷◌, Option, Some, None, codes, refl}
use Rattle.std.specs.Fmt.{digits}
use Rattle.rx_core.specs.declared.types.Kind.TheVariants.{U8, I32}
use Rattle.rx_tree.specs.declared.tree.Ident.{Ident}
use Rattle.rx_tree.specs.declared.tree.Derive.TheVariants.{Clone, Copy}
use Rattle.rx_tree.specs.declared.tree.BinaryOp.{BinaryOp}
use Rattle.rx_tree.specs.declared.tree.BinaryOp.TheVariants as op
use Rattle.rx_tree.specs.declared.tree.UpdateOp.TheVariants as update_op
use Rattle.rx_tree.specs.Plain as plain
use Rattle.rx_tree.specs.Plain.{TypeTree, PatternTree, Expression, OptionalExpression, Arms, Body, Statement, Statements, ItemTree}
use Rattle.rx_tree.specs.Erase.{nowhere}
use Rattle.rx_print_spelling.specs.Pieces.{flat}
use Rattle.rx_print_spelling.specs.Types.{type_pieces}
use Rattle.rx_print_spelling.specs.Patterns.{pattern_pieces}
use Rattle.rx_print_spelling.specs.Expressions.{pieces, statement}
use Rattle.rx_print_spelling.specs.Items.{print_program}
use Rattle.rx_print_spelling.specs.Levels.{expression_levels}

-- ---- trees

abbrev named : List ℕ → Ident
named w = record { span = nowhere; name = w }

abbrev variable : List ℕ → Expression
variable w = plain.var nowhere w

abbrev a : Expression
a = variable (codes "a")

abbrev b : Expression
b = variable (codes "b")

abbrev c : Expression
c = variable (codes "c")

abbrev one : Expression
one = plain.int nowhere 1 None

abbrev two : BinaryOp → Expression → Expression → Expression
two o x y = plain.binary nowhere o x y

abbrev field : Expression → Expression
field e = plain.field nowhere e (named (codes "f"))

abbrev deref : Expression → Expression
deref e = plain.deref nowhere e

abbrev negate : Expression → Expression
negate e = plain.negate nowhere e

abbrev borrow : Expression → Expression
borrow e = plain.borrow nowhere false e

abbrev borrow_mut : Expression → Expression
borrow_mut e = plain.borrow nowhere true e

abbrev assign : Expression → Expression → Expression
assign x y = plain.assign nowhere x y

abbrev jump : Expression
jump = plain.return nowhere plain.absent

abbrev empty : Body
empty = plain.body nowhere plain.no_statement plain.absent

abbrev with_tail : Expression → Body
with_tail e = plain.body nowhere plain.no_statement (plain.present e)

abbrev of_block : Body → Expression
of_block k = plain.block nowhere k

-- S { x: 1 }
abbrev literal : Expression
literal = plain.make nowhere (named (codes "S")) (plain.field_and (named (codes "x")) one plain.no_field)

abbrev call : Expression → Expression
call e = plain.call nowhere (named (codes "g")) (plain.expression_and e plain.no_expression)

abbrev conditional : Expression → Expression
conditional e = plain.if nowhere e empty plain.absent

abbrev wild : PatternTree
wild = plain.wild nowhere

abbrev text : Expression → List ℕ
text e = flat (pieces false 0 e)

abbrev done : Expression → List ℕ
done e = flat (statement 0 (plain.expression_statement nowhere e true))

-- ---- operators

step_of_a_deref : text (field (deref a)) ≡ codes "(*a).f"
step_of_a_deref = refl

deref_of_a_step : text (deref (field a)) ≡ codes "*a.f"
deref_of_a_step = refl

signs : (text (negate (negate one)) ≡ codes "--1") × (text (negate (two op.Add a b)) ≡ codes "-(a + b)") × (text (field (negate a)) ≡ codes "(-a).f") × (text (two op.Sub a (negate b)) ≡ codes "a - -b") × (text (plain.invert nowhere (negate (deref a))) ≡ codes "!-*a")
unfolding digits
signs = (refl, refl, refl, refl, refl)

nested : (text (two op.Sub (two op.Sub a b) c) ≡ codes "a - b - c") × (text (two op.Sub a (two op.Sub b c)) ≡ codes "a - (b - c)") × (text (two op.Mul (two op.Add a b) c) ≡ codes "(a + b) * c") × (text (two op.Add (two op.Mul a b) c) ≡ codes "a * b + c")
nested = (refl, refl, refl, refl)

compared : (text (two op.Eq (two op.Lt a b) c) ≡ codes "(a < b) == c") × (text (two op.Lt a (two op.Lt b c)) ≡ codes "a < (b < c)") × (text (two op.And (two op.Lt a b) (two op.Or b c)) ≡ codes "a < b && (b || c)") × (text (two op.Or (two op.And a b) c) ≡ codes "a && b || c")
compared = (refl, refl, refl, refl)

assigned : (text (assign (assign a b) c) ≡ codes "(a = b) = c") × (text (assign a (assign b c)) ≡ codes "a = b = c") × (text (two op.Add (assign a b) c) ≡ codes "(a = b) + c") × (text (plain.update nowhere update_op.Rem a (two op.Add b c)) ≡ codes "a %= b + c")
assigned = (refl, refl, refl, refl)

jumps : (text (two op.Add jump one) ≡ codes "(return) + 1") × (text (plain.return nowhere (plain.present jump)) ≡ codes "return return") × (text (negate (plain.break nowhere (Some (named (codes "'a"))))) ≡ codes "-(break 'a)") × (text (assign a jump) ≡ codes "a = return")
unfolding digits
jumps = (refl, refl, refl, refl)

-- ---- references: two `&` are one mark

borrows : (text (borrow (borrow a)) ≡ codes "&&a") × (text (borrow (borrow (borrow a))) ≡ codes "&&&a") × (text (borrow (borrow (borrow (borrow a)))) ≡ codes "&&&&a") × (text (borrow_mut (borrow a)) ≡ codes "&mut &a") × (text (borrow (borrow_mut a)) ≡ codes "&&mut a") × (text (field (borrow a)) ≡ codes "(&a).f") × (text (two op.And a (borrow b)) ≡ codes "a && &b")
borrows = (refl, refl, refl, refl, refl, refl, refl)

borrow_levels : (expression_levels (borrow (borrow a)) ≡ 3) × (expression_levels (field (deref a)) ≡ 4) × (expression_levels (deref (field a)) ≡ 3)
borrow_levels = (refl, refl, refl)

-- ---- steps to parts, tuples and struct literals

parts : (text (plain.part nowhere (plain.part nowhere a 0) 1) ≡ codes "a.0.1") × (text (plain.part nowhere one 0) ≡ codes "1.0") × (text (plain.int nowhere 255 (Some U8)) ≡ codes "255u8")
unfolding digits
parts = (refl, refl, refl)

tuples : (text (plain.tuple nowhere plain.no_expression) ≡ codes "()") × (text (plain.tuple nowhere (plain.expression_and a plain.no_expression)) ≡ codes "(a,)") × (text (plain.tuple nowhere (plain.expression_and a (plain.expression_and (assign a b) plain.no_expression))) ≡ codes "(a, a = b)")
tuples = (refl, refl, refl)

literals : (text literal ≡ codes "S { x: 1 }") × (text (plain.make nowhere (named (codes "S")) plain.no_field) ≡ codes "S {}") × (text (plain.variant nowhere (named (codes "E")) (named (codes "V")) (plain.a_list (plain.expression_and literal plain.no_expression))) ≡ codes "E::V(S { x: 1 })")
unfolding digits
literals = (refl, refl, refl)

-- ---- conditions

conditions : (text (conditional (two op.Eq (field literal) one)) ≡ codes "if (S { x: 1 }.f == 1) {}") × (text (conditional (call literal)) ≡ codes "if g(S { x: 1 }) {}") × (text (conditional (two op.Eq (negate (two op.Add literal one)) one)) ≡ codes "if -(S { x: 1 } + 1) == 1 {}") × (text (conditional (assign a b)) ≡ codes "if (a = b) {}") × (text (conditional jump) ≡ codes "if (return) {}")
unfolding digits
conditions = (refl, refl, refl, refl, refl)

chained : text (plain.if nowhere a empty (plain.present (plain.if nowhere b (with_tail c) (plain.present (of_block empty))))) ≡ codes "if a {} else if b {\n    c\n} else {}"
chained = refl

loops : (text (plain.loop nowhere (Some (named (codes "'a"))) empty) ≡ codes "'a: loop {}") × (text (plain.while nowhere None literal (with_tail a)) ≡ codes "while (S { x: 1 }) {\n    a\n}")
unfolding digits
loops = (refl, refl)

-- ---- what a pattern is to fit: in parentheses as a whole where it is weaker than a comparison, or has an open struct literal

abbrev fits : Expression → Expression
fits e = plain.if_let nowhere wild e empty plain.absent

abbrev fits_while : Expression → Expression
fits_while e = plain.while_let nowhere None (plain.bind nowhere (named (codes "x")) false) e (with_tail a)

joined_scrutinees :
    (text (fits (two op.And a b)) ≡ codes "if let _ = (a && b) {}") × (text (fits (two op.Or a b)) ≡ codes "if let _ = (a || b) {}")
    × (text (fits (two op.And (two op.And a b) c)) ≡ codes "if let _ = (a && b && c) {}")
    × (text (fits_while (two op.Or (two op.Eq a b) c)) ≡ codes "while let x = (a == b || c) {\n    a\n}")
joined_scrutinees = (refl, refl, refl, refl)

loose_scrutinees :
    (text (fits (assign a b)) ≡ codes "if let _ = (a = b) {}") × (text (fits (plain.update nowhere update_op.Add a b)) ≡ codes "if let _ = (a += b) {}")
    × (text (fits jump) ≡ codes "if let _ = (return) {}") × (text (fits (plain.return nowhere (plain.present a))) ≡ codes "if let _ = (return a) {}")
    × (text (fits_while (plain.break nowhere None)) ≡ codes "while let x = (break) {\n    a\n}")
    × (text (fits_while (plain.continue nowhere (Some (named (codes "'a"))))) ≡ codes "while let x = (continue 'a) {\n    a\n}")
loose_scrutinees = (refl, refl, refl, refl, refl, refl)

open_scrutinees :
    (text (fits literal) ≡ codes "if let _ = (S { x: 1 }) {}") × (text (fits (field literal)) ≡ codes "if let _ = (S { x: 1 }.f) {}")
    × (text (fits (two op.Eq (field literal) one)) ≡ codes "if let _ = (S { x: 1 }.f == 1) {}") × (text (fits (borrow literal)) ≡ codes "if let _ = (&S { x: 1 }) {}")
    × (text (fits_while (two op.Add a literal)) ≡ codes "while let x = (a + S { x: 1 }) {\n    a\n}")
unfolding digits
open_scrutinees = (refl, refl, refl, refl, refl)

bare_scrutinees :
    (text (fits (two op.Eq a b)) ≡ codes "if let _ = a == b {}") × (text (fits (two op.Eq (two op.Lt a b) c)) ≡ codes "if let _ = (a < b) == c {}")
    × (text (fits (call literal)) ≡ codes "if let _ = g(S { x: 1 }) {}") × (text (fits (negate (two op.And a b))) ≡ codes "if let _ = -(a && b) {}")
    × (text (fits (of_block (with_tail literal))) ≡ codes "if let _ = {\n    S { x: 1 }\n} {}") × (text (fits (fits a)) ≡ codes "if let _ = if let _ = a {} {}")
unfolding digits
bare_scrutinees = (refl, refl, refl, refl, refl, refl)

fitting_chains :
    (text (plain.if_let nowhere (plain.bind nowhere (named (codes "x")) true) a empty (plain.present (plain.if_let nowhere wild b (with_tail c) (plain.present (of_block empty)))))
    ≡ codes "if let mut x = a {} else if let _ = b {\n    c\n} else {}")
    × (text (plain.if nowhere a empty (plain.present (fits b))) ≡ codes "if a {} else if let _ = b {}")
    × (text (plain.while_let nowhere (Some (named (codes "'a"))) (plain.tuple_pattern nowhere (plain.pattern_and wild plain.no_pattern)) a empty) ≡ codes "'a: while let (_,) = a {}")
fitting_chains = (refl, refl, refl)

-- a statement that begins with one and is more than it
fitting_statements : (done (fits a) ≡ codes "if let _ = a {};") × (done (field (fits a)) ≡ codes "(if let _ = a {}.f);") × (done (two op.Sub (fits_while a) b) ≡ codes "(while let x = a {\n    a\n} - b);")
fitting_statements = (refl, refl, refl)

fitting_levels :
    (expression_levels (fits a) ≡ 2) × (expression_levels (fits (two op.And a b)) ≡ 4) × (expression_levels (fits literal) ≡ 4) × (expression_levels (fits (two op.Eq a b)) ≡ 3)
    × (expression_levels (fits_while a) ≡ 3) × (expression_levels (plain.if_let nowhere wild a empty (plain.present (of_block empty))) ≡ 3)
fitting_levels = (refl, refl, refl, refl, refl, refl)

-- ---- what begins with a block and is more than it

statements_of_blocks : (done (two op.Sub (of_block (with_tail a)) b) ≡ codes "({\n    a\n} - b);") × (done (field (of_block (with_tail a))) ≡ codes "({\n    a\n}.f);") × (done (of_block empty) ≡ codes "{};") × (done (negate (of_block empty)) ≡ codes "-{};") × (done (call (two op.Sub (of_block empty) b)) ≡ codes "g({} - b);") × (done (two op.Mul (two op.Add (of_block empty) b) c) ≡ codes "({} + b) * c;")
statements_of_blocks = (refl, refl, refl, refl, refl, refl)

value_of_a_let : flat (statement 0 (plain.let_statement nowhere (plain.bind nowhere (named (codes "x")) true) None (plain.present (two op.Sub (of_block (with_tail a)) b)))) ≡ codes "let mut x = {\n    a\n} - b;"
value_of_a_let = refl

tail_of_a_block : text (of_block (with_tail (two op.Sub (of_block empty) b))) ≡ codes "{\n    ({} - b)\n}"
tail_of_a_block = refl

-- ---- arms: one whose body is a block has no comma

abbrev arms_of_a_match : Arms
arms_of_a_match =
    plain.arm_and (plain.int_pattern nowhere true 1 (Some I32)) a
    (plain.arm_and (plain.variant_pattern nowhere (named (codes "E")) (named (codes "V")) (plain.pattern_and wild plain.no_pattern)) (of_block (with_tail b))
    (plain.arm_and (plain.bind nowhere (named (codes "x")) false) (conditional a)
    (plain.arm_and wild (two op.Add (of_block empty) b) plain.no_arm)))

matched : text (plain.match nowhere a arms_of_a_match) ≡ codes "match a {\n    -1i32 => a,\n    E::V(_) => {\n        b\n    }\n    x => if a {},\n    _ => ({} + b),\n}"
unfolding digits
matched = refl

-- ---- types and patterns

abbrev reference : Option Ident → Bool → TypeTree → TypeTree
reference l m t = plain.ref_type nowhere l m t

abbrev byte : TypeTree
byte = plain.kind_type nowhere U8

types : (flat (type_pieces false (reference None false (reference (Some (named (codes "'a"))) true byte))) ≡ codes "&&'a mut u8") × (flat (type_pieces false (reference (Some (named (codes "'a"))) false (reference None false byte))) ≡ codes "&'a &u8") × (flat (type_pieces false (plain.tuple_type nowhere (plain.type_and byte plain.no_type))) ≡ codes "(u8,)") × (flat (type_pieces false (plain.named_type nowhere (named (codes "P")) (Some (Some (named (codes "'a")) ∷ None ∷ [])))) ≡ codes "P<'a, '_>")
types = (refl, refl, refl, refl)

patterns : (flat (pattern_pieces (plain.make_pattern nowhere (named (codes "S")) (plain.field_pattern_and (named (codes "x")) (plain.bind nowhere (named (codes "x")) true) (plain.field_pattern_and (named (codes "y")) wild plain.no_field_pattern)))) ≡ codes "S { x: mut x, y: _ }") × (flat (pattern_pieces (plain.tuple_pattern nowhere (plain.pattern_and wild plain.no_pattern))) ≡ codes "(_,)")
patterns = (refl, refl)

-- ---- programs

no_item : print_program [] ≡ codes "\n"
no_item = refl

abbrev pair : ItemTree
pair = plain.struct_item nowhere (record {
  name = named (codes "Pair");
  derives = Clone ∷ Copy ∷ [];
  lifetimes = named (codes "'a") ∷ [];
  fields = record { name = named (codes "x"); typ = reference (Some (named (codes "'a"))) false byte } ∷ record { name = named (codes "y"); typ = byte } ∷ [];
})

abbrev nothing : ItemTree
nothing = plain.struct_item nowhere (record { name = named (codes "N"); derives = []; lifetimes = []; fields = [] })

abbrev choice : ItemTree
choice = plain.enum_item nowhere (record {
  name = named (codes "E");
  derives = Clone ∷ [];
  lifetimes = [];
  variants = record { name = named (codes "V"); types = plain.type_and byte (plain.type_and byte plain.no_type) } ∷ record { name = named (codes "W"); types = plain.no_type } ∷ [];
})

abbrev function : ItemTree
function = plain.function_item nowhere (record {
  name = named (codes "f");
  lifetimes = record { name = named (codes "'a"); bounds = [] } ∷ record { name = named (codes "'b"); bounds = named (codes "'a") ∷ named (codes "'c") ∷ [] } ∷ [];
  params = record { name = named (codes "x"); mutable = true; typ = byte } ∷ record { name = named (codes "y"); mutable = false; typ = byte } ∷ [];
  result = Some byte;
  body = plain.body nowhere (plain.statement_and (plain.let_statement nowhere (plain.bind nowhere (named (codes "z")) false) (Some byte) plain.absent)
      (plain.statement_and (plain.expression_statement nowhere (conditional a) false) (plain.statement_and (plain.expression_statement nowhere (plain.print nowhere b) true) plain.no_statement)))
      (plain.present (plain.next_input nowhere));
})

program : print_program (plain.rt_item nowhere nowhere ∷ pair ∷ nothing ∷ choice ∷ function ∷ []) ≡ codes "mod rt;\n\n#[derive(Clone, Copy)]\nstruct Pair<'a> {\n    x: &'a u8,\n    y: u8,\n}\n\nstruct N {}\n\n#[derive(Clone)]\nenum E {\n    V(u8, u8),\n    W,\n}\n\nfn f<'a, 'b: 'a + 'c>(mut x: u8, y: u8) -> u8 {\n    let z: u8;\n    if a {}\n    println!(\"{}\", b);\n    rt::next()\n}\n"
program = refl
