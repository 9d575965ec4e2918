-- Programs for examples: each text, and what it is by the definitions of names and of the typed tree.
use Rattle.std.specs.Prelude.{true, false, List, [], ◌∷◌, Option, Some, None, codes}
use Rattle.rx_core.specs.declared.types.Kind.{Kind}
use Rattle.rx_tree.specs.declared.tree.BinaryOp.{BinaryOp}
use Rattle.rx_tree.specs.declared.tree.UpdateOp.{UpdateOp}
use Rattle.rx_tree.specs.Plain as plain
use Rattle.rx_typed.specs.Types.{integer, boolean, tuple_of, reference, named, no_shape, shape_and, unit_shape, Declarations, rt_declared, struct_declared, enum_declared, function_declared}
use Rattle.rx_typed.specs.Tree.{Function}
use Rattle.rx_lower_walks.proofs.Short.{at, word, function_of}

-- fn main() {
--     let a = 2i64;
--     let b = 3i64;
--     let c = a * b;
--     println!("{}", c);
-- }
abbrev pub product_items : Declarations
product_items = function_declared ([]) unit_shape ∷ []

abbrev pub product_main : Function
product_main = function_of 0 product_items ((1, unit_shape) ∷ (3, (integer Kind.I64)) ∷ (4, (integer Kind.I64)) ∷ (6, (integer Kind.I64)) ∷ (
  7,
  (integer Kind.I64),
) ∷ (9, (integer Kind.I64)) ∷ (10, (integer Kind.I64)) ∷ (11, (integer Kind.I64)) ∷ (12, (integer Kind.I64)) ∷ (
  14,
  unit_shape,
) ∷ (15, (integer Kind.I64)) ∷ []) ([]) ((0 ∷ []) ∷ (1 ∷ []) ∷ (2 ∷ []) ∷ (0 ∷ []) ∷ (1 ∷ []) ∷ (2 ∷ []) ∷ []) (record {
  name = (word
      (codes "main"));
  lifetimes = [];
  params = [];
  result = None;
  body = (plain.body at (plain.statement_and (plain.let_statement at (plain.bind at
      (word (codes "a")) false) None (plain.present (plain.int at 2 (Some Kind.I64)))) (plain.statement_and (plain.let_statement at (plain.bind at
      (word (codes "b")) false) None (plain.present (plain.int at 3 (Some Kind.I64)))) (plain.statement_and (plain.let_statement at (plain.bind at
      (word (codes "c")) false) None (plain.present (plain.binary at BinaryOp.Mul (plain.var at (codes "a")) (plain.var at (codes "b")))))
      (plain.statement_and (plain.expression_statement at (plain.print at (plain.var at (codes "c"))) true) plain.no_statement)))) plain.absent);
})

abbrev pub product_functions : List (Option Function)
product_functions = Some product_main ∷ []

-- fn half(x: i64, b: bool) -> i64 {
--     let y = x + {
--         let z = 1;
--         if b {
--             return x;
--         }
--         z
--     };
--     y
-- }
abbrev pub half_items : Declarations
half_items = function_declared ((integer Kind.I64) ∷ boolean ∷ []) (integer Kind.I64) ∷ []

abbrev pub half_half : Function
half_half = function_of 0 half_items ((4, (integer Kind.I64)) ∷ (6, (integer Kind.I64)) ∷ (7, (integer Kind.I64)) ∷ (8, (integer Kind.I64)) ∷ (
  9,
  (integer Kind.I64),
) ∷ (10, (integer Kind.I64)) ∷ (12, (integer Kind.I64)) ∷ (13, (integer Kind.I64)) ∷ (15, unit_shape) ∷ (16, boolean) ∷ (
  20,
  (integer Kind.I64),
) ∷ (21, (integer Kind.I64)) ∷ (22, (integer Kind.I64)) ∷ []) ((15, unit_shape) ∷ (20, (integer Kind.I64)) ∷ (
  22,
  (integer
      Kind.I64),
) ∷ []) ((0 ∷ []) ∷ (2 ∷ []) ∷ (0 ∷ []) ∷ (3 ∷ []) ∷ (1 ∷ []) ∷ (0 ∷ []) ∷ (3 ∷ []) ∷ (2 ∷ []) ∷ []) (record {
  name = (word (codes
      "half"));
  lifetimes = [];
  params = record { name = (word (codes "x")); mutable = false; typ = (plain.kind_type at Kind.I64) } ∷ record {
    name =
        (word (codes "b"));
    mutable = false;
    typ = (plain.bool_type at);
  } ∷ [];
  result = (Some (plain.kind_type at Kind.I64));
  body = (plain.body at
      (plain.statement_and (plain.let_statement at (plain.bind at (word (codes "y")) false) None (plain.present (plain.binary at BinaryOp.Add
      (plain.var at (codes "x")) (plain.block at (plain.body at (plain.statement_and (plain.let_statement at (plain.bind at (word (codes "z")) false)
      None (plain.present (plain.int at 1 None))) (plain.statement_and (plain.expression_statement at (plain.if at (plain.var at (codes "b"))
      (plain.body at (plain.statement_and (plain.expression_statement at (plain.return at (plain.present (plain.var at (codes "x")))) true)
      plain.no_statement) plain.absent) plain.absent) false) plain.no_statement)) (plain.present (plain.var at (codes "z")))))))) plain.no_statement)
      (plain.present (plain.var at (codes "y"))));
})

abbrev pub half_functions : List (Option Function)
half_functions = Some half_half ∷ []

-- mod rt;
--
-- fn main() {
--     let mut sum = 0i64;
--     loop {
--         let n = rt::next();
--         if n == 0 {
--             break;
--         }
--         if n < 0 {
--             continue;
--         }
--         sum = sum + n;
--     }
--     println!("{}", sum);
-- }
abbrev pub gate_items : Declarations
gate_items = rt_declared ∷ function_declared ([]) unit_shape ∷ []

abbrev pub gate_main : Function
gate_main = function_of 1 gate_items ((1, unit_shape) ∷ (3, (integer Kind.I64)) ∷ (4, (integer Kind.I64)) ∷ (6, unit_shape) ∷ (7, unit_shape) ∷ (
  9,
  (integer Kind.I64),
) ∷ (10, (integer Kind.I64)) ∷ (12, unit_shape) ∷ (13, boolean) ∷ (14, (integer Kind.I64)) ∷ (15, (integer Kind.I64)) ∷ (
  20,
  unit_shape,
) ∷ (21, boolean) ∷ (22, (integer Kind.I64)) ∷ (23, (integer Kind.I64)) ∷ (28, unit_shape) ∷ (29, (integer Kind.I64)) ∷ (
  30,
  (integer
      Kind.I64),
) ∷ (31, (integer Kind.I64)) ∷ (32, (integer Kind.I64)) ∷ (34, unit_shape) ∷ (35, (integer Kind.I64)) ∷ []) ((12, unit_shape) ∷ (
  20,
  unit_shape,
) ∷ (30, (integer Kind.I64)) ∷ []) ((0 ∷ []) ∷ (1 ∷ []) ∷ (0 ∷ []) ∷ (1 ∷ []) ∷ (0 ∷ []) ∷ (1 ∷ []) ∷ (0 ∷ []) ∷ (0 ∷ []) ∷ (0 ∷ []) ∷
    (1 ∷ []) ∷ (0 ∷ []) ∷ []) (record {
      name = (word (codes "main"));
      lifetimes = [];
      params = [];
      result = None;
      body = (plain.body at
          (plain.statement_and (plain.let_statement at (plain.bind at (word (codes "sum")) true) None (plain.present (plain.int at 0 (Some Kind.I64))))
          (plain.statement_and (plain.expression_statement at (plain.loop at None (plain.body at (plain.statement_and (plain.let_statement at (plain.bind
          at (word (codes "n")) false) None (plain.present (plain.next_input at))) (plain.statement_and (plain.expression_statement at (plain.if at
          (plain.binary at BinaryOp.Eq (plain.var at (codes "n")) (plain.int at 0 None)) (plain.body at (plain.statement_and (plain.expression_statement
          at (plain.break at None) true) plain.no_statement) plain.absent) plain.absent) false) (plain.statement_and (plain.expression_statement at
          (plain.if at (plain.binary at BinaryOp.Lt (plain.var at (codes "n")) (plain.int at 0 None)) (plain.body at (plain.statement_and
          (plain.expression_statement at (plain.continue at None) true) plain.no_statement) plain.absent) plain.absent) false) (plain.statement_and
          (plain.expression_statement at (plain.assign at (plain.var at (codes "sum")) (plain.binary at BinaryOp.Add (plain.var at (codes "sum"))
          (plain.var at (codes "n")))) true) plain.no_statement)))) plain.absent)) false) (plain.statement_and (plain.expression_statement at (plain.print
          at (plain.var at (codes "sum"))) true) plain.no_statement))) plain.absent);
    })

abbrev pub gate_functions : List (Option Function)
gate_functions = None ∷ Some gate_main ∷ []

-- mod rt;
--
-- enum Step {
--     Add(i64),
--     Stop,
-- }
--
-- fn next_step() -> Step {
--     let n = rt::next();
--     if n == 0 {
--         return Step::Stop;
--     }
--     Step::Add(n)
-- }
--
-- fn main() {
--     let mut sum = 0i64;
--     while let Step::Add(n) = next_step() {
--         if let 13 = n {
--             break;
--         }
--         sum = sum + n;
--     }
--     println!("{}", sum);
-- }
abbrev pub steps_items : Declarations
steps_items = rt_declared ∷ enum_declared false 0 (record { name = codes "Add"; parts = (integer Kind.I64) ∷ [] } ∷ record {
  name = codes "Stop";
  parts = [];
} ∷ []) ∷ function_declared ([]) (named 1) ∷ function_declared ([]) unit_shape ∷ []

abbrev pub steps_next_step : Function
steps_next_step = function_of 2 steps_items ((2, (named 1)) ∷ (4, (integer Kind.I64)) ∷ (5, (integer Kind.I64)) ∷ (7, unit_shape) ∷ (8, boolean) ∷ (
  9,
  (integer Kind.I64),
) ∷ (10, (integer Kind.I64)) ∷ (14, (named 1)) ∷ (15, (named 1)) ∷ (16, (integer Kind.I64)) ∷ []) ((7, unit_shape) ∷ (
  14,
  (named 1),
) ∷ (15, (named 1)) ∷ (16, (integer Kind.I64)) ∷ []) ((1 ∷ []) ∷ (0 ∷ []) ∷ (0 ∷ []) ∷ (0 ∷ []) ∷ (1 ∷ 1 ∷ []) ∷ (1 ∷ 0 ∷ []) ∷ (0 ∷
    []) ∷ []) (record {
      name = (word (codes "next_step"));
      lifetimes = [];
      params = [];
      result = (Some (plain.named_type at (word (codes "Step"))
          None));
      body = (plain.body at (plain.statement_and (plain.let_statement at (plain.bind at (word (codes "n")) false) None (plain.present
          (plain.next_input at))) (plain.statement_and (plain.expression_statement at (plain.if at (plain.binary at BinaryOp.Eq (plain.var at (codes "n"))
          (plain.int at 0 None)) (plain.body at (plain.statement_and (plain.expression_statement at (plain.return at (plain.present (plain.variant at
          (word (codes "Step")) (word (codes "Stop")) plain.no_list))) true) plain.no_statement) plain.absent) plain.absent) false) plain.no_statement))
          (plain.present (plain.variant at (word (codes "Step")) (word (codes "Add")) (plain.a_list (plain.expression_and (plain.var at (codes "n"))
          plain.no_expression)))));
    })

abbrev pub steps_main : Function
steps_main = function_of 3 steps_items ((1, unit_shape) ∷ (3, (integer Kind.I64)) ∷ (4, (integer Kind.I64)) ∷ (6, unit_shape) ∷ (7, (named 1)) ∷ (
  8,
  (integer Kind.I64),
) ∷ (9, (named 1)) ∷ (10, unit_shape) ∷ (12, unit_shape) ∷ (13, (integer Kind.I64)) ∷ (14, (integer Kind.I64)) ∷ (
  19,
  unit_shape,
) ∷ (20, (integer Kind.I64)) ∷ (21, (integer Kind.I64)) ∷ (22, (integer Kind.I64)) ∷ (23, (integer Kind.I64)) ∷ (25, unit_shape) ∷
    (26, (integer Kind.I64)) ∷ []) ((12, unit_shape) ∷ (21, (integer Kind.I64)) ∷ []) ((0 ∷ []) ∷ (1 ∷ 0 ∷ []) ∷ (1 ∷ []) ∷ (2 ∷ []) ∷ (1 ∷ []) ∷ (0
    ∷ []) ∷ (0 ∷ []) ∷ (0 ∷ []) ∷ (1 ∷ []) ∷ (0 ∷ []) ∷ []) (record {
      name = (word (codes "main"));
      lifetimes = [];
      params = [];
      result = None;
      body
          = (plain.body at (plain.statement_and (plain.let_statement at (plain.bind at (word (codes "sum")) true) None (plain.present (plain.int at 0
          (Some Kind.I64)))) (plain.statement_and (plain.expression_statement at (plain.while_let at None (plain.variant_pattern at (word (codes "Step"))
          (word (codes "Add")) (plain.pattern_and (plain.bind at (word (codes "n")) false) plain.no_pattern)) (plain.call at (word (codes "next_step"))
          plain.no_expression) (plain.body at (plain.statement_and (plain.expression_statement at (plain.if_let at (plain.int_pattern at false 13 None)
          (plain.var at (codes "n")) (plain.body at (plain.statement_and (plain.expression_statement at (plain.break at None) true) plain.no_statement)
          plain.absent) plain.absent) false) (plain.statement_and (plain.expression_statement at (plain.assign at (plain.var at (codes "sum"))
          (plain.binary at BinaryOp.Add (plain.var at (codes "sum")) (plain.var at (codes "n")))) true) plain.no_statement)) plain.absent)) false)
          (plain.statement_and (plain.expression_statement at (plain.print at (plain.var at (codes "sum"))) true) plain.no_statement))) plain.absent);
    })

abbrev pub steps_functions : List (Option Function)
steps_functions = None ∷ None ∷ Some steps_next_step ∷ Some steps_main ∷ []

-- mod rt;
--
-- fn find(limit: i64) -> i64 {
--     let mut i = 0i64;
--     'outer: loop {
--         loop {
--             let n = rt::next();
--             if n == 0 {
--                 break 'outer;
--             }
--             if n > limit {
--                 return n;
--             }
--             i = i + 1;
--         }
--     }
--     i
-- }
--
-- fn main() {
--     println!("{}", find(10));
-- }
abbrev pub found_items : Declarations
found_items = rt_declared ∷ function_declared ((integer Kind.I64) ∷ []) (integer Kind.I64) ∷ function_declared ([]) unit_shape ∷ []

abbrev pub found_find : Function
found_find = function_of 1 found_items ((3, (integer Kind.I64)) ∷ (5, (integer Kind.I64)) ∷ (6, (integer Kind.I64)) ∷ (8, unit_shape) ∷ (
  11,
  unit_shape,
) ∷ (13, (integer Kind.I64)) ∷ (14, (integer Kind.I64)) ∷ (16, unit_shape) ∷ (17, boolean) ∷ (18, (integer Kind.I64)) ∷ (
  19,
  (integer
      Kind.I64),
) ∷ (24, unit_shape) ∷ (25, boolean) ∷ (26, (integer Kind.I64)) ∷ (27, (integer Kind.I64)) ∷ (31, (integer Kind.I64)) ∷ (
  33,
  unit_shape,
) ∷ (34, (integer Kind.I64)) ∷ (35, (integer Kind.I64)) ∷ (36, (integer Kind.I64)) ∷ (37, (integer Kind.I64)) ∷ (
  38,
  (integer
      Kind.I64),
) ∷ []) ((16, unit_shape) ∷ (24, unit_shape) ∷ (31, (integer Kind.I64)) ∷ (35, (integer Kind.I64)) ∷ (38, (integer Kind.I64)) ∷ []) ((0
    ∷ []) ∷ (1 ∷ []) ∷ (2 ∷ []) ∷ (0 ∷ []) ∷ (2 ∷ []) ∷ (0 ∷ []) ∷ (2 ∷ []) ∷ (0 ∷ []) ∷ (2 ∷ []) ∷ (1 ∷ []) ∷ (1 ∷ []) ∷ (1 ∷ []) ∷ []) (record {
      name = (word (codes "find"));
      lifetimes = [];
      params = record {
        name = (word (codes "limit"));
        mutable = false;
        typ = (plain.kind_type at
            Kind.I64);
      } ∷ [];
      result = (Some (plain.kind_type at Kind.I64));
      body = (plain.body at (plain.statement_and (plain.let_statement at (plain.bind
          at (word (codes "i")) true) None (plain.present (plain.int at 0 (Some Kind.I64)))) (plain.statement_and (plain.expression_statement at
          (plain.loop at (Some (word (codes "'outer"))) (plain.body at plain.no_statement (plain.present (plain.loop at None (plain.body at
          (plain.statement_and (plain.let_statement at (plain.bind at (word (codes "n")) false) None (plain.present (plain.next_input at)))
          (plain.statement_and (plain.expression_statement at (plain.if at (plain.binary at BinaryOp.Eq (plain.var at (codes "n")) (plain.int at 0 None))
          (plain.body at (plain.statement_and (plain.expression_statement at (plain.break at (Some (word (codes "'outer")))) true) plain.no_statement)
          plain.absent) plain.absent) false) (plain.statement_and (plain.expression_statement at (plain.if at (plain.binary at BinaryOp.Gt (plain.var at
          (codes "n")) (plain.var at (codes "limit"))) (plain.body at (plain.statement_and (plain.expression_statement at (plain.return at (plain.present
          (plain.var at (codes "n")))) true) plain.no_statement) plain.absent) plain.absent) false) (plain.statement_and (plain.expression_statement at
          (plain.assign at (plain.var at (codes "i")) (plain.binary at BinaryOp.Add (plain.var at (codes "i")) (plain.int at 1 None))) true)
          plain.no_statement)))) plain.absent))))) false) plain.no_statement)) (plain.present (plain.var at (codes "i"))));
    })

abbrev pub found_main : Function
found_main = function_of 2 found_items ((1, unit_shape) ∷ (3, unit_shape) ∷ (4, (integer Kind.I64)) ∷ (5, (integer Kind.I64)) ∷ []) ((
  5,
  (integer
      Kind.I64),
) ∷ []) ((1 ∷ []) ∷ []) (record {
  name = (word (codes "main"));
  lifetimes = [];
  params = [];
  result = None;
  body = (plain.body at
      (plain.statement_and (plain.expression_statement at (plain.print at (plain.call at (word (codes "find")) (plain.expression_and (plain.int at 10
      None) plain.no_expression))) true) plain.no_statement) plain.absent);
})

abbrev pub found_functions : List (Option Function)
found_functions = None ∷ Some found_find ∷ Some found_main ∷ []

-- fn main() {
--     let mut x = 1;
--     let mut y = 2;
--     let mut r = &mut x;
--     *r = {
--         r = &mut y;
--         5
--     };
--     println!("{}", y);
-- }
abbrev pub replaced_items : Declarations
replaced_items = function_declared ([]) unit_shape ∷ []

abbrev pub replaced_main : Function
replaced_main = function_of 0 replaced_items ((1, unit_shape) ∷ (3, (integer Kind.I32)) ∷ (4, (integer Kind.I32)) ∷ (6, (integer Kind.I32)) ∷ (
  7,
  (integer Kind.I32),
) ∷ (9, (reference true (integer Kind.I32))) ∷ (10, (reference true (integer Kind.I32))) ∷ (11, (integer Kind.I32)) ∷ (
  13,
  unit_shape,
) ∷ (14, (integer Kind.I32)) ∷ (15, (reference true (integer Kind.I32))) ∷ (16, (integer Kind.I32)) ∷ (17, (integer Kind.I32)) ∷ (
  19,
  unit_shape,
) ∷ (20, (reference true (integer Kind.I32))) ∷ (21, (reference true (integer Kind.I32))) ∷ (22, (integer Kind.I32)) ∷ (
  23,
  (integer
      Kind.I32),
) ∷ (25, unit_shape) ∷ (26, (integer Kind.I32)) ∷ []) ((16, (integer Kind.I32)) ∷ (21, (reference true (integer Kind.I32))) ∷ (
  23,
  (integer Kind.I32),
) ∷ []) ((0 ∷ []) ∷ (1 ∷ []) ∷ (2 ∷ []) ∷ (0 ∷ []) ∷ (2 ∷ []) ∷ (2 ∷ []) ∷ (1 ∷ []) ∷ (1 ∷ []) ∷ []) (record {
  name = (word
      (codes "main"));
  lifetimes = [];
  params = [];
  result = None;
  body = (plain.body at (plain.statement_and (plain.let_statement at (plain.bind at
      (word (codes "x")) true) None (plain.present (plain.int at 1 None))) (plain.statement_and (plain.let_statement at (plain.bind at (word (codes
      "y")) true) None (plain.present (plain.int at 2 None))) (plain.statement_and (plain.let_statement at (plain.bind at (word (codes "r")) true)
      None (plain.present (plain.borrow at true (plain.var at (codes "x"))))) (plain.statement_and (plain.expression_statement at (plain.assign at
      (plain.deref at (plain.var at (codes "r"))) (plain.block at (plain.body at (plain.statement_and (plain.expression_statement at (plain.assign at
      (plain.var at (codes "r")) (plain.borrow at true (plain.var at (codes "y")))) true) plain.no_statement) (plain.present (plain.int at 5 None)))))
      true) (plain.statement_and (plain.expression_statement at (plain.print at (plain.var at (codes "y"))) true) plain.no_statement)))))
      plain.absent);
})

abbrev pub replaced_functions : List (Option Function)
replaced_functions = Some replaced_main ∷ []

-- struct P {
--     a: u8,
--     b: (bool, u8),
-- }
--
-- fn grown(p: &mut P) -> &mut u8 {
--     p.b.1 += 1;
--     &mut p.b.1
-- }
--
-- fn is_big(x: &u8) -> bool {
--     *x > 200
-- }
--
-- fn main() {
--     let mut p = P { b: (true, 250), a: 3 };
--     let q = &mut p;
--     let r = grown(q);
--     *r += 2;
--     println!("{}", is_big(grown(q)));
--     let P { a, b: (c, d) } = p;
--     println!("{}", d);
--     println!("{}", !c || a < d);
--     println!("{}", c || a / 0 == 1);
--     p.b.1 += a;
-- }
abbrev pub parts_items : Declarations
parts_items = struct_declared false 0 (record { name = codes "a"; typ = (integer Kind.U8) } ∷ record {
  name = codes "b";
  typ = (tuple_of (shape_and
      boolean (shape_and (integer Kind.U8) no_shape)));
} ∷ []) ∷ function_declared ((reference true (named 0)) ∷ []) (reference true (integer
    Kind.U8)) ∷ function_declared ((reference false (integer Kind.U8)) ∷ []) boolean ∷ function_declared ([]) unit_shape ∷ []

abbrev pub parts_grown : Function
parts_grown = function_of 1 parts_items ((5, (reference true (integer Kind.U8))) ∷ (7, unit_shape) ∷ (8, (integer Kind.U8)) ∷ (
  9,
  (tuple_of (shape_and
      boolean (shape_and (integer Kind.U8) no_shape))),
) ∷ (10, (reference true (named 0))) ∷ (11, (integer Kind.U8)) ∷ (
  12,
  (reference true (integer
      Kind.U8)),
) ∷ (13, (integer Kind.U8)) ∷ (14, (tuple_of (shape_and boolean (shape_and (integer Kind.U8) no_shape)))) ∷ (
  15,
  (reference true (named
      0)),
) ∷ []) ((12, (reference true (integer Kind.U8))) ∷ []) ((0 ∷ []) ∷ (0 ∷ []) ∷ (0 ∷ []) ∷ (0 ∷ []) ∷ []) (record {
  name = (word (codes
      "grown"));
  lifetimes = [];
  params = record {
    name = (word (codes "p"));
    mutable = false;
    typ = (plain.ref_type at None true (plain.named_type at
        (word (codes "P")) None));
  } ∷ [];
  result = (Some (plain.ref_type at None true (plain.kind_type at Kind.U8)));
  body = (plain.body at
      (plain.statement_and (plain.expression_statement at (plain.update at UpdateOp.Add (plain.part at (plain.field at (plain.var at (codes "p"))
      (word (codes "b"))) 1) (plain.int at 1 None)) true) plain.no_statement) (plain.present (plain.borrow at true (plain.part at (plain.field at
      (plain.var at (codes "p")) (word (codes "b"))) 1))));
})

abbrev pub parts_is_big : Function
parts_is_big = function_of 2 parts_items ((4, boolean) ∷ (5, boolean) ∷ (6, (integer Kind.U8)) ∷ (7, (reference false (integer Kind.U8))) ∷ (
  8,
  (integer Kind.U8),
) ∷ []) ((5, boolean) ∷ []) ((0 ∷ []) ∷ (0 ∷ []) ∷ []) (record {
  name = (word (codes "is_big"));
  lifetimes = [];
  params =
      record { name = (word (codes "x")); mutable = false; typ = (plain.ref_type at None false (plain.kind_type at Kind.U8)) } ∷ [];
  result = (Some
      (plain.bool_type at));
  body = (plain.body at plain.no_statement (plain.present (plain.binary at BinaryOp.Gt (plain.deref at (plain.var at (codes
      "x"))) (plain.int at 200 None))));
})

abbrev pub parts_main : Function
parts_main = function_of 3 parts_items ((1, unit_shape) ∷ (3, (named 0)) ∷ (4, (named 0)) ∷ (
  5,
  (tuple_of (shape_and boolean (shape_and (integer
      Kind.U8) no_shape))),
) ∷ (6, boolean) ∷ (7, (integer Kind.U8)) ∷ (8, (integer Kind.U8)) ∷ (10, (reference true (named 0))) ∷ (
  11,
  (reference true
      (named 0)),
) ∷ (12, (named 0)) ∷ (14, (reference true (integer Kind.U8))) ∷ (15, (reference true (integer Kind.U8))) ∷ (
  16,
  (reference true
      (named 0)),
) ∷ (18, unit_shape) ∷ (19, (integer Kind.U8)) ∷ (20, (reference true (integer Kind.U8))) ∷ (21, (integer Kind.U8)) ∷ (23, unit_shape)
    ∷ (24, boolean) ∷ (25, (reference true (integer Kind.U8))) ∷ (26, (reference true (named 0))) ∷ (28, (named 0)) ∷ (29, (integer Kind.U8)) ∷ (
      30,
      (tuple_of (shape_and boolean (shape_and (integer Kind.U8) no_shape))),
    ) ∷ (31, boolean) ∷ (32, (integer Kind.U8)) ∷ (33, (named 0)) ∷ (
      35,
      unit_shape,
    ) ∷ (36, (integer Kind.U8)) ∷ (38, unit_shape) ∷ (39, boolean) ∷ (40, boolean) ∷ (41, boolean) ∷ (42, boolean) ∷ (
      43,
      (integer
          Kind.U8),
    ) ∷ (44, (integer Kind.U8)) ∷ (46, unit_shape) ∷ (47, boolean) ∷ (48, boolean) ∷ (49, boolean) ∷ (50, (integer Kind.U8)) ∷ (
      51,
      (integer
          Kind.U8),
    ) ∷ (52, (integer Kind.U8)) ∷ (53, (integer Kind.U8)) ∷ (55, unit_shape) ∷ (56, (integer Kind.U8)) ∷ (
      57,
      (tuple_of (shape_and boolean
          (shape_and (integer Kind.U8) no_shape))),
    ) ∷ (58, (named 0)) ∷ (59, (integer Kind.U8)) ∷ []) ((
      5,
      (tuple_of (shape_and boolean (shape_and
          (integer Kind.U8) no_shape))),
    ) ∷ (8, (integer Kind.U8)) ∷ (16, (reference true (named 0))) ∷ (25, (reference false (integer Kind.U8))) ∷ (
      26,
      (reference true (named 0)),
    ) ∷ []) ((0 ∷ []) ∷ (0 ∷ []) ∷ (1 ∷ []) ∷ (0 ∷ []) ∷ (2 ∷ []) ∷ (1 ∷ []) ∷ (1 ∷ []) ∷ (2 ∷ []) ∷ (2 ∷ []) ∷ (1 ∷ []) ∷
    (1 ∷ []) ∷ (0 ∷ []) ∷ (3 ∷ []) ∷ (4 ∷ []) ∷ (5 ∷ []) ∷ (0 ∷ []) ∷ (5 ∷ []) ∷ (4 ∷ []) ∷ (3 ∷ []) ∷ (5 ∷ []) ∷ (4 ∷ []) ∷ (3 ∷ []) ∷ (0 ∷ []) ∷
    (3 ∷ []) ∷ []) (record {
      name = (word (codes "main"));
      lifetimes = [];
      params = [];
      result = None;
      body = (plain.body at (plain.statement_and
          (plain.let_statement at (plain.bind at (word (codes "p")) true) None (plain.present (plain.make at (word (codes "P")) (plain.field_and (word
          (codes "b")) (plain.tuple at (plain.expression_and (plain.bool at true) (plain.expression_and (plain.int at 250 None) plain.no_expression)))
          (plain.field_and (word (codes "a")) (plain.int at 3 None) plain.no_field))))) (plain.statement_and (plain.let_statement at (plain.bind at (word
          (codes "q")) false) None (plain.present (plain.borrow at true (plain.var at (codes "p"))))) (plain.statement_and (plain.let_statement at
          (plain.bind at (word (codes "r")) false) None (plain.present (plain.call at (word (codes "grown")) (plain.expression_and (plain.var at (codes
          "q")) plain.no_expression)))) (plain.statement_and (plain.expression_statement at (plain.update at UpdateOp.Add (plain.deref at (plain.var at
          (codes "r"))) (plain.int at 2 None)) true) (plain.statement_and (plain.expression_statement at (plain.print at (plain.call at (word (codes
          "is_big")) (plain.expression_and (plain.call at (word (codes "grown")) (plain.expression_and (plain.var at (codes "q")) plain.no_expression))
          plain.no_expression))) true) (plain.statement_and (plain.let_statement at (plain.make_pattern at (word (codes "P")) (plain.field_pattern_and
          (word (codes "a")) (plain.bind at (word (codes "a")) false) (plain.field_pattern_and (word (codes "b")) (plain.tuple_pattern at
          (plain.pattern_and (plain.bind at (word (codes "c")) false) (plain.pattern_and (plain.bind at (word (codes "d")) false) plain.no_pattern)))
          plain.no_field_pattern))) None (plain.present (plain.var at (codes "p")))) (plain.statement_and (plain.expression_statement at (plain.print at
          (plain.var at (codes "d"))) true) (plain.statement_and (plain.expression_statement at (plain.print at (plain.binary at BinaryOp.Or (plain.invert
          at (plain.var at (codes "c"))) (plain.binary at BinaryOp.Lt (plain.var at (codes "a")) (plain.var at (codes "d"))))) true) (plain.statement_and
          (plain.expression_statement at (plain.print at (plain.binary at BinaryOp.Or (plain.var at (codes "c")) (plain.binary at BinaryOp.Eq
          (plain.binary at BinaryOp.Div (plain.var at (codes "a")) (plain.int at 0 None)) (plain.int at 1 None)))) true) (plain.statement_and
          (plain.expression_statement at (plain.update at UpdateOp.Add (plain.part at (plain.field at (plain.var at (codes "p")) (word (codes "b"))) 1)
          (plain.var at (codes "a"))) true) plain.no_statement)))))))))) plain.absent);
    })

abbrev pub parts_functions : List (Option Function)
parts_functions = None ∷ Some parts_grown ∷ Some parts_is_big ∷ Some parts_main ∷ []

-- fn main() {
--     let mut i = 0i64;
--     while i < 10 {
--         i += 1;
--     }
--     println!("{}", i);
-- }
abbrev pub whiles_items : Declarations
whiles_items = function_declared ([]) unit_shape ∷ []

abbrev pub whiles_main : Function
whiles_main = function_of 0 whiles_items ((1, unit_shape) ∷ (3, (integer Kind.I64)) ∷ (4, (integer Kind.I64)) ∷ (6, unit_shape) ∷ (7, boolean) ∷ (
  8,
  (integer Kind.I64),
) ∷ (9, (integer Kind.I64)) ∷ (10, unit_shape) ∷ (12, unit_shape) ∷ (13, (integer Kind.I64)) ∷ (14, (integer Kind.I64)) ∷ (
  16,
  unit_shape,
) ∷ (17, (integer Kind.I64)) ∷ []) ([]) ((0 ∷ []) ∷ (0 ∷ []) ∷ (0 ∷ []) ∷ (0 ∷ []) ∷ []) (record {
  name = (word (codes "main"));
  lifetimes = [];
  params = [];
  result = None;
  body = (plain.body at (plain.statement_and (plain.let_statement at (plain.bind at (word (codes "i"))
      true) None (plain.present (plain.int at 0 (Some Kind.I64)))) (plain.statement_and (plain.expression_statement at (plain.while at None
      (plain.binary at BinaryOp.Lt (plain.var at (codes "i")) (plain.int at 10 None)) (plain.body at (plain.statement_and (plain.expression_statement
      at (plain.update at UpdateOp.Add (plain.var at (codes "i")) (plain.int at 1 None)) true) plain.no_statement) plain.absent)) false)
      (plain.statement_and (plain.expression_statement at (plain.print at (plain.var at (codes "i"))) true) plain.no_statement))) plain.absent);
})

abbrev pub whiles_functions : List (Option Function)
whiles_functions = Some whiles_main ∷ []

-- fn factorial(n: u32) -> u32 {
--     if n == 0 {
--         return 1;
--     }
--     n * factorial(n - 1)
-- }
--
-- fn main() {
--     let mut k = 0;
--     'a: while true {
--         k += 1;
--         loop {
--             if k < 3 {
--                 continue 'a;
--             }
--             break 'a;
--         }
--     }
--     let (x, y) = (factorial(k), (k, -1i64));
--     let (z, w) = y;
--     let x = x + z;
--     println!("{}", x);
--     println!("{}", w < 0 && x == 9);
--     println!("{}", factorial(13));
-- }
abbrev pub nested_items : Declarations
nested_items = function_declared ((integer Kind.U32) ∷ []) (integer Kind.U32) ∷ function_declared ([]) unit_shape ∷ []

abbrev pub nested_factorial : Function
nested_factorial = function_of 0 nested_items ((3, (integer Kind.U32)) ∷ (5, unit_shape) ∷ (6, boolean) ∷ (7, (integer Kind.U32)) ∷ (
  8,
  (integer
      Kind.U32),
) ∷ (12, (integer Kind.U32)) ∷ (13, (integer Kind.U32)) ∷ (14, (integer Kind.U32)) ∷ (15, (integer Kind.U32)) ∷ (
  16,
  (integer
      Kind.U32),
) ∷ (17, (integer Kind.U32)) ∷ (18, (integer Kind.U32)) ∷ []) ((5, unit_shape) ∷ (12, (integer Kind.U32)) ∷ (13, (integer Kind.U32)) ∷
    (16, (integer Kind.U32)) ∷ []) ((0 ∷ []) ∷ (0 ∷ []) ∷ (0 ∷ []) ∷ (0 ∷ []) ∷ (0 ∷ []) ∷ []) (record {
      name = (word (codes "factorial"));
      lifetimes = [];
      params = record { name = (word (codes "n")); mutable = false; typ = (plain.kind_type at Kind.U32) } ∷ [];
      result = (Some
          (plain.kind_type at Kind.U32));
      body = (plain.body at (plain.statement_and (plain.expression_statement at (plain.if at (plain.binary at
          BinaryOp.Eq (plain.var at (codes "n")) (plain.int at 0 None)) (plain.body at (plain.statement_and (plain.expression_statement at (plain.return
          at (plain.present (plain.int at 1 None))) true) plain.no_statement) plain.absent) plain.absent) false) plain.no_statement) (plain.present
          (plain.binary at BinaryOp.Mul (plain.var at (codes "n")) (plain.call at (word (codes "factorial")) (plain.expression_and (plain.binary at
          BinaryOp.Sub (plain.var at (codes "n")) (plain.int at 1 None)) plain.no_expression)))));
    })

abbrev pub nested_main : Function
nested_main = function_of 1 nested_items ((1, unit_shape) ∷ (3, (integer Kind.U32)) ∷ (4, (integer Kind.U32)) ∷ (6, unit_shape) ∷ (7, boolean) ∷ (
  10,
  unit_shape,
) ∷ (11, (integer Kind.U32)) ∷ (12, (integer Kind.U32)) ∷ (16, unit_shape) ∷ (17, boolean) ∷ (18, (integer Kind.U32)) ∷ (
  19,
  (integer
      Kind.U32),
) ∷ (
  26,
  (tuple_of (shape_and (integer Kind.U32) (shape_and (tuple_of (shape_and (integer Kind.U32) (shape_and (integer Kind.I64)
      no_shape))) no_shape))),
) ∷ (27, (integer Kind.U32)) ∷ (28, (tuple_of (shape_and (integer Kind.U32) (shape_and (integer Kind.I64) no_shape)))) ∷ (
  29,
  (tuple_of (shape_and (integer Kind.U32) (shape_and (tuple_of (shape_and (integer Kind.U32) (shape_and (integer Kind.I64) no_shape)))
      no_shape))),
) ∷ (30, (integer Kind.U32)) ∷ (31, (integer Kind.U32)) ∷ (
  32,
  (tuple_of (shape_and (integer Kind.U32) (shape_and (integer Kind.I64)
      no_shape))),
) ∷ (33, (integer Kind.U32)) ∷ (34, (integer Kind.I64)) ∷ (35, (integer Kind.I64)) ∷ (
  37,
  (tuple_of (shape_and (integer Kind.U32)
      (shape_and (integer Kind.I64) no_shape))),
) ∷ (38, (integer Kind.U32)) ∷ (39, (integer Kind.I64)) ∷ (
  40,
  (tuple_of (shape_and (integer Kind.U32)
      (shape_and (integer Kind.I64) no_shape))),
) ∷ (42, (integer Kind.U32)) ∷ (43, (integer Kind.U32)) ∷ (44, (integer Kind.U32)) ∷ (
  45,
  (integer
      Kind.U32),
) ∷ (47, unit_shape) ∷ (48, (integer Kind.U32)) ∷ (50, unit_shape) ∷ (51, boolean) ∷ (52, boolean) ∷ (53, (integer Kind.I64)) ∷ (
  54,
  (integer Kind.I64),
) ∷ (55, boolean) ∷ (56, (integer Kind.U32)) ∷ (57, (integer Kind.U32)) ∷ (59, unit_shape) ∷ (60, (integer Kind.U32)) ∷ (
  61,
  (integer Kind.U32),
) ∷ []) ((16, unit_shape) ∷ (31, (integer Kind.U32)) ∷ (61, (integer Kind.U32)) ∷ []) ((0 ∷ []) ∷ (0 ∷ []) ∷ (0 ∷ []) ∷ (0 ∷
    []) ∷ (0 ∷ []) ∷ (1 ∷ []) ∷ (2 ∷ []) ∷ (0 ∷ []) ∷ (0 ∷ []) ∷ (0 ∷ []) ∷ (3 ∷ []) ∷ (4 ∷ []) ∷ (2 ∷ []) ∷ (5 ∷ []) ∷ (1 ∷ []) ∷ (3 ∷ []) ∷ (5 ∷
    []) ∷ (4 ∷ []) ∷ (5 ∷ []) ∷ (0 ∷ []) ∷ []) (record {
      name = (word (codes "main"));
      lifetimes = [];
      params = [];
      result = None;
      body =
          (plain.body at (plain.statement_and (plain.let_statement at (plain.bind at (word (codes "k")) true) None (plain.present (plain.int at 0 None)))
          (plain.statement_and (plain.expression_statement at (plain.while at (Some (word (codes "'a"))) (plain.bool at true) (plain.body at
          (plain.statement_and (plain.expression_statement at (plain.update at UpdateOp.Add (plain.var at (codes "k")) (plain.int at 1 None)) true)
          plain.no_statement) (plain.present (plain.loop at None (plain.body at (plain.statement_and (plain.expression_statement at (plain.if at
          (plain.binary at BinaryOp.Lt (plain.var at (codes "k")) (plain.int at 3 None)) (plain.body at (plain.statement_and (plain.expression_statement
          at (plain.continue at (Some (word (codes "'a")))) true) plain.no_statement) plain.absent) plain.absent) false) (plain.statement_and
          (plain.expression_statement at (plain.break at (Some (word (codes "'a")))) true) plain.no_statement)) plain.absent))))) false)
          (plain.statement_and (plain.let_statement at (plain.tuple_pattern at (plain.pattern_and (plain.bind at (word (codes "x")) false)
          (plain.pattern_and (plain.bind at (word (codes "y")) false) plain.no_pattern))) None (plain.present (plain.tuple at (plain.expression_and
          (plain.call at (word (codes "factorial")) (plain.expression_and (plain.var at (codes "k")) plain.no_expression)) (plain.expression_and
          (plain.tuple at (plain.expression_and (plain.var at (codes "k")) (plain.expression_and (plain.negate at (plain.int at 1 (Some Kind.I64)))
          plain.no_expression))) plain.no_expression))))) (plain.statement_and (plain.let_statement at (plain.tuple_pattern at (plain.pattern_and
          (plain.bind at (word (codes "z")) false) (plain.pattern_and (plain.bind at (word (codes "w")) false) plain.no_pattern))) None (plain.present
          (plain.var at (codes "y")))) (plain.statement_and (plain.let_statement at (plain.bind at (word (codes "x")) false) None (plain.present
          (plain.binary at BinaryOp.Add (plain.var at (codes "x")) (plain.var at (codes "z"))))) (plain.statement_and (plain.expression_statement at
          (plain.print at (plain.var at (codes "x"))) true) (plain.statement_and (plain.expression_statement at (plain.print at (plain.binary at
          BinaryOp.And (plain.binary at BinaryOp.Lt (plain.var at (codes "w")) (plain.int at 0 None)) (plain.binary at BinaryOp.Eq (plain.var at (codes
          "x")) (plain.int at 9 None)))) true) (plain.statement_and (plain.expression_statement at (plain.print at (plain.call at (word (codes
          "factorial")) (plain.expression_and (plain.int at 13 None) plain.no_expression))) true) plain.no_statement)))))))) plain.absent);
    })

abbrev pub nested_functions : List (Option Function)
nested_functions = Some nested_factorial ∷ Some nested_main ∷ []
