-- Programs with structs, enums and references for examples: each text, and what it is by the definitions of names and of the typed tree.
use Rattle.std.specs.Prelude.{true, false, List, [], ◌∷◌, Option, Some, None, codes}
use Rattle.rx_core.specs.declared.types.Kind.{Kind}
use Rattle.rx_tree.specs.declared.tree.BinaryOp.{BinaryOp}
use Rattle.rx_tree.specs.declared.tree.UpdateOp.{UpdateOp}
use Rattle.rx_tree.specs.Plain as plain
use Rattle.rx_typed.specs.Types.{integer, boolean, tuple_of, reference, named, no_shape, shape_and, unit_shape, Declarations, struct_declared, enum_declared, function_declared}
use Rattle.rx_typed.specs.Tree.{Function}
use Rattle.rx_lower_walks.proofs.Short.{at, word, function_of}

-- enum Shape {
--     Dot,
--     Square(i64, (bool, u8)),
-- }
--
-- fn size(s: &mut Shape) -> i64 {
--     match s {
--         Shape::Square(w, (true, h)) => {
--             *h += 1;
--             *w = *w + 1;
--             *w
--         }
--         Shape::Square(-1, _) => 0,
--         Shape::Square(w, (b, _)) => {
--             *b = true;
--             -*w
--         }
--         Shape::Dot => 7,
--     }
-- }
--
-- fn main() {
--     let mut s = Shape::Square(-2, (false, 255));
--     println!("{}", size(&mut s));
--     println!("{}", size(&mut s));
-- }
abbrev pub shapes_items : Declarations
shapes_items = enum_declared false 0 (record { name = codes "Dot"; parts = [] } ∷ record {
  name = codes "Square";
  parts = (integer Kind.I64) ∷
      (tuple_of (shape_and boolean (shape_and (integer Kind.U8) no_shape))) ∷ [];
} ∷ []) ∷ function_declared ((reference true (named 0)) ∷ [])
    (integer Kind.I64) ∷ function_declared ([]) unit_shape ∷ []

abbrev pub shapes_size : Function
shapes_size = function_of 1 shapes_items ((4, (integer Kind.I64)) ∷ (5, (integer Kind.I64)) ∷ (6, (reference true (named 0))) ∷ (
  7,
  (reference true
      (named 0)),
) ∷ (8, (integer Kind.I64)) ∷ (9, (tuple_of (shape_and boolean (shape_and (integer Kind.U8) no_shape)))) ∷ (10, boolean) ∷ (
  11,
  (integer Kind.U8),
) ∷ (12, (integer Kind.I64)) ∷ (13, (integer Kind.I64)) ∷ (15, unit_shape) ∷ (16, (integer Kind.U8)) ∷ (
  17,
  (reference true
      (integer Kind.U8)),
) ∷ (18, (integer Kind.U8)) ∷ (20, unit_shape) ∷ (21, (integer Kind.I64)) ∷ (22, (reference true (integer Kind.I64))) ∷ (
  23,
  (integer Kind.I64),
) ∷ (24, (integer Kind.I64)) ∷ (25, (reference true (integer Kind.I64))) ∷ (26, (integer Kind.I64)) ∷ (27, (integer Kind.I64))
    ∷ (28, (reference true (integer Kind.I64))) ∷ (29, (reference true (named 0))) ∷ (30, (integer Kind.I64)) ∷ (
      31,
      (tuple_of (shape_and boolean
          (shape_and (integer Kind.U8) no_shape))),
    ) ∷ (32, (integer Kind.I64)) ∷ (33, (reference true (named 0))) ∷ (34, (integer Kind.I64)) ∷ (
      35,
      (tuple_of (shape_and boolean (shape_and (integer Kind.U8) no_shape))),
    ) ∷ (36, boolean) ∷ (37, (integer Kind.U8)) ∷ (38, (integer Kind.I64)) ∷
    (39, (integer Kind.I64)) ∷ (41, unit_shape) ∷ (42, boolean) ∷ (43, (reference true boolean)) ∷ (44, boolean) ∷ (45, (integer Kind.I64)) ∷ (
      46,
      (integer Kind.I64),
    ) ∷ (47, (reference true (integer Kind.I64))) ∷ (48, (reference true (named 0))) ∷ (49, (integer Kind.I64)) ∷ []) ((
      5,
      (integer Kind.I64),
    ) ∷ (12, (integer Kind.I64)) ∷ (23, (integer Kind.I64)) ∷ (27, (integer Kind.I64)) ∷ (32, (integer Kind.I64)) ∷ (
      38,
      (integer
          Kind.I64),
    ) ∷ (44, boolean) ∷ (45, (integer Kind.I64)) ∷ (49, (integer Kind.I64)) ∷ []) ((0 ∷ []) ∷ (0 ∷ []) ∷ (0 ∷ []) ∷ (0 ∷ 1 ∷ []) ∷ (1 ∷ [])
    ∷ (2 ∷ []) ∷ (2 ∷ []) ∷ (1 ∷ []) ∷ (1 ∷ []) ∷ (1 ∷ []) ∷ (0 ∷ 1 ∷ []) ∷ (0 ∷ 1 ∷ []) ∷ (3 ∷ []) ∷ (4 ∷ []) ∷ (4 ∷ []) ∷ (3 ∷ []) ∷ (0 ∷ 0 ∷ [])
    ∷ []) (record {
      name = (word (codes "size"));
      lifetimes = [];
      params = record {
        name = (word (codes "s"));
        mutable = false;
        typ =
            (plain.ref_type at None true (plain.named_type at (word (codes "Shape")) None));
      } ∷ [];
      result = (Some (plain.kind_type at Kind.I64));
      body =
          (plain.body at plain.no_statement (plain.present (plain.match at (plain.var at (codes "s")) (plain.arm_and (plain.variant_pattern at (word
          (codes "Shape")) (word (codes "Square")) (plain.pattern_and (plain.bind at (word (codes "w")) false) (plain.pattern_and (plain.tuple_pattern at
          (plain.pattern_and (plain.bool_pattern at true) (plain.pattern_and (plain.bind at (word (codes "h")) false) plain.no_pattern)))
          plain.no_pattern))) (plain.block at (plain.body at (plain.statement_and (plain.expression_statement at (plain.update at UpdateOp.Add
          (plain.deref at (plain.var at (codes "h"))) (plain.int at 1 None)) true) (plain.statement_and (plain.expression_statement at (plain.assign at
          (plain.deref at (plain.var at (codes "w"))) (plain.binary at BinaryOp.Add (plain.deref at (plain.var at (codes "w"))) (plain.int at 1 None)))
          true) plain.no_statement)) (plain.present (plain.deref at (plain.var at (codes "w")))))) (plain.arm_and (plain.variant_pattern at (word (codes
          "Shape")) (word (codes "Square")) (plain.pattern_and (plain.int_pattern at true 1 None) (plain.pattern_and (plain.wild at) plain.no_pattern)))
          (plain.int at 0 None) (plain.arm_and (plain.variant_pattern at (word (codes "Shape")) (word (codes "Square")) (plain.pattern_and (plain.bind at
          (word (codes "w")) false) (plain.pattern_and (plain.tuple_pattern at (plain.pattern_and (plain.bind at (word (codes "b")) false)
          (plain.pattern_and (plain.wild at) plain.no_pattern))) plain.no_pattern))) (plain.block at (plain.body at (plain.statement_and
          (plain.expression_statement at (plain.assign at (plain.deref at (plain.var at (codes "b"))) (plain.bool at true)) true) plain.no_statement)
          (plain.present (plain.negate at (plain.deref at (plain.var at (codes "w"))))))) (plain.arm_and (plain.variant_pattern at (word (codes "Shape"))
          (word (codes "Dot")) plain.no_pattern) (plain.int at 7 None) plain.no_arm)))))));
    })

abbrev pub shapes_main : Function
shapes_main = function_of 2 shapes_items ((1, unit_shape) ∷ (3, (named 0)) ∷ (4, (named 0)) ∷ (5, (integer Kind.I64)) ∷ (6, (integer Kind.I64)) ∷ (
  7,
  (tuple_of (shape_and boolean (shape_and (integer Kind.U8) no_shape))),
) ∷ (8, boolean) ∷ (9, (integer Kind.U8)) ∷ (11, unit_shape) ∷ (
  12,
  (integer Kind.I64),
) ∷ (13, (reference true (named 0))) ∷ (14, (named 0)) ∷ (16, unit_shape) ∷ (17, (integer Kind.I64)) ∷ (
  18,
  (reference true
      (named 0)),
) ∷ (19, (named 0)) ∷ []) ((5, (integer Kind.I64)) ∷ (7, (tuple_of (shape_and boolean (shape_and (integer Kind.U8) no_shape)))) ∷ (
  13,
  (reference true (named 0)),
) ∷ (18, (reference true (named 0))) ∷ []) ((0 ∷ []) ∷ (0 ∷ 1 ∷ []) ∷ (1 ∷ []) ∷ (0 ∷ []) ∷ (1 ∷ []) ∷ (0 ∷ []) ∷ [])
    (record {
      name = (word (codes "main"));
      lifetimes = [];
      params = [];
      result = None;
      body = (plain.body at (plain.statement_and
          (plain.let_statement at (plain.bind at (word (codes "s")) true) None (plain.present (plain.variant at (word (codes "Shape")) (word (codes
          "Square")) (plain.a_list (plain.expression_and (plain.negate at (plain.int at 2 None)) (plain.expression_and (plain.tuple at
          (plain.expression_and (plain.bool at false) (plain.expression_and (plain.int at 255 None) plain.no_expression))) plain.no_expression))))))
          (plain.statement_and (plain.expression_statement at (plain.print at (plain.call at (word (codes "size")) (plain.expression_and (plain.borrow at
          true (plain.var at (codes "s"))) plain.no_expression))) true) (plain.statement_and (plain.expression_statement at (plain.print at (plain.call at
          (word (codes "size")) (plain.expression_and (plain.borrow at true (plain.var at (codes "s"))) plain.no_expression))) true) plain.no_statement)))
          plain.absent);
    })

abbrev pub shapes_functions : List (Option Function)
shapes_functions = None ∷ Some shapes_size ∷ Some shapes_main ∷ []

-- struct Pair {
--     a: i64,
--     b: i64,
-- }
--
-- fn bigger<'a>(x: &'a mut i64, y: &'a mut i64) -> &'a mut i64 {
--     if *x > *y {
--         x
--     } else {
--         y
--     }
-- }
--
-- fn looked(x: &i64) -> i64 {
--     *x
-- }
--
-- fn main() {
--     let mut p = Pair { a: 3, b: 4 };
--     let mut n = 10;
--     {
--         let r: &i64 = if n > 5 { &mut n } else { &mut p.a };
--         println!("{}", *r);
--     }
--     let q = &mut p;
--     let first;
--     first = &mut q.a;
--     *first += 7;
--     println!("{}", looked(first));
--     let m = bigger(&mut q.b, &mut n);
--     *m = *m * 2;
--     println!("{}", looked(m));
--     let once = &p;
--     let s = &once;
--     println!("{}", s.a + (*s).b + (**s).a);
--     let t = (&mut n, 5u8);
--     *t.0 += 1;
--     let (u, v) = t;
--     *u = *u + 1;
--     println!("{}", v == 5);
--     println!("{}", n);
-- }
abbrev pub coerced_items : Declarations
coerced_items = struct_declared false 0 (record { name = codes "a"; typ = (integer Kind.I64) } ∷ record { name = codes "b"; typ = (integer Kind.I64) }
    ∷ []) ∷ function_declared ((reference true (integer Kind.I64)) ∷ (reference true (integer Kind.I64)) ∷ []) (reference true (integer Kind.I64)) ∷
    function_declared ((reference false (integer Kind.I64)) ∷ []) (integer Kind.I64) ∷ function_declared ([]) unit_shape ∷ []

abbrev pub coerced_bigger : Function
coerced_bigger = function_of 1 coerced_items ((7, (reference true (integer Kind.I64))) ∷ (8, (reference true (integer Kind.I64))) ∷ (9, boolean) ∷
    (10, (integer Kind.I64)) ∷ (11, (reference true (integer Kind.I64))) ∷ (12, (integer Kind.I64)) ∷ (13, (reference true (integer Kind.I64))) ∷
    (14, (reference true (integer Kind.I64))) ∷ (15, (reference true (integer Kind.I64))) ∷ (16, (reference true (integer Kind.I64))) ∷ (
      17,
      (reference true (integer Kind.I64)),
    ) ∷ (18, (reference true (integer Kind.I64))) ∷ []) ((8, (reference true (integer Kind.I64))) ∷ (
      15,
      (reference true (integer Kind.I64)),
    ) ∷ (16, (reference true (integer Kind.I64))) ∷ (18, (reference true (integer Kind.I64))) ∷ []) ((0 ∷ []) ∷
    (0 ∷ []) ∷ (0 ∷ []) ∷ (0 ∷ []) ∷ (0 ∷ []) ∷ (1 ∷ []) ∷ (0 ∷ []) ∷ (1 ∷ []) ∷ []) (record {
      name = (word (codes "bigger"));
      lifetimes = [];
      params = record {
        name = (word (codes "x"));
        mutable = false;
        typ = (plain.ref_type at (Some (word (codes "'a"))) true (plain.kind_type at
            Kind.I64));
      } ∷ record {
        name = (word (codes "y"));
        mutable = false;
        typ = (plain.ref_type at (Some (word (codes "'a"))) true (plain.kind_type at
            Kind.I64));
      } ∷ [];
      result = (Some (plain.ref_type at (Some (word (codes "'a"))) true (plain.kind_type at Kind.I64)));
      body = (plain.body at
          plain.no_statement (plain.present (plain.if at (plain.binary at BinaryOp.Gt (plain.deref at (plain.var at (codes "x"))) (plain.deref at
          (plain.var at (codes "y")))) (plain.body at plain.no_statement (plain.present (plain.var at (codes "x")))) (plain.present (plain.block at
          (plain.body at plain.no_statement (plain.present (plain.var at (codes "y")))))))));
    })

abbrev pub coerced_looked : Function
coerced_looked = function_of 2 coerced_items ((4, (integer Kind.I64)) ∷ (5, (integer Kind.I64)) ∷ (6, (reference false (integer Kind.I64))) ∷ []) ((
  5,
  (integer Kind.I64),
) ∷ []) ((0 ∷ []) ∷ (0 ∷ []) ∷ []) (record {
  name = (word (codes "looked"));
  lifetimes = [];
  params = record {
    name = (word
        (codes "x"));
    mutable = false;
    typ = (plain.ref_type at None false (plain.kind_type at Kind.I64));
  } ∷ [];
  result = (Some (plain.kind_type at
      Kind.I64));
  body = (plain.body at plain.no_statement (plain.present (plain.deref at (plain.var at (codes "x")))));
})

abbrev pub coerced_main : Function
coerced_main = function_of 3 coerced_items ((1, unit_shape) ∷ (3, (named 0)) ∷ (4, (named 0)) ∷ (5, (integer Kind.I64)) ∷ (6, (integer Kind.I64)) ∷
    (8, (integer Kind.I64)) ∷ (9, (integer Kind.I64)) ∷ (11, unit_shape) ∷ (12, unit_shape) ∷ (14, (reference false (integer Kind.I64))) ∷ (
      17,
      (reference false (integer Kind.I64)),
    ) ∷ (18, boolean) ∷ (19, (integer Kind.I64)) ∷ (20, (integer Kind.I64)) ∷ (
      21,
      (reference false (integer
          Kind.I64)),
    ) ∷ (22, (reference true (integer Kind.I64))) ∷ (23, (integer Kind.I64)) ∷ (24, (reference false (integer Kind.I64))) ∷ (
      25,
      (reference false (integer Kind.I64)),
    ) ∷ (26, (reference true (integer Kind.I64))) ∷ (27, (integer Kind.I64)) ∷ (28, (named 0)) ∷ (
      30,
      unit_shape,
    ) ∷ (31, (integer Kind.I64)) ∷ (32, (reference false (integer Kind.I64))) ∷ (34, (reference true (named 0))) ∷ (
      35,
      (reference true
          (named 0)),
    ) ∷ (36, (named 0)) ∷ (38, (reference true (integer Kind.I64))) ∷ (40, unit_shape) ∷ (41, (reference true (integer Kind.I64))) ∷ (
      42,
      (reference true (integer Kind.I64)),
    ) ∷ (43, (integer Kind.I64)) ∷ (44, (reference true (named 0))) ∷ (46, unit_shape) ∷ (47, (integer Kind.I64))
    ∷ (48, (reference true (integer Kind.I64))) ∷ (49, (integer Kind.I64)) ∷ (51, unit_shape) ∷ (52, (integer Kind.I64)) ∷ (
      53,
      (reference true
          (integer Kind.I64)),
    ) ∷ (55, (reference true (integer Kind.I64))) ∷ (56, (reference true (integer Kind.I64))) ∷ (
      57,
      (reference true (integer
          Kind.I64)),
    ) ∷ (58, (integer Kind.I64)) ∷ (59, (reference true (named 0))) ∷ (60, (reference true (integer Kind.I64))) ∷ (61, (integer Kind.I64))
    ∷ (63, unit_shape) ∷ (64, (integer Kind.I64)) ∷ (65, (reference true (integer Kind.I64))) ∷ (66, (integer Kind.I64)) ∷ (67, (integer Kind.I64))
    ∷ (68, (reference true (integer Kind.I64))) ∷ (69, (integer Kind.I64)) ∷ (71, unit_shape) ∷ (72, (integer Kind.I64)) ∷ (
      73,
      (reference true
          (integer Kind.I64)),
    ) ∷ (75, (reference false (named 0))) ∷ (76, (reference false (named 0))) ∷ (77, (named 0)) ∷ (
      79,
      (reference false
          (reference false (named 0))),
    ) ∷ (80, (reference false (reference false (named 0)))) ∷ (81, (reference false (named 0))) ∷ (83, unit_shape) ∷
    (84, (integer Kind.I64)) ∷ (85, (integer Kind.I64)) ∷ (86, (integer Kind.I64)) ∷ (87, (reference false (reference false (named 0)))) ∷ (
      88,
      (integer Kind.I64),
    ) ∷ (89, (reference false (named 0))) ∷ (90, (reference false (reference false (named 0)))) ∷ (91, (integer Kind.I64)) ∷ (
      92,
      (named 0),
    ) ∷ (93, (reference false (named 0))) ∷ (94, (reference false (reference false (named 0)))) ∷ (
      96,
      (tuple_of (shape_and (reference true
          (integer Kind.I64)) (shape_and (integer Kind.U8) no_shape))),
    ) ∷ (
      97,
      (tuple_of (shape_and (reference true (integer Kind.I64)) (shape_and
          (integer Kind.U8) no_shape))),
    ) ∷ (98, (reference true (integer Kind.I64))) ∷ (99, (integer Kind.I64)) ∷ (100, (integer Kind.U8)) ∷ (
      102,
      unit_shape,
    ) ∷ (103, (integer Kind.I64)) ∷ (104, (reference true (integer Kind.I64))) ∷ (
      105,
      (tuple_of (shape_and (reference true (integer
          Kind.I64)) (shape_and (integer Kind.U8) no_shape))),
    ) ∷ (106, (integer Kind.I64)) ∷ (
      108,
      (tuple_of (shape_and (reference true (integer
          Kind.I64)) (shape_and (integer Kind.U8) no_shape))),
    ) ∷ (109, (reference true (integer Kind.I64))) ∷ (110, (integer Kind.U8)) ∷ (
      111,
      (tuple_of
          (shape_and (reference true (integer Kind.I64)) (shape_and (integer Kind.U8) no_shape))),
    ) ∷ (113, unit_shape) ∷ (114, (integer Kind.I64)) ∷ (
      115,
      (reference true (integer Kind.I64)),
    ) ∷ (116, (integer Kind.I64)) ∷ (117, (integer Kind.I64)) ∷ (118, (reference true (integer Kind.I64))) ∷
    (119, (integer Kind.I64)) ∷ (121, unit_shape) ∷ (122, boolean) ∷ (123, (integer Kind.U8)) ∷ (124, (integer Kind.U8)) ∷ (126, unit_shape) ∷ (
      127,
      (integer Kind.I64),
    ) ∷ []) ((5, (integer Kind.I64)) ∷ (6, (integer Kind.I64)) ∷ (11, unit_shape) ∷ (17, (reference false (integer Kind.I64))) ∷
    (22, (reference false (integer Kind.I64))) ∷ (24, (reference false (integer Kind.I64))) ∷ (26, (reference false (integer Kind.I64))) ∷ (
      42,
      (reference true (integer Kind.I64)),
    ) ∷ (53, (reference false (integer Kind.I64))) ∷ (57, (reference true (integer Kind.I64))) ∷ (
      60,
      (reference
          true (integer Kind.I64)),
    ) ∷ (66, (integer Kind.I64)) ∷ (73, (reference false (integer Kind.I64))) ∷ (116, (integer Kind.I64)) ∷ []) ((0 ∷ []) ∷
    (0 ∷ []) ∷ (1 ∷ []) ∷ (2 ∷ []) ∷ (1 ∷ []) ∷ (1 ∷ []) ∷ (0 ∷ []) ∷ (2 ∷ []) ∷ (3 ∷ []) ∷ (0 ∷ []) ∷ (4 ∷ []) ∷ (4 ∷ []) ∷ (3 ∷ []) ∷ (4 ∷ []) ∷
    (2 ∷ []) ∷ (4 ∷ []) ∷ (5 ∷ []) ∷ (1 ∷ []) ∷ (3 ∷ []) ∷ (1 ∷ []) ∷ (5 ∷ []) ∷ (5 ∷ []) ∷ (2 ∷ []) ∷ (5 ∷ []) ∷ (6 ∷ []) ∷ (0 ∷ []) ∷ (7 ∷ []) ∷
    (6 ∷ []) ∷ (7 ∷ []) ∷ (7 ∷ []) ∷ (7 ∷ []) ∷ (8 ∷ []) ∷ (1 ∷ []) ∷ (8 ∷ []) ∷ (9 ∷ []) ∷ (10 ∷ []) ∷ (8 ∷ []) ∷ (9 ∷ []) ∷ (9 ∷ []) ∷ (10 ∷ []) ∷
    (1 ∷ []) ∷ []) (record {
      name = (word (codes "main"));
      lifetimes = [];
      params = [];
      result = None;
      body = (plain.body at (plain.statement_and
          (plain.let_statement at (plain.bind at (word (codes "p")) true) None (plain.present (plain.make at (word (codes "Pair")) (plain.field_and (word
          (codes "a")) (plain.int at 3 None) (plain.field_and (word (codes "b")) (plain.int at 4 None) plain.no_field))))) (plain.statement_and
          (plain.let_statement at (plain.bind at (word (codes "n")) true) None (plain.present (plain.int at 10 None))) (plain.statement_and
          (plain.expression_statement at (plain.block at (plain.body at (plain.statement_and (plain.let_statement at (plain.bind at (word (codes "r"))
          false) (Some (plain.ref_type at None false (plain.kind_type at Kind.I64))) (plain.present (plain.if at (plain.binary at BinaryOp.Gt (plain.var
          at (codes "n")) (plain.int at 5 None)) (plain.body at plain.no_statement (plain.present (plain.borrow at true (plain.var at (codes "n")))))
          (plain.present (plain.block at (plain.body at plain.no_statement (plain.present (plain.borrow at true (plain.field at (plain.var at (codes "p"))
          (word (codes "a"))))))))))) (plain.statement_and (plain.expression_statement at (plain.print at (plain.deref at (plain.var at (codes "r"))))
          true) plain.no_statement)) plain.absent)) false) (plain.statement_and (plain.let_statement at (plain.bind at (word (codes "q")) false) None
          (plain.present (plain.borrow at true (plain.var at (codes "p"))))) (plain.statement_and (plain.let_statement at (plain.bind at (word (codes
          "first")) false) None plain.absent) (plain.statement_and (plain.expression_statement at (plain.assign at (plain.var at (codes "first"))
          (plain.borrow at true (plain.field at (plain.var at (codes "q")) (word (codes "a"))))) true) (plain.statement_and (plain.expression_statement at
          (plain.update at UpdateOp.Add (plain.deref at (plain.var at (codes "first"))) (plain.int at 7 None)) true) (plain.statement_and
          (plain.expression_statement at (plain.print at (plain.call at (word (codes "looked")) (plain.expression_and (plain.var at (codes "first"))
          plain.no_expression))) true) (plain.statement_and (plain.let_statement at (plain.bind at (word (codes "m")) false) None (plain.present
          (plain.call at (word (codes "bigger")) (plain.expression_and (plain.borrow at true (plain.field at (plain.var at (codes "q")) (word (codes
          "b")))) (plain.expression_and (plain.borrow at true (plain.var at (codes "n"))) plain.no_expression))))) (plain.statement_and
          (plain.expression_statement at (plain.assign at (plain.deref at (plain.var at (codes "m"))) (plain.binary at BinaryOp.Mul (plain.deref at
          (plain.var at (codes "m"))) (plain.int at 2 None))) true) (plain.statement_and (plain.expression_statement at (plain.print at (plain.call at
          (word (codes "looked")) (plain.expression_and (plain.var at (codes "m")) plain.no_expression))) true) (plain.statement_and (plain.let_statement
          at (plain.bind at (word (codes "once")) false) None (plain.present (plain.borrow at false (plain.var at (codes "p"))))) (plain.statement_and
          (plain.let_statement at (plain.bind at (word (codes "s")) false) None (plain.present (plain.borrow at false (plain.var at (codes "once")))))
          (plain.statement_and (plain.expression_statement at (plain.print at (plain.binary at BinaryOp.Add (plain.binary at BinaryOp.Add (plain.field at
          (plain.var at (codes "s")) (word (codes "a"))) (plain.field at (plain.deref at (plain.var at (codes "s"))) (word (codes "b")))) (plain.field at
          (plain.deref at (plain.deref at (plain.var at (codes "s")))) (word (codes "a"))))) true) (plain.statement_and (plain.let_statement at
          (plain.bind at (word (codes "t")) false) None (plain.present (plain.tuple at (plain.expression_and (plain.borrow at true (plain.var at (codes
          "n"))) (plain.expression_and (plain.int at 5 (Some Kind.U8)) plain.no_expression))))) (plain.statement_and (plain.expression_statement at
          (plain.update at UpdateOp.Add (plain.deref at (plain.part at (plain.var at (codes "t")) 0)) (plain.int at 1 None)) true) (plain.statement_and
          (plain.let_statement at (plain.tuple_pattern at (plain.pattern_and (plain.bind at (word (codes "u")) false) (plain.pattern_and (plain.bind at
          (word (codes "v")) false) plain.no_pattern))) None (plain.present (plain.var at (codes "t")))) (plain.statement_and (plain.expression_statement
          at (plain.assign at (plain.deref at (plain.var at (codes "u"))) (plain.binary at BinaryOp.Add (plain.deref at (plain.var at (codes "u")))
          (plain.int at 1 None))) true) (plain.statement_and (plain.expression_statement at (plain.print at (plain.binary at BinaryOp.Eq (plain.var at
          (codes "v")) (plain.int at 5 None))) true) (plain.statement_and (plain.expression_statement at (plain.print at (plain.var at (codes "n"))) true)
          plain.no_statement)))))))))))))))))))) plain.absent);
    })

abbrev pub coerced_functions : List (Option Function)
coerced_functions = None ∷ Some coerced_bigger ∷ Some coerced_looked ∷ Some coerced_main ∷ []

-- enum E {
--     A(i64, (bool, u8)),
--     B(P),
--     C,
-- }
--
-- struct P {
--     x: i64,
--     y: (i64, i64),
-- }
--
-- fn seen(e: &E) -> i64 {
--     match e {
--         E::A(n, (true, _)) => *n,
--         E::A(5, (_, k)) => {
--             let z = *k;
--             if z == 3 {
--                 50
--             } else {
--                 51
--             }
--         }
--         E::A(_, _) => -1,
--         E::B(P { y: (0, w), x }) => *x + *w,
--         E::B(P { x, y: _ }) => *x * 2,
--         E::C => 0,
--     }
-- }
--
-- fn taken(e: E) -> i64 {
--     match e {
--         E::B(p) => {
--             let P { x, y: (a, b) } = p;
--             x + a * 10 + b * 100
--         }
--         other => seen(&other),
--     }
-- }
--
-- fn main() {
--     let a = E::A(5, (false, 3));
--     println!("{}", seen(&a));
--     let b = E::B(P { x: 2, y: (0, 9) });
--     println!("{}", seen(&b));
--     println!("{}", taken(b));
--     println!("{}", taken(a));
--     let mut c = E::C;
--     if let E::C = c {
--         c = E::B(P { x: 4, y: (1, 1) });
--     }
--     println!("{}", seen(&c));
--     let mut i = 0i64;
--     while let E::B(P { x, y }) = &c {
--         i = i + *x + (*y).1;
--         if i > 9 {
--             c = E::C;
--         }
--     }
--     println!("{}", i);
-- }
abbrev pub matching_items : Declarations
matching_items = enum_declared false 0 (record {
  name = codes "A";
  parts = (integer Kind.I64) ∷ (tuple_of (shape_and boolean (shape_and (integer
      Kind.U8) no_shape))) ∷ [];
} ∷ record { name = codes "B"; parts = (named 1) ∷ [] } ∷ record { name = codes "C"; parts = [] } ∷ []) ∷
    struct_declared false 0 (record { name = codes "x"; typ = (integer Kind.I64) } ∷ record {
      name = codes "y";
      typ = (tuple_of (shape_and (integer
          Kind.I64) (shape_and (integer Kind.I64) no_shape)));
    } ∷ []) ∷ function_declared ((reference false (named 0)) ∷ []) (integer Kind.I64) ∷
    function_declared ((named 0) ∷ []) (integer Kind.I64) ∷ function_declared ([]) unit_shape ∷ []

abbrev pub matching_seen : Function
matching_seen = function_of 2 matching_items ((4, (integer Kind.I64)) ∷ (5, (integer Kind.I64)) ∷ (6, (reference false (named 0))) ∷ (
  7,
  (reference
      false (named 0)),
) ∷ (8, (integer Kind.I64)) ∷ (9, (tuple_of (shape_and boolean (shape_and (integer Kind.U8) no_shape)))) ∷ (10, boolean) ∷ (
  11,
  (integer Kind.U8),
) ∷ (12, (integer Kind.I64)) ∷ (13, (reference false (integer Kind.I64))) ∷ (14, (reference false (named 0))) ∷ (
  15,
  (integer
      Kind.I64),
) ∷ (16, (tuple_of (shape_and boolean (shape_and (integer Kind.U8) no_shape)))) ∷ (17, boolean) ∷ (18, (integer Kind.U8)) ∷ (
  19,
  (integer Kind.I64),
) ∷ (20, (integer Kind.I64)) ∷ (22, (integer Kind.U8)) ∷ (23, (integer Kind.U8)) ∷ (24, (reference false (integer Kind.U8))) ∷
    (25, (integer Kind.I64)) ∷ (26, boolean) ∷ (27, (integer Kind.U8)) ∷ (28, (integer Kind.U8)) ∷ (29, (integer Kind.I64)) ∷ (
      30,
      (integer
          Kind.I64),
    ) ∷ (31, (integer Kind.I64)) ∷ (32, (integer Kind.I64)) ∷ (33, (integer Kind.I64)) ∷ (34, (reference false (named 0))) ∷ (
      35,
      (integer
          Kind.I64),
    ) ∷ (36, (tuple_of (shape_and boolean (shape_and (integer Kind.U8) no_shape)))) ∷ (37, (integer Kind.I64)) ∷ (38, (integer Kind.I64)) ∷
    (39, (reference false (named 0))) ∷ (40, (named 1)) ∷ (41, (tuple_of (shape_and (integer Kind.I64) (shape_and (integer Kind.I64) no_shape)))) ∷
    (42, (integer Kind.I64)) ∷ (43, (integer Kind.I64)) ∷ (44, (integer Kind.I64)) ∷ (45, (integer Kind.I64)) ∷ (46, (integer Kind.I64)) ∷ (
      47,
      (reference false (integer Kind.I64)),
    ) ∷ (48, (integer Kind.I64)) ∷ (49, (reference false (integer Kind.I64))) ∷ (
      50,
      (reference false (named
          0)),
    ) ∷ (51, (named 1)) ∷ (52, (integer Kind.I64)) ∷ (53, (tuple_of (shape_and (integer Kind.I64) (shape_and (integer Kind.I64) no_shape)))) ∷
    (54, (integer Kind.I64)) ∷ (55, (integer Kind.I64)) ∷ (56, (reference false (integer Kind.I64))) ∷ (57, (integer Kind.I64)) ∷ (
      58,
      (reference
          false (named 0)),
    ) ∷ (59, (integer Kind.I64)) ∷ []) ((5, (integer Kind.I64)) ∷ (12, (integer Kind.I64)) ∷ (19, (integer Kind.I64)) ∷ (
      25,
      (integer Kind.I64),
    ) ∷ (30, (integer Kind.I64)) ∷ (31, (integer Kind.I64)) ∷ (33, (integer Kind.I64)) ∷ (37, (integer Kind.I64)) ∷ (
      45,
      (integer
          Kind.I64),
    ) ∷ (54, (integer Kind.I64)) ∷ (59, (integer Kind.I64)) ∷ []) ((0 ∷ []) ∷ (0 ∷ []) ∷ (0 ∷ []) ∷ (0 ∷ 0 ∷ []) ∷ (1 ∷ []) ∷ (1 ∷ []) ∷ (0
    ∷ 0 ∷ []) ∷ (2 ∷ []) ∷ (3 ∷ []) ∷ (2 ∷ []) ∷ (3 ∷ []) ∷ (0 ∷ 0 ∷ []) ∷ (0 ∷ 1 ∷ []) ∷ (1 ∷ []) ∷ (4 ∷ []) ∷ (5 ∷ []) ∷ (5 ∷ []) ∷ (4 ∷ []) ∷ (0
    ∷ 1 ∷ []) ∷ (1 ∷ []) ∷ (6 ∷ []) ∷ (6 ∷ []) ∷ (0 ∷ 2 ∷ []) ∷ []) (record {
      name = (word (codes "seen"));
      lifetimes = [];
      params = record {
        name =
            (word (codes "e"));
        mutable = false;
        typ = (plain.ref_type at None false (plain.named_type at (word (codes "E")) None));
      } ∷ [];
      result = (Some
          (plain.kind_type at Kind.I64));
      body = (plain.body at plain.no_statement (plain.present (plain.match at (plain.var at (codes "e"))
          (plain.arm_and (plain.variant_pattern at (word (codes "E")) (word (codes "A")) (plain.pattern_and (plain.bind at (word (codes "n")) false)
          (plain.pattern_and (plain.tuple_pattern at (plain.pattern_and (plain.bool_pattern at true) (plain.pattern_and (plain.wild at)
          plain.no_pattern))) plain.no_pattern))) (plain.deref at (plain.var at (codes "n"))) (plain.arm_and (plain.variant_pattern at (word (codes "E"))
          (word (codes "A")) (plain.pattern_and (plain.int_pattern at false 5 None) (plain.pattern_and (plain.tuple_pattern at (plain.pattern_and
          (plain.wild at) (plain.pattern_and (plain.bind at (word (codes "k")) false) plain.no_pattern))) plain.no_pattern))) (plain.block at (plain.body
          at (plain.statement_and (plain.let_statement at (plain.bind at (word (codes "z")) false) None (plain.present (plain.deref at (plain.var at
          (codes "k"))))) plain.no_statement) (plain.present (plain.if at (plain.binary at BinaryOp.Eq (plain.var at (codes "z")) (plain.int at 3 None))
          (plain.body at plain.no_statement (plain.present (plain.int at 50 None))) (plain.present (plain.block at (plain.body at plain.no_statement
          (plain.present (plain.int at 51 None))))))))) (plain.arm_and (plain.variant_pattern at (word (codes "E")) (word (codes "A")) (plain.pattern_and
          (plain.wild at) (plain.pattern_and (plain.wild at) plain.no_pattern))) (plain.negate at (plain.int at 1 None)) (plain.arm_and
          (plain.variant_pattern at (word (codes "E")) (word (codes "B")) (plain.pattern_and (plain.make_pattern at (word (codes "P"))
          (plain.field_pattern_and (word (codes "y")) (plain.tuple_pattern at (plain.pattern_and (plain.int_pattern at false 0 None) (plain.pattern_and
          (plain.bind at (word (codes "w")) false) plain.no_pattern))) (plain.field_pattern_and (word (codes "x")) (plain.bind at (word (codes "x"))
          false) plain.no_field_pattern))) plain.no_pattern)) (plain.binary at BinaryOp.Add (plain.deref at (plain.var at (codes "x"))) (plain.deref at
          (plain.var at (codes "w")))) (plain.arm_and (plain.variant_pattern at (word (codes "E")) (word (codes "B")) (plain.pattern_and
          (plain.make_pattern at (word (codes "P")) (plain.field_pattern_and (word (codes "x")) (plain.bind at (word (codes "x")) false)
          (plain.field_pattern_and (word (codes "y")) (plain.wild at) plain.no_field_pattern))) plain.no_pattern)) (plain.binary at BinaryOp.Mul
          (plain.deref at (plain.var at (codes "x"))) (plain.int at 2 None)) (plain.arm_and (plain.variant_pattern at (word (codes "E")) (word (codes
          "C")) plain.no_pattern) (plain.int at 0 None) plain.no_arm)))))))));
    })

abbrev pub matching_taken : Function
matching_taken = function_of 3 matching_items ((3, (integer Kind.I64)) ∷ (4, (integer Kind.I64)) ∷ (5, (named 0)) ∷ (6, (named 0)) ∷ (7, (named 1)) ∷
    (8, (integer Kind.I64)) ∷ (9, (integer Kind.I64)) ∷ (11, (named 1)) ∷ (12, (integer Kind.I64)) ∷ (
      13,
      (tuple_of (shape_and (integer Kind.I64)
          (shape_and (integer Kind.I64) no_shape))),
    ) ∷ (14, (integer Kind.I64)) ∷ (15, (integer Kind.I64)) ∷ (16, (named 1)) ∷ (17, (integer Kind.I64)) ∷
    (18, (integer Kind.I64)) ∷ (19, (integer Kind.I64)) ∷ (20, (integer Kind.I64)) ∷ (21, (integer Kind.I64)) ∷ (22, (integer Kind.I64)) ∷ (
      23,
      (integer Kind.I64),
    ) ∷ (24, (integer Kind.I64)) ∷ (25, (integer Kind.I64)) ∷ (26, (named 0)) ∷ (27, (integer Kind.I64)) ∷ (
      28,
      (reference false
          (named 0)),
    ) ∷ (29, (named 0)) ∷ []) ((4, (integer Kind.I64)) ∷ (8, (integer Kind.I64)) ∷ (17, (integer Kind.I64)) ∷ (27, (integer Kind.I64)) ∷
    (28, (reference false (named 0))) ∷ []) ((0 ∷ []) ∷ (0 ∷ []) ∷ (0 ∷ []) ∷ (0 ∷ 1 ∷ []) ∷ (1 ∷ []) ∷ (1 ∷ []) ∷ (2 ∷ []) ∷ (3 ∷ []) ∷ (4 ∷ []) ∷
    (1 ∷ []) ∷ (2 ∷ []) ∷ (3 ∷ []) ∷ (4 ∷ []) ∷ (5 ∷ []) ∷ (2 ∷ []) ∷ (5 ∷ []) ∷ []) (record {
      name = (word (codes "taken"));
      lifetimes = [];
      params
          = record { name = (word (codes "e")); mutable = false; typ = (plain.named_type at (word (codes "E")) None) } ∷ [];
      result = (Some
          (plain.kind_type at Kind.I64));
      body = (plain.body at plain.no_statement (plain.present (plain.match at (plain.var at (codes "e"))
          (plain.arm_and (plain.variant_pattern at (word (codes "E")) (word (codes "B")) (plain.pattern_and (plain.bind at (word (codes "p")) false)
          plain.no_pattern)) (plain.block at (plain.body at (plain.statement_and (plain.let_statement at (plain.make_pattern at (word (codes "P"))
          (plain.field_pattern_and (word (codes "x")) (plain.bind at (word (codes "x")) false) (plain.field_pattern_and (word (codes "y"))
          (plain.tuple_pattern at (plain.pattern_and (plain.bind at (word (codes "a")) false) (plain.pattern_and (plain.bind at (word (codes "b")) false)
          plain.no_pattern))) plain.no_field_pattern))) None (plain.present (plain.var at (codes "p")))) plain.no_statement) (plain.present (plain.binary
          at BinaryOp.Add (plain.binary at BinaryOp.Add (plain.var at (codes "x")) (plain.binary at BinaryOp.Mul (plain.var at (codes "a")) (plain.int at
          10 None))) (plain.binary at BinaryOp.Mul (plain.var at (codes "b")) (plain.int at 100 None)))))) (plain.arm_and (plain.bind at (word (codes
          "other")) false) (plain.call at (word (codes "seen")) (plain.expression_and (plain.borrow at false (plain.var at (codes "other")))
          plain.no_expression)) plain.no_arm)))));
    })

abbrev pub matching_main : Function
matching_main = function_of 4 matching_items ((1, unit_shape) ∷ (3, (named 0)) ∷ (4, (named 0)) ∷ (5, (integer Kind.I64)) ∷ (
  6,
  (tuple_of (shape_and
      boolean (shape_and (integer Kind.U8) no_shape))),
) ∷ (7, boolean) ∷ (8, (integer Kind.U8)) ∷ (10, unit_shape) ∷ (11, (integer Kind.I64)) ∷ (
  12,
  (reference false (named 0)),
) ∷ (13, (named 0)) ∷ (15, (named 0)) ∷ (16, (named 0)) ∷ (17, (named 1)) ∷ (18, (integer Kind.I64)) ∷ (
  19,
  (tuple_of
      (shape_and (integer Kind.I64) (shape_and (integer Kind.I64) no_shape))),
) ∷ (20, (integer Kind.I64)) ∷ (21, (integer Kind.I64)) ∷ (
  23,
  unit_shape,
) ∷ (24, (integer Kind.I64)) ∷ (25, (reference false (named 0))) ∷ (26, (named 0)) ∷ (28, unit_shape) ∷ (29, (integer Kind.I64)) ∷
    (30, (named 0)) ∷ (32, unit_shape) ∷ (33, (integer Kind.I64)) ∷ (34, (named 0)) ∷ (36, (named 0)) ∷ (37, (named 0)) ∷ (39, unit_shape) ∷ (
      40,
      (named 0),
    ) ∷ (41, (named 0)) ∷ (42, unit_shape) ∷ (44, unit_shape) ∷ (45, (named 0)) ∷ (46, (named 0)) ∷ (47, (named 1)) ∷ (
      48,
      (integer
          Kind.I64),
    ) ∷ (49, (tuple_of (shape_and (integer Kind.I64) (shape_and (integer Kind.I64) no_shape)))) ∷ (50, (integer Kind.I64)) ∷ (
      51,
      (integer
          Kind.I64),
    ) ∷ (53, unit_shape) ∷ (54, (integer Kind.I64)) ∷ (55, (reference false (named 0))) ∷ (56, (named 0)) ∷ (58, (integer Kind.I64)) ∷ (
      59,
      (integer Kind.I64),
    ) ∷ (61, unit_shape) ∷ (62, (reference false (named 0))) ∷ (63, (named 1)) ∷ (64, (integer Kind.I64)) ∷ (
      65,
      (tuple_of
          (shape_and (integer Kind.I64) (shape_and (integer Kind.I64) no_shape))),
    ) ∷ (66, (reference false (named 0))) ∷ (67, (named 0)) ∷ (
      68,
      unit_shape,
    ) ∷ (70, unit_shape) ∷ (71, (integer Kind.I64)) ∷ (72, (integer Kind.I64)) ∷ (73, (integer Kind.I64)) ∷ (74, (integer Kind.I64)) ∷
    (75, (integer Kind.I64)) ∷ (76, (reference false (integer Kind.I64))) ∷ (77, (integer Kind.I64)) ∷ (
      78,
      (tuple_of (shape_and (integer Kind.I64)
          (shape_and (integer Kind.I64) no_shape))),
    ) ∷ (
      79,
      (reference false (tuple_of (shape_and (integer Kind.I64) (shape_and (integer Kind.I64)
          no_shape)))),
    ) ∷ (80, unit_shape) ∷ (81, boolean) ∷ (82, (integer Kind.I64)) ∷ (83, (integer Kind.I64)) ∷ (84, unit_shape) ∷ (86, unit_shape) ∷
    (87, (named 0)) ∷ (88, (named 0)) ∷ (90, unit_shape) ∷ (91, (integer Kind.I64)) ∷ []) ((5, (integer Kind.I64)) ∷ (
      6,
      (tuple_of (shape_and
          boolean (shape_and (integer Kind.U8) no_shape))),
    ) ∷ (12, (reference false (named 0))) ∷ (17, (named 1)) ∷ (18, (integer Kind.I64)) ∷ (
      19,
      (tuple_of (shape_and (integer Kind.I64) (shape_and (integer Kind.I64) no_shape))),
    ) ∷ (25, (reference false (named 0))) ∷ (30, (named 0)) ∷ (
      34,
      (named 0),
    ) ∷ (39, unit_shape) ∷ (46, (named 0)) ∷ (47, (named 1)) ∷ (48, (integer Kind.I64)) ∷ (
      49,
      (tuple_of (shape_and (integer Kind.I64)
          (shape_and (integer Kind.I64) no_shape))),
    ) ∷ (55, (reference false (named 0))) ∷ (72, (integer Kind.I64)) ∷ (88, (named 0)) ∷ []) ((0 ∷ []) ∷ (0
    ∷ 0 ∷ []) ∷ (2 ∷ []) ∷ (0 ∷ []) ∷ (1 ∷ []) ∷ (0 ∷ 1 ∷ []) ∷ (1 ∷ []) ∷ (2 ∷ []) ∷ (1 ∷ []) ∷ (3 ∷ []) ∷ (1 ∷ []) ∷ (3 ∷ []) ∷ (0 ∷ []) ∷ (2 ∷
    []) ∷ (0 ∷ 2 ∷ []) ∷ (0 ∷ 2 ∷ []) ∷ (2 ∷ []) ∷ (2 ∷ []) ∷ (0 ∷ 1 ∷ []) ∷ (1 ∷ []) ∷ (2 ∷ []) ∷ (2 ∷ []) ∷ (3 ∷ []) ∷ (0 ∷ 1 ∷ []) ∷ (1 ∷ []) ∷
    (4 ∷ []) ∷ (5 ∷ []) ∷ (2 ∷ []) ∷ (3 ∷ []) ∷ (3 ∷ []) ∷ (4 ∷ []) ∷ (5 ∷ []) ∷ (3 ∷ []) ∷ (2 ∷ []) ∷ (0 ∷ 2 ∷ []) ∷ (3 ∷ []) ∷ []) (record {
      name
          = (word (codes "main"));
      lifetimes = [];
      params = [];
      result = None;
      body = (plain.body at (plain.statement_and (plain.let_statement at
          (plain.bind at (word (codes "a")) false) None (plain.present (plain.variant at (word (codes "E")) (word (codes "A")) (plain.a_list
          (plain.expression_and (plain.int at 5 None) (plain.expression_and (plain.tuple at (plain.expression_and (plain.bool at false)
          (plain.expression_and (plain.int at 3 None) plain.no_expression))) plain.no_expression)))))) (plain.statement_and (plain.expression_statement at
          (plain.print at (plain.call at (word (codes "seen")) (plain.expression_and (plain.borrow at false (plain.var at (codes "a")))
          plain.no_expression))) true) (plain.statement_and (plain.let_statement at (plain.bind at (word (codes "b")) false) None (plain.present
          (plain.variant at (word (codes "E")) (word (codes "B")) (plain.a_list (plain.expression_and (plain.make at (word (codes "P")) (plain.field_and
          (word (codes "x")) (plain.int at 2 None) (plain.field_and (word (codes "y")) (plain.tuple at (plain.expression_and (plain.int at 0 None)
          (plain.expression_and (plain.int at 9 None) plain.no_expression))) plain.no_field))) plain.no_expression))))) (plain.statement_and
          (plain.expression_statement at (plain.print at (plain.call at (word (codes "seen")) (plain.expression_and (plain.borrow at false (plain.var at
          (codes "b"))) plain.no_expression))) true) (plain.statement_and (plain.expression_statement at (plain.print at (plain.call at (word (codes
          "taken")) (plain.expression_and (plain.var at (codes "b")) plain.no_expression))) true) (plain.statement_and (plain.expression_statement at
          (plain.print at (plain.call at (word (codes "taken")) (plain.expression_and (plain.var at (codes "a")) plain.no_expression))) true)
          (plain.statement_and (plain.let_statement at (plain.bind at (word (codes "c")) true) None (plain.present (plain.variant at (word (codes "E"))
          (word (codes "C")) plain.no_list))) (plain.statement_and (plain.expression_statement at (plain.if_let at (plain.variant_pattern at (word (codes
          "E")) (word (codes "C")) plain.no_pattern) (plain.var at (codes "c")) (plain.body at (plain.statement_and (plain.expression_statement at
          (plain.assign at (plain.var at (codes "c")) (plain.variant at (word (codes "E")) (word (codes "B")) (plain.a_list (plain.expression_and
          (plain.make at (word (codes "P")) (plain.field_and (word (codes "x")) (plain.int at 4 None) (plain.field_and (word (codes "y")) (plain.tuple at
          (plain.expression_and (plain.int at 1 None) (plain.expression_and (plain.int at 1 None) plain.no_expression))) plain.no_field)))
          plain.no_expression)))) true) plain.no_statement) plain.absent) plain.absent) false) (plain.statement_and (plain.expression_statement at
          (plain.print at (plain.call at (word (codes "seen")) (plain.expression_and (plain.borrow at false (plain.var at (codes "c")))
          plain.no_expression))) true) (plain.statement_and (plain.let_statement at (plain.bind at (word (codes "i")) true) None (plain.present (plain.int
          at 0 (Some Kind.I64)))) (plain.statement_and (plain.expression_statement at (plain.while_let at None (plain.variant_pattern at (word (codes
          "E")) (word (codes "B")) (plain.pattern_and (plain.make_pattern at (word (codes "P")) (plain.field_pattern_and (word (codes "x")) (plain.bind at
          (word (codes "x")) false) (plain.field_pattern_and (word (codes "y")) (plain.bind at (word (codes "y")) false) plain.no_field_pattern)))
          plain.no_pattern)) (plain.borrow at false (plain.var at (codes "c"))) (plain.body at (plain.statement_and (plain.expression_statement at
          (plain.assign at (plain.var at (codes "i")) (plain.binary at BinaryOp.Add (plain.binary at BinaryOp.Add (plain.var at (codes "i")) (plain.deref
          at (plain.var at (codes "x")))) (plain.part at (plain.deref at (plain.var at (codes "y"))) 1))) true) plain.no_statement) (plain.present
          (plain.if at (plain.binary at BinaryOp.Gt (plain.var at (codes "i")) (plain.int at 9 None)) (plain.body at (plain.statement_and
          (plain.expression_statement at (plain.assign at (plain.var at (codes "c")) (plain.variant at (word (codes "E")) (word (codes "C"))
          plain.no_list)) true) plain.no_statement) plain.absent) plain.absent)))) false) (plain.statement_and (plain.expression_statement at (plain.print
          at (plain.var at (codes "i"))) true) plain.no_statement)))))))))))) plain.absent);
    })

abbrev pub matching_functions : List (Option Function)
matching_functions = None ∷ None ∷ Some matching_seen ∷ Some matching_taken ∷ Some matching_main ∷ []
