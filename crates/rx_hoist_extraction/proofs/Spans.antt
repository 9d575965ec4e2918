-- The spans of an extraction, computed: what is copied keeps its own, what is made has the run's. The text is
-- `fn f(x: i64) -> i64 { let c = x; return c; }`.
use Rattle.std.proofs.Common.{◌≡◌, true, false, [], ◌∷◌, Some, None, codes, refl}
use Rattle.std.specs.Fmt.{digits}
use Rattle.rx_core.specs.declared.types.Kind.TheVariants as kind
use Rattle.rx_tree.specs.Plain as plain
use Rattle.rx_tree.specs.Plain.{Expression, Statement, Function, ItemTree, ProgramTree}
use Rattle.rx_hoist_extraction.specs.Run.{Run}
use Rattle.rx_hoist_extraction.specs.Plan.{Plan, to_return, by_shared}
use Rattle.rx_hoist_extraction.specs.Made.{ident}
use Rattle.rx_hoist_extraction.specs.Extraction.{extraction}
use Rattle.rx_hoist_extraction.proofs.Trees.{at, made, i64_type, variable, passed_by, leaving, no_plan}

-- ---- the text and its run: both statements, from 22 to 42

abbrev f : Function
f = record {
  name = ident (at 3 4) (codes "f");
  lifetimes = [];
  params = record { name = ident (at 5 6) (codes "x"); mutable = false; typ = plain.kind_type (at 8 11) kind.I64 } ∷ [];
  result = Some (plain.kind_type (at 16 19) kind.I64);
  body = plain.body (at 20 44)
      (plain.statement_and (plain.let_statement (at 22 32) (plain.bind (at 26 27) (ident (at 26 27) (codes "c")) false) None (plain.present (plain.var (at 30 31) (codes "x"))))
      (plain.statement_and (plain.expression_statement (at 33 42) (plain.return (at 33 41) (plain.present (plain.var (at 40 41) (codes "c")))) true) plain.no_statement))
      plain.absent;
}

abbrev run : Run
run = record { item = 0; way = []; first = 0; last = 1; span = made }

abbrev plan : Plan
plan = record no_plan {
  name = codes "g";
  exits = leaving to_return [] ∷ [];
  never = true;
  result = i64_type;
  params = passed_by by_shared false (variable (codes "x") i64_type) ∷ [];
}

-- ---- the answer

abbrev the_call : Expression
the_call = plain.call made (ident made (codes "g")) (plain.expression_and (plain.borrow made false (plain.var made (codes "x"))) plain.no_expression)

abbrev the_match : Expression
the_match = plain.match made the_call (plain.arm_and
    (plain.variant_pattern made (ident made (codes "Exit_g")) (ident made (codes "Return"))
    (plain.pattern_and (plain.bind made (ident made (codes "out_0")) false) plain.no_pattern))
    (plain.return made (plain.present (plain.var made (codes "out_0")))) plain.no_arm)

-- `return` and `c` stay where they stand, the variant round `c` is made
abbrev the_return : Expression
the_return = plain.return (at 33 41) (plain.present (plain.variant made (ident made (codes "Exit_g")) (ident made (codes "Return"))
    (plain.a_list (plain.expression_and (plain.var (at 40 41) (codes "c")) plain.no_expression))))

-- `x` stays where it stands, the `*` before it is made
abbrev the_let : Statement
the_let = plain.let_statement (at 22 32) (plain.bind (at 26 27) (ident (at 26 27) (codes "c")) false) None
    (plain.present (plain.deref made (plain.var (at 30 31) (codes "x"))))

abbrev answer : ProgramTree
answer =
    plain.function_item (at 0 44) (record f {
      body =
          plain.body (at 20 44) (plain.statement_and (plain.expression_statement made the_match true) plain.no_statement) plain.absent;
    }) ∷
    plain.enum_item made (record {
      name = ident made (codes "Exit_g");
      derives = [];
      lifetimes = [];
      variants = record { name = ident made (codes "Return"); types = plain.type_and (plain.kind_type made kind.I64) plain.no_type } ∷ [];
    }) ∷
    plain.function_item made (record {
      name = ident made (codes "g");
      lifetimes = record { name = ident made (codes "'r0"); bounds = [] } ∷ [];
      params = record { name = ident made (codes "x"); mutable = false; typ = plain.ref_type made (Some (ident made (codes "'r0"))) false (plain.kind_type made kind.I64) } ∷ [];
      result = Some (plain.named_type made (ident made (codes "Exit_g")) None);
      body = plain.body made (plain.statement_and the_let (plain.statement_and (plain.expression_statement (at 33 42) the_return true) plain.no_statement)) plain.absent;
    }) ∷ []

pub spans_are_kept : extraction (plain.function_item (at 0 44) f ∷ []) run plan [] ≡ answer
unfolding digits
spans_are_kept = refl
