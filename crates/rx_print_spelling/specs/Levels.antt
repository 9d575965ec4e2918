-- The levels of the canonical text: a node is one deeper than the node around it, and a pair of parentheses is a level.
use Rattle.std.specs.Prelude.{ℕ, suc, max, Bool, true, false, List, [], ◌∷◌, Option, Some, None, map}
use Rattle.rx_tree.specs.Plain as plain
use Rattle.rx_tree.specs.Plain.{TypeTree, TypeTrees, PatternTree, PatternTrees, FieldPatterns, Expression, Expressions, OptionalExpression, OptionalExpressions, FieldExpressions, Arms, Body, Statement, Statements, Parameter, Function, FieldOf, Structure, VariantOf, Enumeration, ItemTree, ProgramTree}
use Rattle.rx_print_spelling.specs.Strengths as at
use Rattle.rx_print_spelling.specs.Places.{left_strength, right_strength, too_weak, unfit, goes_on}

abbrev pub enclosed_levels : Bool → ℕ → ℕ
enclosed_levels false h = h
enclosed_levels true h = suc h

-- the most levels that one of them has
abbrev pub deepest : List ℕ → ℕ
deepest [] = 0
deepest (h ∷ hs) = max h (deepest hs)

-- ---- types and patterns

abbrev mutual
  pub type_levels : TypeTree → ℕ
  type_levels (plain.tuple_type s ts) = suc (types_levels ts)
  type_levels (plain.ref_type s l m t) = suc (type_levels t)
  type_levels _ = 1

  pub types_levels : TypeTrees → ℕ
  types_levels plain.no_type = 0
  types_levels (plain.type_and t ts) = max (type_levels t) (types_levels ts)

abbrev pub written_levels : Option TypeTree → ℕ
written_levels None = 0
written_levels (Some t) = type_levels t

abbrev mutual
  pub pattern_levels : PatternTree → ℕ
  pattern_levels (plain.tuple_pattern s ps) = suc (patterns_levels ps)
  pattern_levels (plain.variant_pattern s a v ps) = suc (patterns_levels ps)
  pattern_levels (plain.make_pattern s n fs) = suc (field_patterns_levels fs)
  pattern_levels _ = 1

  pub patterns_levels : PatternTrees → ℕ
  patterns_levels plain.no_pattern = 0
  patterns_levels (plain.pattern_and p ps) = max (pattern_levels p) (patterns_levels ps)

  pub field_patterns_levels : FieldPatterns → ℕ
  field_patterns_levels plain.no_field_pattern = 0
  field_patterns_levels (plain.field_pattern_and n p fs) = max (pattern_levels p) (field_patterns_levels fs)

-- ---- expressions, statements and blocks

-- an operand
abbrev pub placed_levels : ℕ → Expression → ℕ → ℕ
placed_levels place e h = enclosed_levels (too_weak place e) h

abbrev pub tested_levels : ℕ → Expression → ℕ → ℕ
tested_levels place e h = enclosed_levels (unfit place e) h

abbrev pub stated_levels : Expression → ℕ → ℕ
stated_levels e h = enclosed_levels (goes_on e) h

abbrev mutual
  pub expression_levels : Expression → ℕ
  expression_levels (plain.tuple s es) = suc (list_levels es)
  expression_levels (plain.field s e n) = suc (placed_levels at.postfix e (expression_levels e))
  expression_levels (plain.part s e i) = suc (placed_levels at.postfix e (expression_levels e))
  expression_levels (plain.deref s e) = suc (placed_levels at.unary e (expression_levels e))
  expression_levels (plain.negate s e) = suc (placed_levels at.unary e (expression_levels e))
  expression_levels (plain.invert s e) = suc (placed_levels at.unary e (expression_levels e))
  expression_levels (plain.borrow s m e) = suc (placed_levels at.unary e (expression_levels e))
  expression_levels (plain.binary s o a b) =
      suc (max (placed_levels (left_strength o) a (expression_levels a)) (placed_levels (right_strength o) b (expression_levels b)))
  expression_levels (plain.assign s a b) = suc (max (placed_levels at.disjunction a (expression_levels a)) (expression_levels b))
  expression_levels (plain.update s o a b) = suc (max (placed_levels at.disjunction a (expression_levels a)) (expression_levels b))
  expression_levels (plain.call s f es) = suc (list_levels es)
  expression_levels (plain.variant s a v es) = suc (optional_list_levels es)
  expression_levels (plain.make s n fs) = suc (fields_levels fs)
  expression_levels (plain.print s e) = suc (expression_levels e)
  expression_levels (plain.block s b) = suc (block_levels b)
  expression_levels (plain.if s c b y) = suc (max (tested_levels at.disjunction c (expression_levels c)) (max (block_levels b) (optional_levels y)))
  expression_levels (plain.if_let s p e b y) =
      suc (max (max (pattern_levels p) (tested_levels at.comparison e (expression_levels e))) (max (block_levels b) (optional_levels y)))
  expression_levels (plain.match s e as') = suc (max (tested_levels at.disjunction e (expression_levels e)) (arms_levels as'))
  expression_levels (plain.loop s l b) = suc (block_levels b)
  expression_levels (plain.while s l c b) = suc (max (tested_levels at.disjunction c (expression_levels c)) (block_levels b))
  expression_levels (plain.while_let s l p e b) = suc (max (max (pattern_levels p) (tested_levels at.comparison e (expression_levels e))) (block_levels b))
  expression_levels (plain.return s y) = suc (optional_levels y)
  expression_levels _ = 1

  pub list_levels : Expressions → ℕ
  list_levels plain.no_expression = 0
  list_levels (plain.expression_and e es) = max (expression_levels e) (list_levels es)

  pub optional_list_levels : OptionalExpressions → ℕ
  optional_list_levels plain.no_list = 0
  optional_list_levels (plain.a_list es) = list_levels es

  pub fields_levels : FieldExpressions → ℕ
  fields_levels plain.no_field = 0
  fields_levels (plain.field_and n e fs) = max (expression_levels e) (fields_levels fs)

  -- behind `return`, `else` and the `=` of a `let`
  pub optional_levels : OptionalExpression → ℕ
  optional_levels plain.absent = 0
  optional_levels (plain.present e) = expression_levels e

  pub arms_levels : Arms → ℕ
  arms_levels plain.no_arm = 0
  arms_levels (plain.arm_and p e rest) = max (max (pattern_levels p) (stated_levels e (expression_levels e))) (arms_levels rest)

  pub block_levels : Body → ℕ
  block_levels (plain.body s ss y) = suc (max (statements_levels ss) (tail_levels y))

  pub tail_levels : OptionalExpression → ℕ
  tail_levels plain.absent = 0
  tail_levels (plain.present e) = stated_levels e (expression_levels e)

  pub statement_levels : Statement → ℕ
  statement_levels (plain.let_statement s p t i) = max (max (pattern_levels p) (written_levels t)) (optional_levels i)
  statement_levels (plain.expression_statement s e b) = stated_levels e (expression_levels e)

  pub statements_levels : Statements → ℕ
  statements_levels plain.no_statement = 0
  statements_levels (plain.statement_and a ss) = max (statement_levels a) (statements_levels ss)

-- ---- items

abbrev pub field_levels : FieldOf → ℕ
field_levels f = type_levels f.typ

abbrev pub variant_levels : VariantOf → ℕ
variant_levels v = types_levels v.types

abbrev pub parameter_levels : Parameter → ℕ
parameter_levels x = type_levels x.typ

abbrev pub item_levels : ItemTree → ℕ
item_levels (plain.rt_item s r) = 0
item_levels (plain.struct_item s x) = deepest (map field_levels x.fields)
item_levels (plain.enum_item s x) = deepest (map variant_levels x.variants)
item_levels (plain.function_item s f) = max (deepest (map parameter_levels f.params)) (max (written_levels f.result) (block_levels f.body))

abbrev pub levels_of : ProgramTree → ℕ
levels_of p = deepest (map item_levels p)
