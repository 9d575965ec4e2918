-- The nodes of a formed body are formed: by induction on it. So is the block of a run, and the labels of the loops round it and the
-- lifetimes that types in it name are lasting.
use Rattle.std.proofs.Common.{List, ◌∷◌, ◌++◌, Option, Some, None}
use Rattle.std.specs.Prelude.{⊤}
use Rattle.rx_tree.specs.Plain as plain
use Rattle.rx_tree.specs.Plain.{TypeTree, TypeTrees, PatternTree, PatternTrees, FieldPatterns, Expression, Expressions, OptionalExpression, OptionalExpressions, FieldExpressions, Arms, Body, Statement, Statements}
use Rattle.rx_tree.specs.Lists.{Every}
use Rattle.rx_tree.specs.Positions.{NodeTree, an_item, a_type, a_block, a_statement, an_expression, a_pattern}
use Rattle.rx_tree.specs.Nodes.{below_type, within_types, within_type, below_pattern, within_patterns, within_field_patterns, below_expression, within_expressions, within_optional, within_arguments, within_fields, within_arms, below_block, below_statement, within_statements}
use Rattle.rx_tree.proofs.NodesLaws.{every_both}
use Rattle.rx_print_spelling.specs.Formed.{FormedType, FormedTypes, WrittenType, Formed, FormedList, FormedOptionalList, FormedFields, FormedOptional, FormedElse, FormedArms, FormedBody, FormedStatement, FormedStatements}

-- patterns are told of no more than that they stand there
abbrev pub NodeFormed : NodeTree → Type 0
NodeFormed (an_item i) = ⊤
NodeFormed (a_type t) = FormedType t
NodeFormed (a_block b) = FormedBody b
NodeFormed (a_statement a) = FormedStatement a
NodeFormed (an_expression e) = Formed e
NodeFormed (a_pattern p) = ⊤

abbrev pub All : List NodeTree → Type 0
All ns = Every NodeFormed ns

pub both : (xs ys : List NodeTree) → All xs → All ys → All (xs ++ ys)
both xs ys = every_both NodeFormed xs ys

mutual
  type_nodes : (t : TypeTree) → FormedType t → All (below_type t)
  type_nodes (plain.kind_type s k) f = tt
  type_nodes (plain.bool_type s) f = tt
  type_nodes (plain.tuple_type s ts) f = types_nodes ts f
  type_nodes (plain.ref_type s l m t) f = (f.1, type_nodes t f.1)
  type_nodes (plain.named_type s n ls) f = tt

  types_nodes : (ts : TypeTrees) → FormedTypes ts → All (within_types ts)
  types_nodes plain.no_type f = tt
  types_nodes (plain.type_and t ts) f = (f.0, both (below_type t) (within_types ts) (type_nodes t f.0) (types_nodes ts f.1))

written_nodes : (t : Option TypeTree) → WrittenType t → All (within_type t)
written_nodes None f = tt
written_nodes (Some t) f = (f, type_nodes t f)

mutual
  pattern_nodes : (p : PatternTree) → All (below_pattern p)
  pattern_nodes (plain.wild s) = tt
  pattern_nodes (plain.bind s n m) = tt
  pattern_nodes (plain.int_pattern s g v k) = tt
  pattern_nodes (plain.bool_pattern s b) = tt
  pattern_nodes (plain.tuple_pattern s ps) = patterns_nodes ps
  pattern_nodes (plain.variant_pattern s a v ps) = patterns_nodes ps
  pattern_nodes (plain.make_pattern s n fs) = field_patterns_nodes fs

  patterns_nodes : (ps : PatternTrees) → All (within_patterns ps)
  patterns_nodes plain.no_pattern = tt
  patterns_nodes (plain.pattern_and p ps) = (tt, both (below_pattern p) (within_patterns ps) (pattern_nodes p) (patterns_nodes ps))

  field_patterns_nodes : (fs : FieldPatterns) → All (within_field_patterns fs)
  field_patterns_nodes plain.no_field_pattern = tt
  field_patterns_nodes (plain.field_pattern_and n p fs) = (tt, both (below_pattern p) (within_field_patterns fs) (pattern_nodes p) (field_patterns_nodes fs))

two_nodes : (a b : Expression) → Formed a → All (below_expression a) → Formed b → All (below_expression b)
    → All (an_expression a ∷ (below_expression a ++ (an_expression b ∷ below_expression b)))
two_nodes a b f u g v = (f, both (below_expression a) (an_expression b ∷ below_expression b) u (g, v))

mutual
  expression_nodes : (e : Expression) → Formed e → All (below_expression e)
  expression_nodes (plain.int s v k) f = tt
  expression_nodes (plain.bool s b) f = tt
  expression_nodes (plain.tuple s es) f = list_nodes es f
  expression_nodes (plain.var s x) f = tt
  expression_nodes (plain.field s e n) f = (f.0, expression_nodes e f.0)
  expression_nodes (plain.part s e i) f = (f.0, expression_nodes e f.0)
  expression_nodes (plain.deref s e) f = (f, expression_nodes e f)
  expression_nodes (plain.negate s e) f = (f, expression_nodes e f)
  expression_nodes (plain.invert s e) f = (f, expression_nodes e f)
  expression_nodes (plain.borrow s m e) f = (f, expression_nodes e f)
  expression_nodes (plain.binary s o a b) f = two_nodes a b f.0 (expression_nodes a f.0) f.1 (expression_nodes b f.1)
  expression_nodes (plain.assign s a b) f = two_nodes a b f.0 (expression_nodes a f.0) f.1 (expression_nodes b f.1)
  expression_nodes (plain.update s o a b) f = two_nodes a b f.0 (expression_nodes a f.0) f.1 (expression_nodes b f.1)
  expression_nodes (plain.call s n es) f = list_nodes es f.1
  expression_nodes (plain.next_input s) f = tt
  expression_nodes (plain.variant s a v es) f = arguments_nodes es f.2
  expression_nodes (plain.make s n fs) f = fields_nodes fs f.1
  expression_nodes (plain.print s e) f = (f, expression_nodes e f)
  expression_nodes (plain.block s b) f = (f, body_nodes b f)
  expression_nodes (plain.if s c b o) f = (
    f.0,
    both (below_expression c) (a_block b ∷ (below_block b ++ within_optional o)) (expression_nodes c f.0)
        (f.1, both (below_block b) (within_optional o) (body_nodes b f.1) (else_nodes o f.2)),
  )
  expression_nodes (plain.if_let s p e b o) f = (
    tt,
    both (below_pattern p) (an_expression e ∷ (below_expression e ++ (a_block b ∷ (below_block b ++ within_optional o)))) (pattern_nodes p) (
      f.1,
      both (below_expression e) (a_block b ∷ (below_block b ++ within_optional o)) (expression_nodes e f.1)
          (f.2, both (below_block b) (within_optional o) (body_nodes b f.2) (else_nodes o f.3)),
    ),
  )
  expression_nodes (plain.match s e arms) f = (f.0, both (below_expression e) (within_arms arms) (expression_nodes e f.0) (arms_nodes arms f.2))
  expression_nodes (plain.loop s l b) f = (f.1, body_nodes b f.1)
  expression_nodes (plain.while s l c b) f = (f.1, both (below_expression c) (a_block b ∷ below_block b) (expression_nodes c f.1) (f.2, body_nodes b f.2))
  expression_nodes (plain.while_let s l p e b) f = (
    tt,
    both (below_pattern p) (an_expression e ∷ (below_expression e ++ (a_block b ∷ below_block b))) (pattern_nodes p)
        (f.2, both (below_expression e) (a_block b ∷ below_block b) (expression_nodes e f.2) (f.3, body_nodes b f.3)),
  )
  expression_nodes (plain.break s l) f = tt
  expression_nodes (plain.continue s l) f = tt
  expression_nodes (plain.return s o) f = optional_nodes o f

  list_nodes : (es : Expressions) → FormedList es → All (within_expressions es)
  list_nodes plain.no_expression f = tt
  list_nodes (plain.expression_and e es) f = (f.0, both (below_expression e) (within_expressions es) (expression_nodes e f.0) (list_nodes es f.1))

  pub optional_nodes : (o : OptionalExpression) → FormedOptional o → All (within_optional o)
  optional_nodes plain.absent f = tt
  optional_nodes (plain.present e) f = (f, expression_nodes e f)

  else_nodes : (o : OptionalExpression) → FormedElse o → All (within_optional o)
  else_nodes plain.absent f = tt
  else_nodes (plain.present e) f = (f.1, expression_nodes e f.1)

  arguments_nodes : (es : OptionalExpressions) → FormedOptionalList es → All (within_arguments es)
  arguments_nodes plain.no_list f = tt
  arguments_nodes (plain.a_list es) f = list_nodes es f.1

  fields_nodes : (fs : FieldExpressions) → FormedFields fs → All (within_fields fs)
  fields_nodes plain.no_field f = tt
  fields_nodes (plain.field_and n e fs) f = (f.1, both (below_expression e) (within_fields fs) (expression_nodes e f.1) (fields_nodes fs f.2))

  arms_nodes : (arms : Arms) → FormedArms arms → All (within_arms arms)
  arms_nodes plain.no_arm f = tt
  arms_nodes (plain.arm_and p e rest) f = (
    tt,
    both (below_pattern p) (an_expression e ∷ (below_expression e ++ within_arms rest)) (pattern_nodes p)
        (f.1, both (below_expression e) (within_arms rest) (expression_nodes e f.1) (arms_nodes rest f.2)),
  )

  pub body_nodes : (b : Body) → FormedBody b → All (below_block b)
  body_nodes (plain.body s ss o) f = both (within_statements ss) (within_optional o) (statements_nodes ss o f.0) (optional_nodes o f.1)

  pub statement_nodes : (a : Statement) → FormedStatement a → All (below_statement a)
  statement_nodes (plain.let_statement s p t o) f = (
    tt,
    both (below_pattern p) (within_type t ++ within_optional o) (pattern_nodes p)
        (both (within_type t) (within_optional o) (written_nodes t f.2) (optional_nodes o f.3)),
  )
  statement_nodes (plain.expression_statement s e b) f = (f.1, expression_nodes e f.1)

  pub statements_nodes : (ss : Statements) (o : OptionalExpression) → FormedStatements ss o → All (within_statements ss)
  statements_nodes plain.no_statement o f = tt
  statements_nodes (plain.statement_and a ss) o f =
      (f.0, both (below_statement a) (within_statements ss) (statement_nodes a f.0) (statements_nodes ss o f.2))
