-- The levels of a tree's canonical text, and whether the tree is formed, are the same for trees that are equal apart from spans: by recursion on the tree.
use Rattle.std.proofs.Common.{◌≡◌, Option, Some, None, refl, sym, ap, ◌∙◌}
use Rattle.std.specs.Prelude.{option_map}
use Rattle.rx_tree.specs.Plain as plain
use Rattle.rx_tree.specs.Plain.{TypeTree, TypeTrees, PatternTree, PatternTrees, FieldPatterns, Expression, Expressions, OptionalExpression, OptionalExpressions, FieldExpressions, Arms, Body, Statement, Statements, Parameter, FieldOf, VariantOf, ItemTree, ProgramTree}
use Rattle.rx_tree.specs.Erase.{erase, erase_all, erase_optional, erase_optional_list, erase_fields, erase_arms, erase_body, erase_statement, erase_statements, erase_type, erase_types, erase_pattern, erase_patterns, erase_field_patterns, erase_parameter, erase_field, erase_variant, erase_item, erase_program, SameProgram}
use Rattle.rx_print_spelling.specs.Places.{weakness}
use Rattle.rx_print_spelling.specs.Levels.{deepest, type_levels, types_levels, written_levels, pattern_levels, patterns_levels, field_patterns_levels, expression_levels, list_levels, optional_list_levels, fields_levels, optional_levels, arms_levels, block_levels, tail_levels, statement_levels, statements_levels, field_levels, variant_levels, parameter_levels, item_levels, levels_of}
use Rattle.rx_print_spelling.proofs.SameText.{alike, same_unfit, same_more, same_map}

mutual
  same_type : (t : TypeTree) → type_levels (erase_type t) ≡ type_levels t
  same_type (plain.kind_type s k) = refl
  same_type (plain.bool_type s) = refl
  same_type (plain.tuple_type s ts) = rw (same_types ts) refl
  same_type (plain.ref_type s l m t) = rw (same_type t) refl
  same_type (plain.named_type s n ls) = refl

  same_types : (ts : TypeTrees) → types_levels (erase_types ts) ≡ types_levels ts
  same_types plain.no_type = refl
  same_types (plain.type_and t ts) = rw (same_type t, same_types ts) refl

same_written : (t : Option TypeTree) → written_levels (option_map erase_type t) ≡ written_levels t
same_written None = refl
same_written (Some t) = same_type t

mutual
  same_pattern : (p : PatternTree) → pattern_levels (erase_pattern p) ≡ pattern_levels p
  same_pattern (plain.wild s) = refl
  same_pattern (plain.bind s n m) = refl
  same_pattern (plain.int_pattern s g v k) = refl
  same_pattern (plain.bool_pattern s b) = refl
  same_pattern (plain.tuple_pattern s ps) = rw (same_patterns ps) refl
  same_pattern (plain.variant_pattern s a v ps) = rw (same_patterns ps) refl
  same_pattern (plain.make_pattern s n fs) = rw (same_field_patterns fs) refl

  same_patterns : (ps : PatternTrees) → patterns_levels (erase_patterns ps) ≡ patterns_levels ps
  same_patterns plain.no_pattern = refl
  same_patterns (plain.pattern_and p ps) = rw (same_pattern p, same_patterns ps) refl

  same_field_patterns : (fs : FieldPatterns) → field_patterns_levels (erase_field_patterns fs) ≡ field_patterns_levels fs
  same_field_patterns plain.no_field_pattern = refl
  same_field_patterns (plain.field_pattern_and n p fs) = rw (same_pattern p, same_field_patterns fs) refl

same_weakness : (e : Expression) → weakness (erase e) ≡ weakness e
same_weakness e = (alike e).weakness_is

mutual
  same_expression : (e : Expression) → expression_levels (erase e) ≡ expression_levels e
  same_expression (plain.int s v k) = refl
  same_expression (plain.bool s t) = refl
  same_expression (plain.tuple s es) = rw (same_list es) refl
  same_expression (plain.var s x) = refl
  same_expression (plain.field s e n) = rw (same_weakness e, same_expression e) refl
  same_expression (plain.part s e i) = rw (same_weakness e, same_expression e) refl
  same_expression (plain.deref s e) = rw (same_weakness e, same_expression e) refl
  same_expression (plain.negate s e) = rw (same_weakness e, same_expression e) refl
  same_expression (plain.invert s e) = rw (same_weakness e, same_expression e) refl
  same_expression (plain.borrow s m e) = rw (same_weakness e, same_expression e) refl
  same_expression (plain.binary s o x y) = rw (same_weakness x, same_weakness y, same_expression x, same_expression y) refl
  same_expression (plain.assign s x y) = rw (same_weakness x, same_expression x, same_expression y) refl
  same_expression (plain.update s o x y) = rw (same_weakness x, same_expression x, same_expression y) refl
  same_expression (plain.call s n es) = rw (same_list es) refl
  same_expression (plain.next_input s) = refl
  same_expression (plain.variant s a v es) = rw (same_optional_list es) refl
  same_expression (plain.make s n fs) = rw (same_fields fs) refl
  same_expression (plain.print s e) = rw (same_expression e) refl
  same_expression (plain.block s k) = rw (same_block k) refl
  same_expression (plain.if s c k y) = rw (same_unfit 6 c, same_expression c, same_block k, same_optional y) refl
  same_expression (plain.if_let s p e k y) = rw (same_pattern p, same_unfit 4 e, same_expression e, same_block k, same_optional y) refl
  same_expression (plain.match s e as') = rw (same_unfit 6 e, same_expression e, same_arms as') refl
  same_expression (plain.loop s l k) = rw (same_block k) refl
  same_expression (plain.while s l c k) = rw (same_unfit 6 c, same_expression c, same_block k) refl
  same_expression (plain.while_let s l p e k) = rw (same_pattern p, same_unfit 4 e, same_expression e, same_block k) refl
  same_expression (plain.break s l) = refl
  same_expression (plain.continue s l) = refl
  same_expression (plain.return s y) = rw (same_optional y) refl

  same_list : (es : Expressions) → list_levels (erase_all es) ≡ list_levels es
  same_list plain.no_expression = refl
  same_list (plain.expression_and e es) = rw (same_expression e, same_list es) refl

  same_optional_list : (es : OptionalExpressions) → optional_list_levels (erase_optional_list es) ≡ optional_list_levels es
  same_optional_list plain.no_list = refl
  same_optional_list (plain.a_list es) = same_list es

  same_fields : (fs : FieldExpressions) → fields_levels (erase_fields fs) ≡ fields_levels fs
  same_fields plain.no_field = refl
  same_fields (plain.field_and n e fs) = rw (same_expression e, same_fields fs) refl

  same_optional : (y : OptionalExpression) → optional_levels (erase_optional y) ≡ optional_levels y
  same_optional plain.absent = refl
  same_optional (plain.present e) = same_expression e

  same_arms : (as' : Arms) → arms_levels (erase_arms as') ≡ arms_levels as'
  same_arms plain.no_arm = refl
  same_arms (plain.arm_and p e more) = rw (same_pattern p, same_more e, same_expression e, same_arms more) refl

  same_block : (b : Body) → block_levels (erase_body b) ≡ block_levels b
  same_block (plain.body s ss y) = rw (same_statements ss, same_tail y) refl

  same_tail : (y : OptionalExpression) → tail_levels (erase_optional y) ≡ tail_levels y
  same_tail plain.absent = refl
  same_tail (plain.present e) = rw (same_more e, same_expression e) refl

  same_statement : (a : Statement) → statement_levels (erase_statement a) ≡ statement_levels a
  same_statement (plain.let_statement s p t i) = rw (same_pattern p, same_written t, same_optional i) refl
  same_statement (plain.expression_statement s e b) = rw (same_more e, same_expression e) refl

  same_statements : (ss : Statements) → statements_levels (erase_statements ss) ≡ statements_levels ss
  same_statements plain.no_statement = refl
  same_statements (plain.statement_and a ss) = rw (same_statement a, same_statements ss) refl

same_item : (i : ItemTree) → item_levels (erase_item i) ≡ item_levels i
same_item (plain.rt_item s r) = refl
same_item (plain.struct_item s x) = ap deepest (same_map field_levels erase_field (λ f. same_type f.typ) x.fields)
same_item (plain.enum_item s x) = ap deepest (same_map variant_levels erase_variant (λ v. same_types v.types) x.variants)
same_item (plain.function_item s f) =
    rw (same_map parameter_levels erase_parameter (λ x. same_type x.typ) f.params, same_written f.result, same_block f.body) refl

same_program : (p : ProgramTree) → levels_of (erase_program p) ≡ levels_of p
same_program p = ap deepest (same_map item_levels erase_item same_item p)

pub levels_same : (p q : ProgramTree) → SameProgram p q → levels_of p ≡ levels_of q
levels_same p q e = sym (same_program p) ∙ ap levels_of e ∙ same_program q
