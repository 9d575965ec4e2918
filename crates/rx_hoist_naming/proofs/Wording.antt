-- The names that a formed program declares are words, and so are those of its structs and enums.
use Rattle.std.proofs.Common.{◌≡◌, ℕ, zero, suc, true, List, [], ◌∷◌, ◌++◌, map, Option, Some, None, slice_get, sym, subst}
use Rattle.rx_core.specs.declared.types.Kind.{Kind}
use Rattle.rx_tree.specs.Plain as plain
use Rattle.rx_tree.specs.Plain.{TypeTree, TypeTrees, PatternTree, PatternTrees, FieldPatterns, Expression, Expressions, OptionalExpression, OptionalExpressions, FieldExpressions, Arms, Body, Statement, Statements, Parameter, FieldOf, VariantOf, ItemTree, ProgramTree}
use Rattle.rx_tree.specs.Lists.{Every}
use Rattle.rx_tree.specs.Positions.{NodeTree, a_block, an_expression, a_pattern}
use Rattle.rx_tree.specs.Nodes.{below_type, within_types, within_type, below_pattern, within_patterns, within_field_patterns, below_expression, within_expressions, within_optional, within_arguments, within_fields, within_arms, below_block, below_statement, within_statements, within_declared, within_variants, within_parameters}
use Rattle.rx_typed.specs.Types.{Shapes, Typ, integer, boolean, tuple_of, reference, named, no_shape, shape_and}
use Rattle.rx_print_spelling.specs.Formed.{Spells, FormedPattern, FormedPatterns, FormedFieldPatterns, Formed, FormedList, FormedOptionalList, FormedFields, FormedOptional, FormedElse, FormedArms, FormedBody, FormedStatement, FormedStatements, FormedParameter, FormedItem, FormedProgram}
use Rattle.rx_hoist_extraction.specs.WrittenTypes.{name_of}
use Rattle.rx_hoist_extraction.specs.FormedPlan.{TypeSpells, TypesSpell}
use Rattle.rx_hoist_nodes.specs.Nodes.{nodes_of}
use Rattle.rx_hoist_naming.specs.DeclaredNames.{names_bound, parameter_names, declared_names}
use Rattle.rx_hoist_naming.specs.Words.{is_type_item, NamesTypes, NameTypes}
use Rattle.rx_hoist_naming.proofs.Good.{every_append}
use Rattle.rx_hoist_naming.proofs.Steps.{bound_append}

-- the names that nodes bind are words
abbrev Words : List NodeTree → Type 0
Words ns = Every Spells (names_bound ns)

both : (a b : List NodeTree) → Words a → Words b → Words (a ++ b)
both a b g h = subst (λ (l : List (List ℕ)). Every Spells l) (sym (bound_append a b)) (every_append Spells (names_bound a) (names_bound b) g h)

mutual
  type_words : (t : TypeTree) → Words (below_type t)
  type_words (plain.kind_type s k) = tt
  type_words (plain.bool_type s) = tt
  type_words (plain.tuple_type s ts) = types_words ts
  type_words (plain.ref_type s l m t) = type_words t
  type_words (plain.named_type s n ls) = tt

  types_words : (ts : TypeTrees) → Words (within_types ts)
  types_words plain.no_type = tt
  types_words (plain.type_and t ts) = both (below_type t) (within_types ts) (type_words t) (types_words ts)

optional_type_words : (t : Option TypeTree) → Words (within_type t)
optional_type_words None = tt
optional_type_words (Some t) = type_words t

mutual
  pattern_words : (p : PatternTree) → FormedPattern p → Words (a_pattern p ∷ below_pattern p)
  pattern_words (plain.wild s) f = tt
  pattern_words (plain.bind s n m) f = (f, tt)
  pattern_words (plain.int_pattern s g v k) f = tt
  pattern_words (plain.bool_pattern s b) f = tt
  pattern_words (plain.tuple_pattern s ps) f = patterns_words ps f
  pattern_words (plain.variant_pattern s a v ps) f = patterns_words ps f.2
  pattern_words (plain.make_pattern s n fs) f = field_patterns_words fs f.1

  patterns_words : (ps : PatternTrees) → FormedPatterns ps → Words (within_patterns ps)
  patterns_words plain.no_pattern f = tt
  patterns_words (plain.pattern_and p ps) f = both (a_pattern p ∷ below_pattern p) (within_patterns ps) (pattern_words p f.0) (patterns_words ps f.1)

  field_patterns_words : (fs : FieldPatterns) → FormedFieldPatterns fs → Words (within_field_patterns fs)
  field_patterns_words plain.no_field_pattern f = tt
  field_patterns_words (plain.field_pattern_and n p fs) f = both (a_pattern p ∷ below_pattern p) (within_field_patterns fs) (pattern_words p f.1) (field_patterns_words fs f.2)

mutual
  words : (e : Expression) → Formed e → Words (below_expression e)
  words (plain.int s v k) f = tt
  words (plain.bool s b) f = tt
  words (plain.tuple s es) f = list_words es f
  words (plain.var s x) f = tt
  words (plain.field s e n) f = words e f.0
  words (plain.part s e i) f = words e f.0
  words (plain.deref s e) f = words e f
  words (plain.negate s e) f = words e f
  words (plain.invert s e) f = words e f
  words (plain.borrow s m e) f = words e f
  words (plain.binary s o a b) f = both (below_expression a) (an_expression b ∷ below_expression b) (words a f.0) (words b f.1)
  words (plain.assign s a b) f = both (below_expression a) (an_expression b ∷ below_expression b) (words a f.0) (words b f.1)
  words (plain.update s o a b) f = both (below_expression a) (an_expression b ∷ below_expression b) (words a f.0) (words b f.1)
  words (plain.call s g es) f = list_words es f.1
  words (plain.next_input s) f = tt
  words (plain.variant s a v es) f = arguments_words es f.2
  words (plain.make s n fs) f = fields_words fs f.1
  words (plain.print s e) f = words e f
  words (plain.block s b) f = body_words b f
  words (plain.if s c b y) f = both (below_expression c) (a_block b ∷ (below_block b ++ within_optional y)) (words c f.0) (both (below_block b) (within_optional y) (body_words b f.1) (else_words y f.2))
  words (plain.if_let s p e b y) f =
      both (a_pattern p ∷ below_pattern p) (an_expression e ∷ (below_expression e ++ (a_block b ∷ (below_block b ++ within_optional y)))) (pattern_words p f.0)
      (both (below_expression e) (a_block b ∷ (below_block b ++ within_optional y)) (words e f.1) (both (below_block b) (within_optional y) (body_words b f.2) (else_words y f.3)))
  words (plain.match s e l) f = both (below_expression e) (within_arms l) (words e f.0) (arms_words l f.2)
  words (plain.loop s l b) f = body_words b f.1
  words (plain.while s l c b) f = both (below_expression c) (a_block b ∷ below_block b) (words c f.1) (body_words b f.2)
  words (plain.while_let s l p e b) f =
      both (a_pattern p ∷ below_pattern p) (an_expression e ∷ (below_expression e ++ (a_block b ∷ below_block b))) (pattern_words p f.1) (both (below_expression e) (a_block b ∷ below_block b) (words e f.2) (body_words b f.3))
  words (plain.break s l) f = tt
  words (plain.continue s l) f = tt
  words (plain.return s y) f = optional_words y f

  list_words : (es : Expressions) → FormedList es → Words (within_expressions es)
  list_words plain.no_expression f = tt
  list_words (plain.expression_and e es) f = both (below_expression e) (within_expressions es) (words e f.0) (list_words es f.1)

  optional_words : (o : OptionalExpression) → FormedOptional o → Words (within_optional o)
  optional_words plain.absent f = tt
  optional_words (plain.present e) f = words e f

  else_words : (o : OptionalExpression) → FormedElse o → Words (within_optional o)
  else_words plain.absent f = tt
  else_words (plain.present e) f = words e f.1

  arguments_words : (o : OptionalExpressions) → FormedOptionalList o → Words (within_arguments o)
  arguments_words plain.no_list f = tt
  arguments_words (plain.a_list es) f = list_words es f.1

  fields_words : (fs : FieldExpressions) → FormedFields fs → Words (within_fields fs)
  fields_words plain.no_field f = tt
  fields_words (plain.field_and n e fs) f = both (below_expression e) (within_fields fs) (words e f.1) (fields_words fs f.2)

  arms_words : (l : Arms) → FormedArms l → Words (within_arms l)
  arms_words plain.no_arm f = tt
  arms_words (plain.arm_and p e rest) f =
      both (a_pattern p ∷ below_pattern p) (an_expression e ∷ (below_expression e ++ within_arms rest)) (pattern_words p f.0) (both (below_expression e) (within_arms rest) (words e f.1) (arms_words rest f.2))

  body_words : (b : Body) → FormedBody b → Words (below_block b)
  body_words (plain.body s ss y) f = both (within_statements ss) (within_optional y) (statements_words ss y f.0) (optional_words y f.1)

  statement_words : (a : Statement) → FormedStatement a → Words (below_statement a)
  statement_words (plain.let_statement s p t i) f =
      both (a_pattern p ∷ below_pattern p) (within_type t ++ within_optional i) (pattern_words p f.1) (both (within_type t) (within_optional i) (optional_type_words t) (optional_words i f.3))
  statement_words (plain.expression_statement s e b) f = words e f.1

  statements_words : (ss : Statements) (y : OptionalExpression) → FormedStatements ss y → Words (within_statements ss)
  statements_words plain.no_statement y f = tt
  statements_words (plain.statement_and a ss) y f = both (below_statement a) (within_statements ss) (statement_words a f.0) (statements_words ss y f.2)

-- ---- items

declared_words : (fs : List FieldOf) → Words (within_declared fs)
declared_words [] = tt
declared_words (f ∷ fs) = both (below_type f.typ) (within_declared fs) (type_words f.typ) (declared_words fs)

variants_words : (vs : List VariantOf) → Words (within_variants vs)
variants_words [] = tt
variants_words (v ∷ vs) = both (within_types v.types) (within_variants vs) (types_words v.types) (variants_words vs)

parameters_words : (xs : List Parameter) → Words (within_parameters xs)
parameters_words [] = tt
parameters_words (x ∷ xs) = both (below_type x.typ) (within_parameters xs) (type_words x.typ) (parameters_words xs)

parameters_named : (xs : List Parameter) → Every FormedParameter xs → Every Spells (map (λ (x : Parameter). x.name.name) xs)
parameters_named [] f = tt
parameters_named (x ∷ xs) f = (f.0.0, parameters_named xs f.1)

item_words : (i : ItemTree) → FormedItem i → Every Spells (declared_names (Some i))
item_words (plain.rt_item s r) f = tt
item_words (plain.struct_item s x) f = declared_words x.fields
item_words (plain.enum_item s x) f = variants_words x.variants
item_words (plain.function_item s g) f =
    every_append Spells (parameter_names (Some (plain.function_item s g))) (names_bound (nodes_of (Some (plain.function_item s g)))) (parameters_named g.params f.2)
    (both (within_parameters g.params) (within_type g.result ++ (a_block g.body ∷ below_block g.body)) (parameters_words g.params)
    (both (within_type g.result) (a_block g.body ∷ below_block g.body) (optional_type_words g.result) (body_words g.body f.4)))

-- the names that an item of a formed program declares
pub program_words : (P : ProgramTree) → FormedProgram P → (n : ℕ) → Every Spells (declared_names (slice_get P n))
program_words [] f n = tt
program_words (i ∷ P) f zero = item_words i f.0
program_words (i ∷ P) f (suc n) = program_words P f.1 n

-- ---- types

item_named : (P : ProgramTree) → FormedProgram P → (n : ℕ) → is_type_item (slice_get P n) ≡ true → Spells (name_of P n)
item_named [] f n e = absurd (cc)
item_named (plain.rt_item s r ∷ P) f zero e = absurd (cc)
item_named (plain.struct_item s d ∷ P) f zero e = f.0.0
item_named (plain.enum_item s d ∷ P) f zero e = f.0.0
item_named (plain.function_item s g ∷ P) f zero e = absurd (cc)
item_named (i ∷ P) f (suc n) e = item_named P f.1 n e

mutual
  pub type_spelled : (P : ProgramTree) → FormedProgram P → (t : Typ) → NamesTypes P t → TypeSpells P t
  type_spelled P f (integer k) h = tt
  type_spelled P f boolean h = tt
  type_spelled P f (tuple_of ts) h = types_spelled P f ts h
  type_spelled P f (reference m t) h = type_spelled P f t h
  type_spelled P f (named i) h = item_named P f i h

  types_spelled : (P : ProgramTree) → FormedProgram P → (ts : Shapes Kind) → NameTypes P ts → TypesSpell P ts
  types_spelled P f no_shape h = tt
  types_spelled P f (shape_and t ts) h = (type_spelled P f t h.0, types_spelled P f ts h.1)
