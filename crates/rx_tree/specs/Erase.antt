-- Plain trees without their spans: two trees are equal apart from spans where these are equal.
use Rattle.std.specs.Prelude.{◌≡◌, Option, map, option_map}
use Rattle.rx_core.specs.declared.types.Span.{Span}
use Rattle.rx_tree.specs.declared.tree.Ident.{Ident}
use Rattle.rx_tree.specs.declared.tree.BoundLifetime.{BoundLifetime}
use Rattle.rx_tree.specs.Plain.{TypeTree, TypeTrees, PatternTree, PatternTrees, FieldPatterns, Expression, Expressions, OptionalExpression, OptionalExpressions, FieldExpressions, Arms, Body, Statement, Statements, Parameter, Function, FieldOf, Structure, VariantOf, Enumeration, ItemTree, ProgramTree}
use Rattle.rx_tree.specs.Plain as plain

abbrev pub nowhere : Span
nowhere = record { start = 0; end = 0 }

abbrev pub erase_ident : Ident → Ident
erase_ident i = record { span = nowhere; name = i.name }

abbrev pub erase_label : Option Ident → Option Ident
erase_label = option_map erase_ident

abbrev mutual
  pub erase_type : TypeTree → TypeTree
  erase_type (plain.kind_type s k) = plain.kind_type nowhere k
  erase_type (plain.bool_type s) = plain.bool_type nowhere
  erase_type (plain.tuple_type s ts) = plain.tuple_type nowhere (erase_types ts)
  erase_type (plain.ref_type s l m t) = plain.ref_type nowhere (erase_label l) m (erase_type t)
  erase_type (plain.named_type s n ls) = plain.named_type nowhere (erase_ident n) (option_map (map erase_label) ls)

  pub erase_types : TypeTrees → TypeTrees
  erase_types plain.no_type = plain.no_type
  erase_types (plain.type_and t ts) = plain.type_and (erase_type t) (erase_types ts)

abbrev mutual
  pub erase_pattern : PatternTree → PatternTree
  erase_pattern (plain.wild s) = plain.wild nowhere
  erase_pattern (plain.bind s n m) = plain.bind nowhere (erase_ident n) m
  erase_pattern (plain.int_pattern s g v k) = plain.int_pattern nowhere g v k
  erase_pattern (plain.bool_pattern s b) = plain.bool_pattern nowhere b
  erase_pattern (plain.tuple_pattern s ps) = plain.tuple_pattern nowhere (erase_patterns ps)
  erase_pattern (plain.variant_pattern s a v ps) = plain.variant_pattern nowhere (erase_ident a) (erase_ident v) (erase_patterns ps)
  erase_pattern (plain.make_pattern s n fs) = plain.make_pattern nowhere (erase_ident n) (erase_field_patterns fs)

  pub erase_patterns : PatternTrees → PatternTrees
  erase_patterns plain.no_pattern = plain.no_pattern
  erase_patterns (plain.pattern_and p ps) = plain.pattern_and (erase_pattern p) (erase_patterns ps)

  pub erase_field_patterns : FieldPatterns → FieldPatterns
  erase_field_patterns plain.no_field_pattern = plain.no_field_pattern
  erase_field_patterns (plain.field_pattern_and n p fs) = plain.field_pattern_and (erase_ident n) (erase_pattern p) (erase_field_patterns fs)

abbrev mutual
  pub erase : Expression → Expression
  erase (plain.int s v k) = plain.int nowhere v k
  erase (plain.bool s b) = plain.bool nowhere b
  erase (plain.tuple s es) = plain.tuple nowhere (erase_all es)
  erase (plain.var s x) = plain.var nowhere x
  erase (plain.field s e n) = plain.field nowhere (erase e) (erase_ident n)
  erase (plain.part s e i) = plain.part nowhere (erase e) i
  erase (plain.deref s e) = plain.deref nowhere (erase e)
  erase (plain.negate s e) = plain.negate nowhere (erase e)
  erase (plain.invert s e) = plain.invert nowhere (erase e)
  erase (plain.borrow s m e) = plain.borrow nowhere m (erase e)
  erase (plain.binary s o a b) = plain.binary nowhere o (erase a) (erase b)
  erase (plain.assign s a b) = plain.assign nowhere (erase a) (erase b)
  erase (plain.update s o a b) = plain.update nowhere o (erase a) (erase b)
  erase (plain.call s f es) = plain.call nowhere (erase_ident f) (erase_all es)
  erase (plain.next_input s) = plain.next_input nowhere
  erase (plain.variant s a v es) = plain.variant nowhere (erase_ident a) (erase_ident v) (erase_optional_list es)
  erase (plain.make s n fs) = plain.make nowhere (erase_ident n) (erase_fields fs)
  erase (plain.print s e) = plain.print nowhere (erase e)
  erase (plain.block s b) = plain.block nowhere (erase_body b)
  erase (plain.if s c b o) = plain.if nowhere (erase c) (erase_body b) (erase_optional o)
  erase (plain.if_let s p e b o) = plain.if_let nowhere (erase_pattern p) (erase e) (erase_body b) (erase_optional o)
  erase (plain.match s e as') = plain.match nowhere (erase e) (erase_arms as')
  erase (plain.loop s l b) = plain.loop nowhere (erase_label l) (erase_body b)
  erase (plain.while s l c b) = plain.while nowhere (erase_label l) (erase c) (erase_body b)
  erase (plain.while_let s l p e b) = plain.while_let nowhere (erase_label l) (erase_pattern p) (erase e) (erase_body b)
  erase (plain.break s l) = plain.break nowhere (erase_label l)
  erase (plain.continue s l) = plain.continue nowhere (erase_label l)
  erase (plain.return s o) = plain.return nowhere (erase_optional o)

  pub erase_all : Expressions → Expressions
  erase_all plain.no_expression = plain.no_expression
  erase_all (plain.expression_and e es) = plain.expression_and (erase e) (erase_all es)

  pub erase_optional : OptionalExpression → OptionalExpression
  erase_optional plain.absent = plain.absent
  erase_optional (plain.present e) = plain.present (erase e)

  pub erase_optional_list : OptionalExpressions → OptionalExpressions
  erase_optional_list plain.no_list = plain.no_list
  erase_optional_list (plain.a_list es) = plain.a_list (erase_all es)

  pub erase_fields : FieldExpressions → FieldExpressions
  erase_fields plain.no_field = plain.no_field
  erase_fields (plain.field_and n e fs) = plain.field_and (erase_ident n) (erase e) (erase_fields fs)

  pub erase_arms : Arms → Arms
  erase_arms plain.no_arm = plain.no_arm
  erase_arms (plain.arm_and p e rest) = plain.arm_and (erase_pattern p) (erase e) (erase_arms rest)

  pub erase_body : Body → Body
  erase_body (plain.body s ss t) = plain.body nowhere (erase_statements ss) (erase_optional t)

  pub erase_statement : Statement → Statement
  erase_statement (plain.let_statement s p t i) = plain.let_statement nowhere (erase_pattern p) (option_map erase_type t) (erase_optional i)
  erase_statement (plain.expression_statement s e b) = plain.expression_statement nowhere (erase e) b

  pub erase_statements : Statements → Statements
  erase_statements plain.no_statement = plain.no_statement
  erase_statements (plain.statement_and a rest) = plain.statement_and (erase_statement a) (erase_statements rest)

abbrev pub erase_lifetime : BoundLifetime → BoundLifetime
erase_lifetime l = record { name = erase_ident l.name; bounds = map erase_ident l.bounds }

abbrev pub erase_parameter : Parameter → Parameter
erase_parameter x = record { name = erase_ident x.name; mutable = x.mutable; typ = erase_type x.typ }

abbrev pub erase_function : Function → Function
erase_function f = record {
  name = erase_ident f.name;
  lifetimes = map erase_lifetime f.lifetimes;
  params = map erase_parameter f.params;
  result = option_map erase_type f.result;
  body = erase_body f.body;
}

abbrev pub erase_field : FieldOf → FieldOf
erase_field f = record { name = erase_ident f.name; typ = erase_type f.typ }

abbrev pub erase_structure : Structure → Structure
erase_structure x = record { name = erase_ident x.name; derives = x.derives; lifetimes = map erase_ident x.lifetimes; fields = map erase_field x.fields }

abbrev pub erase_variant : VariantOf → VariantOf
erase_variant v = record { name = erase_ident v.name; types = erase_types v.types }

abbrev pub erase_enumeration : Enumeration → Enumeration
erase_enumeration x = record { name = erase_ident x.name; derives = x.derives; lifetimes = map erase_ident x.lifetimes; variants = map erase_variant x.variants }

abbrev pub erase_item : ItemTree → ItemTree
erase_item (plain.rt_item s r) = plain.rt_item nowhere nowhere
erase_item (plain.struct_item s x) = plain.struct_item nowhere (erase_structure x)
erase_item (plain.enum_item s x) = plain.enum_item nowhere (erase_enumeration x)
erase_item (plain.function_item s f) = plain.function_item nowhere (erase_function f)

abbrev pub erase_program : ProgramTree → ProgramTree
erase_program = map erase_item

-- equal apart from spans
abbrev pub SameProgram : ProgramTree → ProgramTree → Type 0
SameProgram p q = erase_program p ≡ erase_program q
