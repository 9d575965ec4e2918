-- The parts of trees as productions have them, without their spans: lists of types, patterns, fields, arguments, arms and statements,
-- and what an `if` or a `while` tests.
use Rattle.std.specs.Prelude.{List}
use Rattle.rx_tree.specs.declared.tree.Ident.{Ident}
use Rattle.rx_tree.specs.Plain as plain
use Rattle.rx_tree.specs.Plain.{TypeTree, PatternTree, Expression, OptionalExpression, Statement}
use Rattle.rx_tree.specs.PlainOf.{types_of, patterns_of, field_patterns_of, expressions_of, field_expressions_of, arms_of, statements_of}
use Rattle.rx_tree.specs.Erase.{erase, erase_ident, erase_types, erase_pattern, erase_patterns, erase_field_patterns, erase_all, erase_fields, erase_arms, erase_statements, erase_optional}
use Rattle.rx_parse_grammar.specs.grammar.Expressions.{Test, condition, fitting}

abbrev pub erased_types : List TypeTree → plain.TypeTrees
erased_types ys = erase_types (types_of ys)

abbrev pub erased_patterns : List PatternTree → plain.PatternTrees
erased_patterns ys = erase_patterns (patterns_of ys)

abbrev pub erased_field_pattern : Ident × PatternTree → Ident × PatternTree
erased_field_pattern f = (erase_ident f.0, erase_pattern f.1)

abbrev pub erased_field_patterns : List (Ident × PatternTree) → plain.FieldPatterns
erased_field_patterns fs = erase_field_patterns (field_patterns_of fs)

abbrev pub erased_arguments : List Expression → plain.Expressions
erased_arguments xs = erase_all (expressions_of xs)

abbrev pub erased_field : Ident × Expression → Ident × Expression
erased_field f = (erase_ident f.0, erase f.1)

abbrev pub erased_fields : List (Ident × Expression) → plain.FieldExpressions
erased_fields fs = erase_fields (field_expressions_of fs)

abbrev pub erased_arms : List (PatternTree × Expression) → plain.Arms
erased_arms arms = erase_arms (arms_of arms)

abbrev pub erased_test : Test → Test
erased_test (condition x) = condition (erase x)
erased_test (fitting p x) = fitting (erase_pattern p) (erase x)

-- what stands between the braces of a block
abbrev pub Within : Type 0
Within = List Statement × OptionalExpression

abbrev pub erased_within : Within → plain.Statements × OptionalExpression
erased_within w = (erase_statements (statements_of w.0), erase_optional w.1)
