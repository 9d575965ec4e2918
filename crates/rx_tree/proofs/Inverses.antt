-- The lists of plain trees and lists are each other's inverses; of statements, see ListsLemmas.
use Rattle.std.specs.Prelude.{◌≡◌, List, [], ◌∷◌, Option, Some, None, refl}
use Rattle.std.proofs.Common.{ap}
use Rattle.rx_tree.specs.declared.tree.Ident.{Ident}
use Rattle.rx_tree.specs.Plain as plain
use Rattle.rx_tree.specs.Plain.{TypeTree, TypeTrees, PatternTree, PatternTrees, FieldPatterns, Expression, Expressions, OptionalExpression, OptionalExpressions, FieldExpressions, Arms}
use Rattle.rx_tree.specs.PlainOf.{types_of, patterns_of, field_patterns_of, expressions_of, optional_of, optional_list_of, field_expressions_of, arms_of}
use Rattle.rx_tree.specs.Lists.{listed_types, listed_patterns, listed_field_patterns, listed_expressions, listed_optional, listed_arguments, listed_fields, listed_arms}

-- ---- back to the tree

pub types_back : (ts : TypeTrees) → types_of (listed_types ts) ≡ ts
types_back plain.no_type = refl
types_back (plain.type_and t ts) = ap (plain.type_and t) (types_back ts)

pub patterns_back : (ps : PatternTrees) → patterns_of (listed_patterns ps) ≡ ps
patterns_back plain.no_pattern = refl
patterns_back (plain.pattern_and p ps) = ap (plain.pattern_and p) (patterns_back ps)

pub field_patterns_back : (fs : FieldPatterns) → field_patterns_of (listed_field_patterns fs) ≡ fs
field_patterns_back plain.no_field_pattern = refl
field_patterns_back (plain.field_pattern_and n p fs) = ap (plain.field_pattern_and n p) (field_patterns_back fs)

pub expressions_back : (es : Expressions) → expressions_of (listed_expressions es) ≡ es
expressions_back plain.no_expression = refl
expressions_back (plain.expression_and e es) = ap (plain.expression_and e) (expressions_back es)

pub optional_back : (o : OptionalExpression) → optional_of (listed_optional o) ≡ o
optional_back plain.absent = refl
optional_back (plain.present e) = refl

pub arguments_back : (o : OptionalExpressions) → optional_list_of (listed_arguments o) ≡ o
arguments_back plain.no_list = refl
arguments_back (plain.a_list es) = ap plain.a_list (expressions_back es)

pub fields_back : (fs : FieldExpressions) → field_expressions_of (listed_fields fs) ≡ fs
fields_back plain.no_field = refl
fields_back (plain.field_and n e fs) = ap (plain.field_and n e) (fields_back fs)

pub arms_back : (l : Arms) → arms_of (listed_arms l) ≡ l
arms_back plain.no_arm = refl
arms_back (plain.arm_and p e rest) = ap (plain.arm_and p e) (arms_back rest)

-- ---- back to the list

pub listed_types_of : (l : List TypeTree) → listed_types (types_of l) ≡ l
listed_types_of [] = refl
listed_types_of (x ∷ xs) = ap (λ l. x ∷ l) (listed_types_of xs)

pub listed_patterns_of : (l : List PatternTree) → listed_patterns (patterns_of l) ≡ l
listed_patterns_of [] = refl
listed_patterns_of (x ∷ xs) = ap (λ l. x ∷ l) (listed_patterns_of xs)

pub listed_field_patterns_of : (l : List (Ident × PatternTree)) → listed_field_patterns (field_patterns_of l) ≡ l
listed_field_patterns_of [] = refl
listed_field_patterns_of (x ∷ xs) = ap (λ l. x ∷ l) (listed_field_patterns_of xs)

pub listed_expressions_of : (l : List Expression) → listed_expressions (expressions_of l) ≡ l
listed_expressions_of [] = refl
listed_expressions_of (x ∷ xs) = ap (λ l. x ∷ l) (listed_expressions_of xs)

pub listed_optional_of : (o : Option Expression) → listed_optional (optional_of o) ≡ o
listed_optional_of None = refl
listed_optional_of (Some e) = refl

pub listed_arguments_of : (o : Option (List Expression)) → listed_arguments (optional_list_of o) ≡ o
listed_arguments_of None = refl
listed_arguments_of (Some l) = ap Some (listed_expressions_of l)

pub listed_fields_of : (l : List (Ident × Expression)) → listed_fields (field_expressions_of l) ≡ l
listed_fields_of [] = refl
listed_fields_of (x ∷ xs) = ap (λ l. x ∷ l) (listed_fields_of xs)

pub listed_arms_of : (l : List (PatternTree × Expression)) → listed_arms (arms_of l) ≡ l
listed_arms_of [] = refl
listed_arms_of (x ∷ xs) = ap (λ l. x ∷ l) (listed_arms_of xs)
