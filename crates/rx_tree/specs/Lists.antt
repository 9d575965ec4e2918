-- The lists of plain trees as lists, and the places of items.
use Rattle.std.specs.Prelude.{ℕ, zero, suc, List, [], ◌∷◌, Option, Some, None}
use Rattle.rx_core.specs.declared.types.Span.{Span}
use Rattle.rx_tree.specs.Plain as plain
use Rattle.rx_tree.specs.declared.tree.Ident.{Ident}
use Rattle.rx_tree.specs.Plain.{TypeTree, TypeTrees, PatternTree, PatternTrees, FieldPatterns, Expression, Expressions, OptionalExpression, OptionalExpressions, FieldExpressions, Arms, Statement, Statements, Body}

abbrev pub listed_types : TypeTrees → List TypeTree
listed_types plain.no_type = []
listed_types (plain.type_and t ts) = t ∷ listed_types ts

abbrev pub listed_patterns : PatternTrees → List PatternTree
listed_patterns plain.no_pattern = []
listed_patterns (plain.pattern_and p ps) = p ∷ listed_patterns ps

abbrev pub listed_field_patterns : FieldPatterns → List (Ident × PatternTree)
listed_field_patterns plain.no_field_pattern = []
listed_field_patterns (plain.field_pattern_and n p fs) = (n, p) ∷ listed_field_patterns fs

abbrev pub listed_expressions : Expressions → List Expression
listed_expressions plain.no_expression = []
listed_expressions (plain.expression_and e es) = e ∷ listed_expressions es

abbrev pub listed_optional : OptionalExpression → Option Expression
listed_optional plain.absent = None
listed_optional (plain.present e) = Some e

abbrev pub listed_arguments : OptionalExpressions → Option (List Expression)
listed_arguments plain.no_list = None
listed_arguments (plain.a_list es) = Some (listed_expressions es)

abbrev pub listed_fields : FieldExpressions → List (Ident × Expression)
listed_fields plain.no_field = []
listed_fields (plain.field_and n e fs) = (n, e) ∷ listed_fields fs

abbrev pub listed_arms : Arms → List (PatternTree × Expression)
listed_arms plain.no_arm = []
listed_arms (plain.arm_and p e rest) = (p, e) ∷ listed_arms rest

abbrev pub listed : Statements → List Statement
listed plain.no_statement = []
listed (plain.statement_and a ss) = a ∷ listed ss

abbrev pub statements : Body → List Statement
statements (plain.body s ss t) = listed ss

abbrev pub tail : Body → OptionalExpression
tail (plain.body s ss t) = t

abbrev pub statement_span : Statement → Span
statement_span (plain.let_statement s p t i) = s
statement_span (plain.expression_statement s e b) = s

-- what stands at a place, counted from 0
abbrev pub nth : {A : Type 0} → List A → ℕ → Option A
nth [] n = None
nth (x ∷ xs) zero = Some x
nth (x ∷ xs) (suc n) = nth xs n

-- a fact of each of a list
abbrev pub Every : {A : Type 0} → (A → Type 0) → List A → Type 0
Every P [] = Unit {0}
Every P (x ∷ xs) = P x × Every P xs
