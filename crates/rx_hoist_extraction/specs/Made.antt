-- Nodes that an extraction makes, each with the span of the run.
use Rattle.std.specs.Prelude.{ℕ, Bool, true, false, List, [], ◌∷◌, Some, None}
use Rattle.rx_core.specs.declared.types.Span.{Span}
use Rattle.rx_tree.specs.declared.tree.Ident.{Ident}
use Rattle.rx_tree.specs.Plain as plain
use Rattle.rx_tree.specs.Plain.{TypeTree, PatternTree, PatternTrees, Expression, Expressions, OptionalExpression, OptionalExpressions, Statement}

abbrev pub ident : Span → List ℕ → Ident
ident s x = record { span = s; name = x }

abbrev pub binding : Span → List ℕ → Bool → PatternTree
binding s x m = plain.bind s (ident s x) m

abbrev pub as_expressions : List Expression → Expressions
as_expressions [] = plain.no_expression
as_expressions (e ∷ es) = plain.expression_and e (as_expressions es)

abbrev pub as_patterns : List PatternTree → PatternTrees
as_patterns [] = plain.no_pattern
as_patterns (p ∷ ps) = plain.pattern_and p (as_patterns ps)

-- nothing, the one itself, the tuple of more
abbrev pub joined : Span → List Expression → OptionalExpression
joined s [] = plain.absent
joined s (e ∷ []) = plain.present e
joined s (e ∷ f ∷ es) = plain.present (plain.tuple s (as_expressions (e ∷ f ∷ es)))

-- ---- variants: one without fields has no parentheses

abbrev pub given : List Expression → OptionalExpressions
given [] = plain.no_list
given (e ∷ es) = plain.a_list (as_expressions (e ∷ es))

abbrev pub variant : Span → List ℕ → List ℕ → List Expression → Expression
variant s enum v es = plain.variant s (ident s enum) (ident s v) (given es)

abbrev pub variant_pattern : Span → List ℕ → List ℕ → List PatternTree → PatternTree
variant_pattern s enum v ps = plain.variant_pattern s (ident s enum) (ident s v) (as_patterns ps)

-- ---- statements

-- `e;`
abbrev pub done : Span → Expression → Statement
done s e = plain.expression_statement s e true

-- `x = e;`
abbrev pub assignment : Span → List ℕ → Expression → Statement
assignment s x e = done s (plain.assign s (plain.var s x) e)

-- `let P = e;`
abbrev pub let_value : Span → PatternTree → Expression → Statement
let_value s p e = plain.let_statement s p None (plain.present e)

-- `let x: T;`
abbrev pub let_nothing : Span → List ℕ → Bool → TypeTree → Statement
let_nothing s x m t = plain.let_statement s (binding s x m) (Some t) plain.absent

-- `let x: T = e;`
abbrev pub let_typed : Span → List ℕ → TypeTree → Expression → Statement
let_typed s x t e = plain.let_statement s (binding s x false) (Some t) (plain.present e)
