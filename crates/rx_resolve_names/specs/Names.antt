-- The numbers of all names, in the order of the text (Rust Reference, "Scopes", "Paths", "Patterns").
use Rattle.std.specs.Prelude.{ℕ, min, ◌+◌, true, List, [], ◌∷◌, length, Option, Some, None, Ok, codes}
use Rattle.rx_core.specs.declared.types.Span.{Span}
use Rattle.rx_tree.specs.declared.tree.Ident.{Ident}
use Rattle.rx_tree.specs.Plain as plain
use Rattle.rx_tree.specs.Plain.{TypeTree, TypeTrees, PatternTree, PatternTrees, FieldPatterns, Expression, Expressions, OptionalExpression, OptionalExpressions, FieldExpressions, Arms, Body, Statement, Statements, Parameter, Function, FieldOf, VariantOf, ItemTree, ProgramTree}
use Rattle.rx_tree.specs.Lists.{listed}
use Rattle.rx_resolve_names.specs.declared.resolved.ItemNames.{ItemNames}
use Rattle.rx_resolve_names.specs.Scopes.{DeclaredNames, Variables, variable_named, entered}
use Rattle.rx_resolve_names.specs.Meant.{number, type_name, function_name, item_named, as_type, as_struct, as_enum, as_rt, as_function, number_in, variants_of, Around, a_loop, a_test, target}
use Rattle.rx_resolve_names.specs.Steps.{Outcome, and_then, Naming, ◌>>◌, nothing, Inside, known, one, both, declare, led, child, next, with_variable, with_loop, with_names, position, entry, names}

-- ---- types

abbrev pub lifetime_in : Inside → Ident → Outcome ℕ
lifetime_in I l = known (number_in I.lifetimes l.name) l.span

-- `'_` names none
abbrev pub lifetimes_in : Inside → List (Option Ident) → Outcome (List ℕ)
lifetimes_in I [] = Ok []
lifetimes_in I (None ∷ ls) = lifetimes_in I ls
lifetimes_in I (Some l ∷ ls) = both (one (lifetime_in I l)) (lifetimes_in I ls)

abbrev pub type_in : Inside → Ident → Outcome ℕ
type_in I x = known (as_type (item_named type_name 0 I.program x.name)) x.span

abbrev pub written : Option (List (Option Ident)) → List (Option Ident)
written None = []
written (Some ls) = ls

-- a lifetime that may be written
abbrev pub in_lifetime : Inside → List ℕ → Option Ident → Naming
in_lifetime I at None = nothing
in_lifetime I at (Some l) = names I at (one (lifetime_in I l))

abbrev mutual
  -- `at` is the way of the node from its item
  pub in_type : Inside → List ℕ → TypeTree → Naming
  in_type I at (plain.kind_type s k) = nothing
  in_type I at (plain.bool_type s) = nothing
  in_type I at (plain.tuple_type s ts) = in_types I at 0 ts
  in_type I at (plain.ref_type s l m t) = in_lifetime I at l >> in_type I (child at 0) t
  in_type I at (plain.named_type s x ls) = names I at (both (one (type_in I x)) (lifetimes_in I (written ls)))

  -- the first is child i
  pub in_types : Inside → List ℕ → ℕ → TypeTrees → Naming
  in_types I at i plain.no_type = nothing
  in_types I at i (plain.type_and t ts) = in_type I (child at i) t >> in_types I at (next i) ts

-- the number of the child behind these
abbrev pub behind : ℕ → TypeTrees → ℕ
behind i plain.no_type = i
behind i (plain.type_and t ts) = behind (next i) ts

-- ---- paths to variants and structs

-- the numbers of an enum and of its variant
abbrev pub variant_in : Inside → Ident → Ident → Outcome (List ℕ)
variant_in I a v = let i = item_named type_name 0 I.program a.name in
    both (one (known (as_enum i) a.span)) (one (known (number_in (variants_of i) v.name) v.span))

abbrev pub struct_in : Inside → Ident → Outcome ℕ
struct_in I x = known (as_struct (item_named type_name 0 I.program x.name)) x.span

-- ---- patterns

-- the tables, and what the pattern has declared
pub record Bound : Type 0 where
  pub bindings : DeclaredNames
  pub tables : ItemNames

abbrev pub Binding : Type 0
Binding = Bound → Outcome Bound

abbrev pub binds : Inside → List ℕ → Ident → Binding
binds I at x b = let n = length b.tables.vars in
    and_then (declare b.bindings x n) (λ ds. Ok (record { bindings = ds; tables = with_names (entry I at (number n ∷ [])) (with_variable x.span b.tables) }))

abbrev pub also : Naming → Binding
also f b = and_then (f b.tables) (λ t. Ok (record { bindings = b.bindings; tables = t }))

abbrev pub in_order : Binding → Binding → Binding
in_order f g b = and_then (f b) g

abbrev mutual
  pub in_pattern : Inside → List ℕ → PatternTree → Binding
  in_pattern I at (plain.wild s) = also nothing
  in_pattern I at (plain.bind s x m) = binds I at x
  in_pattern I at (plain.int_pattern s g v k) = also nothing
  in_pattern I at (plain.bool_pattern s b) = also nothing
  in_pattern I at (plain.tuple_pattern s ps) = in_patterns I at 0 ps
  in_pattern I at (plain.variant_pattern s a v ps) = in_order (also (names I at (variant_in I a v))) (in_patterns I at 0 ps)
  in_pattern I at (plain.make_pattern s x fs) = in_order (also (names I at (one (struct_in I x)))) (in_field_patterns I at 0 fs)

  pub in_patterns : Inside → List ℕ → ℕ → PatternTrees → Binding
  in_patterns I at i plain.no_pattern = also nothing
  in_patterns I at i (plain.pattern_and p ps) = in_order (in_pattern I (child at i) p) (in_patterns I at (next i) ps)

  pub in_field_patterns : Inside → List ℕ → ℕ → FieldPatterns → Binding
  in_field_patterns I at i plain.no_field_pattern = also nothing
  in_field_patterns I at i (plain.field_pattern_and x p fs) = in_order (in_pattern I (child at i) p) (in_field_patterns I at (next i) fs)

-- a whole pattern, and what follows it, which gets its bindings
abbrev pub pattern_then : Inside → List ℕ → PatternTree → (DeclaredNames → Naming) → Naming
pattern_then I at p f t = and_then (in_pattern I at p (record { bindings = []; tables = t })) (λ b. f b.bindings b.tables)

-- ---- expressions

-- a callee is a variable in scope, which hides the functions, or a function
abbrev pub callee : Inside → List ℕ → Ident → Option ℕ → Naming
callee I at x (Some n) = λ t. Ok (with_names (record { node = position I at; numbers = n ∷ []; hidden = true }) t)
callee I at x None = names I at (one (known (as_function (item_named function_name 0 I.program x.name)) x.span))

-- the `rt` that `rt::next()` begins with
abbrev pub rt_span : Span → Span
rt_span s = record { start = s.start; end = min (s.start + 2) s.end }

-- a new loop, and what stands in it, which gets its number
abbrev pub in_loop : Inside → List ℕ → (ℕ → Naming) → Naming
in_loop I at f t = f (number (length t.loops)) (with_loop (position I at) t)

abbrev pub in_optional_type : Inside → List ℕ → Option TypeTree → Naming
in_optional_type I at None = nothing
in_optional_type I at (Some t) = in_type I at t

-- the number of a `let`'s initialiser among its children
abbrev pub initialiser_at : Option TypeTree → ℕ
initialiser_at None = 1
initialiser_at (Some t) = 2

-- the scope behind statements, and the tables
pub record Scoped : Type 0 where
  pub scope : Variables
  pub tables : ItemNames

abbrev mutual
  pub in_expression : Inside → Variables → List Around → List ℕ → Expression → Naming
  in_expression I sc ls at (plain.int s v k) = nothing
  in_expression I sc ls at (plain.bool s b) = nothing
  in_expression I sc ls at (plain.tuple s es) = in_expressions I sc ls at 0 es
  in_expression I sc ls at (plain.var s x) = names I at (one (known (variable_named sc x) s))
  in_expression I sc ls at (plain.field s e x) = in_expression I sc ls (child at 0) e
  in_expression I sc ls at (plain.part s e i) = in_expression I sc ls (child at 0) e
  in_expression I sc ls at (plain.deref s e) = in_expression I sc ls (child at 0) e
  in_expression I sc ls at (plain.negate s e) = in_expression I sc ls (child at 0) e
  in_expression I sc ls at (plain.invert s e) = in_expression I sc ls (child at 0) e
  in_expression I sc ls at (plain.borrow s m e) = in_expression I sc ls (child at 0) e
  in_expression I sc ls at (plain.binary s o a b) = in_expression I sc ls (child at 0) a >> in_expression I sc ls (child at 1) b
  in_expression I sc ls at (plain.assign s a b) = in_expression I sc ls (child at 0) a >> in_expression I sc ls (child at 1) b
  in_expression I sc ls at (plain.update s o a b) = in_expression I sc ls (child at 0) a >> in_expression I sc ls (child at 1) b
  in_expression I sc ls at (plain.call s f es) = callee I at f (variable_named sc f.name) >> in_expressions I sc ls at 0 es
  in_expression I sc ls at (plain.next_input s) = names I at (one (known (as_rt (item_named type_name 0 I.program (codes "rt"))) (rt_span s)))
  in_expression I sc ls at (plain.variant s a v es) = names I at (variant_in I a v) >> in_arguments I sc ls at es
  in_expression I sc ls at (plain.make s x fs) = names I at (one (struct_in I x)) >> in_fields I sc ls at 0 fs
  in_expression I sc ls at (plain.print s e) = in_expression I sc ls (child at 0) e
  in_expression I sc ls at (plain.block s b) = in_block I sc ls (child at 0) b
  in_expression I sc ls at (plain.if s c b o) = in_expression I sc ls (child at 0) c >> in_block I sc ls (child at 1) b >> in_optional I sc ls (child at 2) o
  -- the bindings are in scope in the body alone
  in_expression I sc ls at (plain.if_let s p e b o) = pattern_then I (child at 0) p (λ ds.
      in_expression I sc ls (child at 1) e >> in_block I (entered sc ds) ls (child at 2) b >> in_optional I sc ls (child at 3) o)
  in_expression I sc ls at (plain.match s e l) = in_expression I sc ls (child at 0) e >> in_arms I sc ls at 1 l
  in_expression I sc ls at (plain.loop s l b) = in_loop I at (λ n. in_block I sc (a_loop l n ∷ ls) (child at 0) b)
  in_expression I sc ls at (plain.while s l c b) = in_loop I at (λ n.
      in_expression I sc (a_test ∷ a_loop l n ∷ ls) (child at 0) c >> in_block I sc (a_loop l n ∷ ls) (child at 1) b)
  in_expression I sc ls at (plain.while_let s l p e b) = in_loop I at (λ n. pattern_then I (child at 0) p (λ ds.
      in_expression I sc (a_test ∷ a_loop l n ∷ ls) (child at 1) e >> in_block I (entered sc ds) (a_loop l n ∷ ls) (child at 2) b))
  in_expression I sc ls at (plain.break s l) = names I at (one (led s l (target l ls)))
  in_expression I sc ls at (plain.continue s l) = names I at (one (led s l (target l ls)))
  in_expression I sc ls at (plain.return s o) = in_optional I sc ls (child at 0) o

  pub in_expressions : Inside → Variables → List Around → List ℕ → ℕ → Expressions → Naming
  in_expressions I sc ls at i plain.no_expression = nothing
  in_expressions I sc ls at i (plain.expression_and e es) = in_expression I sc ls (child at i) e >> in_expressions I sc ls at (next i) es

  pub in_optional : Inside → Variables → List Around → List ℕ → OptionalExpression → Naming
  in_optional I sc ls at plain.absent = nothing
  in_optional I sc ls at (plain.present e) = in_expression I sc ls at e

  pub in_arguments : Inside → Variables → List Around → List ℕ → OptionalExpressions → Naming
  in_arguments I sc ls at plain.no_list = nothing
  in_arguments I sc ls at (plain.a_list es) = in_expressions I sc ls at 0 es

  pub in_fields : Inside → Variables → List Around → List ℕ → ℕ → FieldExpressions → Naming
  in_fields I sc ls at i plain.no_field = nothing
  in_fields I sc ls at i (plain.field_and x e fs) = in_expression I sc ls (child at i) e >> in_fields I sc ls at (next i) fs

  -- the bindings of an arm are in scope in its body
  pub in_arms : Inside → Variables → List Around → List ℕ → ℕ → Arms → Naming
  in_arms I sc ls at i plain.no_arm = nothing
  in_arms I sc ls at i (plain.arm_and p e rest) =
      pattern_then I (child at i) p (λ ds. in_expression I (entered sc ds) ls (child at (next i)) e) >> in_arms I sc ls at (next (next i)) rest

  pub in_block : Inside → Variables → List Around → List ℕ → Body → Naming
  in_block I sc ls at (plain.body s ss o) t = and_then (in_statements I sc ls at 0 ss t)
      (λ r. in_optional I r.scope ls (child at (number (length (listed ss)))) o r.tables)

  -- the bindings of a `let` are in scope behind it
  pub in_statements : Inside → Variables → List Around → List ℕ → ℕ → Statements → ItemNames → Outcome Scoped
  in_statements I sc ls at i plain.no_statement t = Ok (record { scope = sc; tables = t })
  in_statements I sc ls at i (plain.statement_and a ss) t = and_then (in_statement I sc ls (child at i) a t)
      (λ r. in_statements I r.scope ls at (next i) ss r.tables)

  pub in_statement : Inside → Variables → List Around → List ℕ → Statement → ItemNames → Outcome Scoped
  in_statement I sc ls at (plain.let_statement s p y o) t = and_then (in_pattern I (child at 0) p (record { bindings = []; tables = t })) (λ b.
      and_then ((in_optional_type I (child at 1) y >> in_optional I sc ls (child at (initialiser_at y)) o) b.tables)
      (λ t. Ok (record { scope = entered sc b.bindings; tables = t })))
  in_statement I sc ls at (plain.expression_statement s e b) t = and_then (in_expression I sc ls (child at 0) e t) (λ t. Ok (record { scope = sc; tables = t }))
