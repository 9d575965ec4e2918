-- Resolving only adds entries of names behind those that there are: by induction on what resolves.
use Rattle.std.proofs.Common.{◌≡◌, ℕ, true, List, [], ◌∷◌, ◌++◌, length, Option, Some, None, Ok, sym, ap, ◌∙◌, append_assoc, append-nil}
use Rattle.rx_tree.specs.declared.tree.Ident.{Ident}
use Rattle.rx_tree.specs.Plain as plain
use Rattle.rx_tree.specs.Plain.{TypeTree, TypeTrees, PatternTree, PatternTrees, FieldPatterns, Expression, Expressions, OptionalExpression, OptionalExpressions, FieldExpressions, Statement, Statements}
use Rattle.rx_resolve_names.specs.Scopes.{DeclaredNames, Variables, variable_named, entered}
use Rattle.rx_resolve_names.specs.declared.resolved.ItemNames.{ItemNames}
use Rattle.rx_resolve_names.specs.declared.resolved.NodeNames.{NodeNames}
use Rattle.rx_resolve_names.specs.Meant.{number, Around, a_loop, a_test}
use Rattle.rx_resolve_names.specs.Steps.{Outcome, and_then, Naming, ◌>>◌, nothing, Inside, declare, child, next, with_loop, with_variable, position, entry, with_names, numbered, names}
use Rattle.rx_resolve_names.specs.Names.{in_lifetime, in_type, in_types, Bound, Binding, binds, also, in_order, in_pattern, in_patterns, in_field_patterns, pattern_then, callee, in_loop, in_optional_type, initialiser_at, Scoped, in_expression, in_expressions, in_optional, in_arguments, in_fields, in_arms, in_block, in_statements, in_statement}
use Rattle.rx_engine_names.proofs.SideBySide.{named_ok}

-- entries were added
abbrev pub Grown : ItemNames → ItemNames → Type 0
Grown t t' = (es : List NodeNames) × (t'.names ≡ t.names ++ es)

abbrev pub Grows : Naming → Type 0
Grows f = (t t' : ItemNames) → f t ≡ Ok t' → Grown t t'

abbrev BindingGrows : Binding → Type 0
BindingGrows f = (b b' : Bound) → f b ≡ Ok b' → Grown b.tables b'.tables

abbrev ScopeGrows : (ItemNames → Outcome Scoped) → Type 0
ScopeGrows f = (t : ItemNames) (r : Scoped) → f t ≡ Ok r → Grown t r.tables

-- ---- steps

grown_same : (t t' : ItemNames) → t'.names ≡ t.names → Grown t t'
grown_same t t' e = ([], e ∙ sym (append-nil t.names))

grown_then : (a b c : ItemNames) → Grown a b → Grown b c → Grown a c
grown_then a b c x y = (x.0 ++ y.0, y.1 ∙ ap (λ (l : List NodeNames). l ++ y.0) x.1 ∙ append_assoc a.names x.0 y.0)

nothing_grows : Grows nothing
nothing_grows t t' e = grown_same t t' (ap (λ (x : ItemNames). x.names) (let s : t' ≡ t = cc in s))

then_grows : (f g : Naming) → Grows f → Grows g → Grows (f >> g)
then_grows f g p q t t' e = let a = named_ok (f t) g t' e in grown_then t a.0 t' (p t a.0 a.1) (q a.0 t' a.2)

numbered_grows : (I : Inside) (at ns : List ℕ) → Grows (numbered I at ns)
numbered_grows I at [] t t' e = nothing_grows t t' e
numbered_grows I at (n ∷ ns) t t' e = (entry I at (n ∷ ns) ∷ [], ap (λ (x : ItemNames). x.names) (let s : t' ≡ with_names (entry I at (n ∷ ns)) t = cc in s))

names_grow : (I : Inside) (at : List ℕ) (r : Outcome (List ℕ)) → Grows (names I at r)
names_grow I at r t t' e = let a = named_ok r (λ ns. numbered I at ns t) t' e in numbered_grows I at a.0 t t' a.2

-- ---- types

lifetime_grows : (I : Inside) (at : List ℕ) (l : Option Ident) → Grows (in_lifetime I at l)
lifetime_grows I at None = nothing_grows
lifetime_grows I at (Some l) = names_grow I at _

mutual
  type_grows : (I : Inside) (at : List ℕ) (y : TypeTree) → Grows (in_type I at y)
  type_grows I at (plain.kind_type s k) = nothing_grows
  type_grows I at (plain.bool_type s) = nothing_grows
  type_grows I at (plain.tuple_type s ts) = types_grow I at 0 ts
  type_grows I at (plain.ref_type s l m y) = then_grows _ _ (lifetime_grows I at l) (type_grows I (child at 0) y)
  type_grows I at (plain.named_type s x ls) = names_grow I at _

  types_grow : (I : Inside) (at : List ℕ) (i : ℕ) (ys : TypeTrees) → Grows (in_types I at i ys)
  types_grow I at i plain.no_type = nothing_grows
  types_grow I at i (plain.type_and y ys) = then_grows _ _ (type_grows I (child at i) y) (types_grow I at (next i) ys)

optional_type_grows : (I : Inside) (at : List ℕ) (y : Option TypeTree) → Grows (in_optional_type I at y)
optional_type_grows I at None = nothing_grows
optional_type_grows I at (Some y) = type_grows I at y

-- ---- patterns

also_grows : (f : Naming) → Grows f → BindingGrows (also f)
also_grows f g b b' e =
    let a = named_ok (f b.tables) (λ t. Ok (record { bindings = b.bindings; tables = t })) b' e in
    let s : a.0 ≡ b'.tables = ap (λ (x : Bound). x.tables) (let s : record { bindings = b.bindings; tables = a.0 } ≡ b' = cc in s) in
    let r = g b.tables a.0 a.1 in (r.0, sym (ap (λ (x : ItemNames). x.names) s) ∙ r.1)

order_grows : (f g : Binding) → BindingGrows f → BindingGrows g → BindingGrows (in_order f g)
order_grows f g p q b b' e = let a = named_ok (f b) g b' e in grown_then b.tables a.0.tables b'.tables (p b a.0 a.1) (q a.0 b' a.2)

binds_grows : (I : Inside) (at : List ℕ) (x : Ident) → BindingGrows (binds I at x)
binds_grows I at x b b' e =
    let n = length b.tables.vars in
    let to : DeclaredNames → Bound = λ ds. record { bindings = ds; tables = with_names (entry I at (number n ∷ [])) (with_variable x.span b.tables) } in
    let a = named_ok (declare b.bindings x n) (λ ds. Ok (to ds)) b' e in
    (entry I at (number n ∷ []) ∷ [], ap (λ (x : Bound). x.tables.names) (let s : b' ≡ to a.0 = cc in s))

mutual
  pattern_grows : (I : Inside) (at : List ℕ) (p : PatternTree) → BindingGrows (in_pattern I at p)
  pattern_grows I at (plain.wild s) = also_grows nothing nothing_grows
  pattern_grows I at (plain.bind s x m) = binds_grows I at x
  pattern_grows I at (plain.int_pattern s g v k) = also_grows nothing nothing_grows
  pattern_grows I at (plain.bool_pattern s b) = also_grows nothing nothing_grows
  pattern_grows I at (plain.tuple_pattern s ps) = patterns_grow I at 0 ps
  pattern_grows I at (plain.variant_pattern s a v ps) = order_grows _ _ (also_grows _ (names_grow I at _)) (patterns_grow I at 0 ps)
  pattern_grows I at (plain.make_pattern s x fs) = order_grows _ _ (also_grows _ (names_grow I at _)) (field_patterns_grow I at 0 fs)

  patterns_grow : (I : Inside) (at : List ℕ) (i : ℕ) (ps : PatternTrees) → BindingGrows (in_patterns I at i ps)
  patterns_grow I at i plain.no_pattern = also_grows nothing nothing_grows
  patterns_grow I at i (plain.pattern_and p ps) = order_grows _ _ (pattern_grows I (child at i) p) (patterns_grow I at (next i) ps)

  field_patterns_grow : (I : Inside) (at : List ℕ) (i : ℕ) (fs : FieldPatterns) → BindingGrows (in_field_patterns I at i fs)
  field_patterns_grow I at i plain.no_field_pattern = also_grows nothing nothing_grows
  field_patterns_grow I at i (plain.field_pattern_and x p fs) = order_grows _ _ (pattern_grows I (child at i) p) (field_patterns_grow I at (next i) fs)

pattern_then_grows : (I : Inside) (at : List ℕ) (p : PatternTree) (f : DeclaredNames → Naming) → ((ds : DeclaredNames) → Grows (f ds)) → Grows (pattern_then I at p f)
pattern_then_grows I at p f g t t' e =
    let a = named_ok (in_pattern I at p (record { bindings = []; tables = t })) (λ b. f b.bindings b.tables) t' e in
    grown_then t a.0.tables t' (pattern_grows I at p (record { bindings = []; tables = t }) a.0 a.1) (g a.0.bindings a.0.tables t' a.2)

-- ---- expressions

callee_grows : (I : Inside) (at : List ℕ) (x : Ident) (v : Option ℕ) → Grows (callee I at x v)
callee_grows I at x (Some n) t t' e =
    let h : NodeNames = record { node = position I at; numbers = n ∷ []; hidden = true } in (h ∷ [], ap (λ (x : ItemNames). x.names) (let s : t' ≡ with_names h t = cc in s))
callee_grows I at x None t t' e = names_grow I at _ t t' e

loop_grows : (I : Inside) (at : List ℕ) (f : ℕ → Naming) → ((n : ℕ) → Grows (f n)) → Grows (in_loop I at f)
loop_grows I at f g t t' e = g (number (length t.loops)) (with_loop (position I at) t) t' e

tables_grow : (sc : Variables) (f : Naming) → Grows f → ScopeGrows (λ t. and_then (f t) (λ t. Ok (record { scope = sc; tables = t })))
tables_grow sc f g t r e =
    let a = named_ok (f t) (λ t. Ok (record { scope = sc; tables = t })) r e in
    let s : a.0 ≡ r.tables = ap (λ (x : Scoped). x.tables) (let s : record { scope = sc; tables = a.0 } ≡ r = cc in s) in
    let x = g t a.0 a.1 in (x.0, sym (ap (λ (x : ItemNames). x.names) s) ∙ x.1)

mutual
  expression_grows : (I : Inside) (sc : Variables) (ls : List Around) (at : List ℕ) (e : Expression) → Grows (in_expression I sc ls at e)
  expression_grows I sc ls at (plain.int s v k) = nothing_grows
  expression_grows I sc ls at (plain.bool s b) = nothing_grows
  expression_grows I sc ls at (plain.tuple s es) = expressions_grow I sc ls at 0 es
  expression_grows I sc ls at (plain.var s x) = names_grow I at _
  expression_grows I sc ls at (plain.field s e x) = expression_grows I sc ls (child at 0) e
  expression_grows I sc ls at (plain.part s e i) = expression_grows I sc ls (child at 0) e
  expression_grows I sc ls at (plain.deref s e) = expression_grows I sc ls (child at 0) e
  expression_grows I sc ls at (plain.negate s e) = expression_grows I sc ls (child at 0) e
  expression_grows I sc ls at (plain.invert s e) = expression_grows I sc ls (child at 0) e
  expression_grows I sc ls at (plain.borrow s m e) = expression_grows I sc ls (child at 0) e
  expression_grows I sc ls at (plain.binary s o a b) = then_grows _ _ (expression_grows I sc ls (child at 0) a) (expression_grows I sc ls (child at 1) b)
  expression_grows I sc ls at (plain.assign s a b) = then_grows _ _ (expression_grows I sc ls (child at 0) a) (expression_grows I sc ls (child at 1) b)
  expression_grows I sc ls at (plain.update s o a b) = then_grows _ _ (expression_grows I sc ls (child at 0) a) (expression_grows I sc ls (child at 1) b)
  expression_grows I sc ls at (plain.call s f es) = then_grows _ _ (callee_grows I at f (variable_named sc f.name)) (expressions_grow I sc ls at 0 es)
  expression_grows I sc ls at (plain.next_input s) = names_grow I at _
  expression_grows I sc ls at (plain.variant s a v es) = then_grows _ _ (names_grow I at _) (arguments_grow I sc ls at es)
  expression_grows I sc ls at (plain.make s x fs) = then_grows _ _ (names_grow I at _) (fields_grow I sc ls at 0 fs)
  expression_grows I sc ls at (plain.print s e) = expression_grows I sc ls (child at 0) e
  expression_grows I sc ls at (plain.block s b) = block_grows I sc ls (child at 0) b
  expression_grows I sc ls at (plain.if s c b o) = then_grows _ _ (expression_grows I sc ls (child at 0) c) (then_grows _ _ (block_grows I sc ls (child at 1) b) (optional_grows I sc ls (child at 2) o))
  expression_grows I sc ls at (plain.if_let s p e b o) = pattern_then_grows I (child at 0) p _ (λ ds.
      then_grows _ _ (expression_grows I sc ls (child at 1) e) (then_grows _ _ (block_grows I (entered sc ds) ls (child at 2) b) (optional_grows I sc ls (child at 3) o)))
  expression_grows I sc ls at (plain.match s e l) = then_grows _ _ (expression_grows I sc ls (child at 0) e) (arms_grow I sc ls at 1 l)
  expression_grows I sc ls at (plain.loop s l b) = loop_grows I at _ (λ n. block_grows I sc (a_loop l n ∷ ls) (child at 0) b)
  expression_grows I sc ls at (plain.while s l c b) = loop_grows I at _ (λ n.
      then_grows _ _ (expression_grows I sc (a_test ∷ a_loop l n ∷ ls) (child at 0) c) (block_grows I sc (a_loop l n ∷ ls) (child at 1) b))
  expression_grows I sc ls at (plain.while_let s l p e b) = loop_grows I at _ (λ n. pattern_then_grows I (child at 0) p _ (λ ds.
      then_grows _ _ (expression_grows I sc (a_test ∷ a_loop l n ∷ ls) (child at 1) e) (block_grows I (entered sc ds) (a_loop l n ∷ ls) (child at 2) b)))
  expression_grows I sc ls at (plain.break s l) = names_grow I at _
  expression_grows I sc ls at (plain.continue s l) = names_grow I at _
  expression_grows I sc ls at (plain.return s o) = optional_grows I sc ls (child at 0) o

  expressions_grow : (I : Inside) (sc : Variables) (ls : List Around) (at : List ℕ) (i : ℕ) (es : Expressions) → Grows (in_expressions I sc ls at i es)
  expressions_grow I sc ls at i plain.no_expression = nothing_grows
  expressions_grow I sc ls at i (plain.expression_and e es) = then_grows _ _ (expression_grows I sc ls (child at i) e) (expressions_grow I sc ls at (next i) es)

  optional_grows : (I : Inside) (sc : Variables) (ls : List Around) (at : List ℕ) (o : OptionalExpression) → Grows (in_optional I sc ls at o)
  optional_grows I sc ls at plain.absent = nothing_grows
  optional_grows I sc ls at (plain.present e) = expression_grows I sc ls at e

  arguments_grow : (I : Inside) (sc : Variables) (ls : List Around) (at : List ℕ) (es : OptionalExpressions) → Grows (in_arguments I sc ls at es)
  arguments_grow I sc ls at plain.no_list = nothing_grows
  arguments_grow I sc ls at (plain.a_list es) = expressions_grow I sc ls at 0 es

  fields_grow : (I : Inside) (sc : Variables) (ls : List Around) (at : List ℕ) (i : ℕ) (fs : FieldExpressions) → Grows (in_fields I sc ls at i fs)
  fields_grow I sc ls at i plain.no_field = nothing_grows
  fields_grow I sc ls at i (plain.field_and x e fs) = then_grows _ _ (expression_grows I sc ls (child at i) e) (fields_grow I sc ls at (next i) fs)

  arms_grow : (I : Inside) (sc : Variables) (ls : List Around) (at : List ℕ) (i : ℕ) (l : plain.Arms) → Grows (in_arms I sc ls at i l)
  arms_grow I sc ls at i plain.no_arm = nothing_grows
  arms_grow I sc ls at i (plain.arm_and p e l) =
      then_grows _ _ (pattern_then_grows I (child at i) p _ (λ ds. expression_grows I (entered sc ds) ls (child at (next i)) e)) (arms_grow I sc ls at (next (next i)) l)

  pub block_grows : (I : Inside) (sc : Variables) (ls : List Around) (at : List ℕ) (b : plain.Body) → Grows (in_block I sc ls at b)
  block_grows I sc ls at (plain.body s ss o) t t' e =
      let a = named_ok (in_statements I sc ls at 0 ss t) _ t' e in
      grown_then t a.0.tables t' (statements_grow I sc ls at 0 ss t a.0 a.1) (optional_grows I a.0.scope ls _ o a.0.tables t' a.2)

  statements_grow : (I : Inside) (sc : Variables) (ls : List Around) (at : List ℕ) (i : ℕ) (ss : Statements) → ScopeGrows (in_statements I sc ls at i ss)
  statements_grow I sc ls at i plain.no_statement t r e = grown_same t r.tables (ap (λ (x : Scoped). x.tables.names) (let s : r ≡ record { scope = sc; tables = t } = cc in s))
  statements_grow I sc ls at i (plain.statement_and x ss) t r e =
      let a = named_ok (in_statement I sc ls (child at i) x t) _ r e in
      grown_then t a.0.tables r.tables (statement_grows I sc ls (child at i) x t a.0 a.1) (statements_grow I a.0.scope ls at (next i) ss a.0.tables r a.2)

  statement_grows : (I : Inside) (sc : Variables) (ls : List Around) (at : List ℕ) (x : Statement) → ScopeGrows (in_statement I sc ls at x)
  statement_grows I sc ls at (plain.let_statement s p y o) t r e =
      let a = named_ok (in_pattern I (child at 0) p (record { bindings = []; tables = t })) _ r e in
      grown_then t a.0.tables r.tables (pattern_grows I (child at 0) p (record { bindings = []; tables = t }) a.0 a.1)
      (tables_grow (entered sc a.0.bindings) (in_optional_type I (child at 1) y >> in_optional I sc ls (child at (initialiser_at y)) o)
      (then_grows _ _ (optional_type_grows I (child at 1) y) (optional_grows I sc ls (child at (initialiser_at y)) o)) a.0.tables r a.2)
  statement_grows I sc ls at (plain.expression_statement s x b) t r e = tables_grow sc (in_expression I sc ls (child at 0) x) (expression_grows I sc ls (child at 0) x) t r e
