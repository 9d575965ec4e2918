-- The names of a program have a meaning, or a fault that is no want of memory: no step of resolving gives that fault, by
-- induction over all forms; and whether a struct or enum reaches itself is decided (`Deciding.antt` of rx_graph_cycles).
use Rattle.std.proofs.Common.{◌≡◌, ◌≢◌, ◌⊎◌, ℕ, zero, suc, ◌<◌, List, [], ◌∷◌, ◌++◌, length, map, Option, Some, None, Ok, Err, codes, slice_get, inl, inr, arith, refl, ap}
use Rattle.rx_core.specs.declared.types.Span.{Span}
use Rattle.rx_tree.specs.declared.tree.Ident.{Ident}
use Rattle.rx_tree.specs.declared.tree.BoundLifetime.{BoundLifetime}
use Rattle.rx_tree.specs.Lists.{listed}
use Rattle.rx_tree.specs.Plain as plain
use Rattle.rx_tree.specs.Plain.{TypeTree, TypeTrees, PatternTree, PatternTrees, FieldPatterns, Expression, Expressions, OptionalExpression, OptionalExpressions, FieldExpressions, Statement, Statements, FieldOf, VariantOf, Parameter, Function, ItemTree, ProgramTree}
use Rattle.rx_graph_cycles.specs.Reaches.{FirstOnCycle}
use Rattle.rx_graph_cycles.proofs.Deciding.{first_on_cycle, on_cycle_within}
use Rattle.rx_resolve_names.specs.declared.table.NumberedName.{NumberedName}
use Rattle.rx_resolve_names.specs.Scopes.{DeclaredNames, Variables, variable_named, declared_as, entered}
use Rattle.rx_resolve_names.specs.declared.resolved.ItemNames.{ItemNames}
use Rattle.rx_resolve_names.specs.declared.resolved.Misnamed.{Misnamed}
use Rattle.rx_resolve_names.specs.declared.resolved.Misnamed.TheVariants as misnamed
use Rattle.rx_resolve_names.specs.declared.resolved.NameFault.{NameFault}
use Rattle.rx_resolve_names.specs.declared.resolved.NameFault.TheVariants as name_fault
use Rattle.rx_resolve_names.specs.Meant.{number, type_name, function_name, item_named, as_type, as_struct, as_enum, as_rt, as_function, number_in, variants_of, firsts, lifetimes_declared, Target, to_loop, out_of_test, nowhere, Around, a_loop, a_test, target}
use Rattle.rx_resolve_names.specs.Steps.{Outcome, and_then, Naming, ◌>>◌, nothing, Inside, known, one, both, declare, declared_behind, led, child, next, with_loop, with_variable, position, entry, with_names, numbered, names}
use Rattle.rx_resolve_names.specs.Names.{lifetime_in, lifetimes_in, type_in, written, in_lifetime, in_type, in_types, behind, variant_in, struct_in, Bound, Binding, binds, also, in_order, in_pattern, in_patterns, in_field_patterns, pattern_then, callee, rt_span, in_loop, in_optional_type, initialiser_at, Scoped, in_expression, in_expressions, in_optional, in_arguments, in_fields, in_arms, in_block, in_statements, in_statement}
use Rattle.rx_resolve_names.specs.Items.{distinct, in_declared, in_variants, bounds_in, lifetimes_of, in_parameter, in_parameters, numbers_from, body_at, in_function, in_form, in_item, in_items, Lists, declared_in, apart, in_program}
use Rattle.rx_resolve_names.specs.Holding.{held_by, held_in_tree, name_span}
use Rattle.rx_resolve_names.specs.Causes.{Meant, Causes}

-- ---- steps without want of memory

abbrev Clean : Naming → Type 0
Clean f = (t : ItemNames) → f t ≡ Err misnamed.OutOfMemory → ⊥

abbrev BindingClean : Binding → Type 0
BindingClean f = (b : Bound) → f b ≡ Err misnamed.OutOfMemory → ⊥

abbrev ScopeClean : (ItemNames → Outcome Scoped) → Type 0
ScopeClean f = (t : ItemNames) → f t ≡ Err misnamed.OutOfMemory → ⊥

then_none : {A B : Type 0} (m : Outcome A) (f : A → Outcome B) → (m ≡ Err misnamed.OutOfMemory → ⊥) → ((a : A) → f a ≡ Err misnamed.OutOfMemory → ⊥)
    → and_then m f ≡ Err misnamed.OutOfMemory → ⊥
then_none (Ok a) f h k e = k a e
then_none (Err x) f h k e = h (let s : x ≡ misnamed.OutOfMemory = cc in ap (λ y. Err y) s)

nothing_clean : Clean nothing
nothing_clean t e = cc

then_clean : (f g : Naming) → Clean f → Clean g → Clean (f >> g)
then_clean f g p q t e = then_none (f t) g (p t) q e

numbered_clean : (I : Inside) (at ns : List ℕ) → Clean (numbered I at ns)
numbered_clean I at [] t e = cc
numbered_clean I at (n ∷ ns) t e = cc

names_clean : (I : Inside) (at : List ℕ) (r : Outcome (List ℕ)) → (r ≡ Err misnamed.OutOfMemory → ⊥) → Clean (names I at r)
names_clean I at r h t e = then_none r (λ ns. numbered I at ns t) h (λ ns. numbered_clean I at ns t) e

known_clean : (o : Option ℕ) (s : Span) → known o s ≡ Err misnamed.OutOfMemory → ⊥
known_clean None s e = cc
known_clean (Some n) s e = cc

one_clean : (r : Outcome ℕ) → (r ≡ Err misnamed.OutOfMemory → ⊥) → one r ≡ Err misnamed.OutOfMemory → ⊥
one_clean r h e = then_none r (λ n. Ok (n ∷ [])) h (λ n e. cc) e

both_clean : (a b : Outcome (List ℕ)) → (a ≡ Err misnamed.OutOfMemory → ⊥) → (b ≡ Err misnamed.OutOfMemory → ⊥) → both a b ≡ Err misnamed.OutOfMemory → ⊥
both_clean a b h k e = then_none a (λ ns. and_then b (λ ms. Ok (ns ++ ms))) h (λ ns. then_none b (λ ms. Ok (ns ++ ms)) k (λ ms e. cc)) e

declare_clean : (ds : DeclaredNames) (x : Ident) (n : ℕ) → declare ds x n ≡ Err misnamed.OutOfMemory → ⊥
declare_clean ds x n = by (declared_as ds x.name)
  where
    by : (o : Option NumberedName) → declared_behind ds x n o ≡ Err misnamed.OutOfMemory → ⊥
    by None e = cc
    by (Some k) e = cc

led_clean : (s : Span) (l : Option Ident) (t : Target) → led s l t ≡ Err misnamed.OutOfMemory → ⊥
led_clean s l (to_loop n) e = cc
led_clean s l out_of_test e = cc
led_clean s None nowhere e = cc
led_clean s (Some x) nowhere e = cc

lifetimes_in_clean : (I : Inside) (ls : List (Option Ident)) → lifetimes_in I ls ≡ Err misnamed.OutOfMemory → ⊥
lifetimes_in_clean I [] e = cc
lifetimes_in_clean I (None ∷ ls) e = lifetimes_in_clean I ls e
lifetimes_in_clean I (Some l ∷ ls) e =
    both_clean (one (lifetime_in I l)) (lifetimes_in I ls) (one_clean (lifetime_in I l) (known_clean (number_in I.lifetimes l.name) l.span)) (lifetimes_in_clean I ls) e

-- ---- types

lifetime_clean : (I : Inside) (at : List ℕ) (l : Option Ident) → Clean (in_lifetime I at l)
lifetime_clean I at None = nothing_clean
lifetime_clean I at (Some l) = names_clean I at (one (lifetime_in I l)) (one_clean (lifetime_in I l) (known_clean (number_in I.lifetimes l.name) l.span))

mutual
  type_clean : (I : Inside) (at : List ℕ) (y : TypeTree) → Clean (in_type I at y)
  type_clean I at (plain.kind_type s k) = nothing_clean
  type_clean I at (plain.bool_type s) = nothing_clean
  type_clean I at (plain.tuple_type s ts) = types_clean I at 0 ts
  type_clean I at (plain.ref_type s l m y) = then_clean _ _ (lifetime_clean I at l) (type_clean I (child at 0) y)
  type_clean I at (plain.named_type s x ls) =
      names_clean I at (both (one (type_in I x)) (lifetimes_in I (written ls)))
      (both_clean (one (type_in I x)) (lifetimes_in I (written ls)) (one_clean (type_in I x) (known_clean (as_type (item_named type_name 0 I.program x.name)) x.span)) (lifetimes_in_clean I (written ls)))

  types_clean : (I : Inside) (at : List ℕ) (i : ℕ) (ys : TypeTrees) → Clean (in_types I at i ys)
  types_clean I at i plain.no_type = nothing_clean
  types_clean I at i (plain.type_and y ys) = then_clean _ _ (type_clean I (child at i) y) (types_clean I at (next i) ys)

optional_type_clean : (I : Inside) (at : List ℕ) (y : Option TypeTree) → Clean (in_optional_type I at y)
optional_type_clean I at None = nothing_clean
optional_type_clean I at (Some y) = type_clean I at y

-- ---- patterns

also_clean : (f : Naming) → Clean f → BindingClean (also f)
also_clean f g b e = then_none (f b.tables) (λ t. Ok (record { bindings = b.bindings; tables = t })) (g b.tables) (λ t e. cc) e

order_clean : (f g : Binding) → BindingClean f → BindingClean g → BindingClean (in_order f g)
order_clean f g p q b e = then_none (f b) g (p b) q e

binds_clean : (I : Inside) (at : List ℕ) (x : Ident) → BindingClean (binds I at x)
binds_clean I at x b e =
    let n = length b.tables.vars in
    then_none (declare b.bindings x n) (λ ds. Ok (record { bindings = ds; tables = with_names (entry I at (number n ∷ [])) (with_variable x.span b.tables) })) (declare_clean b.bindings x n) (λ ds e. cc) e

variant_in_clean : (I : Inside) (a v : Ident) → variant_in I a v ≡ Err misnamed.OutOfMemory → ⊥
variant_in_clean I a v =
    let i = item_named type_name 0 I.program a.name in
    both_clean (one (known (as_enum i) a.span)) (one (known (number_in (variants_of i) v.name) v.span)) (one_clean (known (as_enum i) a.span) (known_clean (as_enum i) a.span))
    (one_clean (known (number_in (variants_of i) v.name) v.span) (known_clean (number_in (variants_of i) v.name) v.span))

struct_in_clean : (I : Inside) (x : Ident) → one (struct_in I x) ≡ Err misnamed.OutOfMemory → ⊥
struct_in_clean I x = one_clean (struct_in I x) (known_clean (as_struct (item_named type_name 0 I.program x.name)) x.span)

mutual
  pattern_clean : (I : Inside) (at : List ℕ) (p : PatternTree) → BindingClean (in_pattern I at p)
  pattern_clean I at (plain.wild s) = also_clean nothing nothing_clean
  pattern_clean I at (plain.bind s x m) = binds_clean I at x
  pattern_clean I at (plain.int_pattern s g v k) = also_clean nothing nothing_clean
  pattern_clean I at (plain.bool_pattern s b) = also_clean nothing nothing_clean
  pattern_clean I at (plain.tuple_pattern s ps) = patterns_clean I at 0 ps
  pattern_clean I at (plain.variant_pattern s a v ps) = order_clean (also (names I at (variant_in I a v))) (in_patterns I at 0 ps) (also_clean (names I at (variant_in I a v)) (names_clean I at (variant_in I a v) (variant_in_clean I a v))) (patterns_clean I at 0 ps)
  pattern_clean I at (plain.make_pattern s x fs) = order_clean (also (names I at (one (struct_in I x)))) (in_field_patterns I at 0 fs) (also_clean (names I at (one (struct_in I x))) (names_clean I at (one (struct_in I x)) (struct_in_clean I x))) (field_patterns_clean I at 0 fs)

  patterns_clean : (I : Inside) (at : List ℕ) (i : ℕ) (ps : PatternTrees) → BindingClean (in_patterns I at i ps)
  patterns_clean I at i plain.no_pattern = also_clean nothing nothing_clean
  patterns_clean I at i (plain.pattern_and p ps) = order_clean _ _ (pattern_clean I (child at i) p) (patterns_clean I at (next i) ps)

  field_patterns_clean : (I : Inside) (at : List ℕ) (i : ℕ) (fs : FieldPatterns) → BindingClean (in_field_patterns I at i fs)
  field_patterns_clean I at i plain.no_field_pattern = also_clean nothing nothing_clean
  field_patterns_clean I at i (plain.field_pattern_and x p fs) = order_clean _ _ (pattern_clean I (child at i) p) (field_patterns_clean I at (next i) fs)

pattern_then_clean : (I : Inside) (at : List ℕ) (p : PatternTree) (f : DeclaredNames → Naming) → ((ds : DeclaredNames) → Clean (f ds)) → Clean (pattern_then I at p f)
pattern_then_clean I at p f g t e =
    then_none (in_pattern I at p (record { bindings = []; tables = t })) (λ b. f b.bindings b.tables) (pattern_clean I at p (record { bindings = []; tables = t })) (λ b. g b.bindings b.tables) e

-- ---- expressions

callee_clean : (I : Inside) (at : List ℕ) (x : Ident) (v : Option ℕ) → Clean (callee I at x v)
callee_clean I at x (Some n) t e = absurd (cc)
callee_clean I at x None t e = names_clean I at (one (known (as_function (item_named function_name 0 I.program x.name)) x.span))
    (one_clean (known (as_function (item_named function_name 0 I.program x.name)) x.span) (known_clean (as_function (item_named function_name 0 I.program x.name)) x.span)) t e

loop_clean : (I : Inside) (at : List ℕ) (f : ℕ → Naming) → ((n : ℕ) → Clean (f n)) → Clean (in_loop I at f)
loop_clean I at f g t e = g (number (length t.loops)) (with_loop (position I at) t) e

tables_clean : (sc : Variables) (f : Naming) → Clean f → ScopeClean (λ t. and_then (f t) (λ t. Ok (record { scope = sc; tables = t })))
tables_clean sc f g t e = then_none (f t) (λ t. Ok (record { scope = sc; tables = t })) (g t) (λ t e. cc) e

mutual
  expression_clean : (I : Inside) (sc : Variables) (ls : List Around) (at : List ℕ) (e : Expression) → Clean (in_expression I sc ls at e)
  expression_clean I sc ls at (plain.int s v k) = nothing_clean
  expression_clean I sc ls at (plain.bool s b) = nothing_clean
  expression_clean I sc ls at (plain.tuple s es) = expressions_clean I sc ls at 0 es
  expression_clean I sc ls at (plain.var s x) = names_clean I at (one (known (variable_named sc x) s)) (one_clean (known (variable_named sc x) s) (known_clean (variable_named sc x) s))
  expression_clean I sc ls at (plain.field s e x) = expression_clean I sc ls (child at 0) e
  expression_clean I sc ls at (plain.part s e i) = expression_clean I sc ls (child at 0) e
  expression_clean I sc ls at (plain.deref s e) = expression_clean I sc ls (child at 0) e
  expression_clean I sc ls at (plain.negate s e) = expression_clean I sc ls (child at 0) e
  expression_clean I sc ls at (plain.invert s e) = expression_clean I sc ls (child at 0) e
  expression_clean I sc ls at (plain.borrow s m e) = expression_clean I sc ls (child at 0) e
  expression_clean I sc ls at (plain.binary s o a b) = then_clean _ _ (expression_clean I sc ls (child at 0) a) (expression_clean I sc ls (child at 1) b)
  expression_clean I sc ls at (plain.assign s a b) = then_clean _ _ (expression_clean I sc ls (child at 0) a) (expression_clean I sc ls (child at 1) b)
  expression_clean I sc ls at (plain.update s o a b) = then_clean _ _ (expression_clean I sc ls (child at 0) a) (expression_clean I sc ls (child at 1) b)
  expression_clean I sc ls at (plain.call s f es) = then_clean _ _ (callee_clean I at f (variable_named sc f.name)) (expressions_clean I sc ls at 0 es)
  expression_clean I sc ls at (plain.next_input s) =
      let r = known (as_rt (item_named type_name 0 I.program (codes "rt"))) (rt_span s) in
      names_clean I at (one r) (one_clean r (known_clean (as_rt (item_named type_name 0 I.program (codes "rt"))) (rt_span s)))
  expression_clean I sc ls at (plain.variant s a v es) = then_clean _ _ (names_clean I at (variant_in I a v) (variant_in_clean I a v)) (arguments_clean I sc ls at es)
  expression_clean I sc ls at (plain.make s x fs) = then_clean _ _ (names_clean I at (one (struct_in I x)) (struct_in_clean I x)) (fields_clean I sc ls at 0 fs)
  expression_clean I sc ls at (plain.print s e) = expression_clean I sc ls (child at 0) e
  expression_clean I sc ls at (plain.block s b) = block_clean I sc ls (child at 0) b
  expression_clean I sc ls at (plain.if s c b o) = then_clean _ _ (expression_clean I sc ls (child at 0) c) (then_clean _ _ (block_clean I sc ls (child at 1) b) (optional_clean I sc ls (child at 2) o))
  expression_clean I sc ls at (plain.if_let s p e b o) = pattern_then_clean I (child at 0) p _ (λ ds.
      then_clean _ _ (expression_clean I sc ls (child at 1) e) (then_clean _ _ (block_clean I (entered sc ds) ls (child at 2) b) (optional_clean I sc ls (child at 3) o)))
  expression_clean I sc ls at (plain.match s e l) = then_clean _ _ (expression_clean I sc ls (child at 0) e) (arms_clean I sc ls at 1 l)
  expression_clean I sc ls at (plain.loop s l b) = loop_clean I at _ (λ n. block_clean I sc (a_loop l n ∷ ls) (child at 0) b)
  expression_clean I sc ls at (plain.while s l c b) = loop_clean I at _ (λ n.
      then_clean _ _ (expression_clean I sc (a_test ∷ a_loop l n ∷ ls) (child at 0) c) (block_clean I sc (a_loop l n ∷ ls) (child at 1) b))
  expression_clean I sc ls at (plain.while_let s l p e b) = loop_clean I at _ (λ n. pattern_then_clean I (child at 0) p _ (λ ds.
      then_clean _ _ (expression_clean I sc (a_test ∷ a_loop l n ∷ ls) (child at 1) e) (block_clean I (entered sc ds) (a_loop l n ∷ ls) (child at 2) b)))
  expression_clean I sc ls at (plain.break s l) = names_clean I at (one (led s l (target l ls))) (one_clean (led s l (target l ls)) (led_clean s l (target l ls)))
  expression_clean I sc ls at (plain.continue s l) = names_clean I at (one (led s l (target l ls))) (one_clean (led s l (target l ls)) (led_clean s l (target l ls)))
  expression_clean I sc ls at (plain.return s o) = optional_clean I sc ls (child at 0) o

  expressions_clean : (I : Inside) (sc : Variables) (ls : List Around) (at : List ℕ) (i : ℕ) (es : Expressions) → Clean (in_expressions I sc ls at i es)
  expressions_clean I sc ls at i plain.no_expression = nothing_clean
  expressions_clean I sc ls at i (plain.expression_and e es) = then_clean _ _ (expression_clean I sc ls (child at i) e) (expressions_clean I sc ls at (next i) es)

  optional_clean : (I : Inside) (sc : Variables) (ls : List Around) (at : List ℕ) (o : OptionalExpression) → Clean (in_optional I sc ls at o)
  optional_clean I sc ls at plain.absent = nothing_clean
  optional_clean I sc ls at (plain.present e) = expression_clean I sc ls at e

  arguments_clean : (I : Inside) (sc : Variables) (ls : List Around) (at : List ℕ) (es : OptionalExpressions) → Clean (in_arguments I sc ls at es)
  arguments_clean I sc ls at plain.no_list = nothing_clean
  arguments_clean I sc ls at (plain.a_list es) = expressions_clean I sc ls at 0 es

  fields_clean : (I : Inside) (sc : Variables) (ls : List Around) (at : List ℕ) (i : ℕ) (fs : FieldExpressions) → Clean (in_fields I sc ls at i fs)
  fields_clean I sc ls at i plain.no_field = nothing_clean
  fields_clean I sc ls at i (plain.field_and x e fs) = then_clean _ _ (expression_clean I sc ls (child at i) e) (fields_clean I sc ls at (next i) fs)

  arms_clean : (I : Inside) (sc : Variables) (ls : List Around) (at : List ℕ) (i : ℕ) (l : plain.Arms) → Clean (in_arms I sc ls at i l)
  arms_clean I sc ls at i plain.no_arm = nothing_clean
  arms_clean I sc ls at i (plain.arm_and p e l) =
      then_clean _ _ (pattern_then_clean I (child at i) p _ (λ ds. expression_clean I (entered sc ds) ls (child at (next i)) e)) (arms_clean I sc ls at (next (next i)) l)

  pub block_clean : (I : Inside) (sc : Variables) (ls : List Around) (at : List ℕ) (b : plain.Body) → Clean (in_block I sc ls at b)
  block_clean I sc ls at (plain.body s ss o) t e =
      then_none (in_statements I sc ls at 0 ss t) (λ r. in_optional I r.scope ls (child at (number (length (listed ss)))) o r.tables) (statements_clean I sc ls at 0 ss t)
      (λ r. optional_clean I r.scope ls (child at (number (length (listed ss)))) o r.tables) e

  statements_clean : (I : Inside) (sc : Variables) (ls : List Around) (at : List ℕ) (i : ℕ) (ss : Statements) → ScopeClean (in_statements I sc ls at i ss)
  statements_clean I sc ls at i plain.no_statement t e = absurd (cc)
  statements_clean I sc ls at i (plain.statement_and x ss) t e =
      then_none (in_statement I sc ls (child at i) x t) (λ r. in_statements I r.scope ls at (next i) ss r.tables) (statement_clean I sc ls (child at i) x t)
      (λ r. statements_clean I r.scope ls at (next i) ss r.tables) e

  statement_clean : (I : Inside) (sc : Variables) (ls : List Around) (at : List ℕ) (x : Statement) → ScopeClean (in_statement I sc ls at x)
  statement_clean I sc ls at (plain.let_statement s p y o) t e =
      let f = in_optional_type I (child at 1) y >> in_optional I sc ls (child at (initialiser_at y)) o in
      then_none (in_pattern I (child at 0) p (record { bindings = []; tables = t })) (λ b. and_then (f b.tables) (λ t. Ok (record { scope = entered sc b.bindings; tables = t })))
      (pattern_clean I (child at 0) p (record { bindings = []; tables = t }))
      (λ b. tables_clean (entered sc b.bindings) f
      (then_clean (in_optional_type I (child at 1) y) (in_optional I sc ls (child at (initialiser_at y)) o) (optional_type_clean I (child at 1) y) (optional_clean I sc ls (child at (initialiser_at y)) o))
      b.tables) e
  statement_clean I sc ls at (plain.expression_statement s x b) t e = tables_clean sc (in_expression I sc ls (child at 0) x) (expression_clean I sc ls (child at 0) x) t e

-- ---- items

distinct_clean : (ds : DeclaredNames) (n : ℕ) (xs : List Ident) → Clean (distinct ds n xs)
distinct_clean ds n [] t e = cc
distinct_clean ds n (x ∷ xs) t e = then_none (declare ds x n) (λ ds. distinct ds (suc n) xs t) (declare_clean ds x n) (λ ds. distinct_clean ds (suc n) xs t) e

declared_clean : (I : Inside) (at : List ℕ) (ds : DeclaredNames) (i : ℕ) (fs : List FieldOf) → Clean (in_declared I at ds i fs)
declared_clean I at ds i [] t e = cc
declared_clean I at ds i (f ∷ fs) t e =
    then_none (declare ds f.name i) (λ ds. (in_type I (child at i) f.typ >> in_declared I at ds (next i) fs) t) (declare_clean ds f.name i)
    (λ ds. then_clean (in_type I (child at i) f.typ) (in_declared I at ds (next i) fs) (type_clean I (child at i) f.typ) (declared_clean I at ds (next i) fs) t) e

variants_clean : (I : Inside) (at : List ℕ) (ds : DeclaredNames) (n i : ℕ) (vs : List VariantOf) → Clean (in_variants I at ds n i vs)
variants_clean I at ds n i [] t e = cc
variants_clean I at ds n i (v ∷ vs) t e =
    then_none (declare ds v.name n) (λ ds. (in_types I at i v.types >> in_variants I at ds (suc n) (behind i v.types) vs) t) (declare_clean ds v.name n)
    (λ ds. then_clean (in_types I at i v.types) (in_variants I at ds (suc n) (behind i v.types) vs) (types_clean I at i v.types) (variants_clean I at ds (suc n) (behind i v.types) vs) t) e

bounds_clean : (I : Inside) (ls : List Ident) → bounds_in I ls ≡ Err misnamed.OutOfMemory → ⊥
bounds_clean I [] e = cc
bounds_clean I (l ∷ ls) e = both_clean (one (lifetime_in I l)) (bounds_in I ls) (one_clean (lifetime_in I l) (known_clean (number_in I.lifetimes l.name) l.span)) (bounds_clean I ls) e

lifetimes_clean : (I : Inside) (ds : DeclaredNames) (n : ℕ) (ls : List BoundLifetime) → lifetimes_of I ds n ls ≡ Err misnamed.OutOfMemory → ⊥
lifetimes_clean I ds n [] e = cc
lifetimes_clean I ds n (l ∷ ls) e =
    then_none (declare ds l.name n) (λ ds. both (bounds_in I l.bounds) (lifetimes_of I ds (suc n) ls)) (declare_clean ds l.name n)
    (λ ds. both_clean (bounds_in I l.bounds) (lifetimes_of I ds (suc n) ls) (bounds_clean I l.bounds) (lifetimes_clean I ds (suc n) ls)) e

parameter_clean : (I : Inside) (at : List ℕ) (i : ℕ) (x : Parameter) → BindingClean (in_parameter I at i x)
parameter_clean I at i x b e =
    then_none (declare b.bindings x.name i) (λ ds. and_then (in_type I (child at i) x.typ (with_variable x.name.span b.tables)) (λ t. Ok (record { bindings = ds; tables = t }))) (declare_clean b.bindings x.name i)
    (λ ds. then_none (in_type I (child at i) x.typ (with_variable x.name.span b.tables)) (λ t. Ok (record { bindings = ds; tables = t }))
    (type_clean I (child at i) x.typ (with_variable x.name.span b.tables)) (λ t e. cc)) e

parameters_clean : (I : Inside) (at : List ℕ) (i : ℕ) (xs : List Parameter) → BindingClean (in_parameters I at i xs)
parameters_clean I at i [] b e = cc
parameters_clean I at i (x ∷ xs) b e = then_none (in_parameter I at i x b) (in_parameters I at (next i) xs) (parameter_clean I at i x b) (parameters_clean I at (next i) xs) e

function_clean : (I : Inside) (sc : Variables) (ls : List Around) (at : List ℕ) (f : Function) → Clean (in_function I sc ls at f)
function_clean I sc ls at f t e =
    let n = number (length f.params) in
    let rest : Bound → Outcome ItemNames = λ b.
    (in_optional_type I (child at n) f.result >> in_block I (entered sc b.bindings) ls (child at (body_at n f.result)) f.body) b.tables in
    then_none (lifetimes_of I [] 0 f.lifetimes) (λ ns. and_then (numbered I at (ns ++ numbers_from 0 f.params) t)
    (λ t. and_then (in_parameters I at 0 f.params (record { bindings = []; tables = t })) rest)) (lifetimes_clean I [] 0 f.lifetimes)
    (λ ns. then_none (numbered I at (ns ++ numbers_from 0 f.params) t) (λ t. and_then (in_parameters I at 0 f.params (record { bindings = []; tables = t })) rest)
    (numbered_clean I at (ns ++ numbers_from 0 f.params) t)
    (λ t. then_none (in_parameters I at 0 f.params (record { bindings = []; tables = t })) rest (parameters_clean I at 0 f.params (record { bindings = []; tables = t }))
    (λ b. then_clean (in_optional_type I (child at n) f.result) (in_block I (entered sc b.bindings) ls (child at (body_at n f.result)) f.body)
    (optional_type_clean I (child at n) f.result) (block_clean I (entered sc b.bindings) ls (child at (body_at n f.result)) f.body) b.tables))) e

form_clean : (I : Inside) (sc : Variables) (ls : List Around) (at : List ℕ) (i : ItemTree) → Clean (in_form I sc ls at i)
form_clean I sc ls at (plain.rt_item s r) = nothing_clean
form_clean I sc ls at (plain.struct_item s d) = then_clean (distinct [] 0 d.lifetimes) (in_declared I at [] 0 d.fields) (distinct_clean [] 0 d.lifetimes) (declared_clean I at [] 0 d.fields)
form_clean I sc ls at (plain.enum_item s d) = then_clean (distinct [] 0 d.lifetimes) (in_variants I at [] 0 0 d.variants) (distinct_clean [] 0 d.lifetimes) (variants_clean I at [] 0 0 d.variants)
form_clean I sc ls at (plain.function_item s f) = function_clean I sc ls at f

items_clean : (p : ProgramTree) (n : ℕ) (is : ProgramTree) → in_items p n is ≡ Err misnamed.OutOfMemory → ⊥
items_clean p n [] e = cc
items_clean p n (i ∷ is) e =
    then_none (in_item p n i) (λ x. and_then (in_items p (suc n) is) (λ xs. Ok (x ∷ xs)))
    (form_clean (record { program = p; item = number n; lifetimes = firsts [] 0 (lifetimes_declared i) }) [] [] [] i
    (record { vars = []; lifetimes = map (λ (l : Ident). l.span) (lifetimes_declared i); loops = []; names = [] }))
    (λ x. then_none (in_items p (suc n) is) (λ xs. Ok (x ∷ xs)) (items_clean p (suc n) is) (λ xs e. cc)) e

declared_in_clean : (ds : DeclaredNames) (n : ℕ) (x : Option Ident) → declared_in ds n x ≡ Err misnamed.OutOfMemory → ⊥
declared_in_clean ds n None e = cc
declared_in_clean ds n (Some x) e = declare_clean ds x n e

apart_clean : (l : Lists) (n : ℕ) (is : ProgramTree) → apart l n is ≡ Err misnamed.OutOfMemory → ⊥
apart_clean l n [] e = cc
apart_clean l n (i ∷ is) e =
    then_none (declared_in l.types n (type_name i)) (λ ts. and_then (declared_in l.functions n (function_name i)) (λ fs. apart (record { types = ts; functions = fs }) (suc n) is))
    (declared_in_clean l.types n (type_name i))
    (λ ts. then_none (declared_in l.functions n (function_name i)) (λ fs. apart (record { types = ts; functions = fs }) (suc n) is) (declared_in_clean l.functions n (function_name i))
    (λ fs. apart_clean (record { types = ts; functions = fs }) (suc n) is)) e

program_clean : (p : ProgramTree) → in_program p ≡ Err misnamed.OutOfMemory → ⊥
program_clean p e =
    then_none (apart (record { types = []; functions = [] }) 0 p) (λ _. in_items p 0 p) (apart_clean (record { types = []; functions = [] }) 0 p) (λ _. items_clean p 0 p) e

-- ---- a program

abbrev Named : ProgramTree → Type 0
Named p = (names : List ItemNames) × Meant p names

abbrev MisnamedAt : ProgramTree → Type 0
MisnamedAt p = (e : NameFault) × ((e ≢ name_fault.OutOfMemory) × Causes e p)

fault_caused : (p : ProgramTree) (m : Misnamed) → in_program p ≡ Err m → MisnamedAt p
fault_caused p (misnamed.Unknown s) e = (name_fault.Unknown s, (λ e. cc, e))
fault_caused p (misnamed.Twice a b) e = (name_fault.Twice a b, (λ e. cc, e))
fault_caused p (misnamed.Label s) e = (name_fault.Label s, (λ e. cc, e))
fault_caused p misnamed.OutOfMemory e = absurd (program_clean p e)

stands_at : (p : ProgramTree) (n : ℕ) → n < length (held_in_tree p) → (i : ItemTree) × (slice_get p n ≡ Some i)
stands_at p n l = at p n (let h = held_length p p in omega (arith, l, h))
  where
    held_length : (p q : ProgramTree) → length (map (held_by p) q) ≡ length q
    held_length p [] = refl
    held_length p (i ∷ q) = ap suc (held_length p q)

    at : (p : ProgramTree) (n : ℕ) → n < length p → (i : ItemTree) × (slice_get p n ≡ Some i)
    at [] n l = absurd (omega (arith, l))
    at (i ∷ p) zero l = (i, refl)
    at (i ∷ p) (suc n) l = at p n (omega (arith, l))

pub named_or_misnamed : (p : ProgramTree) → Named p ⊎ MisnamedAt p
named_or_misnamed p = by (in_program p) refl
  where
    cycles : (names : List ItemNames) → in_program p ≡ Ok names → (o : Option ℕ) × FirstOnCycle (held_in_tree p) o → Named p ⊎ MisnamedAt p
    cycles names e (None, none) = inl (names, record { names_are = e; finite = none })
    cycles names e (Some n, f) =
        let s = stands_at p n (on_cycle_within (held_in_tree p) n f.0) in
        inr (name_fault.SelfHolding (name_span s.0), (λ e. cc, record { names = names; names_are = e; holding = record { number = n; item = s.0; first = f; stands = s.1; place = refl } }))

    by : (o : Outcome (List ItemNames)) → in_program p ≡ o → Named p ⊎ MisnamedAt p
    by (Ok names) e = cycles names e (first_on_cycle (held_in_tree p))
    by (Err m) e = inr (fault_caused p m e)
