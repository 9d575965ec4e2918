-- Types, patterns and expressions resolve as they do without their spans, form by form.
use Rattle.std.proofs.Common.{◌≡◌, ℕ, suc, true, List, [], ◌∷◌, length, map, Option, Some, None, option_map, Ok, refl, sym, ap, subst, codes}
use Rattle.rx_core.specs.declared.types.Span.{Span}
use Rattle.rx_tree.specs.declared.tree.Ident.{Ident}
use Rattle.rx_tree.specs.Lists.{listed}
use Rattle.rx_tree.specs.Plain as plain
use Rattle.rx_tree.specs.Plain.{Arms, Body, Expression, Expressions, FieldExpressions, FieldPatterns, OptionalExpression, OptionalExpressions, PatternTree, PatternTrees, ProgramTree, Statement, Statements, TypeTree, TypeTrees}
use Rattle.rx_tree.specs.Erase.{erase, erase_all, erase_arms, erase_body, erase_field_patterns, erase_fields, erase_ident, erase_label, erase_optional, erase_optional_list, erase_pattern, erase_patterns, erase_program, erase_statement, erase_statements, erase_type, erase_types}
use Rattle.rx_resolve_names.specs.declared.resolved.ItemNames.{ItemNames}
use Rattle.rx_resolve_names.specs.Scopes.{entered, variable_named, DeclaredNames, Variables}
use Rattle.rx_resolve_names.specs.Meant.{as_enum, as_function, function_name, item_named, number, number_in, target, type_name, variants_of, a_loop, a_test, Around}
use Rattle.rx_resolve_names.specs.Steps.{and_then, both, child, declare, entry, known, led, names, next, nothing, one, position, with_loop, with_names, with_variable, ◌>>◌, Inside, Naming, Outcome}
use Rattle.rx_resolve_names.specs.Names.{also, binds, callee, in_arguments, in_arms, in_block, in_expression, in_expressions, in_field_patterns, in_fields, in_lifetime, in_loop, in_optional, in_optional_type, in_order, in_pattern, in_patterns, in_statement, in_statements, in_type, in_types, initialiser_at, lifetime_in, lifetimes_in, pattern_then, struct_in, type_in, variant_in, written, Binding, Bound, Scoped}
use Rattle.rx_resolve_laws.specs.AlikeTables.{AlikeTables}
use Rattle.rx_resolve_laws.proofs.Steps.{as_rt_there, as_struct_there, as_type_there, as_enum_there, both_like, declare_like, entered_same, entry_like, erase_around, function_there, in_turn, known_like, led_like, loop_like, names_like, nothing_like, number_same, one_like, sim_then, target_same, variable_like, variant_there, Equal, Like, SameDeclared, Sim}

module _ (P : ProgramTree) (a : ℕ) (L M : DeclaredNames) (declared : SameDeclared L M) where
  abbrev pub I : Inside
  I = record { program = P; item = a; lifetimes = L }

  -- without spans
  abbrev pub E : Inside
  E = record { program = erase_program P; item = a; lifetimes = M }

  names_same : (at : List ℕ) (r r' : Outcome (List ℕ)) → Equal r r' → Like (names I at r) (names E at r')
  names_same at r r' h = names_like P (erase_program P) a L M at r r' h

  -- ---- types

  pub lifetime_same : (l : Ident) → Equal (lifetime_in I l) (lifetime_in E (erase_ident l))
  lifetime_same l = known_like (number_in L l.name) (number_in M l.name) l.span (erase_ident l).span (number_same L M l.name declared)

  lifetimes_same : (ls : List (Option Ident)) → Equal (lifetimes_in I ls) (lifetimes_in E (map erase_label ls))
  lifetimes_same [] = refl
  lifetimes_same (None ∷ ls) = lifetimes_same ls
  lifetimes_same (Some l ∷ ls) = both_like (one (lifetime_in I l)) (one (lifetime_in E (erase_ident l))) (lifetimes_in I ls) (lifetimes_in E (map erase_label ls)) (one_like (lifetime_in I l) (lifetime_in E (erase_ident l)) (lifetime_same l)) (lifetimes_same ls)

  written_same : (o : Option (List (Option Ident))) → Equal (lifetimes_in I (written o)) (lifetimes_in E (written (option_map (map erase_label) o)))
  written_same None = refl
  written_same (Some ls) = lifetimes_same ls

  type_named_same : (x : Ident) → Equal (one (type_in I x)) (one (type_in E (erase_ident x)))
  type_named_same x = one_like (type_in I x) (type_in E (erase_ident x)) (known_like _ _ x.span (erase_ident x).span (sym (as_type_there P x.name)))

  lifetime_like : (at : List ℕ) (l : Option Ident) → Like (in_lifetime I at l) (in_lifetime E at (erase_label l))
  lifetime_like at None = nothing_like
  lifetime_like at (Some l) = names_same at (one (lifetime_in I l)) (one (lifetime_in E (erase_ident l))) (one_like (lifetime_in I l) (lifetime_in E (erase_ident l)) (lifetime_same l))

  mutual
    pub type_like : (at : List ℕ) (t : TypeTree) → Like (in_type I at t) (in_type E at (erase_type t))
    type_like at (plain.kind_type s k) = nothing_like
    type_like at (plain.bool_type s) = nothing_like
    type_like at (plain.tuple_type s ts) = types_like at 0 ts
    type_like at (plain.ref_type s l m t) = in_turn (in_lifetime I at l) (in_lifetime E at (erase_label l)) (in_type I (child at 0) t) (in_type E (child at 0) (erase_type t)) (lifetime_like at l) (type_like (child at 0) t)
    type_like at (plain.named_type s x ls) = names_same at (both (one (type_in I x)) (lifetimes_in I (written ls))) (both (one (type_in E (erase_ident x))) (lifetimes_in E (written (option_map (map erase_label) ls))))
        (both_like (one (type_in I x)) (one (type_in E (erase_ident x))) (lifetimes_in I (written ls)) (lifetimes_in E (written (option_map (map erase_label) ls))) (type_named_same x) (written_same ls))

    pub types_like : (at : List ℕ) (i : ℕ) (ts : TypeTrees) → Like (in_types I at i ts) (in_types E at i (erase_types ts))
    types_like at i plain.no_type = nothing_like
    types_like at i (plain.type_and t ts) = in_turn (in_type I (child at i) t) (in_type E (child at i) (erase_type t)) (in_types I at (next i) ts) (in_types E at (next i) (erase_types ts)) (type_like (child at i) t) (types_like at (next i) ts)

  pub optional_type_like : (at : List ℕ) (y : Option TypeTree) → Like (in_optional_type I at y) (in_optional_type E at (option_map erase_type y))
  optional_type_like at None = nothing_like
  optional_type_like at (Some t) = type_like at t

  -- ---- paths

  variant_same : (x v : Ident) → Equal (variant_in I x v) (variant_in E (erase_ident x) (erase_ident v))
  variant_same x v =
      let i = item_named type_name 0 P x.name in let j = item_named type_name 0 (erase_program P) x.name in
      both_like (one (known (as_enum i) x.span)) (one (known (as_enum j) (erase_ident x).span)) (one (known (number_in (variants_of i) v.name) v.span)) (one (known (number_in (variants_of j) v.name) (erase_ident v).span))
      (one_like (known (as_enum i) x.span) (known (as_enum j) (erase_ident x).span) (known_like (as_enum i) (as_enum j) x.span (erase_ident x).span (sym (as_enum_there P x.name))))
      (one_like (known (number_in (variants_of i) v.name) v.span) (known (number_in (variants_of j) v.name) (erase_ident v).span) (known_like (number_in (variants_of i) v.name) (number_in (variants_of j) v.name) v.span (erase_ident v).span (variant_there P x.name v.name)))

  struct_same : (x : Ident) → Equal (one (struct_in I x)) (one (struct_in E (erase_ident x)))
  struct_same x = one_like (struct_in I x) (struct_in E (erase_ident x)) (known_like _ _ x.span (erase_ident x).span (sym (as_struct_there P x.name)))

  -- ---- patterns

  pub record BoundAlike (b c : Bound) : Type 0 where
    pub bindings : SameDeclared b.bindings c.bindings
    pub tables : AlikeTables b.tables c.tables

  abbrev pub Binds : Binding → Binding → Type 0
  Binds f g = (b c : Bound) → BoundAlike b c → Sim BoundAlike (f b) (g c)

  also_like : (f g : Naming) → Like f g → Binds (also f) (also g)
  also_like f g h b c s = sim_then AlikeTables BoundAlike (f b.tables) (g c.tables) (λ t. Ok (record { bindings = b.bindings; tables = t })) (λ t. Ok (record { bindings = c.bindings; tables = t })) (h b.tables c.tables s.tables) (λ t u z. record { bindings = s.bindings; tables = z })

  order_like : (f f' g g' : Binding) → Binds f f' → Binds g g' → Binds (in_order f g) (in_order f' g')
  order_like f f' g g' h k b c s = sim_then BoundAlike BoundAlike (f b) (f' c) g g' (h b c s) (λ d e z. k d e z)

  binds_like : (at : List ℕ) (x : Ident) → Binds (binds I at x) (binds E at (erase_ident x))
  binds_like at x b c s =
      subst (λ (n : ℕ). Sim BoundAlike (binds I at x b) (and_then (declare c.bindings (erase_ident x) n) (λ ds. Ok (record { bindings = ds; tables = with_names (entry E at (number n ∷ [])) (with_variable (erase_ident x).span c.tables) })))) s.tables.vars
      (sim_then SameDeclared BoundAlike (declare b.bindings x n) (declare c.bindings (erase_ident x) n) (λ ds. Ok (record { bindings = ds; tables = with_names (entry I at (number n ∷ [])) (with_variable x.span b.tables) }))
      (λ ds. Ok (record { bindings = ds; tables = with_names (entry E at (number n ∷ [])) (with_variable (erase_ident x).span c.tables) })) (declare_like b.bindings c.bindings x n s.bindings)
      (λ ds es z. record { bindings = z; tables = entry_like (entry I at (number n ∷ [])) (with_variable x.span b.tables) (with_variable (erase_ident x).span c.tables) (variable_like x.span (erase_ident x).span b.tables c.tables s.tables) }))
    where
      n : ℕ
      n = length b.tables.vars

  mutual
    pattern_like : (at : List ℕ) (p : PatternTree) → Binds (in_pattern I at p) (in_pattern E at (erase_pattern p))
    pattern_like at (plain.wild s) = also_like nothing nothing nothing_like
    pattern_like at (plain.bind s x m) = binds_like at x
    pattern_like at (plain.int_pattern s g v k) = also_like nothing nothing nothing_like
    pattern_like at (plain.bool_pattern s b) = also_like nothing nothing nothing_like
    pattern_like at (plain.tuple_pattern s ps) = patterns_like at 0 ps
    pattern_like at (plain.variant_pattern s x v ps) = order_like _ _ _ _ (also_like _ _ (names_same at (variant_in I x v) (variant_in E (erase_ident x) (erase_ident v)) (variant_same x v))) (patterns_like at 0 ps)
    pattern_like at (plain.make_pattern s x fs) = order_like _ _ _ _ (also_like _ _ (names_same at (one (struct_in I x)) (one (struct_in E (erase_ident x))) (struct_same x))) (field_patterns_like at 0 fs)

    patterns_like : (at : List ℕ) (i : ℕ) (ps : PatternTrees) → Binds (in_patterns I at i ps) (in_patterns E at i (erase_patterns ps))
    patterns_like at i plain.no_pattern = also_like nothing nothing nothing_like
    patterns_like at i (plain.pattern_and p ps) = order_like _ _ _ _ (pattern_like (child at i) p) (patterns_like at (next i) ps)

    field_patterns_like : (at : List ℕ) (i : ℕ) (fs : FieldPatterns) → Binds (in_field_patterns I at i fs) (in_field_patterns E at i (erase_field_patterns fs))
    field_patterns_like at i plain.no_field_pattern = also_like nothing nothing nothing_like
    field_patterns_like at i (plain.field_pattern_and x p fs) = order_like _ _ _ _ (pattern_like (child at i) p) (field_patterns_like at (next i) fs)

  then_like : (at : List ℕ) (p : PatternTree) (f g : DeclaredNames → Naming) → ((ds es : DeclaredNames) → SameDeclared ds es → Like (f ds) (g es)) → Like (pattern_then I at p f) (pattern_then E at (erase_pattern p) g)
  then_like at p f g h t u s =
      sim_then BoundAlike AlikeTables (in_pattern I at p (record { bindings = []; tables = t })) (in_pattern E at (erase_pattern p) (record { bindings = []; tables = u })) (λ b. f b.bindings b.tables) (λ b. g b.bindings b.tables)
      (pattern_like at p (record { bindings = []; tables = t }) (record { bindings = []; tables = u }) (record { bindings = tt; tables = s })) (λ b c z. h b.bindings c.bindings z.bindings b.tables c.tables z.tables)

  -- ---- expressions

  callee_like : (at : List ℕ) (x : Ident) (o : Option ℕ) → Like (callee I at x o) (callee E at (erase_ident x) o)
  callee_like at x (Some n) t u s = entry_like (record { node = position I at; numbers = n ∷ []; hidden = true }) t u s
  callee_like at x None t u s = names_same at (one (known (as_function (item_named function_name 0 P x.name)) x.span)) (one (known (as_function (item_named function_name 0 (erase_program P) x.name)) (erase_ident x).span))
      (one_like _ _ (known_like _ _ x.span (erase_ident x).span (sym (function_there P x.name)))) t u s

  looped : (at : List ℕ) (f g : ℕ → Naming) → ((n : ℕ) → Like (f n) (g n)) → Like (in_loop I at f) (in_loop E at g)
  looped at f g h t u s =
      subst (λ (n : ℕ). Sim AlikeTables (f (number (length t.loops)) (with_loop (position I at) t)) (g (number n) (with_loop (position E at) u))) (ap length s.loops) (h (number (length t.loops)) (with_loop (position I at) t) (with_loop (position I at) u) (loop_like (position I at) t u s))

  -- behind what declares, names are in scope alike
  in_scope : (sc : Variables) (ds es : DeclaredNames) (f : Naming) (g : Variables → Naming) → SameDeclared ds es → Like f (g (entered sc ds)) → Like f (g (entered sc es))
  in_scope sc ds es f g s h = subst (λ (x : Variables). Like f (g x)) (entered_same sc ds es s) h

  jump_like : (at : List ℕ) (s : Span) (l : Option Ident) (ls : List Around) (s' : Span) → Like (names I at (one (led s l (target l ls)))) (names E at (one (led s' (erase_label l) (target (erase_label l) (map erase_around ls)))))
  jump_like at s l ls s' = names_same at _ _ (one_like _ _ (led_like s s' l (target l ls) (target (erase_label l) (map erase_around ls)) (target_same l ls)))

  many_same : (ss : Statements) → length (listed (erase_statements ss)) ≡ length (listed ss)
  many_same plain.no_statement = refl
  many_same (plain.statement_and x ss) = ap suc (many_same ss)

  initialiser_same : (y : Option TypeTree) → initialiser_at (option_map erase_type y) ≡ initialiser_at y
  initialiser_same None = refl
  initialiser_same (Some t) = refl

  pub record ScopedAlike (r q : Scoped) : Type 0 where
    pub scope : r.scope ≡ q.scope
    pub tables : AlikeTables r.tables q.tables

  abbrev pub Leads : (ItemNames → Outcome Scoped) → (ItemNames → Outcome Scoped) → Type 0
  Leads f g = (t u : ItemNames) → AlikeTables t u → Sim ScopedAlike (f t) (g u)

  abbrev ls' : List Around → List Around
  ls' = map erase_around

  mutual
    exp_like : (sc : Variables) (ls : List Around) (at : List ℕ) (e : Expression) → Like (in_expression I sc ls at e) (in_expression E sc (ls' ls) at (erase e))
    exp_like sc ls at (plain.int s v k) = nothing_like
    exp_like sc ls at (plain.bool s b) = nothing_like
    exp_like sc ls at (plain.tuple s es) = exps_like sc ls at 0 es
    exp_like sc ls at (plain.var s x) = names_same at _ _ (one_like _ _ (known_like (variable_named sc x) (variable_named sc x) _ _ refl))
    exp_like sc ls at (plain.field s e x) = exp_like sc ls (child at 0) e
    exp_like sc ls at (plain.part s e i) = exp_like sc ls (child at 0) e
    exp_like sc ls at (plain.deref s e) = exp_like sc ls (child at 0) e
    exp_like sc ls at (plain.negate s e) = exp_like sc ls (child at 0) e
    exp_like sc ls at (plain.invert s e) = exp_like sc ls (child at 0) e
    exp_like sc ls at (plain.borrow s m e) = exp_like sc ls (child at 0) e
    exp_like sc ls at (plain.binary s o x y) = in_turn _ _ _ _ (exp_like sc ls (child at 0) x) (exp_like sc ls (child at 1) y)
    exp_like sc ls at (plain.assign s x y) = in_turn _ _ _ _ (exp_like sc ls (child at 0) x) (exp_like sc ls (child at 1) y)
    exp_like sc ls at (plain.update s o x y) = in_turn _ _ _ _ (exp_like sc ls (child at 0) x) (exp_like sc ls (child at 1) y)
    exp_like sc ls at (plain.call s f es) = in_turn _ _ _ _ (callee_like at f (variable_named sc f.name)) (exps_like sc ls at 0 es)
    exp_like sc ls at (plain.next_input s) = names_same at _ _ (one_like _ _ (known_like _ _ _ _ (sym (as_rt_there P (codes "rt")))))
    exp_like sc ls at (plain.variant s x v es) = in_turn _ _ _ _ (names_same at (variant_in I x v) (variant_in E (erase_ident x) (erase_ident v)) (variant_same x v)) (arguments_like sc ls at es)
    exp_like sc ls at (plain.make s x fs) = in_turn _ _ _ _ (names_same at (one (struct_in I x)) (one (struct_in E (erase_ident x))) (struct_same x)) (fields_like sc ls at 0 fs)
    exp_like sc ls at (plain.print s e) = exp_like sc ls (child at 0) e
    exp_like sc ls at (plain.block s b) = block_like sc ls (child at 0) b
    exp_like sc ls at (plain.if s c b o) = in_turn _ _ _ _ (exp_like sc ls (child at 0) c) (in_turn _ _ _ _ (block_like sc ls (child at 1) b) (optional_like sc ls (child at 2) o))
    exp_like sc ls at (plain.if_let s p e b o) = then_like (child at 0) p _ _ (λ ds es d.
        in_turn _ _ _ _ (exp_like sc ls (child at 1) e) (in_turn _ _ _ _ (in_scope sc ds es _ (λ x. in_block E x (ls' ls) (child at 2) (erase_body b)) d (block_like (entered sc ds) ls (child at 2) b)) (optional_like sc ls (child at 3) o)))
    exp_like sc ls at (plain.match s e l) = in_turn _ _ _ _ (exp_like sc ls (child at 0) e) (arms_like sc ls at 1 l)
    exp_like sc ls at (plain.loop s l b) = looped at _ _ (λ n. block_like sc (a_loop l n ∷ ls) (child at 0) b)
    exp_like sc ls at (plain.while s l c b) = looped at _ _ (λ n. in_turn _ _ _ _ (exp_like sc (a_test ∷ a_loop l n ∷ ls) (child at 0) c) (block_like sc (a_loop l n ∷ ls) (child at 1) b))
    exp_like sc ls at (plain.while_let s l p e b) = looped at _ _ (λ n. then_like (child at 0) p _ _ (λ ds es d.
        in_turn _ _ _ _ (exp_like sc (a_test ∷ a_loop l n ∷ ls) (child at 1) e) (in_scope sc ds es _ (λ x. in_block E x (ls' (a_loop l n ∷ ls)) (child at 2) (erase_body b)) d (block_like (entered sc ds) (a_loop l n ∷ ls) (child at 2) b))))
    exp_like sc ls at (plain.break s l) = jump_like at s l ls _
    exp_like sc ls at (plain.continue s l) = jump_like at s l ls _
    exp_like sc ls at (plain.return s o) = optional_like sc ls (child at 0) o

    exps_like : (sc : Variables) (ls : List Around) (at : List ℕ) (i : ℕ) (es : Expressions) → Like (in_expressions I sc ls at i es) (in_expressions E sc (ls' ls) at i (erase_all es))
    exps_like sc ls at i plain.no_expression = nothing_like
    exps_like sc ls at i (plain.expression_and e es) = in_turn _ _ _ _ (exp_like sc ls (child at i) e) (exps_like sc ls at (next i) es)

    optional_like : (sc : Variables) (ls : List Around) (at : List ℕ) (o : OptionalExpression) → Like (in_optional I sc ls at o) (in_optional E sc (ls' ls) at (erase_optional o))
    optional_like sc ls at plain.absent = nothing_like
    optional_like sc ls at (plain.present e) = exp_like sc ls at e

    arguments_like : (sc : Variables) (ls : List Around) (at : List ℕ) (es : OptionalExpressions) → Like (in_arguments I sc ls at es) (in_arguments E sc (ls' ls) at (erase_optional_list es))
    arguments_like sc ls at plain.no_list = nothing_like
    arguments_like sc ls at (plain.a_list es) = exps_like sc ls at 0 es

    fields_like : (sc : Variables) (ls : List Around) (at : List ℕ) (i : ℕ) (fs : FieldExpressions) → Like (in_fields I sc ls at i fs) (in_fields E sc (ls' ls) at i (erase_fields fs))
    fields_like sc ls at i plain.no_field = nothing_like
    fields_like sc ls at i (plain.field_and x e fs) = in_turn _ _ _ _ (exp_like sc ls (child at i) e) (fields_like sc ls at (next i) fs)

    arms_like : (sc : Variables) (ls : List Around) (at : List ℕ) (i : ℕ) (l : Arms) → Like (in_arms I sc ls at i l) (in_arms E sc (ls' ls) at i (erase_arms l))
    arms_like sc ls at i plain.no_arm = nothing_like
    arms_like sc ls at i (plain.arm_and p e l) = in_turn _ _ _ _
        (then_like (child at i) p _ _ (λ ds es d. in_scope sc ds es _ (λ x. in_expression E x (ls' ls) (child at (next i)) (erase e)) d (exp_like (entered sc ds) ls (child at (next i)) e))) (arms_like sc ls at (next (next i)) l)

    pub block_like : (sc : Variables) (ls : List Around) (at : List ℕ) (b : Body) → Like (in_block I sc ls at b) (in_block E sc (ls' ls) at (erase_body b))
    block_like sc ls at (plain.body s ss o) t u h =
        sim_then ScopedAlike AlikeTables (in_statements I sc ls at 0 ss t) (in_statements E sc (ls' ls) at 0 (erase_statements ss) u) (λ r. in_optional I r.scope ls (child at (number (length (listed ss)))) o r.tables)
        (λ r. in_optional E r.scope (ls' ls) (child at (number (length (listed (erase_statements ss))))) (erase_optional o) r.tables) (statements_like sc ls at 0 ss t u h)
        (λ r q z.
        subst (λ (x : Variables). Sim AlikeTables (in_optional I r.scope ls (child at (number (length (listed ss)))) o r.tables) (in_optional E x (ls' ls) (child at (number (length (listed (erase_statements ss))))) (erase_optional o) q.tables)) z.scope
        (subst (λ (n : ℕ). Sim AlikeTables (in_optional I r.scope ls (child at (number (length (listed ss)))) o r.tables) (in_optional E r.scope (ls' ls) (child at (number n)) (erase_optional o) q.tables)) (sym (many_same ss))
        (optional_like r.scope ls (child at (number (length (listed ss)))) o r.tables q.tables z.tables)))

    statements_like : (sc : Variables) (ls : List Around) (at : List ℕ) (i : ℕ) (ss : Statements) → Leads (in_statements I sc ls at i ss) (in_statements E sc (ls' ls) at i (erase_statements ss))
    statements_like sc ls at i plain.no_statement t u h = record { scope = refl; tables = h }
    statements_like sc ls at i (plain.statement_and x ss) t u h =
        sim_then ScopedAlike ScopedAlike (in_statement I sc ls (child at i) x t) (in_statement E sc (ls' ls) (child at i) (erase_statement x) u) (λ r. in_statements I r.scope ls at (next i) ss r.tables)
        (λ r. in_statements E r.scope (ls' ls) at (next i) (erase_statements ss) r.tables) (statement_like sc ls (child at i) x t u h)
        (λ r q z. subst (λ (x : Variables). Sim ScopedAlike (in_statements I r.scope ls at (next i) ss r.tables) (in_statements E x (ls' ls) at (next i) (erase_statements ss) q.tables)) z.scope (statements_like r.scope ls at (next i) ss r.tables q.tables z.tables))

    statement_like : (sc : Variables) (ls : List Around) (at : List ℕ) (x : Statement) → Leads (in_statement I sc ls at x) (in_statement E sc (ls' ls) at (erase_statement x))
    statement_like sc ls at (plain.let_statement s p y o) t u h =
        sim_then BoundAlike ScopedAlike (in_pattern I (child at 0) p (record { bindings = []; tables = t })) (in_pattern E (child at 0) (erase_pattern p) (record { bindings = []; tables = u }))
        (λ b. and_then ((in_optional_type I (child at 1) y >> in_optional I sc ls (child at (initialiser_at y)) o) b.tables) (λ t. Ok (record { scope = entered sc b.bindings; tables = t })))
        (λ b. and_then ((in_optional_type E (child at 1) (option_map erase_type y) >> in_optional E sc (ls' ls) (child at (initialiser_at (option_map erase_type y))) (erase_optional o)) b.tables) (λ t. Ok (record { scope = entered sc b.bindings; tables = t })))
        (pattern_like (child at 0) p (record { bindings = []; tables = t }) (record { bindings = []; tables = u }) (record { bindings = tt; tables = h }))
        (λ b c z. sim_then AlikeTables ScopedAlike ((in_optional_type I (child at 1) y >> in_optional I sc ls (child at (initialiser_at y)) o) b.tables) ((in_optional_type E (child at 1) (option_map erase_type y) >> in_optional E sc (ls' ls) (child at (initialiser_at (option_map erase_type y))) (erase_optional o)) c.tables)
        (λ t. Ok (record { scope = entered sc b.bindings; tables = t })) (λ t. Ok (record { scope = entered sc c.bindings; tables = t })) (subst (λ (n : ℕ). Like (in_optional_type I (child at 1) y >> in_optional I sc ls (child at (initialiser_at y)) o) (in_optional_type E (child at 1) (option_map erase_type y) >> in_optional E sc (ls' ls) (child at n) (erase_optional o))) (sym (initialiser_same y))
        (in_turn _ _ _ _ (optional_type_like (child at 1) y) (optional_like sc ls (child at (initialiser_at y)) o)) b.tables c.tables z.tables)
        (λ t u k. record { scope = entered_same sc b.bindings c.bindings z.bindings; tables = k }))
    statement_like sc ls at (plain.expression_statement s e b) t u h =
        sim_then AlikeTables ScopedAlike (in_expression I sc ls (child at 0) e t) (in_expression E sc (ls' ls) (child at 0) (erase e) u) (λ t. Ok (record { scope = sc; tables = t })) (λ t. Ok (record { scope = sc; tables = t })) (exp_like sc ls (child at 0) e t u h) (λ t u k. record { scope = refl; tables = k })
