-- How many variables and loops resolving adds: those that the nodes bind and begin. So they are few in a program that can be numbered.
use Rattle.std.proofs.Common.{◌≡◌, ℕ, zero, suc, ◌+◌, ◌≤◌, List, [], ◌∷◌, ◌++◌, length, map, Bool, true, Option, Some, None, slice_get, Ok, refl, sym, ap, ◌∙◌, subst, arith, codes}
use Rattle.rx_core.specs.declared.types.Span.{Span}
use Rattle.rx_core.specs.declared.types.Position.{Position}
use Rattle.rx_tree.specs.declared.tree.Ident.{Ident}
use Rattle.rx_tree.specs.Lists.{listed}
use Rattle.rx_tree.specs.Plain as plain
use Rattle.rx_tree.specs.Plain.{TypeTree, TypeTrees, PatternTree, PatternTrees, FieldPatterns, Expression, Expressions, OptionalExpression, OptionalExpressions, FieldExpressions, Arms, Body, Statement, Statements, Parameter, Function, ItemTree, ProgramTree}
use Rattle.rx_tree.specs.Positions.{NodeTree, an_item, a_type, a_block, a_statement, an_expression, a_pattern}
use Rattle.rx_tree.specs.Nodes.{below_type, within_types, within_type, below_pattern, within_patterns, within_field_patterns, below_expression, within_expressions, within_optional, within_arguments, within_fields, within_arms, below_block, below_statement, within_statements, within_parameters, below_item, nodes, total}
use Rattle.rx_tree.specs.Size.{bindings_at, loops_at, IsNumbered}
use Rattle.rx_resolve_names.specs.Scopes as scopes
use Rattle.rx_resolve_names.specs.Scopes.{DeclaredNames, Variables, variable_named}
use Rattle.rx_resolve_names.specs.declared.resolved.ItemNames.{ItemNames}
use Rattle.rx_resolve_names.specs.Meant.{number, type_name, function_name, item_named, as_function, as_rt, Around, a_loop, a_test, target}
use Rattle.rx_resolve_names.specs.Steps.{Outcome, and_then, Naming, ◌>>◌, Inside, known, one, declare, led, child, next, with_loop, with_variable, with_names, position, entry, numbered, names}
use Rattle.rx_resolve_names.specs.Names.{variant_in, struct_in, Bound, binds, also, in_pattern, in_patterns, in_field_patterns, pattern_then, callee, rt_span, in_type, in_optional_type, initialiser_at, Scoped, in_expression, in_expressions, in_optional, in_arguments, in_fields, in_arms, in_block, in_statements, in_statement}
use Rattle.rx_resolve_names.specs.Items.{lifetimes_of, in_parameter, in_parameters, numbers_from, body_at, in_function, in_item}
use Rattle.rx_resolve_names.specs.Meant.{firsts, lifetimes_declared}
use Rattle.rx_engine_typing.proofs.Steps.{named_ok, the_same, one_more, Few}
use Rattle.rx_engine_typing.proofs.ScopedPatterns.{names_still, order_ok}
use Rattle.rx_engine_typing.proofs.ScopedFunctions.{type_still, numbered_still}

abbrev pub Counted : List NodeTree → ItemNames → ItemNames → Type 0
Counted ns t t' = (length t'.vars ≡ length t.vars + total bindings_at ns) × (length t'.loops ≡ length t.loops + total loops_at ns)

total_append : (f : NodeTree → ℕ) (a b : List NodeTree) → total f (a ++ b) ≡ total f a + total f b
total_append f [] b = omega arith
total_append f (n ∷ a) b = let e = total_append f a b in omega (arith, e)

none_counted : (t t' : ItemNames) → ◌≡◌ {A = Outcome ItemNames} (Ok t) (Ok t') → Counted [] t t'
none_counted t t' e = subst (λ (v : ItemNames). Counted [] t v) (the_same t t' e) (omega arith, omega arith)

both_counted : (a b : List NodeTree) (t t1 t2 : ItemNames) → Counted a t t1 → Counted b t1 t2 → Counted (a ++ b) t t2
both_counted a b t t1 t2 h k =
    let v = h.0 in let l = h.1 in let w = k.0 in let m = k.1 in let x = total_append bindings_at a b in let y = total_append loops_at a b in
    (omega (arith, v, w, x), omega (arith, l, m, y))

-- a node that binds nothing and begins no loop
plain_node : (n : NodeTree) (ns : List NodeTree) (t t' : ItemNames) → bindings_at n ≡ 0 → loops_at n ≡ 0 → Counted ns t t' → Counted (n ∷ ns) t t'
plain_node n ns t t' e f h = let v = h.0 in let l = h.1 in (omega (arith, v, e), omega (arith, l, f))

loop_node : (n : NodeTree) (ns : List NodeTree) (p : Position) (t t' : ItemNames) → bindings_at n ≡ 0 → loops_at n ≡ 1 → Counted ns (with_loop p t) t' → Counted (n ∷ ns) t t'
loop_node n ns p t t' e f h = let v = h.0 in let l = h.1 in let m = one_more t.loops p in (omega (arith, v, e), omega (arith, l, f, m))

-- what changes neither
still_counted : (a : List NodeTree) (t t1 t2 : ItemNames) → (length t1.vars ≡ length t.vars) × (length t1.loops ≡ length t.loops) → Counted a t1 t2 → Counted a t t2
still_counted a t t1 t2 s h = let v = h.0 in let l = h.1 in let x = s.0 in let y = s.1 in (omega (arith, v, x), omega (arith, l, y))

same_counted : (t t' : ItemNames) → (length t'.vars ≡ length t.vars) × (length t'.loops ≡ length t.loops) → Counted [] t t'
same_counted t t' s = let x = s.0 in let y = s.1 in (omega (arith, x), omega (arith, y))

module _ (I : Inside) where
  -- ---- types

  mutual
    types_weigh : (f : NodeTree → ℕ) → ((y : TypeTree) → f (a_type y) ≡ 0) → (y : TypeTree) → total f (below_type y) ≡ 0
    types_weigh f z (plain.kind_type s k) = refl
    types_weigh f z (plain.bool_type s) = refl
    types_weigh f z (plain.tuple_type s ts) = all_types_weigh f z ts
    types_weigh f z (plain.ref_type s l m y) = let a = z y in let b = types_weigh f z y in omega (arith, a, b)
    types_weigh f z (plain.named_type s x ls) = refl

    all_types_weigh : (f : NodeTree → ℕ) → ((y : TypeTree) → f (a_type y) ≡ 0) → (ys : TypeTrees) → total f (within_types ys) ≡ 0
    all_types_weigh f z plain.no_type = refl
    all_types_weigh f z (plain.type_and y ys) = let a = z y in let b = types_weigh f z y in let c = all_types_weigh f z ys in let d = total_append f (below_type y) (within_types ys) in omega (arith, a, b, c, d)

  type_counted : (at : List ℕ) (y : TypeTree) (t t' : ItemNames) → in_type I at y t ≡ Ok t' → Counted (a_type y ∷ below_type y) t t'
  type_counted at y t t' e =
      let s = type_still I at y t t' e in let v = s.0 in let l = s.1 in
      let a = types_weigh bindings_at (λ y. refl) y in let b = types_weigh loops_at (λ y. refl) y in (omega (arith, v, a), omega (arith, l, b))

  optional_type_counted : (at : List ℕ) (y : Option TypeTree) (t t' : ItemNames) → in_optional_type I at y t ≡ Ok t' → Counted (within_type y) t t'
  optional_type_counted at None t t' e = none_counted t t' e
  optional_type_counted at (Some y) t t' e = type_counted at y t t' e

  -- ---- patterns

  no_binding : (b b1 : Bound) → also (λ t. Ok t) b ≡ Ok b1 → Counted [] b.tables b1.tables
  no_binding b b1 e = subst (λ (v : Bound). Counted [] b.tables v.tables) (the_same b b1 e) (omega arith, omega arith)

  bind_counted : (at : List ℕ) (s : Span) (x : Ident) (w : Bool) (b b1 : Bound) → binds I at x b ≡ Ok b1 → Counted (a_pattern (plain.bind s x w) ∷ []) b.tables b1.tables
  bind_counted at s x w b b1 e =
      let n = length b.tables.vars in let X = entry I at (number n ∷ []) in
      let to : DeclaredNames → Bound = λ ds. record { bindings = ds; tables = with_names X (with_variable x.span b.tables) } in
      let d = named_ok (declare b.bindings x n) (λ ds. Ok (to ds)) b1 e in
      let m = one_more b.tables.vars x.span in
      subst (λ (v : Bound). Counted (a_pattern (plain.bind s x w) ∷ []) b.tables v.tables) (the_same (to d.0) b1 d.2) (omega (arith, m), omega arith)

  mutual
    pattern_counted : (at : List ℕ) (p : PatternTree) (b b1 : Bound) → in_pattern I at p b ≡ Ok b1 → Counted (a_pattern p ∷ below_pattern p) b.tables b1.tables
    pattern_counted at (plain.wild s) b b1 e = plain_node (a_pattern (plain.wild s)) [] b.tables b1.tables refl refl (no_binding b b1 e)
    pattern_counted at (plain.bind s x w) b b1 e = bind_counted at s x w b b1 e
    pattern_counted at (plain.int_pattern s g v k) b b1 e = plain_node (a_pattern (plain.int_pattern s g v k)) [] b.tables b1.tables refl refl (no_binding b b1 e)
    pattern_counted at (plain.bool_pattern s w) b b1 e = plain_node (a_pattern (plain.bool_pattern s w)) [] b.tables b1.tables refl refl (no_binding b b1 e)
    pattern_counted at (plain.tuple_pattern s ps) b b1 e = plain_node (a_pattern (plain.tuple_pattern s ps)) (within_patterns ps) b.tables b1.tables refl refl (patterns_counted at 0 ps b b1 e)
    pattern_counted at (plain.variant_pattern s c v ps) b b1 e =
        let x = order_ok (names I at (variant_in I c v)) (in_patterns I at 0 ps) b b1 e in
        plain_node (a_pattern (plain.variant_pattern s c v ps)) (within_patterns ps) b.tables b1.tables refl refl (still_counted (within_patterns ps) b.tables x.0 b1.tables (names_still I at (variant_in I c v) b.tables x.0 x.1) (patterns_counted at 0 ps (record { bindings = b.bindings; tables = x.0 }) b1 x.2))
    pattern_counted at (plain.make_pattern s x fs) b b1 e =
        let y = order_ok (names I at (one (struct_in I x))) (in_field_patterns I at 0 fs) b b1 e in
        plain_node (a_pattern (plain.make_pattern s x fs)) (within_field_patterns fs) b.tables b1.tables refl refl (still_counted (within_field_patterns fs) b.tables y.0 b1.tables (names_still I at (one (struct_in I x)) b.tables y.0 y.1) (field_patterns_counted at 0 fs (record { bindings = b.bindings; tables = y.0 }) b1 y.2))

    patterns_counted : (at : List ℕ) (i : ℕ) (ps : PatternTrees) (b b1 : Bound) → in_patterns I at i ps b ≡ Ok b1 → Counted (within_patterns ps) b.tables b1.tables
    patterns_counted at i plain.no_pattern b b1 e = no_binding b b1 e
    patterns_counted at i (plain.pattern_and p ps) b b1 e =
        let x = named_ok (in_pattern I (child at i) p b) (in_patterns I at (next i) ps) b1 e in
        both_counted (a_pattern p ∷ below_pattern p) (within_patterns ps) b.tables x.0.tables b1.tables (pattern_counted (child at i) p b x.0 x.1) (patterns_counted at (next i) ps x.0 b1 x.2)

    field_patterns_counted : (at : List ℕ) (i : ℕ) (fs : FieldPatterns) (b b1 : Bound) → in_field_patterns I at i fs b ≡ Ok b1 → Counted (within_field_patterns fs) b.tables b1.tables
    field_patterns_counted at i plain.no_field_pattern b b1 e = no_binding b b1 e
    field_patterns_counted at i (plain.field_pattern_and y p fs) b b1 e =
        let x = named_ok (in_pattern I (child at i) p b) (in_field_patterns I at (next i) fs) b1 e in
        both_counted (a_pattern p ∷ below_pattern p) (within_field_patterns fs) b.tables x.0.tables b1.tables (pattern_counted (child at i) p b x.0 x.1) (field_patterns_counted at (next i) fs x.0 b1 x.2)

  -- ---- expressions

  one_and_one : (f g : Naming) (a b : List NodeTree) (t t' : ItemNames) → (f >> g) t ≡ Ok t' → ((u : ItemNames) → f t ≡ Ok u → Counted a t u) → ((u : ItemNames) → g u ≡ Ok t' → Counted b u t') → Counted (a ++ b) t t'
  one_and_one f g a b t t' e h k = let X = named_ok (f t) g t' e in both_counted a b t X.0 t' (h X.0 X.1) (k X.0 X.2)

  callee_still : (at : List ℕ) (x : Ident) (o : Option ℕ) (t t' : ItemNames) → callee I at x o t ≡ Ok t' → (length t'.vars ≡ length t.vars) × (length t'.loops ≡ length t.loops)
  callee_still at x None t t' e = names_still I at (one (known (as_function (item_named function_name 0 I.program x.name)) x.span)) t t' e
  callee_still at x (Some n) t t' e = let s = the_same (with_names (record { node = position I at; numbers = n ∷ []; hidden = true }) t) t' e in (ap (λ (v : ItemNames). length v.vars) (sym s), ap (λ (v : ItemNames). length v.loops) (sym s))

  abbrev Of : Expression → List NodeTree
  Of e = an_expression e ∷ below_expression e

  abbrev OfBlock : Body → List NodeTree
  OfBlock b = a_block b ∷ below_block b

  abbrev OfPattern : PatternTree → List NodeTree
  OfPattern p = a_pattern p ∷ below_pattern p

  mutual
    expression_counted : (sc : Variables) (ls : List Around) (at : List ℕ) (e : Expression) (t t' : ItemNames) → in_expression I sc ls at e t ≡ Ok t' → Counted (Of e) t t'
    expression_counted sc ls at (plain.int s v k) t t' e = plain_node (an_expression (plain.int s v k)) [] t t' refl refl (none_counted t t' e)
    expression_counted sc ls at (plain.bool s b) t t' e = plain_node (an_expression (plain.bool s b)) [] t t' refl refl (none_counted t t' e)
    expression_counted sc ls at (plain.tuple s es) t t' e = plain_node (an_expression (plain.tuple s es)) (within_expressions es) t t' refl refl (all_counted sc ls at 0 es t t' e)
    expression_counted sc ls at (plain.var s x) t t' e = plain_node (an_expression (plain.var s x)) [] t t' refl refl (same_counted t t' (names_still I at (one (known (variable_named sc x) s)) t t' e))
    expression_counted sc ls at (plain.field s x g) t t' e = plain_node (an_expression (plain.field s x g)) (Of x) t t' refl refl (expression_counted sc ls (child at 0) x t t' e)
    expression_counted sc ls at (plain.part s x j) t t' e = plain_node (an_expression (plain.part s x j)) (Of x) t t' refl refl (expression_counted sc ls (child at 0) x t t' e)
    expression_counted sc ls at (plain.deref s x) t t' e = plain_node (an_expression (plain.deref s x)) (Of x) t t' refl refl (expression_counted sc ls (child at 0) x t t' e)
    expression_counted sc ls at (plain.negate s x) t t' e = plain_node (an_expression (plain.negate s x)) (Of x) t t' refl refl (expression_counted sc ls (child at 0) x t t' e)
    expression_counted sc ls at (plain.invert s x) t t' e = plain_node (an_expression (plain.invert s x)) (Of x) t t' refl refl (expression_counted sc ls (child at 0) x t t' e)
    expression_counted sc ls at (plain.borrow s r x) t t' e = plain_node (an_expression (plain.borrow s r x)) (Of x) t t' refl refl (expression_counted sc ls (child at 0) x t t' e)
    expression_counted sc ls at (plain.binary s o x y) t t' e = plain_node (an_expression (plain.binary s o x y)) (Of x ++ Of y) t t' refl refl
        (one_and_one (in_expression I sc ls (child at 0) x) (in_expression I sc ls (child at 1) y) (Of x) (Of y) t t' e (λ u h. expression_counted sc ls (child at 0) x t u h) (λ u h. expression_counted sc ls (child at 1) y u t' h))
    expression_counted sc ls at (plain.assign s x y) t t' e = plain_node (an_expression (plain.assign s x y)) (Of x ++ Of y) t t' refl refl
        (one_and_one (in_expression I sc ls (child at 0) x) (in_expression I sc ls (child at 1) y) (Of x) (Of y) t t' e (λ u h. expression_counted sc ls (child at 0) x t u h) (λ u h. expression_counted sc ls (child at 1) y u t' h))
    expression_counted sc ls at (plain.update s o x y) t t' e = plain_node (an_expression (plain.update s o x y)) (Of x ++ Of y) t t' refl refl
        (one_and_one (in_expression I sc ls (child at 0) x) (in_expression I sc ls (child at 1) y) (Of x) (Of y) t t' e (λ u h. expression_counted sc ls (child at 0) x t u h) (λ u h. expression_counted sc ls (child at 1) y u t' h))
    expression_counted sc ls at (plain.call s f es) t t' e =
        let X = named_ok (callee I at f (variable_named sc f.name) t) (in_expressions I sc ls at 0 es) t' e in
        plain_node (an_expression (plain.call s f es)) (within_expressions es) t t' refl refl (still_counted (within_expressions es) t X.0 t' (callee_still at f (variable_named sc f.name) t X.0 X.1) (all_counted sc ls at 0 es X.0 t' X.2))
    expression_counted sc ls at (plain.next_input s) t t' e = plain_node (an_expression (plain.next_input s)) [] t t' refl refl (same_counted t t' (names_still I at (one (known (as_rt (item_named type_name 0 I.program (codes "rt"))) (rt_span s))) t t' e))
    expression_counted sc ls at (plain.variant s c v es) t t' e =
        let X = named_ok (names I at (variant_in I c v) t) (in_arguments I sc ls at es) t' e in
        plain_node (an_expression (plain.variant s c v es)) (within_arguments es) t t' refl refl (still_counted (within_arguments es) t X.0 t' (names_still I at (variant_in I c v) t X.0 X.1) (arguments_counted sc ls at es X.0 t' X.2))
    expression_counted sc ls at (plain.make s x fs) t t' e =
        let X = named_ok (names I at (one (struct_in I x)) t) (in_fields I sc ls at 0 fs) t' e in
        plain_node (an_expression (plain.make s x fs)) (within_fields fs) t t' refl refl (still_counted (within_fields fs) t X.0 t' (names_still I at (one (struct_in I x)) t X.0 X.1) (fields_counted sc ls at 0 fs X.0 t' X.2))
    expression_counted sc ls at (plain.print s x) t t' e = plain_node (an_expression (plain.print s x)) (Of x) t t' refl refl (expression_counted sc ls (child at 0) x t t' e)
    expression_counted sc ls at (plain.block s b) t t' e = plain_node (an_expression (plain.block s b)) (OfBlock b) t t' refl refl (body_counted sc ls (child at 0) b t t' e)
    expression_counted sc ls at (plain.if s x b o) t t' e =
        let X = named_ok (in_expression I sc ls (child at 0) x t) (in_block I sc ls (child at 1) b >> in_optional I sc ls (child at 2) o) t' e in
        let Y = named_ok (in_block I sc ls (child at 1) b X.0) (in_optional I sc ls (child at 2) o) t' X.2 in
        plain_node (an_expression (plain.if s x b o)) (Of x ++ (OfBlock b ++ within_optional o)) t t' refl refl (both_counted (Of x) (OfBlock b ++ within_optional o) t X.0 t' (expression_counted sc ls (child at 0) x t X.0 X.1)
        (both_counted (OfBlock b) (within_optional o) X.0 Y.0 t' (body_counted sc ls (child at 1) b X.0 Y.0 Y.1) (optional_counted sc ls (child at 2) o Y.0 t' Y.2)))
    expression_counted sc ls at (plain.if_let s p y x o) t t' e =
        let b0 : Bound = record { bindings = []; tables = t } in
        let g : Bound → Naming = λ b. in_expression I sc ls (child at 1) y >> in_block I (scopes.entered sc b.bindings) ls (child at 2) x >> in_optional I sc ls (child at 3) o in
        let Z = named_ok (in_pattern I (child at 0) p b0) (λ b. g b b.tables) t' e in
        let X = named_ok (in_expression I sc ls (child at 1) y Z.0.tables) (in_block I (scopes.entered sc Z.0.bindings) ls (child at 2) x >> in_optional I sc ls (child at 3) o) t' Z.2 in
        let Y = named_ok (in_block I (scopes.entered sc Z.0.bindings) ls (child at 2) x X.0) (in_optional I sc ls (child at 3) o) t' X.2 in
        plain_node (an_expression (plain.if_let s p y x o)) (OfPattern p ++ (Of y ++ (OfBlock x ++ within_optional o))) t t' refl refl (both_counted (OfPattern p) (Of y ++ (OfBlock x ++ within_optional o)) t Z.0.tables t' (pattern_counted (child at 0) p b0 Z.0 Z.1)
        (both_counted (Of y) (OfBlock x ++ within_optional o) Z.0.tables X.0 t' (expression_counted sc ls (child at 1) y Z.0.tables X.0 X.1)
        (both_counted (OfBlock x) (within_optional o) X.0 Y.0 t' (body_counted (scopes.entered sc Z.0.bindings) ls (child at 2) x X.0 Y.0 Y.1) (optional_counted sc ls (child at 3) o Y.0 t' Y.2))))
    expression_counted sc ls at (plain.match s x l) t t' e =
        let X = named_ok (in_expression I sc ls (child at 0) x t) (in_arms I sc ls at 1 l) t' e in
        plain_node (an_expression (plain.match s x l)) (Of x ++ within_arms l) t t' refl refl (both_counted (Of x) (within_arms l) t X.0 t' (expression_counted sc ls (child at 0) x t X.0 X.1) (arms_counted sc ls at 1 l X.0 t' X.2))
    expression_counted sc ls at (plain.loop s l b) t t' e = let p = position I at in
        loop_node (an_expression (plain.loop s l b)) (OfBlock b) p t t' refl refl (body_counted sc (a_loop l (number (length t.loops)) ∷ ls) (child at 0) b (with_loop p t) t' e)
    expression_counted sc ls at (plain.while s l x b) t t' e =
        let p = position I at in let u = with_loop p t in let n = number (length t.loops) in
        let X = named_ok (in_expression I sc (a_test ∷ a_loop l n ∷ ls) (child at 0) x u) (in_block I sc (a_loop l n ∷ ls) (child at 1) b) t' e in
        loop_node (an_expression (plain.while s l x b)) (Of x ++ OfBlock b) p t t' refl refl (both_counted (Of x) (OfBlock b) u X.0 t' (expression_counted sc (a_test ∷ a_loop l n ∷ ls) (child at 0) x u X.0 X.1) (body_counted sc (a_loop l n ∷ ls) (child at 1) b X.0 t' X.2))
    expression_counted sc ls at (plain.while_let s l p y x) t t' e =
        let o = position I at in let u = with_loop o t in let n = number (length t.loops) in
        let b0 : Bound = record { bindings = []; tables = u } in
        let g : Bound → Naming = λ b. in_expression I sc (a_test ∷ a_loop l n ∷ ls) (child at 1) y >> in_block I (scopes.entered sc b.bindings) (a_loop l n ∷ ls) (child at 2) x in
        let Z = named_ok (in_pattern I (child at 0) p b0) (λ b. g b b.tables) t' e in
        let X = named_ok (in_expression I sc (a_test ∷ a_loop l n ∷ ls) (child at 1) y Z.0.tables) (in_block I (scopes.entered sc Z.0.bindings) (a_loop l n ∷ ls) (child at 2) x) t' Z.2 in
        loop_node (an_expression (plain.while_let s l p y x)) (OfPattern p ++ (Of y ++ OfBlock x)) o t t' refl refl (both_counted (OfPattern p) (Of y ++ OfBlock x) u Z.0.tables t' (pattern_counted (child at 0) p b0 Z.0 Z.1)
        (both_counted (Of y) (OfBlock x) Z.0.tables X.0 t' (expression_counted sc (a_test ∷ a_loop l n ∷ ls) (child at 1) y Z.0.tables X.0 X.1) (body_counted (scopes.entered sc Z.0.bindings) (a_loop l n ∷ ls) (child at 2) x X.0 t' X.2)))
    expression_counted sc ls at (plain.break s l) t t' e = plain_node (an_expression (plain.break s l)) [] t t' refl refl (same_counted t t' (names_still I at (one (led s l (target l ls))) t t' e))
    expression_counted sc ls at (plain.continue s l) t t' e = plain_node (an_expression (plain.continue s l)) [] t t' refl refl (same_counted t t' (names_still I at (one (led s l (target l ls))) t t' e))
    expression_counted sc ls at (plain.return s o) t t' e = plain_node (an_expression (plain.return s o)) (within_optional o) t t' refl refl (optional_counted sc ls (child at 0) o t t' e)

    all_counted : (sc : Variables) (ls : List Around) (at : List ℕ) (j : ℕ) (es : Expressions) (t t' : ItemNames) → in_expressions I sc ls at j es t ≡ Ok t' → Counted (within_expressions es) t t'
    all_counted sc ls at j plain.no_expression t t' e = none_counted t t' e
    all_counted sc ls at j (plain.expression_and x es) t t' e =
        let X = named_ok (in_expression I sc ls (child at j) x t) (in_expressions I sc ls at (next j) es) t' e in
        both_counted (Of x) (within_expressions es) t X.0 t' (expression_counted sc ls (child at j) x t X.0 X.1) (all_counted sc ls at (next j) es X.0 t' X.2)

    optional_counted : (sc : Variables) (ls : List Around) (at : List ℕ) (o : OptionalExpression) (t t' : ItemNames) → in_optional I sc ls at o t ≡ Ok t' → Counted (within_optional o) t t'
    optional_counted sc ls at plain.absent t t' e = none_counted t t' e
    optional_counted sc ls at (plain.present x) t t' e = expression_counted sc ls at x t t' e

    arguments_counted : (sc : Variables) (ls : List Around) (at : List ℕ) (o : OptionalExpressions) (t t' : ItemNames) → in_arguments I sc ls at o t ≡ Ok t' → Counted (within_arguments o) t t'
    arguments_counted sc ls at plain.no_list t t' e = none_counted t t' e
    arguments_counted sc ls at (plain.a_list es) t t' e = all_counted sc ls at 0 es t t' e

    fields_counted : (sc : Variables) (ls : List Around) (at : List ℕ) (j : ℕ) (fs : FieldExpressions) (t t' : ItemNames) → in_fields I sc ls at j fs t ≡ Ok t' → Counted (within_fields fs) t t'
    fields_counted sc ls at j plain.no_field t t' e = none_counted t t' e
    fields_counted sc ls at j (plain.field_and y x fs) t t' e =
        let X = named_ok (in_expression I sc ls (child at j) x t) (in_fields I sc ls at (next j) fs) t' e in
        both_counted (Of x) (within_fields fs) t X.0 t' (expression_counted sc ls (child at j) x t X.0 X.1) (fields_counted sc ls at (next j) fs X.0 t' X.2)

    arms_counted : (sc : Variables) (ls : List Around) (at : List ℕ) (j : ℕ) (l : Arms) (t t' : ItemNames) → in_arms I sc ls at j l t ≡ Ok t' → Counted (within_arms l) t t'
    arms_counted sc ls at j plain.no_arm t t' e = none_counted t t' e
    arms_counted sc ls at j (plain.arm_and p x l) t t' e =
        let b0 : Bound = record { bindings = []; tables = t } in
        let V = named_ok (pattern_then I (child at j) p (λ ds. in_expression I (scopes.entered sc ds) ls (child at (next j)) x) t) (in_arms I sc ls at (next (next j)) l) t' e in
        let Z = named_ok (in_pattern I (child at j) p b0) (λ b. in_expression I (scopes.entered sc b.bindings) ls (child at (next j)) x b.tables) V.0 V.1 in
        both_counted (OfPattern p) (Of x ++ within_arms l) t Z.0.tables t' (pattern_counted (child at j) p b0 Z.0 Z.1)
        (both_counted (Of x) (within_arms l) Z.0.tables V.0 t' (expression_counted (scopes.entered sc Z.0.bindings) ls (child at (next j)) x Z.0.tables V.0 Z.2) (arms_counted sc ls at (next (next j)) l V.0 t' V.2))

    body_counted : (sc : Variables) (ls : List Around) (at : List ℕ) (b : Body) (t t' : ItemNames) → in_block I sc ls at b t ≡ Ok t' → Counted (OfBlock b) t t'
    body_counted sc ls at (plain.body s ss o) t t' e =
        let X = named_ok (in_statements I sc ls at 0 ss t) (λ r. in_optional I r.scope ls (child at (number (length (listed ss)))) o r.tables) t' e in
        plain_node (a_block (plain.body s ss o)) (within_statements ss ++ within_optional o) t t' refl refl (both_counted (within_statements ss) (within_optional o) t X.0.tables t' (statements_counted sc ls at 0 ss t X.0 X.1)
        (optional_counted X.0.scope ls (child at (number (length (listed ss)))) o X.0.tables t' X.2))

    statements_counted : (sc : Variables) (ls : List Around) (at : List ℕ) (j : ℕ) (ss : Statements) (t : ItemNames) (r : Scoped) → in_statements I sc ls at j ss t ≡ Ok r → Counted (within_statements ss) t r.tables
    statements_counted sc ls at j plain.no_statement t r e = subst (λ (z : Scoped). Counted [] t z.tables) (the_same (record { scope = sc; tables = t }) r e) (omega arith, omega arith)
    statements_counted sc ls at j (plain.statement_and a ss) t r e =
        let X = named_ok (in_statement I sc ls (child at j) a t) (λ r. in_statements I r.scope ls at (next j) ss r.tables) r e in
        both_counted (a_statement a ∷ below_statement a) (within_statements ss) t X.0.tables r.tables (statement_counted sc ls (child at j) a t X.0 X.1) (statements_counted X.0.scope ls at (next j) ss X.0.tables r X.2)

    statement_counted : (sc : Variables) (ls : List Around) (at : List ℕ) (a : Statement) (t : ItemNames) (r : Scoped) → in_statement I sc ls at a t ≡ Ok r → Counted (a_statement a ∷ below_statement a) t r.tables
    statement_counted sc ls at (plain.let_statement s p y o) t r e =
        let b0 : Bound = record { bindings = []; tables = t } in
        let to : DeclaredNames → ItemNames → Scoped = λ ds t. record { scope = scopes.entered sc ds; tables = t } in
        let g = in_optional_type I (child at 1) y in let k = in_optional I sc ls (child at (initialiser_at y)) o in
        let Z = named_ok (in_pattern I (child at 0) p b0) (λ b. and_then ((g >> k) b.tables) (λ t. Ok (to b.bindings t))) r e in
        let Y = named_ok ((g >> k) Z.0.tables) (λ t. Ok (to Z.0.bindings t)) r Z.2 in
        let X = named_ok (g Z.0.tables) k Y.0 Y.1 in
        subst (λ (z : Scoped). Counted (a_statement (plain.let_statement s p y o) ∷ below_statement (plain.let_statement s p y o)) t z.tables) (the_same (to Z.0.bindings Y.0) r Y.2)
        (plain_node (a_statement (plain.let_statement s p y o)) (OfPattern p ++ (within_type y ++ within_optional o)) t Y.0 refl refl (both_counted (OfPattern p) (within_type y ++ within_optional o) t Z.0.tables Y.0 (pattern_counted (child at 0) p b0 Z.0 Z.1)
        (both_counted (within_type y) (within_optional o) Z.0.tables X.0 Y.0 (optional_type_counted (child at 1) y Z.0.tables X.0 X.1) (optional_counted sc ls (child at (initialiser_at y)) o X.0 Y.0 X.2))))
    statement_counted sc ls at (plain.expression_statement s x b) t r e =
        let X = named_ok (in_expression I sc ls (child at 0) x t) (λ t. Ok (record { scope = sc; tables = t })) r e in
        subst (λ (z : Scoped). Counted (a_statement (plain.expression_statement s x b) ∷ Of x) t z.tables) (the_same (record { scope = sc; tables = X.0 }) r X.2)
        (plain_node (a_statement (plain.expression_statement s x b)) (Of x) t X.0 refl refl (expression_counted sc ls (child at 0) x t X.0 X.1))

  -- ---- functions

  parameters_counted : (at : List ℕ) (i : ℕ) (xs : List Parameter) (b b1 : Bound) → in_parameters I at i xs b ≡ Ok b1
      → (length b1.tables.vars ≡ length b.tables.vars + (length xs + total bindings_at (within_parameters xs))) × (length b1.tables.loops ≡ length b.tables.loops + total loops_at (within_parameters xs))
  parameters_counted at i [] b b1 e = subst (λ (v : Bound). (length v.tables.vars ≡ length b.tables.vars + (0 + 0)) × (length v.tables.loops ≡ length b.tables.loops + 0)) (the_same b b1 e) (omega arith, omega arith)
  parameters_counted at i (x ∷ xs) b b1 e =
      let t = with_variable x.name.span b.tables in
      let X = named_ok (in_parameter I at i x b) (in_parameters I at (next i) xs) b1 e in
      let typed : DeclaredNames → Outcome Bound = λ ds. and_then (in_type I (child at i) x.typ t) (λ t. Ok (record { bindings = ds; tables = t })) in
      let d = named_ok (declare b.bindings x.name i) typed X.0 X.1 in
      let y = named_ok (in_type I (child at i) x.typ t) (λ t. Ok (record { bindings = d.0; tables = t })) X.0 d.2 in
      let same : record { bindings = d.0; tables = y.0 } ≡ X.0 = the_same _ X.0 y.2 in
      let m = one_more b.tables.vars x.name.span in
      let c = type_counted (child at i) x.typ t y.0 y.1 in let c0 = c.0 in let c1 = c.1 in
      let r = parameters_counted at (next i) xs (record { bindings = d.0; tables = y.0 }) b1 (ap (in_parameters I at (next i) xs) same ∙ X.2) in let r0 = r.0 in let r1 = r.1 in
      let v = total_append bindings_at (a_type x.typ ∷ below_type x.typ) (within_parameters xs) in let l = total_append loops_at (a_type x.typ ∷ below_type x.typ) (within_parameters xs) in
      (omega (arith, m, c0, r0, v), omega (arith, c1, r1, l))

  pub function_counted : (at : List ℕ) (f : Function) (s : Span) (t0 t : ItemNames) → t0.vars ≡ [] → t0.loops ≡ [] → in_function I [] [] at f t0 ≡ Ok t
      → (length t.vars ≡ length f.params + total bindings_at (below_item (plain.function_item s f))) × (length t.loops ≡ total loops_at (below_item (plain.function_item s f)))
  function_counted at f s t0 t no_vars no_loops e =
      let after : Bound → Outcome ItemNames = λ b. (in_optional_type I (child at (number (length f.params))) f.result >> in_block I (scopes.entered [] b.bindings) [] (child at (body_at (number (length f.params)) f.result)) f.body) b.tables in
      let ns = named_ok (lifetimes_of I [] 0 f.lifetimes) (λ ns. and_then (numbered I at (ns ++ numbers_from 0 f.params) t0) (λ t. and_then (in_parameters I at 0 f.params (record { bindings = []; tables = t })) (λ b. after b))) t e in
      let t1 = named_ok (numbered I at (ns.0 ++ numbers_from 0 f.params) t0) (λ t. and_then (in_parameters I at 0 f.params (record { bindings = []; tables = t })) (λ b. after b)) t ns.2 in
      let b0 : Bound = record { bindings = []; tables = t1.0 } in
      let b1 = named_ok (in_parameters I at 0 f.params b0) (λ b. after b) t t1.2 in
      let t3 = named_ok (in_optional_type I (child at (number (length f.params))) f.result b1.0.tables) (in_block I (scopes.entered [] b1.0.bindings) [] (child at (body_at (number (length f.params)) f.result)) f.body) t b1.2 in
      let z0 : length t0.vars ≡ 0 = ap (λ (l : List Span). length l) no_vars in
      let l0 : length t0.loops ≡ 0 = ap (λ (l : List Position). length l) no_loops in
      let s1 = numbered_still I at (ns.0 ++ numbers_from 0 f.params) t0 t1.0 t1.1 in let s2 = s1.0 in let s3 = s1.1 in
      let P = parameters_counted at 0 f.params b0 b1.0 b1.1 in let p0 = P.0 in let p1 = P.1 in
      let R = optional_type_counted (child at (number (length f.params))) f.result b1.0.tables t3.0 t3.1 in let r0 = R.0 in let r1 = R.1 in
      let B = body_counted (scopes.entered [] b1.0.bindings) [] (child at (body_at (number (length f.params)) f.result)) f.body t3.0 t t3.2 in let c0 = B.0 in let c1 = B.1 in
      let v = total_append bindings_at (within_parameters f.params) (within_type f.result ++ OfBlock f.body) in let w = total_append bindings_at (within_type f.result) (OfBlock f.body) in
      let x = total_append loops_at (within_parameters f.params) (within_type f.result ++ OfBlock f.body) in let y = total_append loops_at (within_type f.result) (OfBlock f.body) in
      (omega (arith, z0, s2, p0, r0, c0, v, w), omega (arith, l0, s3, p1, r1, c1, x, y))

-- ---- a program that can be numbered

total_of_item : (f : NodeTree → ℕ) (p : ProgramTree) (j : ℕ) (i : ItemTree) → slice_get p j ≡ Some i → f (an_item i) + total f (below_item i) ≤ total f (nodes p)
total_of_item f [] j i e = absurd (cc)
total_of_item f (x ∷ p) zero i e = subst (λ (z : ItemTree). f (an_item z) + total f (below_item z) ≤ total f (nodes (x ∷ p))) (let q : x ≡ i = cc in q) (let a = total_append f (below_item x) (nodes p) in omega (arith, a))
total_of_item f (x ∷ p) (suc j) i e = let a = total_append f (below_item x) (nodes p) in let b = total_of_item f p j i e in omega (arith, a, b)

pub few_names : (p : ProgramTree) → IsNumbered p → (n j : ℕ) (s : Span) (f : Function) (t : ItemNames) → slice_get p j ≡ Some (plain.function_item s f) → in_item p n (plain.function_item s f) ≡ Ok t → Few t
few_names p few n j s f t at e =
    let c = function_counted (record { program = p; item = number n; lifetimes = firsts [] 0 (lifetimes_declared (plain.function_item s f)) }) [] f s
    (record { vars = []; lifetimes = map (λ (l : Ident). l.span) (lifetimes_declared (plain.function_item s f)); loops = []; names = [] }) t refl refl e in
    let v = c.0 in let l = c.1 in let x = total_of_item bindings_at p j (plain.function_item s f) at in let y = total_of_item loops_at p j (plain.function_item s f) at in let a = few.bindings in let b = few.loops in
    (omega (arith, v, x, a), omega (arith, l, y, b))
