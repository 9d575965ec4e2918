-- No number is that of two nodes of a function: nodes are numbered in the order of the text.
use Rattle.std.proofs.Common.{◌≡◌, ℕ, suc, ◌+◌, ◌≤◌, nat_eq, nat_lt, Bool, true, false, ◌&&◌, cond, List, [], ◌∷◌, Option, Some, None, refl, sym, subst, arith}
use Rattle.std.proofs.lemmas.Bool.{eqb-true, ltb-true, ltb-false}
use Rattle.rx_core.specs.declared.types.Span.{Span}
use Rattle.rx_tree.specs.declared.tree.Ident.{Ident}
use Rattle.rx_tree.specs.Plain as plain
use Rattle.rx_tree.specs.Plain.{TypeTree, TypeTrees, PatternTree, PatternTrees, FieldPatterns, Expression, Expressions, OptionalExpression, OptionalExpressions, FieldExpressions, Arms, Body, Statement, Statements, Function}
use Rattle.rx_resolve_names.specs.declared.resolved.NodeNames.{NodeNames}
use Rattle.rx_typed.specs.declared.nodes.Node.{Node}
use Rattle.rx_typed.specs.declared.nodes.Site.{Site}
use Rattle.rx_typed.specs.declared.nodes.Stage.{Stage}
use Rattle.rx_typed.specs.Named.{Pattern, pattern_node, whole_binding, root, never}
use Rattle.rx_typed.specs.Naming as numbering
use Rattle.rx_typed.specs.Naming.{Cursor, a_node, taken, an_entry, declaration, waiting, given_here, of_type, of_types, of_optional_type, of_pattern, of_patterns, of_field_patterns, of_expression, of_parameters, function_named}
use Rattle.rx_typeck_fault_laws.proofs.Slots as slots
use Rattle.rx_typeck_fault_laws.proofs.Slots.{Slot}
use Rattle.rx_typeck_fault_laws.proofs.Times as times

taken_number : (l : List NodeNames) (c : Cursor) → (taken l c).1.number ≡ c.number
taken_number [] c = refl
taken_number (x ∷ l) c = refl

entry_number : (c : Cursor) → (an_entry c).1.number ≡ c.number
entry_number c = taken_number c.names c

annotates_number : (p : PatternTree) (y : Option TypeTree) (c : Cursor) → (numbering.annotates p y c).1.number ≡ c.number
annotates_number p None c = refl
annotates_number p (Some t) c = refl

waits_at_number : (n : Node) (o : Option ℕ) (c : Cursor) → (numbering.waits_at n o c).1.number ≡ c.number
waits_at_number n None c = refl
waits_at_number n (Some x) c = refl

waits_number : (b : Bool) (p : Pattern) (c : Cursor) → (numbering.waits_if b p c).1.number ≡ c.number
waits_number true p c = waits_at_number (pattern_node p) (whole_binding p) c
waits_number false p c = refl

given_number : (x : ℕ) (o : Option (ℕ × ℕ)) (c : Cursor) → (given_here x o c).1.number ≡ c.number
given_number x None c = refl
given_number x (Some w) c = refl

lifetime_number : (o : Option Ident) (c : Cursor) → (numbering.lifetime_entry o c).1.number ≡ c.number
lifetime_number None c = refl
lifetime_number (Some l) c = entry_number c

module _ (m : ℕ) (z : Slot) where
  abbrev at : ℕ → ℕ
  at n = slots.at m z n

  -- whether the number was given out in front of this one
  passed : ℕ → ℕ
  passed j = cond (nat_lt m j) 1 0

  passed_few : (j : ℕ) → passed j ≤ 1
  unfolding passed
  passed_few j = by (nat_lt m j)
    where
      by : (b : Bool) → cond b 1 0 ≤ 1
      by true = omega arith
      by false = omega arith

  -- from a number to another, what is numbered has it so often
  record Once (i j k : ℕ) : Type 0 where
    fits : k + passed i ≤ passed j

  and : {i j l a b : ℕ} → Once i j a → Once j l b → Once i l (a + b)
  and x y = record { fits = let p = x.fits in let q = y.fits in omega (arith, p, q) }

  nothing : (i : ℕ) → Once i i 0
  nothing i = record { fits = omega arith }

  ends : {i j k a : ℕ} → Once i j a → j ≡ k → Once i k a
  ends {i = i} {a = a} x e = subst (λ n. Once i n a) e x

  begins_at : {i j k a : ℕ} → k ≡ i → Once i j a → Once k j a
  begins_at {j = j} {a = a} e x = subst (λ n. Once n j a) (sym e) x

  next_passed : (n : ℕ) → slots.at m z n + passed n ≤ passed (suc n)
  unfolding passed
  next_passed n = by (nat_eq m n) refl (nat_lt m n) refl (nat_lt m (suc n)) refl
    where
      by : (a : Bool) → nat_eq m n ≡ a → (b : Bool) → nat_lt m n ≡ b → (c : Bool) → nat_lt m (suc n) ≡ c → slots.at m z n + cond b 1 0 ≤ cond c 1 0
      by true e true f c g = let p = eqb-true m n e in let q = ltb-true m n f in absurd (omega (arith, p, q))
      by true e false f true g = let p = slots.at_few m z n in omega (arith, p)
      by true e false f false g = let p = eqb-true m n e in let q = ltb-false m (suc n) g in absurd (omega (arith, p, q))
      by false e true f true g = let p = slots.at_none m z n e in omega (arith, p)
      by false e true f false g = let p = ltb-true m n f in let q = ltb-false m (suc n) g in absurd (omega (arith, p, q))
      by false e false f true g = let p = slots.at_none m z n e in omega (arith, p)
      by false e false f false g = let p = slots.at_none m z n e in omega (arith, p)

  node : (s : Span) (t : Site) (c : Cursor) → Once c.number (suc c.number) (at c.number)
  node s t c = record { fits = next_passed c.number }

  mutual
    type_once : (y : TypeTree) (c : Cursor) → Once c.number (of_type y c).1.number (times.type_times at (of_type y c).0)
    type_once (plain.kind_type s k) c = node s Site.Value c
    type_once (plain.bool_type s) c = node s Site.Value c
    type_once (plain.tuple_type s ts) c = and (node s Site.Value c) (types_once ts (a_node s Site.Value c).1)
    type_once (plain.ref_type s l w y) c = let n = a_node s Site.Value c in
        and (node s Site.Value c) (begins_at (sym (lifetime_number l n.1)) (type_once y (numbering.lifetime_entry l n.1).1))
    type_once (plain.named_type s x ls) c = ends (node s Site.Value c) (sym (entry_number (a_node s Site.Value c).1))

    types_once : (ys : TypeTrees) (c : Cursor) → Once c.number (of_types ys c).1.number (times.types_times at (of_types ys c).0)
    types_once plain.no_type c = nothing c.number
    types_once (plain.type_and y ys) c = and (type_once y c) (types_once ys (of_type y c).1)

  optional_type_once : (y : Option TypeTree) (c : Cursor) → Once c.number (of_optional_type y c).1.number (times.optional_times at (of_optional_type y c).0)
  optional_type_once None c = nothing c.number
  optional_type_once (Some y) c = type_once y c

  mutual
    pattern_once : (p : PatternTree) (c : Cursor) → Once c.number (of_pattern p c).1.number (times.pattern_times at (of_pattern p c).0)
    pattern_once (plain.wild s) c = node s Site.Value c
    pattern_once (plain.bind s x w) c = ends (node s Site.Value c) (sym (entry_number (a_node s Site.Value c).1))
    pattern_once (plain.int_pattern s g v k) c = node s Site.Value c
    pattern_once (plain.bool_pattern s b) c = node s Site.Value c
    pattern_once (plain.tuple_pattern s ps) c = and (node s Site.Value c) (patterns_once ps (a_node s Site.Value c).1)
    pattern_once (plain.variant_pattern s a v ps) c = let n = a_node s Site.Value c in and (node s Site.Value c) (begins_at (sym (entry_number n.1)) (patterns_once ps (an_entry n.1).1))
    pattern_once (plain.make_pattern s x fs) c = let n = a_node s Site.Value c in and (node s Site.Value c) (begins_at (sym (entry_number n.1)) (field_patterns_once fs (an_entry n.1).1))

    patterns_once : (ps : PatternTrees) (c : Cursor) → Once c.number (of_patterns ps c).1.number (times.patterns_times at (of_patterns ps c).0)
    patterns_once plain.no_pattern c = nothing c.number
    patterns_once (plain.pattern_and p ps) c = and (pattern_once p c) (patterns_once ps (of_pattern p c).1)

    field_patterns_once : (fs : FieldPatterns) (c : Cursor) → Once c.number (of_field_patterns fs c).1.number (times.field_patterns_times at (of_field_patterns fs c).0)
    field_patterns_once plain.no_field_pattern c = nothing c.number
    field_patterns_once (plain.field_pattern_and y p fs) c = and (pattern_once p c) (field_patterns_once fs (of_pattern p c).1)

  -- ---- expressions

  abbrev ExpOnce : (m : Bool) (t : Site) (e : Expression) → Cursor → Type 0
  ExpOnce m t e c = Once c.number (of_expression m t e c).1.number (times.exp_times at (of_expression m t e c).0)

  -- what is assigned to, where it waits, is a variable
  assigned_once : (n : Node) (p : Expression) (c : Cursor) (o : Option (ℕ × ℕ)) → let Q = of_expression false Site.Place p c in numbering.waits_in p (root Q.0).number Q.1 ≡ o
      → Once c.number Q.1.number (times.exp_times at Q.0) → (e : Expression) → ((t : Site) → ExpOnce false t e Q.1)
      → (i : ℕ) → Once i c.number (at n.number) → let r = numbering.assigned n Q.0 o (λ t. of_expression false t e) Q.1 in Once i r.1.number (times.exp_times at r.0)
  assigned_once n p c None same left e right i m = and m (and left (right Site.Expects))
  assigned_once n (plain.var s x) c (Some w) same left e right i m =
      let Q = of_expression false Site.Place (plain.var s x) c in let E = of_expression false Site.Reborrows e Q.1 in
      ends (and m (and left (right Site.Reborrows))) (sym (given_number w.0 (waiting w.0 (declaration E.1 w.0).stage) E.1))
  assigned_once n (plain.int s v k) c (Some w) same left e right i m = absurd (cc)
  assigned_once n (plain.bool s b) c (Some w) same left e right i m = absurd (cc)
  assigned_once n (plain.tuple s es) c (Some w) same left e right i m = absurd (cc)
  assigned_once n (plain.field s a x) c (Some w) same left e right i m = absurd (cc)
  assigned_once n (plain.part s a j) c (Some w) same left e right i m = absurd (cc)
  assigned_once n (plain.deref s a) c (Some w) same left e right i m = absurd (cc)
  assigned_once n (plain.negate s a) c (Some w) same left e right i m = absurd (cc)
  assigned_once n (plain.invert s a) c (Some w) same left e right i m = absurd (cc)
  assigned_once n (plain.borrow s z a) c (Some w) same left e right i m = absurd (cc)
  assigned_once n (plain.binary s z a b) c (Some w) same left e right i m = absurd (cc)
  assigned_once n (plain.assign s a b) c (Some w) same left e right i m = absurd (cc)
  assigned_once n (plain.update s z a b) c (Some w) same left e right i m = absurd (cc)
  assigned_once n (plain.call s g es) c (Some w) same left e right i m = absurd (cc)
  assigned_once n (plain.next_input s) c (Some w) same left e right i m = absurd (cc)
  assigned_once n (plain.variant s a v es) c (Some w) same left e right i m = absurd (cc)
  assigned_once n (plain.make s x fs) c (Some w) same left e right i m = absurd (cc)
  assigned_once n (plain.print s a) c (Some w) same left e right i m = absurd (cc)
  assigned_once n (plain.block s b) c (Some w) same left e right i m = absurd (cc)
  assigned_once n (plain.if s a b z) c (Some w) same left e right i m = absurd (cc)
  assigned_once n (plain.if_let s q a b z) c (Some w) same left e right i m = absurd (cc)
  assigned_once n (plain.match s a l) c (Some w) same left e right i m = absurd (cc)
  assigned_once n (plain.loop s l b) c (Some w) same left e right i m = absurd (cc)
  assigned_once n (plain.while s l a b) c (Some w) same left e right i m = absurd (cc)
  assigned_once n (plain.while_let s l q a b) c (Some w) same left e right i m = absurd (cc)
  assigned_once n (plain.break s l) c (Some w) same left e right i m = absurd (cc)
  assigned_once n (plain.continue s l) c (Some w) same left e right i m = absurd (cc)
  assigned_once n (plain.return s a) c (Some w) same left e right i m = absurd (cc)

  called_once : (n : Node) (a : List ℕ × Bool) (es : Expressions) (c : Cursor) → ((t : Site) → Once c.number (numbering.of_expressions t es c).1.number (times.exps_times at (numbering.of_expressions t es c).0))
      → (i : ℕ) → Once i c.number (at n.number) → let r = numbering.called n a (λ t. numbering.of_expressions t es) c in Once i r.1.number (times.exp_times at r.0)
  called_once n (ns, true) es c each i m = and m (each Site.Value)
  called_once n (ns, false) es c each i m = and m (each Site.Expects)

  mutual
    exp_once : (m : Bool) (t : Site) (e : Expression) (c : Cursor) → ExpOnce m t e c
    exp_once m t (plain.int s v k) c = node s t c
    exp_once m t (plain.bool s b) c = node s t c
    exp_once m t (plain.tuple s es) c = and (node s t c) (exps_once Site.Value es (a_node s t c).1)
    exp_once m t (plain.var s x) c = ends (node s t c) (sym (entry_number (a_node s t c).1))
    exp_once m t (plain.field s e x) c = and (node s t c) (exp_once false Site.Place e (a_node s t c).1)
    exp_once m t (plain.part s e j) c = and (node s t c) (exp_once false Site.Place e (a_node s t c).1)
    exp_once m t (plain.deref s e) c = and (node s t c) (exp_once false Site.Place e (a_node s t c).1)
    exp_once m t (plain.negate s e) c = and (node s t c) (exp_once true Site.Value e (a_node s t c).1)
    exp_once m t (plain.invert s e) c = and (node s t c) (exp_once false Site.Value e (a_node s t c).1)
    exp_once m t (plain.borrow s z e) c = and (node s t c) (exp_once false Site.Place e (a_node s t c).1)
    exp_once m t (plain.binary s o a b) c = let d = (a_node s t c).1 in
        and (node s t c) (and (exp_once false Site.Value a d) (exp_once false Site.Value b (of_expression false Site.Value a d).1))
    exp_once m t (plain.assign s p e) c = let d = (a_node s t c).1 in let Q = of_expression false Site.Place p d in
        assigned_once (a_node s t c).0 p d (numbering.waits_in p (root Q.0).number Q.1) refl (exp_once false Site.Place p d) e (λ u. exp_once false u e Q.1) c.number (node s t c)
    exp_once m t (plain.update s o p e) c = let d = (a_node s t c).1 in
        and (node s t c) (and (exp_once false Site.Place p d) (exp_once false Site.Value e (of_expression false Site.Place p d).1))
    exp_once m t (plain.call s g es) c = let d = (a_node s t c).1 in let a = an_entry d in
        called_once (a_node s t c).0 a.0 es a.1 (λ u. exps_once u es a.1) c.number (ends (node s t c) (sym (entry_number d)))
    exp_once m t (plain.next_input s) c = ends (node s t c) (sym (entry_number (a_node s t c).1))
    exp_once m t (plain.variant s a v es) c = let d = (a_node s t c).1 in and (ends (node s t c) (sym (entry_number d))) (arguments_once es (an_entry d).1)
    exp_once m t (plain.make s x fs) c = let d = (a_node s t c).1 in and (ends (node s t c) (sym (entry_number d))) (fields_once fs (an_entry d).1)
    exp_once m t (plain.print s e) c = and (node s t c) (exp_once false Site.Value e (a_node s t c).1)
    exp_once m t (plain.block s b) c = let d = (a_node s t c).1 in and (node s t c) (body_once (numbering.passed_on t) b d)
    exp_once m t (plain.if s a b o) c =
        let d = (a_node s t c).1 in let C = of_expression false Site.Value a d in let B = numbering.of_body (numbering.branch_site t o) b C.1 in let O = numbering.of_optional (numbering.passed_on t) o B.1 in
        and (node s t c) (and (exp_once false Site.Value a d) (and (body_once (numbering.branch_site t o) b C.1) (optional_once (numbering.passed_on t) o B.1)))
    exp_once m t (plain.if_let s q e b o) c =
        let d = (a_node s t c).1 in let Q = of_pattern q d in let E = of_expression false Site.Scrutinee e Q.1 in let c2 = (numbering.known_between d.declared Q.1.declared E.1).1 in
        let B = numbering.of_body (numbering.branch_site t o) b c2 in let O = numbering.of_optional (numbering.passed_on t) o B.1 in
        and (node s t c) (and (pattern_once q d) (and (exp_once false Site.Scrutinee e Q.1) (and (body_once (numbering.branch_site t o) b c2) (optional_once (numbering.passed_on t) o B.1))))
    exp_once m t (plain.match s e l) c = let d = (a_node s t c).1 in let E = of_expression false Site.Scrutinee e d in
        and (node s t c) (and (exp_once false Site.Scrutinee e d) (arms_once (numbering.passed_on t) l E.1))
    exp_once m t (plain.loop s l b) c = let a = numbering.a_loop (a_node s t c).1 in let B = numbering.of_body Site.Value b a.1 in
        and (node s t c) (body_once Site.Value b a.1)
    exp_once m t (plain.while s l a b) c = let d = (numbering.a_loop (a_node s t c).1).1 in
        and (node s t c) (and (exp_once false Site.Value a d) (body_once Site.Value b (of_expression false Site.Value a d).1))
    exp_once m t (plain.while_let s l q e b) c =
        let d = (numbering.a_loop (a_node s t c).1).1 in let Q = of_pattern q d in let E = of_expression false Site.Scrutinee e Q.1 in let c2 = (numbering.known_between d.declared Q.1.declared E.1).1 in
        and (node s t c) (and (pattern_once q d) (and (exp_once false Site.Scrutinee e Q.1) (body_once Site.Value b c2)))
    exp_once m t (plain.break s l) c = ends (node s t c) (sym (entry_number (a_node s t c).1))
    exp_once m t (plain.continue s l) c = ends (node s t c) (sym (entry_number (a_node s t c).1))
    exp_once m t (plain.return s o) c = and (node s t c) (optional_once Site.Expects o (a_node s t c).1)

    exps_once : (t : Site) (es : Expressions) (c : Cursor) → Once c.number (numbering.of_expressions t es c).1.number (times.exps_times at (numbering.of_expressions t es c).0)
    exps_once t plain.no_expression c = nothing c.number
    exps_once t (plain.expression_and e es) c = and (exp_once false t e c) (exps_once t es (of_expression false t e c).1)

    optional_once : (t : Site) (o : OptionalExpression) (c : Cursor) → Once c.number (numbering.of_optional t o c).1.number (times.else_times at (numbering.of_optional t o c).0)
    optional_once t plain.absent c = nothing c.number
    optional_once t (plain.present e) c = exp_once false t e c

    arguments_once : (o : OptionalExpressions) (c : Cursor) → Once c.number (numbering.of_arguments o c).1.number (times.exps_times at (numbering.of_arguments o c).0)
    arguments_once plain.no_list c = nothing c.number
    arguments_once (plain.a_list es) c = exps_once Site.Expects es c

    fields_once : (fs : FieldExpressions) (c : Cursor) → Once c.number (numbering.of_fields fs c).1.number (times.fields_times at (numbering.of_fields fs c).0)
    fields_once plain.no_field c = nothing c.number
    fields_once (plain.field_and x e fs) c = and (exp_once false Site.Expects e c) (fields_once fs (of_expression false Site.Expects e c).1)

    arms_once : (t : Site) (l : Arms) (c : Cursor) → Once c.number (numbering.of_arms t l c).1.number (times.arms_times at (numbering.of_arms t l c).0)
    arms_once t plain.no_arm c = nothing c.number
    arms_once t (plain.arm_and q e l) c = let Q = of_pattern q c in let c2 = (numbering.known_between c.declared Q.1.declared Q.1).1 in
        and (pattern_once q c) (and (exp_once false t e c2) (arms_once t l (of_expression false t e c2).1))

    body_once : (t : Site) (b : Body) (c : Cursor) → Once c.number (numbering.of_body t b c).1.number (times.body_times at (numbering.of_body t b c).0)
    body_once t (plain.body s ss o) c = let d = (a_node s t c).1 in let S = numbering.of_statements ss d in let O = numbering.of_optional t o S.1 in
        and (node s t c) (and (statements_once ss d) (optional_once t o S.1))

    statements_once : (ss : Statements) (c : Cursor) → Once c.number (numbering.of_statements ss c).1.number (times.statements_times at (numbering.of_statements ss c).0)
    statements_once plain.no_statement c = nothing c.number
    statements_once (plain.statement_and a ss) c = and (statement_once a c) (statements_once ss (numbering.of_statement a c).1)

    statement_once : (a : Statement) (c : Cursor) → Once c.number (numbering.of_statement a c).1.number (times.statement_times at (numbering.of_statement a c).0)
    statement_once (plain.let_statement s q y plain.absent) c =
        let n = (a_node s Site.Value c).1 in let d = (numbering.annotates q y n).1 in let Q = of_pattern q d in let Y = of_optional_type y Q.1 in let c2 = (numbering.known_between d.declared Q.1.declared Y.1).1 in
        ends (and (ends (node s Site.Value c) (sym (annotates_number q y n))) (and (pattern_once q d) (optional_type_once y Q.1))) (sym (waits_number (numbering.has_no_type Y.0) Q.0 c2))
    statement_once (plain.let_statement s q y (plain.present e)) c =
        let n = (a_node s Site.Value c).1 in let d = (numbering.annotates q y n).1 in let Q = of_pattern q d in let Y = of_optional_type y Q.1 in
        let E = of_expression false (numbering.initialiser_site Y.0) e Y.1 in let c2 = (numbering.known_between d.declared Q.1.declared E.1).1 in
        ends (and (ends (node s Site.Value c) (sym (annotates_number q y n))) (and (pattern_once q d) (and (optional_type_once y Q.1) (exp_once false (numbering.initialiser_site Y.0) e Y.1))))
        (sym (waits_number (numbering.has_no_type Y.0 && never E.0) Q.0 c2))
    statement_once (plain.expression_statement s e b) c = and (node s Site.Value c) (exp_once false Site.Value e (a_node s Site.Value c).1)

  -- ---- functions

  parameters_once : (xs : List plain.Parameter) (c : Cursor) → Once c.number (of_parameters xs c).1.number (times.parameters_times at (of_parameters xs c).0)
  parameters_once [] c = nothing c.number
  parameters_once (x ∷ xs) c =
      let d = (numbering.declare (record { mutable = x.mutable; stage = Stage.Known }) c).1 in and (type_once x.typ d) (parameters_once xs (of_type x.typ d).1)

  entry_if_number : (b : Bool) (c : Cursor) → (numbering.entry_if b c).1.number ≡ c.number
  entry_if_number true c = entry_number c
  entry_if_number false c = refl

  function_once : (i : ℕ) (s : Span) (f : Function) (ns : List NodeNames) → let F = function_named i s f ns in
      (j : ℕ) × Once 0 j (at 0 + (times.parameters_times at F.params + (times.optional_times at F.result + times.body_times at F.body)))
  function_once i s f ns =
      let c0 = (a_node s Site.Value (numbering.begins ns)).1 in let c1 = (numbering.entry_if (numbering.has_entry f) c0).1 in
      let R = of_parameters f.params c1 in let Y = of_optional_type f.result R.1 in (
        (numbering.of_body Site.Expects f.body Y.1).1.number,
        and (ends (node s Site.Value (numbering.begins ns)) (sym (entry_if_number (numbering.has_entry f) c0)))
            (and (parameters_once f.params c1) (and (optional_type_once f.result R.1) (body_once Site.Expects f.body Y.1))),
      )

  -- each number is that of one node at most
  pub at_most_once : (i : ℕ) (s : Span) (f : Function) (ns : List NodeNames) → let F = function_named i s f ns in
      times.parameters_times at F.params + (times.optional_times at F.result + times.body_times at F.body) ≤ 1
  at_most_once i s f ns = let r = function_once i s f ns in let h = r.1.fits in let p = passed_few r.0 in omega (arith, h, p)
