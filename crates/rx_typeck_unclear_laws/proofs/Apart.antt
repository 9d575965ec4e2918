-- No number is of two nodes of a function of which the one has a type and the other none: nodes are numbered in the order in
-- which they are listed, so there is a list of marks, one for each number.
use Rattle.std.proofs.Common.{◌≡◌, ◌⊎◌, inl, inr, ⊎_elim, ℕ, zero, suc, ◌+◌, Bool, true, false, not, ◌&&◌, List, [], ◌∷◌, ◌++◌, length, slice_get, Option, Some, None, refl, sym, ap, ◌∙◌, subst, arith}
use Rattle.std.proofs.lemmas.List.{length-append}
use Rattle.rx_core.specs.declared.types.Span.{Span}
use Rattle.rx_core.specs.declared.types.Ty.{Ty}
use Rattle.rx_tree.specs.declared.tree.Ident.{Ident}
use Rattle.rx_tree.specs.Plain as plain
use Rattle.rx_tree.specs.Plain.{TypeTree, TypeTrees, PatternTree, PatternTrees, FieldPatterns, Expression, Expressions, OptionalExpression, OptionalExpressions, FieldExpressions, Arms, Body, Statement, Statements, Function}
use Rattle.rx_resolve_names.specs.declared.resolved.NodeNames.{NodeNames}
use Rattle.rx_typed.specs.declared.nodes.Node.{Node}
use Rattle.rx_typed.specs.declared.nodes.Site.{Site}
use Rattle.rx_typed.specs.declared.nodes.Stage.{Stage}
use Rattle.rx_typed.specs.Named as named
use Rattle.rx_typed.specs.Named.{Pattern, Exp, pattern_node, whole_binding, node_of, root, never, body_never, else_never, all_never, some_diverges}
use Rattle.rx_typed.specs.Naming as numbering
use Rattle.rx_typed.specs.Naming.{Cursor, a_node, taken, an_entry, declaration, waiting, given_here, gives_here, of_type, of_types, of_optional_type, of_pattern, of_patterns, of_field_patterns, of_expression, of_parameters, function_named}
use Rattle.rx_typeck_solver.specs.declared.facts.Subject.TheVariants as subject
use Rattle.rx_typeck_solver.specs.Valid.{IsIn}
use Rattle.rx_typeck_typed.specs.declared.typed.TypedFn.{TypedFn}
use Rattle.rx_typeck_typed.specs.Typing.{Given, type_at, FunctionTyped}
use Rattle.rx_typeck_typed.specs.Nodes.{one, when, type_nodes, types_nodes, optional_nodes, pattern_nodes, patterns_nodes, field_patterns_nodes, exp_nodes, exps_nodes, else_nodes, fields_nodes, arms_nodes, body_nodes, statement_nodes, statements_nodes, parameters_nodes, nodes}
use Rattle.rx_typeck_unclear_laws.proofs.Others.{tables_have_types}

-- those listed have these marks, from a number to another
record Marked (i j : ℕ) (N : Bool → List ℕ) : Type 0 where
  marks : List Bool
  long : i + length marks ≡ j
  at : (w : Bool) (m : ℕ) → IsIn m (N w) → (k : ℕ) × (i + k ≡ m) × (slice_get marks k ≡ Some w)

get_front : (xs ys : List Bool) (k : ℕ) (w : Bool) → slice_get xs k ≡ Some w → slice_get (xs ++ ys) k ≡ Some w
get_front [] ys k w e = absurd (cc)
get_front (x ∷ xs) ys zero w e = e
get_front (x ∷ xs) ys (suc k) w e = get_front xs ys k w e

get_behind : (xs ys : List Bool) (k : ℕ) → slice_get (xs ++ ys) (length xs + k) ≡ slice_get ys k
get_behind [] ys k = let e : 0 + k ≡ k = omega arith in ap (λ n. slice_get ys n) e
get_behind (x ∷ xs) ys k = let e : suc (length xs) + k ≡ suc (length xs + k) = omega arith in ap (λ n. slice_get (x ∷ (xs ++ ys)) n) e ∙ get_behind xs ys k

either : (xs ys : List ℕ) (m : ℕ) → IsIn m (xs ++ ys) → IsIn m xs ⊎ IsIn m ys
either [] ys m i = inr i
either (x ∷ xs) ys m (inl e) = inl (inl e)
either (x ∷ xs) ys m (inr i) = ⊎_elim (λ a. inl (inr a)) (λ b. inr b) (either xs ys m i)

-- first these, then those
and : {i j k : ℕ} {N M : Bool → List ℕ} → Marked i j N → Marked j k M → Marked i k (λ w. N w ++ M w)
and {i = i} {j = j} {N = N} {M = M} a b = record {
  marks = a.marks ++ b.marks;
  long = let l = length-append a.marks b.marks in let p = a.long in let q = b.long in omega (arith, l, p, q);
  at = λ w m h. ⊎_elim
      (λ x. let y = a.at w m x in (y.0, y.1, get_front a.marks b.marks y.0 w y.2))
      (λ x. let y = b.at w m x in let p = a.long in let q = y.1 in
      (length a.marks + y.0, omega (arith, p, q), get_behind a.marks b.marks y.0 ∙ y.2))
      (either (N w) (M w) m h);
}

no_nodes : (i : ℕ) → Marked i i (λ w. [])
no_nodes i = record { marks = []; long = omega arith; at = λ w m h. absurd h }

ends : {i j k : ℕ} {N : Bool → List ℕ} → Marked i j N → j ≡ k → Marked i k N
ends a e = record { marks = a.marks; long = a.long ∙ e; at = a.at }

begins_at : {i j k : ℕ} {N : Bool → List ℕ} → k ≡ i → Marked i j N → Marked k j N
begins_at {i = i} {j = j} {N = N} e a = subst (λ n. Marked n j N) (sym e) a

one_at : (v : Bool) (n : Node) (i : ℕ) → n.number ≡ i → Marked i (suc i) (λ w. one w v n)
one_at true n i e = record { marks = false ∷ []; long = omega arith; at = by }
  where
    by : (w : Bool) (m : ℕ) → IsIn m (one w true n) → (k : ℕ) × (i + k ≡ m) × (slice_get (false ∷ []) k ≡ Some w)
    by true m h = absurd h
    by false m (inl q) = (zero, omega (arith, e, q), refl)
    by false m (inr h) = absurd h
one_at false n i e = record { marks = true ∷ []; long = omega arith; at = by }
  where
    by : (w : Bool) (m : ℕ) → IsIn m (one w false n) → (k : ℕ) × (i + k ≡ m) × (slice_get (true ∷ []) k ≡ Some w)
    by false m h = absurd h
    by true m (inl q) = (zero, omega (arith, e, q), refl)
    by true m (inr h) = absurd h

-- a node is the next one
node : (v : Bool) (s : Span) (t : Site) (c : Cursor) → Marked c.number (suc c.number) (λ w. one w v (a_node s t c).0)
node v s t c = one_at v (a_node s t c).0 c.number refl

taken_number : (l : List NodeNames) (c : Cursor) → (taken l c).1.number ≡ c.number
taken_number [] c = refl
taken_number (x ∷ l) c = refl

entry_number : (c : Cursor) → (an_entry c).1.number ≡ c.number
entry_number c = taken_number c.names c

annotates_number : (p : PatternTree) (y : Option TypeTree) (c : Cursor) → (numbering.annotates p y c).1.number ≡ c.number
annotates_number p None c = refl
annotates_number p (Some t) c = refl

waits_at_number : (n : Node) (o : Option ℕ) (c : Cursor) → (numbering.waits_at n o c).1.number ≡ c.number
waits_at_number n None c = refl
waits_at_number n (Some x) c = refl

waits_number : (b : Bool) (p : Pattern) (c : Cursor) → (numbering.waits_if b p c).1.number ≡ c.number
waits_number true p c = waits_at_number (pattern_node p) (whole_binding p) c
waits_number false p c = refl

given_number : (x : ℕ) (o : Option (ℕ × ℕ)) (c : Cursor) → (given_here x o c).1.number ≡ c.number
given_number x None c = refl
given_number x (Some w) c = refl

lifetime_number : (o : Option Ident) (c : Cursor) → (numbering.lifetime_entry o c).1.number ≡ c.number
lifetime_number None c = refl
lifetime_number (Some l) c = entry_number c

-- ---- what always has a type

head : (n : Node) (i : ℕ) (ns : List ℕ) (w : Bool) (m : ℕ) → IsIn m (when w (n.number ∷ ns)) → IsIn m (one w false n ++ when w ns)
head n i ns true m h = h
head n i ns false m h = h

typed : {i j : ℕ} {N M : Bool → List ℕ} → Marked i j N → ((w : Bool) (m : ℕ) → IsIn m (M w) → IsIn m (N w)) → Marked i j M
typed a h = record { marks = a.marks; long = a.long; at = λ w m x. a.at w m (h w m x) }

split : (xs ys : List ℕ) (w : Bool) (m : ℕ) → IsIn m (when w (xs ++ ys)) → IsIn m (when w xs ++ when w ys)
split xs ys true m h = h
split xs ys false m h = h

none : (w : Bool) (m : ℕ) → IsIn m (when w []) → ⊥
none true m h = h
none false m h = h

nothing : (i : ℕ) → Marked i i (λ w. when w [])
nothing i = record { marks = []; long = omega arith; at = λ w m h. absurd (none w m h) }

leaf : (s : Span) (c : Cursor) → Marked c.number (suc c.number) (λ w. when w ((a_node s Site.Value c).0.number ∷ []))
leaf s c = typed (and (node false s Site.Value c) (nothing (suc c.number))) (head (a_node s Site.Value c).0 c.number [])

mutual
  type_marked : (y : TypeTree) (c : Cursor) → Marked c.number (of_type y c).1.number (λ w. when w (type_nodes (of_type y c).0))
  type_marked (plain.kind_type s k) c = leaf s c
  type_marked (plain.bool_type s) c = leaf s c
  type_marked (plain.tuple_type s ts) c = let n = a_node s Site.Value c in
      typed (and (node false s Site.Value c) (types_marked ts n.1)) (head n.0 c.number (types_nodes (of_types ts n.1).0))
  type_marked (plain.ref_type s l m y) c = let n = a_node s Site.Value c in let d = (numbering.lifetime_entry l n.1).1 in
      typed (and (node false s Site.Value c) (begins_at (sym (lifetime_number l n.1)) (type_marked y d))) (head n.0 c.number (type_nodes (of_type y d).0))
  type_marked (plain.named_type s x ls) c = ends (leaf s c) (sym (entry_number (a_node s Site.Value c).1))

  types_marked : (ys : TypeTrees) (c : Cursor) → Marked c.number (of_types ys c).1.number (λ w. when w (types_nodes (of_types ys c).0))
  types_marked plain.no_type c = nothing c.number
  types_marked (plain.type_and y ys) c = let d = (of_type y c).1 in
      typed (and (type_marked y c) (types_marked ys d)) (split (type_nodes (of_type y c).0) (types_nodes (of_types ys d).0))

optional_type_marked : (y : Option TypeTree) (c : Cursor) → Marked c.number (of_optional_type y c).1.number (λ w. when w (optional_nodes (of_optional_type y c).0))
optional_type_marked None c = nothing c.number
optional_type_marked (Some y) c = type_marked y c

mutual
  pattern_marked : (p : PatternTree) (c : Cursor) → Marked c.number (of_pattern p c).1.number (λ w. when w (pattern_nodes (of_pattern p c).0))
  pattern_marked (plain.wild s) c = leaf s c
  pattern_marked (plain.bind s x m) c = ends (leaf s c) (sym (entry_number (a_node s Site.Value c).1))
  pattern_marked (plain.int_pattern s g v k) c = leaf s c
  pattern_marked (plain.bool_pattern s b) c = leaf s c
  pattern_marked (plain.tuple_pattern s ps) c = let n = a_node s Site.Value c in
      typed (and (node false s Site.Value c) (patterns_marked ps n.1)) (head n.0 c.number (patterns_nodes (of_patterns ps n.1).0))
  pattern_marked (plain.variant_pattern s a v ps) c = let n = a_node s Site.Value c in let d = (an_entry n.1).1 in
      typed (and (node false s Site.Value c) (begins_at (sym (entry_number n.1)) (patterns_marked ps d))) (head n.0 c.number (patterns_nodes (of_patterns ps d).0))
  pattern_marked (plain.make_pattern s x fs) c = let n = a_node s Site.Value c in let d = (an_entry n.1).1 in
      typed (and (node false s Site.Value c) (begins_at (sym (entry_number n.1)) (field_patterns_marked fs d))) (head n.0 c.number (field_patterns_nodes (of_field_patterns fs d).0))

  patterns_marked : (ps : PatternTrees) (c : Cursor) → Marked c.number (of_patterns ps c).1.number (λ w. when w (patterns_nodes (of_patterns ps c).0))
  patterns_marked plain.no_pattern c = nothing c.number
  patterns_marked (plain.pattern_and p ps) c = let d = (of_pattern p c).1 in
      typed (and (pattern_marked p c) (patterns_marked ps d)) (split (pattern_nodes (of_pattern p c).0) (patterns_nodes (of_patterns ps d).0))

  field_patterns_marked : (fs : FieldPatterns) (c : Cursor) → Marked c.number (of_field_patterns fs c).1.number (λ w. when w (field_patterns_nodes (of_field_patterns fs c).0))
  field_patterns_marked plain.no_field_pattern c = nothing c.number
  field_patterns_marked (plain.field_pattern_and y p fs) c = let d = (of_pattern p c).1 in
      typed (and (pattern_marked p c) (field_patterns_marked fs d)) (split (pattern_nodes (of_pattern p c).0) (field_patterns_nodes (of_field_patterns fs d).0))

-- ---- expressions

abbrev ExpMarked : (m : Bool) (t : Site) (e : Expression) → Cursor → Type 0
ExpMarked m t e c = Marked c.number (of_expression m t e c).1.number (λ w. exp_nodes w (of_expression m t e c).0)

-- what is assigned to, where it waits, is a variable
assigned_marked : (n : Node) (p : Expression) (c : Cursor) (o : Option (ℕ × ℕ)) → let Q = of_expression false Site.Place p c in numbering.waits_in p (root Q.0).number Q.1 ≡ o
    → Marked c.number Q.1.number (λ w. exp_nodes w Q.0) → (e : Expression) → ((t : Site) → ExpMarked false t e Q.1)
    → (i : ℕ) → Marked i c.number (λ w. one w false n) → let r = numbering.assigned n Q.0 o (λ t. of_expression false t e) Q.1 in Marked i r.1.number (λ w. exp_nodes w r.0)
assigned_marked n p c None same left e right i m = and m (and left (right Site.Expects))
assigned_marked n (plain.var s x) c (Some w) same left e right i m =
    let Q = of_expression false Site.Place (plain.var s x) c in let E = of_expression false Site.Reborrows e Q.1 in
    ends (and m (and left (right Site.Reborrows))) (sym (given_number w.0 (waiting w.0 (declaration E.1 w.0).stage) E.1))
assigned_marked n (plain.int s v k) c (Some w) same left e right i m = absurd (cc)
assigned_marked n (plain.bool s b) c (Some w) same left e right i m = absurd (cc)
assigned_marked n (plain.tuple s es) c (Some w) same left e right i m = absurd (cc)
assigned_marked n (plain.field s a x) c (Some w) same left e right i m = absurd (cc)
assigned_marked n (plain.part s a j) c (Some w) same left e right i m = absurd (cc)
assigned_marked n (plain.deref s a) c (Some w) same left e right i m = absurd (cc)
assigned_marked n (plain.negate s a) c (Some w) same left e right i m = absurd (cc)
assigned_marked n (plain.invert s a) c (Some w) same left e right i m = absurd (cc)
assigned_marked n (plain.borrow s z a) c (Some w) same left e right i m = absurd (cc)
assigned_marked n (plain.binary s z a b) c (Some w) same left e right i m = absurd (cc)
assigned_marked n (plain.assign s a b) c (Some w) same left e right i m = absurd (cc)
assigned_marked n (plain.update s z a b) c (Some w) same left e right i m = absurd (cc)
assigned_marked n (plain.call s g es) c (Some w) same left e right i m = absurd (cc)
assigned_marked n (plain.next_input s) c (Some w) same left e right i m = absurd (cc)
assigned_marked n (plain.variant s a v es) c (Some w) same left e right i m = absurd (cc)
assigned_marked n (plain.make s x fs) c (Some w) same left e right i m = absurd (cc)
assigned_marked n (plain.print s a) c (Some w) same left e right i m = absurd (cc)
assigned_marked n (plain.block s b) c (Some w) same left e right i m = absurd (cc)
assigned_marked n (plain.if s a b z) c (Some w) same left e right i m = absurd (cc)
assigned_marked n (plain.if_let s q a b z) c (Some w) same left e right i m = absurd (cc)
assigned_marked n (plain.match s a l) c (Some w) same left e right i m = absurd (cc)
assigned_marked n (plain.loop s l b) c (Some w) same left e right i m = absurd (cc)
assigned_marked n (plain.while s l a b) c (Some w) same left e right i m = absurd (cc)
assigned_marked n (plain.while_let s l q a b) c (Some w) same left e right i m = absurd (cc)
assigned_marked n (plain.break s l) c (Some w) same left e right i m = absurd (cc)
assigned_marked n (plain.continue s l) c (Some w) same left e right i m = absurd (cc)
assigned_marked n (plain.return s a) c (Some w) same left e right i m = absurd (cc)

called_marked : (n : Node) (a : List ℕ × Bool) (es : Expressions) (c : Cursor) → ((t : Site) → Marked c.number (numbering.of_expressions t es c).1.number (λ w. exps_nodes w (numbering.of_expressions t es c).0))
    → (i : ℕ) → Marked i c.number (λ w. one w false n) → let r = numbering.called n a (λ t. numbering.of_expressions t es) c in Marked i r.1.number (λ w. exp_nodes w r.0)
called_marked n (ns, true) es c each i m = and m (each Site.Value)
called_marked n (ns, false) es c each i m = and m (each Site.Expects)

leave : (s : Span) (t : Site) (c : Cursor) → Marked c.number (suc c.number) (λ w. one w true (a_node s t c).0)
leave s t c = node true s t c

mutual
  exp_marked : (m : Bool) (t : Site) (e : Expression) (c : Cursor) → ExpMarked m t e c
  exp_marked m t (plain.int s v k) c = node false s t c
  exp_marked m t (plain.bool s b) c = node false s t c
  exp_marked m t (plain.tuple s es) c = and (node false s t c) (exps_marked Site.Value es (a_node s t c).1)
  exp_marked m t (plain.var s x) c = ends (node false s t c) (sym (entry_number (a_node s t c).1))
  exp_marked m t (plain.field s e x) c = and (node false s t c) (exp_marked false Site.Place e (a_node s t c).1)
  exp_marked m t (plain.part s e j) c = and (node false s t c) (exp_marked false Site.Place e (a_node s t c).1)
  exp_marked m t (plain.deref s e) c = and (node false s t c) (exp_marked false Site.Place e (a_node s t c).1)
  exp_marked m t (plain.negate s e) c = and (node false s t c) (exp_marked true Site.Value e (a_node s t c).1)
  exp_marked m t (plain.invert s e) c = and (node false s t c) (exp_marked false Site.Value e (a_node s t c).1)
  exp_marked m t (plain.borrow s z e) c = and (node false s t c) (exp_marked false Site.Place e (a_node s t c).1)
  exp_marked m t (plain.binary s o a b) c = let d = (a_node s t c).1 in
      and (node false s t c) (and (exp_marked false Site.Value a d) (exp_marked false Site.Value b (of_expression false Site.Value a d).1))
  exp_marked m t (plain.assign s p e) c = let d = (a_node s t c).1 in let Q = of_expression false Site.Place p d in
      assigned_marked (a_node s t c).0 p d (numbering.waits_in p (root Q.0).number Q.1) refl (exp_marked false Site.Place p d) e (λ u. exp_marked false u e Q.1) c.number (node false s t c)
  exp_marked m t (plain.update s o p e) c = let d = (a_node s t c).1 in
      and (node false s t c) (and (exp_marked false Site.Place p d) (exp_marked false Site.Value e (of_expression false Site.Place p d).1))
  exp_marked m t (plain.call s g es) c = let d = (a_node s t c).1 in let a = an_entry d in
      called_marked (a_node s t c).0 a.0 es a.1 (λ u. exps_marked u es a.1) c.number (ends (node false s t c) (sym (entry_number d)))
  exp_marked m t (plain.next_input s) c = ends (node false s t c) (sym (entry_number (a_node s t c).1))
  exp_marked m t (plain.variant s a v es) c = let d = (a_node s t c).1 in and (ends (node false s t c) (sym (entry_number d))) (arguments_marked es (an_entry d).1)
  exp_marked m t (plain.make s x fs) c = let d = (a_node s t c).1 in and (ends (node false s t c) (sym (entry_number d))) (fields_marked fs (an_entry d).1)
  exp_marked m t (plain.print s e) c = and (node false s t c) (exp_marked false Site.Value e (a_node s t c).1)
  exp_marked m t (plain.block s b) c = let d = (a_node s t c).1 in and (node (body_never (numbering.of_body (numbering.passed_on t) b d).0) s t c) (body_marked (numbering.passed_on t) b d)
  exp_marked m t (plain.if s a b o) c =
      let d = (a_node s t c).1 in let C = of_expression false Site.Value a d in let B = numbering.of_body (numbering.branch_site t o) b C.1 in let O = numbering.of_optional (numbering.passed_on t) o B.1 in
      and (node (body_never B.0 && else_never O.0) s t c) (and (exp_marked false Site.Value a d) (and (body_marked (numbering.branch_site t o) b C.1) (optional_marked (numbering.passed_on t) o B.1)))
  exp_marked m t (plain.if_let s q e b o) c =
      let d = (a_node s t c).1 in let Q = of_pattern q d in let E = of_expression false Site.Scrutinee e Q.1 in let c2 = (numbering.known_between d.declared Q.1.declared E.1).1 in
      let B = numbering.of_body (numbering.branch_site t o) b c2 in let O = numbering.of_optional (numbering.passed_on t) o B.1 in
      and (node (body_never B.0 && else_never O.0) s t c) (and (pattern_marked q d) (and (exp_marked false Site.Scrutinee e Q.1) (and (body_marked (numbering.branch_site t o) b c2) (optional_marked (numbering.passed_on t) o B.1))))
  exp_marked m t (plain.match s e l) c = let d = (a_node s t c).1 in let E = of_expression false Site.Scrutinee e d in
      and (node (all_never (numbering.of_arms (numbering.passed_on t) l E.1).0) s t c) (and (exp_marked false Site.Scrutinee e d) (arms_marked (numbering.passed_on t) l E.1))
  exp_marked m t (plain.loop s l b) c = let a = numbering.a_loop (a_node s t c).1 in let B = numbering.of_body Site.Value b a.1 in
      and (node (not (numbering.is_left a.0 B.1).0) s t c) (body_marked Site.Value b a.1)
  exp_marked m t (plain.while s l a b) c = let d = (numbering.a_loop (a_node s t c).1).1 in
      and (node false s t c) (and (exp_marked false Site.Value a d) (body_marked Site.Value b (of_expression false Site.Value a d).1))
  exp_marked m t (plain.while_let s l q e b) c =
      let d = (numbering.a_loop (a_node s t c).1).1 in let Q = of_pattern q d in let E = of_expression false Site.Scrutinee e Q.1 in let c2 = (numbering.known_between d.declared Q.1.declared E.1).1 in
      and (node false s t c) (and (pattern_marked q d) (and (exp_marked false Site.Scrutinee e Q.1) (body_marked Site.Value b c2)))
  exp_marked m t (plain.break s l) c = ends (leave s t c) (sym (entry_number (a_node s t c).1))
  exp_marked m t (plain.continue s l) c = ends (leave s t c) (sym (entry_number (a_node s t c).1))
  exp_marked m t (plain.return s o) c = and (leave s t c) (optional_marked Site.Expects o (a_node s t c).1)

  exps_marked : (t : Site) (es : Expressions) (c : Cursor) → Marked c.number (numbering.of_expressions t es c).1.number (λ w. exps_nodes w (numbering.of_expressions t es c).0)
  exps_marked t plain.no_expression c = no_nodes c.number
  exps_marked t (plain.expression_and e es) c = and (exp_marked false t e c) (exps_marked t es (of_expression false t e c).1)

  optional_marked : (t : Site) (o : OptionalExpression) (c : Cursor) → Marked c.number (numbering.of_optional t o c).1.number (λ w. else_nodes w (numbering.of_optional t o c).0)
  optional_marked t plain.absent c = no_nodes c.number
  optional_marked t (plain.present e) c = exp_marked false t e c

  arguments_marked : (o : OptionalExpressions) (c : Cursor) → Marked c.number (numbering.of_arguments o c).1.number (λ w. exps_nodes w (numbering.of_arguments o c).0)
  arguments_marked plain.no_list c = no_nodes c.number
  arguments_marked (plain.a_list es) c = exps_marked Site.Expects es c

  fields_marked : (fs : FieldExpressions) (c : Cursor) → Marked c.number (numbering.of_fields fs c).1.number (λ w. fields_nodes w (numbering.of_fields fs c).0)
  fields_marked plain.no_field c = no_nodes c.number
  fields_marked (plain.field_and x e fs) c = and (exp_marked false Site.Expects e c) (fields_marked fs (of_expression false Site.Expects e c).1)

  arms_marked : (t : Site) (l : Arms) (c : Cursor) → Marked c.number (numbering.of_arms t l c).1.number (λ w. arms_nodes w (numbering.of_arms t l c).0)
  arms_marked t plain.no_arm c = no_nodes c.number
  arms_marked t (plain.arm_and q e l) c = let Q = of_pattern q c in let c2 = (numbering.known_between c.declared Q.1.declared Q.1).1 in
      and (pattern_marked q c) (and (exp_marked false t e c2) (arms_marked t l (of_expression false t e c2).1))

  body_marked : (t : Site) (b : Body) (c : Cursor) → Marked c.number (numbering.of_body t b c).1.number (λ w. body_nodes w (numbering.of_body t b c).0)
  body_marked t (plain.body s ss o) c = let d = (a_node s t c).1 in let S = numbering.of_statements ss d in let O = numbering.of_optional t o S.1 in
      and (node (named.tail_never (some_diverges S.0) O.0) s t c) (and (statements_marked ss d) (optional_marked t o S.1))

  statements_marked : (ss : Statements) (c : Cursor) → Marked c.number (numbering.of_statements ss c).1.number (λ w. statements_nodes w (numbering.of_statements ss c).0)
  statements_marked plain.no_statement c = no_nodes c.number
  statements_marked (plain.statement_and a ss) c = and (statement_marked a c) (statements_marked ss (numbering.of_statement a c).1)

  statement_marked : (a : Statement) (c : Cursor) → Marked c.number (numbering.of_statement a c).1.number (λ w. statement_nodes w (numbering.of_statement a c).0)
  statement_marked (plain.let_statement s q y plain.absent) c =
      let n = (a_node s Site.Value c).1 in let d = (numbering.annotates q y n).1 in let Q = of_pattern q d in let Y = of_optional_type y Q.1 in let c2 = (numbering.known_between d.declared Q.1.declared Y.1).1 in
      ends (and (ends (leave s Site.Value c) (sym (annotates_number q y n))) (and (pattern_marked q d) (optional_type_marked y Q.1))) (sym (waits_number (numbering.has_no_type Y.0) Q.0 c2))
  statement_marked (plain.let_statement s q y (plain.present e)) c =
      let n = (a_node s Site.Value c).1 in let d = (numbering.annotates q y n).1 in let Q = of_pattern q d in let Y = of_optional_type y Q.1 in
      let E = of_expression false (numbering.initialiser_site Y.0) e Y.1 in let c2 = (numbering.known_between d.declared Q.1.declared E.1).1 in
      ends (and (ends (leave s Site.Value c) (sym (annotates_number q y n))) (and (pattern_marked q d) (and (optional_type_marked y Q.1) (exp_marked false (numbering.initialiser_site Y.0) e Y.1))))
      (sym (waits_number (numbering.has_no_type Y.0 && never E.0) Q.0 c2))
  statement_marked (plain.expression_statement s e b) c = and (leave s Site.Value c) (exp_marked false Site.Value e (a_node s Site.Value c).1)

-- ---- functions

parameters_marked : (xs : List plain.Parameter) (c : Cursor) → Marked c.number (of_parameters xs c).1.number (λ w. when w (parameters_nodes (of_parameters xs c).0))
parameters_marked [] c = nothing c.number
parameters_marked (x ∷ xs) c =
    let d = (numbering.declare (record { mutable = x.mutable; stage = Stage.Known }) c).1 in let T = of_type x.typ d in
    typed (and (type_marked x.typ d) (parameters_marked xs T.1)) (split (type_nodes T.0) (parameters_nodes (of_parameters xs T.1).0))

entry_if_number : (b : Bool) (c : Cursor) → (numbering.entry_if b c).1.number ≡ c.number
entry_if_number true c = entry_number c
entry_if_number false c = refl

item_first : (w : Bool) (ns : List ℕ) (m : ℕ) (n : Node) → n.number ≡ 0 → IsIn m (when (not w) (0 ∷ []) ++ ns) → IsIn m (one w true n ++ ns)
item_first true ns m n e h = h
item_first false ns m n e (inl q) = inl (q ∙ sym e)
item_first false ns m n e (inr h) = inr h

function_marked : (i : ℕ) (s : Span) (f : Function) (ns : List NodeNames) → (j : ℕ) × Marked 0 j (λ w. nodes w (function_named i s f ns))
function_marked i s f ns =
    let n = a_node s Site.Value (numbering.begins ns) in let c0 = n.1 in let c1 = (numbering.entry_if (numbering.has_entry f) c0).1 in
    let R = of_parameters f.params c1 in let Y = of_optional_type f.result R.1 in let B = numbering.of_body Site.Expects f.body Y.1 in (
      B.1.number,
      typed (and (ends (leave s Site.Value (numbering.begins ns)) (sym (entry_if_number (numbering.has_entry f) c0)))
          (and (parameters_marked f.params c1) (and (optional_type_marked f.result R.1) (body_marked Site.Expects f.body Y.1))))
          (λ w m h. item_first w _ m n.0 refl h),
    )

-- no number is in both lists
pub apart : (i : ℕ) (s : Span) (f : Function) (ns : List NodeNames) (m : ℕ) → IsIn m (nodes true (function_named i s f ns)) → IsIn m (nodes false (function_named i s f ns)) → ⊥
apart i s f ns m x y =
    let a = (function_marked i s f ns).1 in let p = a.at true m x in let q = a.at false m y in
    let e = p.1 in let g = q.1 in let same : p.0 ≡ q.0 = omega (arith, e, g) in
    let k : Some true ≡ Some false = sym p.2 ∙ ap (λ n. slice_get a.marks n) same ∙ q.2 in cc

pub others_have_none : (G : Given) (i : ℕ) (s : Span) (f : Function) (ns : List NodeNames) (vars : List Span) (t : TypedFn) → FunctionTyped G i s f ns vars t
    → (n : ℕ) → IsIn n (nodes false (function_named i s f ns)) → type_at t (subject.Node n) ≡ None
others_have_none G i s f ns vars t h n y = by (type_at t (subject.Node n)) refl
  where
    by : (o : Option Ty) → type_at t (subject.Node n) ≡ o → type_at t (subject.Node n) ≡ None
    by None e = e
    by (Some x) e = absurd (apart i s f ns n (tables_have_types G i s f ns vars t h n x e) y)
