-- Variables are declared one after another: no part that is numbered takes one back.
use Rattle.std.proofs.Common.{◌≡◌, ℕ, zero, suc, ◌-◌, ◌≤◌, Bool, true, false, List, [], ◌∷◌, ◌++◌, length, map, take, drop, slice_set, ap, Option, Some, None, refl, ◌⊎◌, inl, inr, arith}
use Rattle.rx_core.specs.declared.types.Span.{Span}
use Rattle.rx_tree.specs.declared.tree.Ident.{Ident}
use Rattle.rx_tree.specs.Plain as plain
use Rattle.rx_tree.specs.Plain.{TypeTree, TypeTrees, PatternTree, PatternTrees, FieldPatterns, Expression, Expressions, OptionalExpression, OptionalExpressions, FieldExpressions, Statement, Statements}
use Rattle.rx_resolve_names.specs.declared.resolved.NodeNames.{NodeNames}
use Rattle.rx_typed.specs.declared.nodes.Declaration.{Declaration}
use Rattle.rx_typed.specs.declared.nodes.Site.{Site}
use Rattle.rx_typed.specs.declared.nodes.Stage.{Stage}
use Rattle.rx_typed.specs.Named.{Pattern, root, whole_binding, pattern_node}
use Rattle.rx_typed.specs.Naming as naming
use Rattle.rx_typed.specs.Naming.{Cursor, a_node, an_entry, taken, passed_on, of_type, of_types, of_pattern, of_patterns, of_field_patterns, as_known, known_among}

pub record Rises (c c' : Cursor) : Type 0 where
  pub grows : length c.variables ≤ length c'.variables

pub rises_on : {c c1 c2 : Cursor} → Rises c c1 → Rises c1 c2 → Rises c c2
rises_on a b = record { grows = let p = a.grows in let q = b.grows in omega (arith, p, q) }

-- no variable is declared
nothing_rises : (c c' : Cursor) → length c'.variables ≡ length c.variables → Rises c c'
nothing_rises c c' e = record { grows = omega (arith, e) }

node_rises : (s : Span) (t : Site) (c : Cursor) → Rises c (a_node s t c).1
node_rises s t c = nothing_rises c (a_node s t c).1 refl

taken_rises : (ns : List NodeNames) (c : Cursor) → Rises c (taken ns c).1
taken_rises [] c = nothing_rises c c refl
taken_rises (n ∷ ns) c = nothing_rises c (record c { names = ns }) refl

entry_rises : (c : Cursor) → Rises c (an_entry c).1
entry_rises c = taken_rises c.names c

-- ---- a table of variables in which one is set, or that gets one more, or of which some are known

set_many : (ds : List Declaration) (y : ℕ) (d : Declaration) → length (slice_set ds y d) ≡ length ds
set_many [] zero d = refl
set_many [] (suc y) d = refl
set_many (e ∷ ds) zero d = refl
set_many (e ∷ ds) (suc y) d = ap suc (set_many ds y d)

pub one_more : (ds : List Declaration) (d : Declaration) → length (ds ++ d ∷ []) ≡ suc (length ds)
one_more [] d = refl
one_more (e ∷ ds) d = ap suc (one_more ds d)

first_many : (k : ℕ) (ds : List Declaration) → length (map as_known (take k ds) ++ drop k ds) ≡ length ds
first_many zero ds = refl
first_many (suc k) [] = refl
first_many (suc k) (d ∷ ds) = ap suc (first_many k ds)

known_many : (i k : ℕ) (ds : List Declaration) → length (known_among i k ds) ≡ length ds
known_many zero k ds = first_many k ds
known_many (suc i) zero [] = refl
known_many (suc i) (suc k) [] = refl
known_many (suc i) k (d ∷ ds) = ap suc (known_many i k ds)

-- ---- types and patterns

lifetime_rises : (l : Option Ident) (c : Cursor) → Rises c (naming.lifetime_entry l c).1
lifetime_rises None c = nothing_rises c c refl
lifetime_rises (Some l) c = entry_rises c

mutual
  pub type_rises : (y : TypeTree) (c : Cursor) → Rises c (of_type y c).1
  type_rises (plain.kind_type s k) c = node_rises s Site.Value c
  type_rises (plain.bool_type s) c = node_rises s Site.Value c
  type_rises (plain.tuple_type s ts) c = rises_on (node_rises s Site.Value c) (types_rises ts _)
  type_rises (plain.ref_type s l m y) c = rises_on (node_rises s Site.Value c) (rises_on (lifetime_rises l _) (type_rises y _))
  type_rises (plain.named_type s x ls) c = rises_on (node_rises s Site.Value c) (entry_rises _)

  types_rises : (ys : TypeTrees) (c : Cursor) → Rises c (of_types ys c).1
  types_rises plain.no_type c = nothing_rises c c refl
  types_rises (plain.type_and y ys) c = rises_on (type_rises y c) (types_rises ys _)

pub optional_type_rises : (y : Option TypeTree) (c : Cursor) → Rises c (naming.of_optional_type y c).1
optional_type_rises None c = nothing_rises c c refl
optional_type_rises (Some y) c = type_rises y c

declared_rises : (d : Declaration) (c : Cursor) → Rises c (naming.declare d c).1
declared_rises d c = record { grows = (let e = one_more c.variables d in omega (arith, e)) }

set_rises : (x : ℕ) (s : Stage) (c : Cursor) → Rises c (naming.set_stage x s c).1
set_rises x s c = nothing_rises c (naming.set_stage x s c).1 (set_many c.variables x (record (naming.declaration c x) { stage = s }))

mutual
  pattern_rises : (p : PatternTree) (c : Cursor) → Rises c (of_pattern p c).1
  pattern_rises (plain.wild s) c = node_rises s Site.Value c
  pattern_rises (plain.bind s x m) c =
      let n = (a_node s Site.Value c).1 in
      let d = (an_entry n).1 in
      rises_on (node_rises s Site.Value c) (rises_on (entry_rises n) (declared_rises (record { mutable = m; stage = Stage.Given }) d))
  pattern_rises (plain.int_pattern s g v k) c = node_rises s Site.Value c
  pattern_rises (plain.bool_pattern s b) c = node_rises s Site.Value c
  pattern_rises (plain.tuple_pattern s ps) c = rises_on (node_rises s Site.Value c) (patterns_rises ps _)
  pattern_rises (plain.variant_pattern s a v ps) c = rises_on (node_rises s Site.Value c) (rises_on (entry_rises _) (patterns_rises ps _))
  pattern_rises (plain.make_pattern s x fs) c = rises_on (node_rises s Site.Value c) (rises_on (entry_rises _) (field_patterns_rises fs _))

  patterns_rises : (ps : PatternTrees) (c : Cursor) → Rises c (of_patterns ps c).1
  patterns_rises plain.no_pattern c = nothing_rises c c refl
  patterns_rises (plain.pattern_and p ps) c = rises_on (pattern_rises p c) (patterns_rises ps _)

  field_patterns_rises : (fs : FieldPatterns) (c : Cursor) → Rises c (of_field_patterns fs c).1
  field_patterns_rises plain.no_field_pattern c = nothing_rises c c refl
  field_patterns_rises (plain.field_pattern_and x p fs) c = rises_on (pattern_rises p c) (field_patterns_rises fs _)

waits_rises : (b : Bool) (p : Pattern) (c : Cursor) → Rises c (naming.waits_if b p c).1
waits_rises false p c = nothing_rises c c refl
waits_rises true p c = at (whole_binding p)
  where
    at : (o : Option ℕ) → Rises c (naming.waits_at (pattern_node p) o c).1
    at None = nothing_rises c c refl
    at (Some x) = set_rises x (Stage.Waits (pattern_node p).number (pattern_node p).span) c

-- ---- expressions

abbrev ExpRises : Expression → Type 0
ExpRises e = (m : Bool) (t : Site) (c : Cursor) → Rises c (naming.of_expression m t e c).1

-- a place that is one node, or no variable that waits
abbrev OneNode : Expression → Cursor → Option (ℕ × ℕ) → Type 0
OneNode p c o = Rises c (naming.of_expression false Site.Place p c).1 ⊎ (o ≡ None)

one_node : (p : Expression) (c : Cursor) → OneNode p c (naming.waits_in p (root (naming.of_expression false Site.Place p c).0).number (naming.of_expression false Site.Place p c).1)
one_node (plain.var s x) c = inl (rises_on (node_rises s Site.Place c) (entry_rises _))
one_node _ c = inr refl

-- an assignment behind its value
given_here_rises : (x : ℕ) (o : Option (ℕ × ℕ)) (c : Cursor) → Rises c (naming.given_here x o c).1
given_here_rises x None c = nothing_rises c c refl
given_here_rises x (Some w) c = set_rises x Stage.Known c

-- the value of an assignment, behind its place
assigned_rises : (s : Span) (t : Site) (p e : Expression) (c : Cursor) → ExpRises p → ExpRises e → (o : Option (ℕ × ℕ)) → OneNode p (a_node s t c).1 o
    → Rises c (naming.assigned (a_node s t c).0 (naming.of_expression false Site.Place p (a_node s t c).1).0 o (λ u. naming.of_expression false u e) (naming.of_expression false Site.Place p (a_node s t c).1).1).1
assigned_rises s t p e c a b None x = rises_on (node_rises s t c) (rises_on (a false Site.Place (a_node s t c).1) (b false Site.Expects _))
assigned_rises s t p e c a b (Some w) (inr none) = absurd (cc)
assigned_rises s t p e c a b (Some w) (inl x) =
    let q = naming.of_expression false Site.Place p (a_node s t c).1 in
    let E = (naming.of_expression false Site.Reborrows e q.1).1 in
    rises_on (node_rises s t c) (rises_on x (rises_on (b false Site.Reborrows q.1) (given_here_rises w.0 (naming.waiting w.0 (naming.declaration E w.0).stage) E)))

called_rises : (s : Span) (t : Site) (es : Expressions) (c : Cursor) → ((t : Site) (c : Cursor) → Rises c (naming.of_expressions t es c).1)
    → (k : List ℕ × Bool) → (c1 : Cursor) → Rises (a_node s t c).1 c1
    → Rises c (naming.called (a_node s t c).0 k (λ u. naming.of_expressions u es) c1).1
called_rises s t es c each (ns, true) c1 i = rises_on (node_rises s t c) (rises_on i (each Site.Value c1))
called_rises s t es c each (ns, false) c1 i = rises_on (node_rises s t c) (rises_on i (each Site.Expects c1))

annotates_rises : (p : PatternTree) (y : Option TypeTree) (c : Cursor) → Rises c (naming.annotates p y c).1
annotates_rises p None c = nothing_rises c c refl
annotates_rises p (Some y) c = nothing_rises c (naming.annotates p (Some y) c).1 refl

known_rises : (i j : ℕ) (c : Cursor) → Rises c (naming.known_between i j c).1
known_rises i j c = nothing_rises c (naming.known_between i j c).1 (known_many i (j - i) c.variables)

mutual
  exp_rises : (e : Expression) → ExpRises e
  exp_rises (plain.int s v k) m t c = node_rises s t c
  exp_rises (plain.bool s b) m t c = node_rises s t c
  exp_rises (plain.tuple s es) m t c = rises_on (node_rises s t c) (exps_rises es Site.Value _)
  exp_rises (plain.var s x) m t c = rises_on (node_rises s t c) (entry_rises _)
  exp_rises (plain.field s e x) m t c = rises_on (node_rises s t c) (exp_rises e false Site.Place _)
  exp_rises (plain.part s e i) m t c = rises_on (node_rises s t c) (exp_rises e false Site.Place _)
  exp_rises (plain.deref s e) m t c = rises_on (node_rises s t c) (exp_rises e false Site.Place _)
  exp_rises (plain.negate s e) m t c = rises_on (node_rises s t c) (exp_rises e true Site.Value _)
  exp_rises (plain.invert s e) m t c = rises_on (node_rises s t c) (exp_rises e false Site.Value _)
  exp_rises (plain.borrow s k e) m t c = rises_on (node_rises s t c) (exp_rises e false Site.Place _)
  exp_rises (plain.binary s o x y) m t c = rises_on (node_rises s t c) (rises_on (exp_rises x false Site.Value _) (exp_rises y false Site.Value _))
  exp_rises (plain.assign s p e) m t c = assigned_rises s t p e c (λ m t c. exp_rises p m t c) (λ m t c. exp_rises e m t c) _ (one_node p (a_node s t c).1)
  exp_rises (plain.update s o p e) m t c = rises_on (node_rises s t c) (rises_on (exp_rises p false Site.Place _) (exp_rises e false Site.Value _))
  exp_rises (plain.call s g es) m t c = called_rises s t es c (λ t c. exps_rises es t c) (an_entry (a_node s t c).1).0 (an_entry (a_node s t c).1).1 (entry_rises _)
  exp_rises (plain.next_input s) m t c = rises_on (node_rises s t c) (entry_rises _)
  exp_rises (plain.variant s x v es) m t c = rises_on (node_rises s t c) (rises_on (entry_rises _) (arguments_rises es _))
  exp_rises (plain.make s x fs) m t c = rises_on (node_rises s t c) (rises_on (entry_rises _) (fields_rises fs _))
  exp_rises (plain.print s e) m t c = rises_on (node_rises s t c) (exp_rises e false Site.Value _)
  exp_rises (plain.block s b) m t c =
      let B = naming.of_body (passed_on t) b (a_node s t c).1 in
      rises_on (node_rises s t c) (body_rises b (passed_on t) _)
  exp_rises (plain.if s x b o) m t c =
      let X = naming.of_expression false Site.Value x (a_node s t c).1 in
      let B = naming.of_body (naming.branch_site t o) b X.1 in
      let O = naming.of_optional (passed_on t) o B.1 in
      rises_on (node_rises s t c) (rises_on (exp_rises x false Site.Value _) (rises_on (body_rises b (naming.branch_site t o) X.1) (optional_rises o (passed_on t) B.1)))
  exp_rises (plain.if_let s p e b o) m t c =
      let n = a_node s t c in
      let P = of_pattern p n.1 in
      let X = naming.of_expression false Site.Scrutinee e P.1 in
      let k = naming.known_between n.1.declared P.1.declared X.1 in
      let B = naming.of_body (naming.branch_site t o) b k.1 in
      let O = naming.of_optional (passed_on t) o B.1 in
      rises_on (node_rises s t c) (rises_on (pattern_rises p n.1) (rises_on (exp_rises e false Site.Scrutinee P.1)
      (rises_on (known_rises n.1.declared P.1.declared X.1) (rises_on (body_rises b (naming.branch_site t o) k.1) (optional_rises o (passed_on t) B.1)))))
  exp_rises (plain.match s e l) m t c =
      let X = naming.of_expression false Site.Scrutinee e (a_node s t c).1 in
      let L = naming.of_arms (passed_on t) l X.1 in
      rises_on (node_rises s t c) (rises_on (exp_rises e false Site.Scrutinee _) (arms_rises l (passed_on t) X.1))
  exp_rises (plain.loop s l b) m t c =
      let c1 = naming.a_loop (a_node s t c).1 in
      let B = naming.of_body Site.Value b c1.1 in
      rises_on (node_rises s t c) (rises_on (nothing_rises _ c1.1 refl) (body_rises b Site.Value c1.1))
  exp_rises (plain.while s l x b) m t c =
      let c1 = naming.a_loop (a_node s t c).1 in
      rises_on (node_rises s t c) (rises_on (nothing_rises _ c1.1 refl) (rises_on (exp_rises x false Site.Value c1.1) (body_rises b Site.Value _)))
  exp_rises (plain.while_let s l p e b) m t c =
      let c1 = (naming.a_loop (a_node s t c).1).1 in
      let P = of_pattern p c1 in
      let X = naming.of_expression false Site.Scrutinee e P.1 in
      let k = naming.known_between c1.declared P.1.declared X.1 in
      rises_on (node_rises s t c) (rises_on (nothing_rises _ c1 refl) (rises_on (pattern_rises p c1) (rises_on (exp_rises e false Site.Scrutinee P.1)
      (rises_on (known_rises c1.declared P.1.declared X.1) (body_rises b Site.Value k.1)))))
  exp_rises (plain.break s l) m t c =
      let k = an_entry (a_node s t c).1 in
      rises_on (node_rises s t c) (rises_on (entry_rises _) (nothing_rises k.1 (naming.leads (naming.first k.0.0) k.1).1 refl))
  exp_rises (plain.continue s l) m t c = rises_on (node_rises s t c) (entry_rises _)
  exp_rises (plain.return s o) m t c = rises_on (node_rises s t c) (optional_rises o Site.Expects _)

  exps_rises : (es : Expressions) (t : Site) (c : Cursor) → Rises c (naming.of_expressions t es c).1
  exps_rises plain.no_expression t c = nothing_rises c c refl
  exps_rises (plain.expression_and e es) t c = rises_on (exp_rises e false t c) (exps_rises es t _)

  optional_rises : (o : OptionalExpression) (t : Site) (c : Cursor) → Rises c (naming.of_optional t o c).1
  optional_rises plain.absent t c = nothing_rises c c refl
  optional_rises (plain.present e) t c = exp_rises e false t c

  arguments_rises : (es : OptionalExpressions) (c : Cursor) → Rises c (naming.of_arguments es c).1
  arguments_rises plain.no_list c = nothing_rises c c refl
  arguments_rises (plain.a_list es) c = exps_rises es Site.Expects c

  fields_rises : (fs : FieldExpressions) (c : Cursor) → Rises c (naming.of_fields fs c).1
  fields_rises plain.no_field c = nothing_rises c c refl
  fields_rises (plain.field_and x e fs) c = rises_on (exp_rises e false Site.Expects c) (fields_rises fs _)

  arms_rises : (l : plain.Arms) (t : Site) (c : Cursor) → Rises c (naming.of_arms t l c).1
  arms_rises plain.no_arm t c = nothing_rises c c refl
  arms_rises (plain.arm_and p e l) t c =
      let P = of_pattern p c in
      let k = naming.known_between c.declared P.1.declared P.1 in
      rises_on (pattern_rises p c) (rises_on (known_rises c.declared P.1.declared P.1) (rises_on (exp_rises e false t k.1) (arms_rises l t _)))

  pub body_rises : (b : plain.Body) (t : Site) (c : Cursor) → Rises c (naming.of_body t b c).1
  body_rises (plain.body s ss o) t c =
      let S = naming.of_statements ss (a_node s t c).1 in
      let O = naming.of_optional t o S.1 in
      rises_on (node_rises s t c) (rises_on (statements_rises ss _) (optional_rises o t S.1))

  statements_rises : (ss : Statements) (c : Cursor) → Rises c (naming.of_statements ss c).1
  statements_rises plain.no_statement c = nothing_rises c c refl
  statements_rises (plain.statement_and x ss) c = rises_on (statement_rises x c) (statements_rises ss _)

  statement_rises : (x : Statement) (c : Cursor) → Rises c (naming.of_statement x c).1
  statement_rises (plain.let_statement s p y plain.absent) c =
      let n = a_node s Site.Value c in
      let n1 = (naming.annotates p y n.1).1 in
      let P = of_pattern p n1 in
      let Y = naming.of_optional_type y P.1 in
      let k = naming.known_between n1.declared P.1.declared Y.1 in
      rises_on (node_rises s Site.Value c) (rises_on (annotates_rises p y n.1) (rises_on (pattern_rises p n1)
      (rises_on (optional_type_rises y P.1) (rises_on (known_rises n1.declared P.1.declared Y.1) (waits_rises _ P.0 k.1)))))
  statement_rises (plain.let_statement s p y (plain.present e)) c =
      let n = a_node s Site.Value c in
      let n1 = (naming.annotates p y n.1).1 in
      let P = of_pattern p n1 in
      let Y = naming.of_optional_type y P.1 in
      let X = naming.of_expression false (naming.initialiser_site Y.0) e Y.1 in
      let k = naming.known_between n1.declared P.1.declared X.1 in
      rises_on (node_rises s Site.Value c) (rises_on (annotates_rises p y n.1) (rises_on (pattern_rises p n1)
      (rises_on (optional_type_rises y P.1) (rises_on (exp_rises e false (naming.initialiser_site Y.0) Y.1) (rises_on (known_rises n1.declared P.1.declared X.1) (waits_rises _ P.0 k.1))))))
  statement_rises (plain.expression_statement s e b) c = rises_on (node_rises s Site.Value c) (exp_rises e false Site.Value _)
