-- What the tree with numbers marks as a use of a variable that is declared `mut` is one, by what is declared at the end of the text.
use Rattle.std.proofs.Common.{ℕ, ◌-◌, Bool, true, false, ◌&&◌, List, [], ◌∷◌, Option, Some, None}
use Rattle.rx_core.specs.declared.types.Span.{Span}
use Rattle.rx_tree.specs.declared.tree.Ident.{Ident}
use Rattle.rx_tree.specs.Plain as plain
use Rattle.rx_tree.specs.Plain.{TypeTree, TypeTrees, PatternTree, PatternTrees, FieldPatterns, Expression, Expressions, OptionalExpression, OptionalExpressions, FieldExpressions, Arms, Body, Statement, Statements, Parameter, Function}
use Rattle.rx_resolve_names.specs.declared.resolved.NodeNames.{NodeNames}
use Rattle.rx_typed.specs.declared.nodes.Node.{Node}
use Rattle.rx_typed.specs.declared.nodes.Site.{Site}
use Rattle.rx_typed.specs.declared.nodes.Stage.{Stage}
use Rattle.rx_typed.specs.declared.nodes.Declaration.{Declaration}
use Rattle.rx_typed.specs.Named as named
use Rattle.rx_typed.specs.Naming as numbering
use Rattle.rx_typed.specs.Naming.{Cursor, Numbering, give, and_then, a_node, taken, an_entry, first, second, declaration, use_of, of_type, of_types, of_pattern, of_patterns, of_field_patterns, of_expression}
use Rattle.rx_meaning_accepted.proofs.Uses.{UsesExp, UsesExps, UsesElse, UsesFields, UsesArms, UsesBody, UsesStatement, UsesStatements}
use Rattle.rx_meaning_accepted.proofs.Declared.{IsMutable, Grows, one_grows, set_grows, known_grows}

module _ (ds : List Declaration) where
  abbrev M : ℕ → Type 0
  M x = IsMutable ds x

  -- variables that were declared `mut` stay so; and where those behind this part are among those at the end, its result fits, if this
  -- holds
  record Part {A : Type 0} (H : Type 0) (S : A → Type 0) (m : Numbering A) : Type 0 where
    grows : (c : Cursor) → Grows c.variables (m c).1.variables
    fits : (c : Cursor) → Grows (m c).1.variables ds → H → S (m c).0

  abbrev Any : {A : Type 0} → A → Type 0
  Any a = Unit {0}

  part_then : {A B : Type 0} {H : Type 0} {S : A → Type 0} {T : B → Type 0} {m : Numbering A} {k : A → Numbering B}
      → Part (Unit {0}) S m → ((a : A) → Part (H × S a) T (k a)) → Part H T (and_then m k)
  part_then {m = m} {k = k} N K = record {
    grows = λ c x h. (K (m c).0).grows (m c).1 x (N.grows c x h);
    fits = λ c g h. (K (m c).0).fits (m c).1 g (h, N.fits c (λ x e. g x ((K (m c).0).grows (m c).1 x e)) tt);
  }

  part_give : {A : Type 0} {H : Type 0} {S : A → Type 0} (a : A) → (H → S a) → Part H S (give a)
  part_give a f = record { grows = λ c x h. h; fits = λ c g h. f h }

  part_node : {B : Type 0} {H : Type 0} {T : B → Type 0} {k : Node → Numbering B} (s : Span) (t : Site) → ((n : Node) → Part H T (k n)) → Part H T (and_then (a_node s t) k)
  part_node s t K = record {
    grows = λ c x h. (K (a_node s t c).0).grows (a_node s t c).1 x h;
    fits = λ c g h. (K (a_node s t c).0).fits (a_node s t c).1 g h;
  }

  -- a step of which nothing is asked
  part_quiet : {A B : Type 0} {H : Type 0} {T : B → Type 0} {k : A → Numbering B} (m : Numbering A) → ((c : Cursor) → Grows c.variables (m c).1.variables) → ((a : A) → Part H T (k a)) → Part H T (and_then m k)
  part_quiet {k = k} m q K = record {
    grows = λ c x h. (K (m c).0).grows (m c).1 x (q c x h);
    fits = λ c g h. (K (m c).0).fits (m c).1 g h;
  }

  -- ---- steps

  taken_grows : (l : List NodeNames) (c : Cursor) → Grows c.variables (taken l c).1.variables
  taken_grows [] c x h = h
  taken_grows (n ∷ l) c x h = h

  entry_grows : (c : Cursor) → Grows c.variables (an_entry c).1.variables
  entry_grows c = taken_grows c.names c

  given_grows : (y : ℕ) (o : Option (ℕ × ℕ)) (c : Cursor) → Grows c.variables (numbering.given_here y o c).1.variables
  given_grows y None c x h = h
  given_grows y (Some w) c x h = set_grows c.variables y Stage.Known x h

  gives_grows : (y : ℕ) (c : Cursor) → Grows c.variables (numbering.gives_here y c).1.variables
  gives_grows y c = given_grows y (numbering.waiting y (declaration c y).stage) c

  waits_at_grows : (n : Node) (o : Option ℕ) (c : Cursor) → Grows c.variables (numbering.waits_at n o c).1.variables
  waits_at_grows n None c x h = h
  waits_at_grows n (Some y) c x h = set_grows c.variables y (Stage.Waits n.number n.span) x h

  waits_grows : (b : Bool) (p : named.Pattern) (c : Cursor) → Grows c.variables (numbering.waits_if b p c).1.variables
  waits_grows true p c x h = waits_at_grows (named.pattern_node p) (named.whole_binding p) c x h
  waits_grows false p c x h = h

  between_grows : (i j : ℕ) (c : Cursor) → Grows c.variables (numbering.known_between i j c).1.variables
  between_grows i j c x h = known_grows i (j - i) c.variables x h

  annotates_grows : (p : PatternTree) (y : Option TypeTree) (c : Cursor) → Grows c.variables (numbering.annotates p y c).1.variables
  annotates_grows p None c x h = h
  annotates_grows p (Some t) c x h = h

  lifetime_grows : (o : Option Ident) (c : Cursor) → Grows c.variables (numbering.lifetime_entry o c).1.variables
  lifetime_grows None c x h = h
  lifetime_grows (Some l) c x h = entry_grows c x h

  mutual
    type_grows : (y : TypeTree) (c : Cursor) → Grows c.variables (of_type y c).1.variables
    type_grows (plain.kind_type s k) c x h = h
    type_grows (plain.bool_type s) c x h = h
    type_grows (plain.tuple_type s ts) c x h = types_grows ts (a_node s Site.Value c).1 x h
    type_grows (plain.ref_type s l m y) c x h = let d = (a_node s Site.Value c).1 in type_grows y (numbering.lifetime_entry l d).1 x (lifetime_grows l d x h)
    type_grows (plain.named_type s n ls) c x h = entry_grows (a_node s Site.Value c).1 x h

    types_grows : (ys : TypeTrees) (c : Cursor) → Grows c.variables (of_types ys c).1.variables
    types_grows plain.no_type c x h = h
    types_grows (plain.type_and y ys) c x h = types_grows ys (of_type y c).1 x (type_grows y c x h)

  optional_type_grows : (y : Option TypeTree) (c : Cursor) → Grows c.variables (numbering.of_optional_type y c).1.variables
  optional_type_grows None c x h = h
  optional_type_grows (Some y) c x h = type_grows y c x h

  mutual
    pattern_grows : (p : PatternTree) (c : Cursor) → Grows c.variables (of_pattern p c).1.variables
    pattern_grows (plain.wild s) c x h = h
    pattern_grows (plain.bind s y m) c x h =
        let d = (an_entry (a_node s Site.Value c).1).1 in one_grows d.variables (record { mutable = m; stage = Stage.Given }) x (entry_grows (a_node s Site.Value c).1 x h)
    pattern_grows (plain.int_pattern s g v k) c x h = h
    pattern_grows (plain.bool_pattern s b) c x h = h
    pattern_grows (plain.tuple_pattern s ps) c x h = patterns_grows ps (a_node s Site.Value c).1 x h
    pattern_grows (plain.variant_pattern s a v ps) c x h = let d = (a_node s Site.Value c).1 in patterns_grows ps (an_entry d).1 x (entry_grows d x h)
    pattern_grows (plain.make_pattern s y fs) c x h = let d = (a_node s Site.Value c).1 in field_patterns_grows fs (an_entry d).1 x (entry_grows d x h)

    patterns_grows : (ps : PatternTrees) (c : Cursor) → Grows c.variables (of_patterns ps c).1.variables
    patterns_grows plain.no_pattern c x h = h
    patterns_grows (plain.pattern_and p ps) c x h = patterns_grows ps (of_pattern p c).1 x (pattern_grows p c x h)

    field_patterns_grows : (fs : FieldPatterns) (c : Cursor) → Grows c.variables (of_field_patterns fs c).1.variables
    field_patterns_grows plain.no_field_pattern c x h = h
    field_patterns_grows (plain.field_pattern_and y p fs) c x h = field_patterns_grows fs (of_pattern p c).1 x (pattern_grows p c x h)

  -- a use of a variable
  part_use : {H : Type 0} (n : Node) (ns : List ℕ × Bool) → Part H (UsesExp M) (λ (c : Cursor). (named.var n (use_of (first ns.0) (declaration c (first ns.0))), c))
  part_use n ns = record { grows = λ c x h. h; fits = λ c g h. g (first ns.0) }

  called_part : {H : Type 0} (n : Node) (a : List ℕ × Bool) (f : Site → Numbering named.Exps) → ((t : Site) → Part (Unit {0}) (UsesExps M) (f t)) → Part H (UsesExp M) (numbering.called n a f)
  called_part n (ns, true) f k = part_then (k Site.Value) (λ es. part_give (named.hidden_call n es) (λ h. h.1))
  called_part n (ns, false) f k = part_then (k Site.Expects) (λ es. part_give (named.call n (first ns) es) (λ h. h.1))

  assigned_part : {H : Type 0} (n : Node) (p : named.Exp) (w : Option (ℕ × ℕ)) (f : Site → Numbering named.Exp) → (H → UsesExp M p) → ((t : Site) → Part (Unit {0}) (UsesExp M) (f t)) → Part H (UsesExp M) (numbering.assigned n p w f)
  assigned_part n p None f u k = part_then (k Site.Expects) (λ e. part_give (named.assign n p e) (λ h. (u h.0, h.1)))
  assigned_part n p (Some w) f u k =
      part_then (k Site.Reborrows) (λ e. part_quiet (numbering.a_use w.0) (λ c x h. h) (λ z. part_quiet (numbering.gives_here w.0) (gives_grows w.0) (λ d. part_give (named.gives n (named.node_of p) z d e) (λ h. h.1))))

  mutual
    exp_part : (m : Bool) (t : Site) (e : Expression) → Part (Unit {0}) (UsesExp M) (of_expression m t e)
    exp_part m t (plain.int s v k) = part_node s t (λ n. part_give (named.int n m v k) (λ h. tt))
    exp_part m t (plain.bool s b) = part_node s t (λ n. part_give (named.bool n b) (λ h. tt))
    exp_part m t (plain.tuple s es) = part_node s t (λ n. part_then (exps_part Site.Value es) (λ es. part_give (named.tuple n es) (λ h. h.1)))
    exp_part m t (plain.var s x) = part_node s t (λ n. part_quiet an_entry entry_grows (λ ns. part_use n ns))
    exp_part m t (plain.field s e x) = part_node s t (λ n. part_then (exp_part false Site.Place e) (λ e. part_give (named.field n e x.name) (λ h. h.1)))
    exp_part m t (plain.part s e i) = part_node s t (λ n. part_then (exp_part false Site.Place e) (λ e. part_give (named.part n e i) (λ h. h.1)))
    exp_part m t (plain.deref s e) = part_node s t (λ n. part_then (exp_part false Site.Place e) (λ e. part_give (named.deref n e) (λ h. h.1)))
    exp_part m t (plain.negate s e) = part_node s t (λ n. part_then (exp_part true Site.Value e) (λ e. part_give (named.negate n e) (λ h. h.1)))
    exp_part m t (plain.invert s e) = part_node s t (λ n. part_then (exp_part false Site.Value e) (λ e. part_give (named.invert n e) (λ h. h.1)))
    exp_part m t (plain.borrow s w e) = part_node s t (λ n. part_then (exp_part false Site.Place e) (λ e. part_give (named.borrow n w e) (λ h. h.1)))
    exp_part m t (plain.binary s o a b) =
        part_node s t (λ n. part_then (exp_part false Site.Value a) (λ a. part_then (exp_part false Site.Value b) (λ b. part_give (named.binary n o a b) (λ h. (h.0.1, h.1)))))
    exp_part m t (plain.assign s p e) =
        part_node s t (λ n. part_then (exp_part false Site.Place p) (λ q. part_quiet (numbering.waits_for p q) (λ c x h. h) (λ w. assigned_part n q w (λ t. of_expression false t e) (λ h. h.1) (λ t. exp_part false t e))))
    exp_part m t (plain.update s o p e) =
        part_node s t (λ n. part_then (exp_part false Site.Place p) (λ p. part_then (exp_part false Site.Value e) (λ e. part_give (named.update n o p e) (λ h. (h.0.1, h.1)))))
    exp_part m t (plain.call s f es) = part_node s t (λ n. part_quiet an_entry entry_grows (λ ns. called_part n ns (λ t. numbering.of_expressions t es) (λ t. exps_part t es)))
    exp_part m t (plain.next_input s) = part_node s t (λ n. part_quiet an_entry entry_grows (λ _. part_give (named.next_input n) (λ h. tt)))
    exp_part m t (plain.variant s a v es) =
        part_node s t (λ n. part_quiet an_entry entry_grows (λ ns. part_then (arguments_part es) (λ es. part_give (named.variant n (first ns.0) (second ns.0) es) (λ h. h.1))))
    exp_part m t (plain.make s x fs) = part_node s t (λ n. part_quiet an_entry entry_grows (λ ns. part_then (fields_part fs) (λ fs. part_give (named.make n (first ns.0) fs) (λ h. h.1))))
    exp_part m t (plain.print s e) = part_node s t (λ n. part_then (exp_part false Site.Value e) (λ e. part_give (named.print n e) (λ h. h.1)))
    exp_part m t (plain.block s b) = part_node s t (λ n. part_then (body_part (numbering.passed_on t) b) (λ b. part_give (named.block n b) (λ h. h.1)))
    exp_part m t (plain.if s c b o) =
        part_node s t (λ n. part_then (exp_part false Site.Value c) (λ c. part_then (body_part (numbering.branch_site t o) b) (λ b. part_then (optional_part (numbering.passed_on t) o) (λ o.
        part_give (named.if n c b o) (λ h. (h.0.0.1, h.0.1, h.1))))))
    exp_part m t (plain.if_let s p e b o) =
        part_node s t (λ n. part_quiet numbering.counted (λ c x h. h) (λ i. part_quiet (of_pattern p) (pattern_grows p) (λ p. part_quiet numbering.counted (λ c x h. h) (λ j. part_then (exp_part false Site.Scrutinee e) (λ e.
        part_quiet (numbering.known_between i j) (between_grows i j) (λ _. part_then (body_part (numbering.branch_site t o) b) (λ b. part_then (optional_part (numbering.passed_on t) o) (λ o.
        part_give (named.if_let n p e b o) (λ h. (h.0.0.1, h.0.1, h.1))))))))))
    exp_part m t (plain.match s e l) =
        part_node s t (λ n. part_then (exp_part false Site.Scrutinee e) (λ e. part_then (arms_part (numbering.passed_on t) l) (λ l. part_give (named.match n e l) (λ h. (h.0.1, h.1)))))
    exp_part m t (plain.loop s l b) =
        part_node s t (λ n. part_quiet numbering.a_loop (λ c x h. h) (λ l. part_then (body_part Site.Value b) (λ b. part_quiet (numbering.is_left l) (λ c x h. h) (λ k. part_give (named.loop n l k b) (λ h. h.1)))))
    exp_part m t (plain.while s l c b) =
        part_node s t (λ n. part_quiet numbering.a_loop (λ c x h. h) (λ l. part_then (exp_part false Site.Value c) (λ c. part_then (body_part Site.Value b) (λ b. part_give (named.while n l c b) (λ h. (h.0.1, h.1))))))
    exp_part m t (plain.while_let s l p e b) =
        part_node s t (λ n. part_quiet numbering.a_loop (λ c x h. h) (λ l. part_quiet numbering.counted (λ c x h. h) (λ i. part_quiet (of_pattern p) (pattern_grows p) (λ p. part_quiet numbering.counted (λ c x h. h) (λ j. part_then (exp_part false Site.Scrutinee e) (λ e.
        part_quiet (numbering.known_between i j) (between_grows i j) (λ _. part_then (body_part Site.Value b) (λ b. part_give (named.while_let n l p e b) (λ h. (h.0.1, h.1))))))))))
    exp_part m t (plain.break s l) = part_node s t (λ n. part_quiet an_entry entry_grows (λ ns. part_quiet (numbering.leads (first ns.0)) (λ c x h. h) (λ _. part_give (named.break n (first ns.0)) (λ h. tt))))
    exp_part m t (plain.continue s l) = part_node s t (λ n. part_quiet an_entry entry_grows (λ ns. part_give (named.continue n (first ns.0)) (λ h. tt)))
    exp_part m t (plain.return s o) = part_node s t (λ n. part_then (optional_part Site.Expects o) (λ o. part_give (named.return n o) (λ h. h.1)))

    exps_part : (t : Site) (es : Expressions) → Part (Unit {0}) (UsesExps M) (numbering.of_expressions t es)
    exps_part t plain.no_expression = part_give named.no_exp (λ h. tt)
    exps_part t (plain.expression_and e es) = part_then (exp_part false t e) (λ e. part_then (exps_part t es) (λ es. part_give (named.exp_and e es) (λ h. (h.0.1, h.1))))

    optional_part : (t : Site) (o : OptionalExpression) → Part (Unit {0}) (UsesElse M) (numbering.of_optional t o)
    optional_part t plain.absent = part_give named.absent (λ h. tt)
    optional_part t (plain.present e) = part_then (exp_part false t e) (λ e. part_give (named.present e) (λ h. h.1))

    arguments_part : (o : OptionalExpressions) → Part (Unit {0}) (UsesExps M) (numbering.of_arguments o)
    arguments_part plain.no_list = part_give named.no_exp (λ h. tt)
    arguments_part (plain.a_list es) = exps_part Site.Expects es

    fields_part : (fs : FieldExpressions) → Part (Unit {0}) (UsesFields M) (numbering.of_fields fs)
    fields_part plain.no_field = part_give named.no_field (λ h. tt)
    fields_part (plain.field_and x e fs) = part_then (exp_part false Site.Expects e) (λ e. part_then (fields_part fs) (λ fs. part_give (named.field_and x.name e fs) (λ h. (h.0.1, h.1))))

    arms_part : (t : Site) (l : Arms) → Part (Unit {0}) (UsesArms M) (numbering.of_arms t l)
    arms_part t plain.no_arm = part_give named.no_arm (λ h. tt)
    arms_part t (plain.arm_and p e l) =
        part_quiet numbering.counted (λ c x h. h) (λ i. part_quiet (of_pattern p) (pattern_grows p) (λ p. part_quiet numbering.counted (λ c x h. h) (λ j. part_quiet (numbering.known_between i j) (between_grows i j) (λ _.
        part_then (exp_part false t e) (λ e. part_then (arms_part t l) (λ l. part_give (named.arm_and p e l) (λ h. (h.0.1, h.1))))))))

    body_part : (t : Site) (b : Body) → Part (Unit {0}) (UsesBody M) (numbering.of_body t b)
    body_part t (plain.body s ss o) = part_node s t (λ n. part_then (statements_part ss) (λ ss. part_then (optional_part t o) (λ o. part_give (named.body n ss o) (λ h. (h.0.1, h.1)))))

    statements_part : (ss : Statements) → Part (Unit {0}) (UsesStatements M) (numbering.of_statements ss)
    statements_part plain.no_statement = part_give named.no_statement (λ h. tt)
    statements_part (plain.statement_and a ss) = part_then (statement_part a) (λ a. part_then (statements_part ss) (λ ss. part_give (named.statement_and a ss) (λ h. (h.0.1, h.1))))

    statement_part : (a : Statement) → Part (Unit {0}) (UsesStatement M) (numbering.of_statement a)
    statement_part (plain.let_statement s p y plain.absent) =
        part_node s Site.Value (λ n. part_quiet (numbering.annotates p y) (annotates_grows p y) (λ _. part_quiet numbering.counted (λ c x h. h) (λ i. part_quiet (of_pattern p) (pattern_grows p) (λ p. part_quiet numbering.counted (λ c x h. h) (λ j. part_quiet (numbering.of_optional_type y) (optional_type_grows y) (λ y.
        part_quiet (numbering.known_between i j) (between_grows i j) (λ _. part_quiet (numbering.waits_if (numbering.has_no_type y) p) (waits_grows (numbering.has_no_type y) p) (λ _. part_give (named.declares n p y) (λ h. tt)))))))))
    statement_part (plain.let_statement s p y (plain.present e)) =
        part_node s Site.Value (λ n. part_quiet (numbering.annotates p y) (annotates_grows p y) (λ _. part_quiet numbering.counted (λ c x h. h) (λ i. part_quiet (of_pattern p) (pattern_grows p) (λ p. part_quiet numbering.counted (λ c x h. h) (λ j. part_quiet (numbering.of_optional_type y) (optional_type_grows y) (λ y.
        part_then (exp_part false (numbering.initialiser_site y) e) (λ e.
        part_quiet (numbering.known_between i j) (between_grows i j) (λ _. part_quiet (numbering.waits_if (numbering.has_no_type y && named.never e) p) (waits_grows (numbering.has_no_type y && named.never e) p) (λ _. part_give (named.lets n p y e) (λ h. h.1))))))))))
    statement_part (plain.expression_statement s e b) = part_node s Site.Value (λ n. part_then (exp_part false Site.Value e) (λ e. part_give (named.evaluates n e b) (λ h. h.1)))

-- of a function
pub uses_fit : (i : ℕ) (s : Span) (f : Function) (ns : List NodeNames) → UsesBody (IsMutable (numbering.function_variables s f ns)) (numbering.function_named i s f ns).body
uses_fit i s f ns =
    let c0 = (a_node s Site.Value (numbering.begins ns)).1 in
    let c1 = (numbering.entry_if (numbering.has_entry f) c0).1 in
    let c2 = (numbering.of_parameters f.params c1).1 in
    let c3 = (numbering.of_optional_type f.result c2).1 in
    (body_part (numbering.function_variables s f ns) Site.Expects f.body).fits c3 (λ x h. h) tt
