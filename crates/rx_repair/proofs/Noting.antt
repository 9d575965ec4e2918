-- The `let`s with a type that numbering a function notes are those of its tree: so what holds of those of the tree, whatever the numbers of
-- nodes are, holds of these. How a pattern and a type are numbered is told by the entries of names that are left, and the next variable.
use Rattle.std.proofs.Common.{◌≡◌, ℕ, suc, Bool, true, false, List, [], ◌∷◌, ◌++◌, Option, Some, None, refl, sym, ap, ◌∙◌}
use Rattle.rx_core.specs.declared.types.Span.{Span}
use Rattle.rx_tree.specs.Plain as plain
use Rattle.rx_tree.specs.Plain.{TypeTree, TypeTrees, PatternTree, PatternTrees, FieldPatterns, Expression, Expressions, OptionalExpression, OptionalExpressions, FieldExpressions, Arms, Body, Statement, Statements, Parameter, Function}
use Rattle.rx_resolve_names.specs.declared.resolved.NodeNames.{NodeNames}
use Rattle.rx_typed.specs.declared.nodes.Node.{Node}
use Rattle.rx_typed.specs.declared.nodes.Site.{Site}
use Rattle.rx_typed.specs.Named as named
use Rattle.rx_typed.specs.Named.{Exp, Pattern, root}
use Rattle.rx_typed.specs.Naming.{Annotation, Cursor, a_node, an_entry, taken, no_names, waits_in, given_here, assigned, called, waits_at, waits_if, of_type, of_types, of_optional_type, of_pattern, of_patterns, of_field_patterns, of_expression, of_expressions, of_optional, of_arguments, of_fields, of_arms, of_body, of_statements, of_statement, of_parameters, begins, has_entry, entry_if, function_named, function_annotations}
use Rattle.rx_typeck_elaborate_parts.specs.Entries.{in_front}
use Rattle.rx_typeck_typed.specs.Bindings.{behind}
use Rattle.rx_repair.proofs.Letting.{Lets, InExp, InExps, InElse, InFields, InArms, InBody, InStatement, InStatements}

-- ---- entries of names

abbrev pub others : List NodeNames → List NodeNames
others [] = []
others (x ∷ xs) = xs

abbrev pub one : List NodeNames → List ℕ × Bool
one [] = no_names
one (x ∷ xs) = (x.numbers, x.hidden)

pub left_by : (ns : List NodeNames) (c : Cursor) → c.names ≡ ns → (taken ns c).1.names ≡ others ns
left_by [] c e = e
left_by (x ∷ xs) c e = refl

pub read_by : (ns : List NodeNames) (c : Cursor) → (taken ns c).0 ≡ one ns
read_by [] c = refl
read_by (x ∷ xs) c = refl

entry_left : (c d : Cursor) → c.names ≡ d.names → (an_entry c).1.names ≡ (an_entry d).1.names
entry_left c d e = left_by c.names c refl ∙ (ap others e ∙ sym (left_by d.names d refl))

entry_read : (c d : Cursor) → c.names ≡ d.names → (an_entry c).0 ≡ (an_entry d).0
entry_read c d e = read_by c.names c ∙ (ap one e ∙ sym (read_by d.names d))

-- two texts with the same entries of names left, and the same next variable
pub record Level (c d : Cursor) : Type 0 where
  pub names : c.names ≡ d.names
  pub next : c.declared ≡ d.declared

entry_by_next : (ns : List NodeNames) (c : Cursor) → (taken ns c).1.declared ≡ c.declared
entry_by_next [] c = refl
entry_by_next (x ∷ xs) c = refl

pub entry_level : (c d : Cursor) → Level c d → Level (an_entry c).1 (an_entry d).1
entry_level c d h = record { names = entry_left c d h.names; next = entry_by_next c.names c ∙ (h.next ∙ sym (entry_by_next d.names d)) }

pub entry_numbers_same : (c d : Cursor) → Level c d → (an_entry c).0.0 ≡ (an_entry d).0.0
entry_numbers_same c d h = ap (λ (x : List ℕ × Bool). x.0) (entry_read c d h.names)

mutual
  pub type_level : (t : TypeTree) (c d : Cursor) → Level c d → Level (of_type t c).1 (of_type t d).1
  type_level (plain.kind_type s k) c d e = record { names = e.names; next = e.next }
  type_level (plain.bool_type s) c d e = record { names = e.names; next = e.next }
  type_level (plain.tuple_type s ts) c d e = types_level ts (a_node s Site.Value c).1 (a_node s Site.Value d).1 (record { names = e.names; next = e.next })
  type_level (plain.ref_type s None m t) c d e = type_level t (a_node s Site.Value c).1 (a_node s Site.Value d).1 (record { names = e.names; next = e.next })
  type_level (plain.ref_type s (Some l) m t) c d e =
      type_level t (an_entry (a_node s Site.Value c).1).1 (an_entry (a_node s Site.Value d).1).1 (entry_level (a_node s Site.Value c).1 (a_node s Site.Value d).1 (record { names = e.names; next = e.next }))
  type_level (plain.named_type s x ls) c d e = entry_level (a_node s Site.Value c).1 (a_node s Site.Value d).1 (record { names = e.names; next = e.next })

  types_level : (ts : TypeTrees) (c d : Cursor) → Level c d → Level (of_types ts c).1 (of_types ts d).1
  types_level plain.no_type c d e = e
  types_level (plain.type_and t ts) c d e = types_level ts (of_type t c).1 (of_type t d).1 (type_level t c d e)

pub node_level : (s : Span) (c d : Cursor) → Level c d → Level (a_node s Site.Value c).1 (a_node s Site.Value d).1
node_level s c d e = record { names = e.names; next = e.next }

mutual
  pub pattern_level : (p : PatternTree) (c d : Cursor) → Level c d → Level (of_pattern p c).1 (of_pattern p d).1
  pattern_level (plain.wild s) c d e = node_level s c d e
  pattern_level (plain.bind s x m) c d e =
      let h = entry_level (a_node s Site.Value c).1 (a_node s Site.Value d).1 (node_level s c d e) in record { names = h.names; next = ap suc h.next }
  pattern_level (plain.int_pattern s g v k) c d e = node_level s c d e
  pattern_level (plain.bool_pattern s b) c d e = node_level s c d e
  pattern_level (plain.tuple_pattern s ps) c d e = patterns_level ps (a_node s Site.Value c).1 (a_node s Site.Value d).1 (node_level s c d e)
  pattern_level (plain.variant_pattern s a v ps) c d e =
      patterns_level ps (an_entry (a_node s Site.Value c).1).1 (an_entry (a_node s Site.Value d).1).1 (entry_level (a_node s Site.Value c).1 (a_node s Site.Value d).1 (node_level s c d e))
  pattern_level (plain.make_pattern s x fs) c d e =
      fields_level fs (an_entry (a_node s Site.Value c).1).1 (an_entry (a_node s Site.Value d).1).1 (entry_level (a_node s Site.Value c).1 (a_node s Site.Value d).1 (node_level s c d e))

  pub patterns_level : (ps : PatternTrees) (c d : Cursor) → Level c d → Level (of_patterns ps c).1 (of_patterns ps d).1
  patterns_level plain.no_pattern c d e = e
  patterns_level (plain.pattern_and p ps) c d e = patterns_level ps (of_pattern p c).1 (of_pattern p d).1 (pattern_level p c d e)

  pub fields_level : (fs : FieldPatterns) (c d : Cursor) → Level c d → Level (of_field_patterns fs c).1 (of_field_patterns fs d).1
  fields_level plain.no_field_pattern c d e = e
  fields_level (plain.field_pattern_and x p fs) c d e = fields_level fs (of_pattern p c).1 (of_pattern p d).1 (pattern_level p c d e)

-- the numbers of nodes don't matter to it
abbrev pub Numberless : Lets → Type 0
Numberless N = (p : PatternTree) (t : TypeTree) (c d : Cursor) → Level c d → N (of_pattern p c).0 (Some (of_type t (of_pattern p c).1).0) → N (of_pattern p d).0 (Some (of_type t (of_pattern p d).1).0)

module _ (N : Lets) (numberless : Numberless N) where
  -- ---- what is noted

  abbrev pub NoteFits : Annotation → Type 0
  NoteFits a = N (of_pattern a.pattern (in_front a)).0 (Some (of_type a.typ (behind a)).0)

  abbrev pub NotesFit : List Annotation → Type 0
  NotesFit [] = Unit {0}
  NotesFit (a ∷ more) = NoteFits a × NotesFit more

  abbrev Good : Cursor → Type 0
  Good c = NotesFit c.annotations

  one_more : (notes : List Annotation) (a : Annotation) → NotesFit notes → NoteFits a → NotesFit (notes ++ a ∷ [])
  one_more [] a h k = (k, tt)
  one_more (b ∷ notes) a h k = (h.0, one_more notes a h.1 k)

  entry_by : (ns : List NodeNames) (c : Cursor) → Good c → Good (taken ns c).1
  entry_by [] c g = g
  entry_by (x ∷ xs) c g = g

  entry_good : (c : Cursor) → Good c → Good (an_entry c).1
  entry_good c g = entry_by c.names c g

  mutual
    type_good : (t : TypeTree) (c : Cursor) → Good c → Good (of_type t c).1
    type_good (plain.kind_type s k) c g = g
    type_good (plain.bool_type s) c g = g
    type_good (plain.tuple_type s ts) c g = types_good ts _ g
    type_good (plain.ref_type s None m t) c g = type_good t _ g
    type_good (plain.ref_type s (Some l) m t) c g = type_good t _ (entry_good _ g)
    type_good (plain.named_type s x ls) c g = entry_good _ g

    types_good : (ts : TypeTrees) (c : Cursor) → Good c → Good (of_types ts c).1
    types_good plain.no_type c g = g
    types_good (plain.type_and t ts) c g = types_good ts _ (type_good t _ g)

  optional_type_good : (t : Option TypeTree) (c : Cursor) → Good c → Good (of_optional_type t c).1
  optional_type_good None c g = g
  optional_type_good (Some t) c g = type_good t _ g

  mutual
    pattern_good : (p : PatternTree) (c : Cursor) → Good c → Good (of_pattern p c).1
    pattern_good (plain.wild s) c g = g
    pattern_good (plain.bind s x m) c g = entry_good _ g
    pattern_good (plain.int_pattern s v k l) c g = g
    pattern_good (plain.bool_pattern s b) c g = g
    pattern_good (plain.tuple_pattern s ps) c g = patterns_good ps _ g
    pattern_good (plain.variant_pattern s a v ps) c g = patterns_good ps _ (entry_good _ g)
    pattern_good (plain.make_pattern s x fs) c g = field_patterns_good fs _ (entry_good _ g)

    patterns_good : (ps : PatternTrees) (c : Cursor) → Good c → Good (of_patterns ps c).1
    patterns_good plain.no_pattern c g = g
    patterns_good (plain.pattern_and p ps) c g = patterns_good ps _ (pattern_good p _ g)

    field_patterns_good : (fs : FieldPatterns) (c : Cursor) → Good c → Good (of_field_patterns fs c).1
    field_patterns_good plain.no_field_pattern c g = g
    field_patterns_good (plain.field_pattern_and x p fs) c g = field_patterns_good fs _ (pattern_good p _ g)

  -- ---- variables that wait for their types

  waits_at_good : (n : Node) (o : Option ℕ) (c : Cursor) → Good c → Good (waits_at n o c).1
  waits_at_good n None c g = g
  waits_at_good n (Some x) c g = g

  waits_good : (b : Bool) (p : Pattern) (c : Cursor) → Good c → Good (waits_if b p c).1
  waits_good true p c g = waits_at_good (named.pattern_node p) (named.whole_binding p) c g
  waits_good false p c g = g

  given_good : (x : ℕ) (o : Option (ℕ × ℕ)) (c : Cursor) → Good c → Good (given_here x o c).1
  given_good x None c g = g
  given_good x (Some w) c g = g

  abbrev IsVariable : Expression → Type 0
  IsVariable (plain.var s x) = Unit {0}
  IsVariable _ = ⊥

  waits_only : (p : Expression) (x : ℕ) (c : Cursor) (w : ℕ × ℕ) → waits_in p x c ≡ Some w → IsVariable p
  waits_only (plain.var s y) x c w e = tt
  waits_only _ x c w e = absurd (cc)

  variable_good : (p : Expression) (m : Bool) (t : Site) (c : Cursor) → IsVariable p → Good c → Good (of_expression m t p c).1
  variable_good (plain.var s x) m t c v g = entry_good _ g
  variable_good _ m t c v g = absurd v

  -- what waits for its type is a variable, in which nothing is noted
  assigned_good : (n : Node) (p e : Expression) (c : Cursor) → (InExp N (of_expression false Site.Place p c).0 → Good (of_expression false Site.Place p c).1)
      → ((t : Site) (d : Cursor) → InExp N (of_expression false t e d).0 → Good d → Good (of_expression false t e d).1) → Good c
      → (w : Option (ℕ × ℕ)) → waits_in p (root (of_expression false Site.Place p c).0).number (of_expression false Site.Place p c).1 ≡ w
      → InExp N (assigned n (of_expression false Site.Place p c).0 w (λ t. of_expression false t e) (of_expression false Site.Place p c).1).0
      → Good (assigned n (of_expression false Site.Place p c).0 w (λ t. of_expression false t e) (of_expression false Site.Place p c).1).1
  assigned_good n p e c left right g None is h = right Site.Expects _ h.1 (left h.0)
  assigned_good n p e c left right g (Some w) is h =
      given_good w.0 _ _ (right Site.Reborrows _ h (variable_good p false Site.Place c (waits_only p _ _ w is) g))

  called_good : (n : Node) (ns : List ℕ × Bool) (es : Expressions) (c : Cursor) → ((t : Site) → InExps N (of_expressions t es c).0 → Good (of_expressions t es c).1)
      → InExp N (called n ns (λ t. of_expressions t es) c).0 → Good (called n ns (λ t. of_expressions t es) c).1
  called_good n (ns, true) es c k h = k Site.Value h
  called_good n (ns, false) es c k h = k Site.Expects h

  -- a `let` with a type is noted in front of its pattern
  noted_good : (p : PatternTree) (t : TypeTree) (c : Cursor) → Good c
      → let a : Annotation = record { pattern = p; typ = t; variable = c.declared; names = c.names } in
      let d : Cursor = record c { annotations = c.annotations ++ a ∷ [] } in
      N (of_pattern p d).0 (Some (of_type t (of_pattern p d).1).0) → Good (of_type t (of_pattern p d).1).1
  noted_good p t c g h =
      let a : Annotation = record { pattern = p; typ = t; variable = c.declared; names = c.names } in
      let d : Cursor = record c { annotations = c.annotations ++ a ∷ [] } in
      type_good t (of_pattern p d).1 (pattern_good p d (one_more c.annotations a g (numberless p t d (in_front a) (record { names = refl; next = refl }) h)))

  mutual
    exp_good : (m : Bool) (t : Site) (e : Expression) (c : Cursor) → InExp N (of_expression m t e c).0 → Good c → Good (of_expression m t e c).1
    exp_good m t (plain.int s v k) c h g = g
    exp_good m t (plain.bool s b) c h g = g
    exp_good m t (plain.tuple s es) c h g = exps_good _ es _ h g
    exp_good m t (plain.var s x) c h g = entry_good _ g
    exp_good m t (plain.field s e x) c h g = exp_good _ _ e _ h g
    exp_good m t (plain.part s e i) c h g = exp_good _ _ e _ h g
    exp_good m t (plain.deref s e) c h g = exp_good _ _ e _ h g
    exp_good m t (plain.negate s e) c h g = exp_good _ _ e _ h g
    exp_good m t (plain.invert s e) c h g = exp_good _ _ e _ h g
    exp_good m t (plain.borrow s w e) c h g = exp_good _ _ e _ h g
    exp_good m t (plain.binary s o a b) c h g = exp_good _ _ b _ h.1 (exp_good _ _ a _ h.0 g)
    exp_good m t (plain.assign s p e) c h g = assigned_good _ p e _ (λ k. exp_good false Site.Place p _ k g) (λ u d k l. exp_good false u e d k l) g _ refl h
    exp_good m t (plain.update s o p e) c h g = exp_good _ _ e _ h.1 (exp_good _ _ p _ h.0 g)
    exp_good m t (plain.call s f es) c h g = let d = (a_node s t c).1 in called_good (a_node s t c).0 (an_entry d).0 es (an_entry d).1 (λ u k. exps_good u es (an_entry d).1 k (entry_good d g)) h
    exp_good m t (plain.next_input s) c h g = entry_good _ g
    exp_good m t (plain.variant s a v es) c h g = arguments_good es _ h (entry_good _ g)
    exp_good m t (plain.make s x fs) c h g = fields_good fs _ h (entry_good _ g)
    exp_good m t (plain.print s e) c h g = exp_good _ _ e _ h g
    exp_good m t (plain.block s b) c h g = body_good _ b _ h g
    exp_good m t (plain.if s e b o) c h g = optional_good _ o _ h.2 (body_good _ b _ h.1 (exp_good _ _ e _ h.0 g))
    exp_good m t (plain.if_let s p e b o) c h g = optional_good _ o _ h.2 (body_good _ b _ h.1 (exp_good _ _ e _ h.0 (pattern_good p _ g)))
    exp_good m t (plain.match s e l) c h g = arms_good _ l _ h.1 (exp_good _ _ e _ h.0 g)
    exp_good m t (plain.loop s l b) c h g = body_good _ b _ h g
    exp_good m t (plain.while s l e b) c h g = body_good _ b _ h.1 (exp_good _ _ e _ h.0 g)
    exp_good m t (plain.while_let s l p e b) c h g = body_good _ b _ h.1 (exp_good _ _ e _ h.0 (pattern_good p _ g))
    exp_good m t (plain.break s l) c h g = entry_good _ g
    exp_good m t (plain.continue s l) c h g = entry_good _ g
    exp_good m t (plain.return s o) c h g = optional_good _ o _ h g

    exps_good : (t : Site) (es : Expressions) (c : Cursor) → InExps N (of_expressions t es c).0 → Good c → Good (of_expressions t es c).1
    exps_good t plain.no_expression c h g = g
    exps_good t (plain.expression_and e es) c h g = exps_good _ es _ h.1 (exp_good _ _ e _ h.0 g)

    optional_good : (t : Site) (o : OptionalExpression) (c : Cursor) → InElse N (of_optional t o c).0 → Good c → Good (of_optional t o c).1
    optional_good t plain.absent c h g = g
    optional_good t (plain.present e) c h g = exp_good _ _ e _ h g

    arguments_good : (es : OptionalExpressions) (c : Cursor) → InExps N (of_arguments es c).0 → Good c → Good (of_arguments es c).1
    arguments_good plain.no_list c h g = g
    arguments_good (plain.a_list es) c h g = exps_good _ es _ h g

    fields_good : (fs : FieldExpressions) (c : Cursor) → InFields N (of_fields fs c).0 → Good c → Good (of_fields fs c).1
    fields_good plain.no_field c h g = g
    fields_good (plain.field_and x e fs) c h g = fields_good fs _ h.1 (exp_good _ _ e _ h.0 g)

    arms_good : (t : Site) (l : Arms) (c : Cursor) → InArms N (of_arms t l c).0 → Good c → Good (of_arms t l c).1
    arms_good t plain.no_arm c h g = g
    arms_good t (plain.arm_and p e l) c h g = arms_good _ l _ h.1 (exp_good _ _ e _ h.0 (pattern_good p _ g))

    body_good : (t : Site) (b : Body) (c : Cursor) → InBody N (of_body t b c).0 → Good c → Good (of_body t b c).1
    body_good t (plain.body s ss o) c h g = optional_good _ o _ h.1 (statements_good ss _ h.0 g)

    statements_good : (ss : Statements) (c : Cursor) → InStatements N (of_statements ss c).0 → Good c → Good (of_statements ss c).1
    statements_good plain.no_statement c h g = g
    statements_good (plain.statement_and a ss) c h g = statements_good ss _ h.1 (statement_good a _ h.0 g)

    statement_good : (x : Statement) (c : Cursor) → InStatement N (of_statement x c).0 → Good c → Good (of_statement x c).1
    statement_good (plain.let_statement s p None plain.absent) c h g = waits_good true _ _ (pattern_good p _ g)
    statement_good (plain.let_statement s p (Some t) plain.absent) c h g = noted_good p t _ g h
    statement_good (plain.let_statement s p None (plain.present e)) c h g = waits_good _ _ _ (exp_good _ _ e _ h.1 (pattern_good p _ g))
    statement_good (plain.let_statement s p (Some t) (plain.present e)) c h g = exp_good _ _ e _ h.1 (noted_good p t _ g h.0)
    statement_good (plain.expression_statement s e b) c h g = exp_good _ _ e _ h g

  -- ---- a function

  parameters_good : (xs : List Parameter) (c : Cursor) → Good c → Good (of_parameters xs c).1
  parameters_good [] c g = g
  parameters_good (x ∷ xs) c g = parameters_good xs _ (type_good x.typ _ g)

  entry_if_good : (b : Bool) (c : Cursor) → Good c → Good (entry_if b c).1
  entry_if_good true c g = entry_good c g
  entry_if_good false c g = g

  pub notes_fit : (i : ℕ) (s : Span) (f : Function) (ns : List NodeNames) → InBody N (function_named i s f ns).body → NotesFit (function_annotations s f ns)
  notes_fit i s f ns h = body_good Site.Expects f.body _ h (optional_type_good f.result _ (parameters_good f.params _ (entry_if_good (has_entry f) (a_node s Site.Value (begins ns)).1 tt)))
