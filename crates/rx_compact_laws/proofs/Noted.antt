-- Where no lifetime in a body is written otherwise, none is in the types of the `let`s that numbering notes: by induction on it.
use Rattle.std.proofs.Common.{ℕ, Bool, true, false, List, [], ◌∷◌, ◌++◌, Option, Some, None}
use Rattle.rx_core.specs.declared.types.Span.{Span}
use Rattle.rx_tree.specs.Nodes.{below_type, within_type, below_pattern, below_expression, within_expressions, within_optional, within_arguments, within_fields, within_arms, below_block, below_statement, within_statements}
use Rattle.rx_tree.specs.Positions.{a_type, a_block, an_expression}
use Rattle.rx_tree.specs.Plain as plain
use Rattle.rx_tree.specs.Plain.{TypeTree, TypeTrees, PatternTree, PatternTrees, FieldPatterns, Expression, Expressions, OptionalExpression, OptionalExpressions, FieldExpressions, Arms, Body, Statement, Statements, Parameter, Function}
use Rattle.rx_resolve_names.specs.declared.resolved.NodeNames.{NodeNames}
use Rattle.rx_typed.specs.declared.nodes.Node.{Node}
use Rattle.rx_typed.specs.declared.nodes.Site.{Site}
use Rattle.rx_typed.specs.Named as named
use Rattle.rx_typed.specs.Named.{Exp, Exps, Pattern, root}
use Rattle.rx_typed.specs.Naming.{Annotation, Cursor, Numbering, a_node, an_entry, taken, waits_in, given_here, assigned, called, waits_at, waits_if, annotates, of_type, of_types, of_optional_type, of_pattern, of_patterns, of_field_patterns, of_expression, of_expressions, of_optional, of_arguments, of_fields, of_arms, of_body, of_statements, of_statement, of_parameters, begins, has_entry, entry_if, function_annotations}
use Rattle.rx_compact_lifetimes.specs.declared.rewriting.Rewriting.{Rewriting}
use Rattle.rx_compact_laws.proofs.Spared.{Spared, front, behind}

module _ (rs : List Rewriting) where
  abbrev pub AllSpared : List Annotation → Type 0
  AllSpared [] = Unit {0}
  AllSpared (a ∷ more) = Spared rs (a_type a.typ ∷ below_type a.typ) × AllSpared more

  abbrev Good : Cursor → Type 0
  Good c = AllSpared c.annotations

  one_more : (notes : List Annotation) (a : Annotation) → AllSpared notes → Spared rs (a_type a.typ ∷ below_type a.typ) → AllSpared (notes ++ a ∷ [])
  one_more [] a h k = (k, tt)
  one_more (b ∷ notes) a h k = (h.0, one_more notes a h.1 k)

  -- ---- steps that note nothing

  entry_by : (ns : List NodeNames) (c : Cursor) → Good c → Good (taken ns c).1
  entry_by [] c g = g
  entry_by (x ∷ xs) c g = g

  entry_good : (c : Cursor) → Good c → Good (an_entry c).1
  entry_good c g = entry_by c.names c g

  mutual
    type_good : (t : TypeTree) (c : Cursor) → Good c → Good (of_type t c).1
    type_good (plain.kind_type s k) c g = g
    type_good (plain.bool_type s) c g = g
    type_good (plain.tuple_type s ts) c g = types_good ts _ g
    type_good (plain.ref_type s None m t) c g = type_good t _ g
    type_good (plain.ref_type s (Some l) m t) c g = type_good t _ (entry_good _ g)
    type_good (plain.named_type s x ls) c g = entry_good _ g

    types_good : (ts : TypeTrees) (c : Cursor) → Good c → Good (of_types ts c).1
    types_good plain.no_type c g = g
    types_good (plain.type_and t ts) c g = types_good ts _ (type_good t _ g)

  optional_type_good : (t : Option TypeTree) (c : Cursor) → Good c → Good (of_optional_type t c).1
  optional_type_good None c g = g
  optional_type_good (Some t) c g = type_good t _ g

  mutual
    pattern_good : (p : PatternTree) (c : Cursor) → Good c → Good (of_pattern p c).1
    pattern_good (plain.wild s) c g = g
    pattern_good (plain.bind s x m) c g = entry_good _ g
    pattern_good (plain.int_pattern s v k l) c g = g
    pattern_good (plain.bool_pattern s b) c g = g
    pattern_good (plain.tuple_pattern s ps) c g = patterns_good ps _ g
    pattern_good (plain.variant_pattern s a v ps) c g = patterns_good ps _ (entry_good _ g)
    pattern_good (plain.make_pattern s x fs) c g = field_patterns_good fs _ (entry_good _ g)

    patterns_good : (ps : PatternTrees) (c : Cursor) → Good c → Good (of_patterns ps c).1
    patterns_good plain.no_pattern c g = g
    patterns_good (plain.pattern_and p ps) c g = patterns_good ps _ (pattern_good p _ g)

    field_patterns_good : (fs : FieldPatterns) (c : Cursor) → Good c → Good (of_field_patterns fs c).1
    field_patterns_good plain.no_field_pattern c g = g
    field_patterns_good (plain.field_pattern_and x p fs) c g = field_patterns_good fs _ (pattern_good p _ g)

  -- ---- variables that wait for their types

  waits_at_good : (n : Node) (o : Option ℕ) (c : Cursor) → Good c → Good (waits_at n o c).1
  waits_at_good n None c g = g
  waits_at_good n (Some x) c g = g

  waits_good : (b : Bool) (p : Pattern) (c : Cursor) → Good c → Good (waits_if b p c).1
  waits_good true p c g = waits_at_good (named.pattern_node p) (named.whole_binding p) c g
  waits_good false p c g = g

  given_good : (x : ℕ) (o : Option (ℕ × ℕ)) (c : Cursor) → Good c → Good (given_here x o c).1
  given_good x None c g = g
  given_good x (Some w) c g = g

  assigned_good : (n : Node) (q : Exp) (w : Option (ℕ × ℕ)) (f : Site → Numbering Exp) (c : Cursor) → ((t : Site) → Good (f t c).1) → Good (assigned n q w f c).1
  assigned_good n q None f c h = h Site.Expects
  assigned_good n q (Some w) f c h = given_good w.0 _ _ (h Site.Reborrows)

  called_good : (n : Node) (ns : List ℕ × Bool) (f : Site → Numbering Exps) (c : Cursor) → ((t : Site) → Good (f t c).1) → Good (called n ns f c).1
  called_good n (ns, true) f c h = h Site.Value
  called_good n (ns, false) f c h = h Site.Expects

  -- ---- a `let` is noted

  noted_good : (p : PatternTree) (y : Option TypeTree) (c : Cursor) → Spared rs (within_type y) → Good c → Good (annotates p y c).1
  noted_good p None c h g = g
  noted_good p (Some t) c h g = one_more c.annotations _ g h

  mutual
    exp_good : (m : Bool) (t : Site) (e : Expression) (c : Cursor) → Spared rs (below_expression e) → Good c → Good (of_expression m t e c).1
    exp_good m t (plain.int s v k) c h g = g
    exp_good m t (plain.bool s b) c h g = g
    exp_good m t (plain.tuple s es) c h g = exps_good _ es _ h g
    exp_good m t (plain.var s x) c h g = entry_good _ g
    exp_good m t (plain.field s e x) c h g = exp_good _ _ e _ h g
    exp_good m t (plain.part s e i) c h g = exp_good _ _ e _ h g
    exp_good m t (plain.deref s e) c h g = exp_good _ _ e _ h g
    exp_good m t (plain.negate s e) c h g = exp_good _ _ e _ h g
    exp_good m t (plain.invert s e) c h g = exp_good _ _ e _ h g
    exp_good m t (plain.borrow s w e) c h g = exp_good _ _ e _ h g
    exp_good m t (plain.binary s o a b) c h g =
        exp_good _ _ b _ (behind rs (below_expression a) (an_expression b ∷ below_expression b) h) (exp_good _ _ a _ (front rs (below_expression a) (an_expression b ∷ below_expression b) h) g)
    exp_good m t (plain.assign s a b) c h g =
        let x = of_expression false Site.Place a (a_node s t c).1 in
        assigned_good (a_node s t c).0 x.0 (waits_in a (root x.0).number x.1) (λ t. of_expression false t b) x.1 (λ u. exp_good false u b x.1 (behind rs (below_expression a) (an_expression b ∷ below_expression b) h)
        (exp_good _ _ a _ (front rs (below_expression a) (an_expression b ∷ below_expression b) h) g))
    exp_good m t (plain.update s o a b) c h g =
        exp_good _ _ b _ (behind rs (below_expression a) (an_expression b ∷ below_expression b) h) (exp_good _ _ a _ (front rs (below_expression a) (an_expression b ∷ below_expression b) h) g)
    exp_good m t (plain.call s f es) c h g =
        let x = an_entry (a_node s t c).1 in called_good (a_node s t c).0 x.0 (λ t. of_expressions t es) x.1 (λ u. exps_good u es x.1 h (entry_good (a_node s t c).1 g))
    exp_good m t (plain.next_input s) c h g = entry_good _ g
    exp_good m t (plain.variant s a v es) c h g = arguments_good es _ h (entry_good _ g)
    exp_good m t (plain.make s x fs) c h g = fields_good fs _ h (entry_good _ g)
    exp_good m t (plain.print s e) c h g = exp_good _ _ e _ h g
    exp_good m t (plain.block s b) c h g = body_good _ b _ h g
    exp_good m t (plain.if s e b o) c h g =
        let k = behind rs (below_expression e) (a_block b ∷ (below_block b ++ within_optional o)) h in
        optional_good _ o _ (behind rs (below_block b) (within_optional o) k) (body_good _ b _ (front rs (below_block b) (within_optional o) k)
        (exp_good _ _ e _ (front rs (below_expression e) (a_block b ∷ (below_block b ++ within_optional o)) h) g))
    exp_good m t (plain.if_let s p e b o) c h g =
        let l = behind rs (below_pattern p) (an_expression e ∷ (below_expression e ++ (a_block b ∷ (below_block b ++ within_optional o)))) h in
        let k = behind rs (below_expression e) (a_block b ∷ (below_block b ++ within_optional o)) l in
        optional_good _ o _ (behind rs (below_block b) (within_optional o) k) (body_good _ b _ (front rs (below_block b) (within_optional o) k)
        (exp_good _ _ e _ (front rs (below_expression e) (a_block b ∷ (below_block b ++ within_optional o)) l) (pattern_good p _ g)))
    exp_good m t (plain.match s e l) c h g =
        arms_good _ l _ (behind rs (below_expression e) (within_arms l) h) (exp_good _ _ e _ (front rs (below_expression e) (within_arms l) h) g)
    exp_good m t (plain.loop s l b) c h g = body_good _ b _ h g
    exp_good m t (plain.while s l e b) c h g =
        body_good _ b _ (behind rs (below_expression e) (a_block b ∷ below_block b) h) (exp_good _ _ e _ (front rs (below_expression e) (a_block b ∷ below_block b) h) g)
    exp_good m t (plain.while_let s l p e b) c h g =
        let k = behind rs (below_pattern p) (an_expression e ∷ (below_expression e ++ (a_block b ∷ below_block b))) h in
        body_good _ b _ (behind rs (below_expression e) (a_block b ∷ below_block b) k) (exp_good _ _ e _ (front rs (below_expression e) (a_block b ∷ below_block b) k) (pattern_good p _ g))
    exp_good m t (plain.break s l) c h g = entry_good _ g
    exp_good m t (plain.continue s l) c h g = entry_good _ g
    exp_good m t (plain.return s o) c h g = optional_good _ o _ h g

    exps_good : (t : Site) (es : Expressions) (c : Cursor) → Spared rs (within_expressions es) → Good c → Good (of_expressions t es c).1
    exps_good t plain.no_expression c h g = g
    exps_good t (plain.expression_and e es) c h g =
        exps_good _ es _ (behind rs (below_expression e) (within_expressions es) h) (exp_good _ _ e _ (front rs (below_expression e) (within_expressions es) h) g)

    optional_good : (t : Site) (o : OptionalExpression) (c : Cursor) → Spared rs (within_optional o) → Good c → Good (of_optional t o c).1
    optional_good t plain.absent c h g = g
    optional_good t (plain.present e) c h g = exp_good _ _ e _ h g

    arguments_good : (es : OptionalExpressions) (c : Cursor) → Spared rs (within_arguments es) → Good c → Good (of_arguments es c).1
    arguments_good plain.no_list c h g = g
    arguments_good (plain.a_list es) c h g = exps_good _ es _ h g

    fields_good : (fs : FieldExpressions) (c : Cursor) → Spared rs (within_fields fs) → Good c → Good (of_fields fs c).1
    fields_good plain.no_field c h g = g
    fields_good (plain.field_and x e fs) c h g =
        fields_good fs _ (behind rs (below_expression e) (within_fields fs) h) (exp_good _ _ e _ (front rs (below_expression e) (within_fields fs) h) g)

    arms_good : (t : Site) (l : Arms) (c : Cursor) → Spared rs (within_arms l) → Good c → Good (of_arms t l c).1
    arms_good t plain.no_arm c h g = g
    arms_good t (plain.arm_and p e l) c h g =
        let k = behind rs (below_pattern p) (an_expression e ∷ (below_expression e ++ within_arms l)) h in
        arms_good _ l _ (behind rs (below_expression e) (within_arms l) k) (exp_good _ _ e _ (front rs (below_expression e) (within_arms l) k) (pattern_good p _ g))

    body_good : (t : Site) (b : Body) (c : Cursor) → Spared rs (below_block b) → Good c → Good (of_body t b c).1
    body_good t (plain.body s ss o) c h g =
        optional_good _ o _ (behind rs (within_statements ss) (within_optional o) h) (statements_good ss _ (front rs (within_statements ss) (within_optional o) h) g)

    statements_good : (ss : Statements) (c : Cursor) → Spared rs (within_statements ss) → Good c → Good (of_statements ss c).1
    statements_good plain.no_statement c h g = g
    statements_good (plain.statement_and a ss) c h g =
        statements_good ss _ (behind rs (below_statement a) (within_statements ss) h) (statement_good a _ (front rs (below_statement a) (within_statements ss) h) g)

    statement_good : (x : Statement) (c : Cursor) → Spared rs (below_statement x) → Good c → Good (of_statement x c).1
    statement_good (plain.let_statement s p y plain.absent) c h g =
        let k = behind rs (below_pattern p) (within_type y ++ []) h in
        waits_good _ _ _ (optional_type_good y _ (pattern_good p _ (noted_good p y _ (front rs (within_type y) [] k) g)))
    statement_good (plain.let_statement s p y (plain.present e)) c h g =
        let k = behind rs (below_pattern p) (within_type y ++ (an_expression e ∷ below_expression e)) h in
        waits_good _ _ _ (exp_good _ _ e _ (behind rs (within_type y) (an_expression e ∷ below_expression e) k)
        (optional_type_good y _ (pattern_good p _ (noted_good p y _ (front rs (within_type y) (an_expression e ∷ below_expression e) k) g))))
    statement_good (plain.expression_statement s e b) c h g = exp_good _ _ e _ h g

  -- ---- a function

  parameters_good : (xs : List Parameter) (c : Cursor) → Good c → Good (of_parameters xs c).1
  parameters_good [] c g = g
  parameters_good (x ∷ xs) c g = parameters_good xs _ (type_good x.typ _ g)

  entry_if_good : (b : Bool) (c : Cursor) → Good c → Good (entry_if b c).1
  entry_if_good true c g = entry_good c g
  entry_if_good false c g = g

  pub notes_spared : (s : Span) (f : Function) (ns : List NodeNames) → Spared rs (below_block f.body) → AllSpared (function_annotations s f ns)
  notes_spared s f ns h = body_good Site.Expects f.body _ h (optional_type_good f.result _ (parameters_good f.params _ (entry_if_good (has_entry f) (a_node s Site.Value (begins ns)).1 tt)))
