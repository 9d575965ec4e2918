-- What the rules ask of a part is asked behind what was asked before.
use Rattle.std.proofs.Common.{ℕ, suc, Bool, true, false, List, [], Option, Some, None}
use Rattle.rx_core.specs.declared.types.Kind.{Kind}
use Rattle.rx_typed.specs.declared.nodes.Node.{Node}
use Rattle.rx_typed.specs.declared.nodes.Site.{Site}
use Rattle.rx_typed.specs.Named as named
use Rattle.rx_typed.specs.Named.{Written, Pattern, Patterns, FieldPatterns, Exp, Exps, Else, Fields, Arms, Body, Statement, Statements, all_never, body_never, body_node, is_variable, never, node_of, pattern_node, root, some_diverges, whole_binding, written_node}
use Rattle.rx_typeck_solver.specs.declared.facts.Subject.{Subject}
use Rattle.rx_typeck_solver.specs.declared.facts.Op.TheVariants as op
use Rattle.rx_typeck_solver.specs.declared.facts.Passing.{Passing}
use Rattle.rx_typeck_solver.specs.Facts.{Assignment, KnownItems}
use Rattle.rx_typeck_typed.specs.Asking.{Asking}
use Rattle.rx_typeck_typed.specs.Demands as rules
use Rattle.rx_engine_typing.proofs.Asking.{U, quietly, none, then_u, quiet, whole_type_u, never_asks, join_asks, own_asks, assignable_u, borrowed_asks, bound_u, literal_u, before_u, after_u, tested_u, printed_u, unit_u, not_never_u, operation_asks, updated_u, negated_asks, inverted_asks, named_u, given_u, returns_u, branch_before_u, branch_after_asks, if_joins_asks, one_variable_u, evaluated_u, tail_before_u, tail_after_u, loop_asks, each_before_u, each_after_u, integer_asks}

module _ (K : KnownItems) (A : Assignment) where
  abbrev pub Adds : Asking → Type 0
  Adds a = U K A a

  pub place_adds : (n : Node) (x : ℕ) (ps : List Passing) (t : Site) → Adds (rules.place_in n x ps t)
  place_adds n x ps Site.Value = quiet n _ _ _
  place_adds n x ps Site.Place = none
  place_adds n x ps Site.Scrutinee = none
  place_adds n x ps Site.Expects = then_u (quiet n _ _ _) (then_u (quiet n _ _ _) (quiet n _ _ _))
  place_adds n x ps Site.Initialises = then_u (quiet n _ _ _) (quiet n _ _ _)
  place_adds n x ps Site.Reborrows = then_u (quiet n _ _ _) (then_u (quiet n _ _ _) (quiet n _ _ _))

  -- ---- patterns

  mutual
    pattern_adds : (s : rules.Matched) (anc : List Passing) (p : Pattern) → Adds (rules.of_pattern s anc p)
    pattern_adds s anc (named.wild n) = none
    pattern_adds s anc (named.bind n x m) = bound_u s anc n x m
    pattern_adds s anc (named.whole_number n g v k) = literal_u n g v k
    pattern_adds s anc (named.truth n b) = quiet n _ _ _
    pattern_adds s anc (named.tuple_pattern n ps) = then_u (quiet n _ _ _) (parts_add s _ n 0 ps)
    pattern_adds s anc (named.variant_pattern n i v ps) = then_u (quiet n _ _ _) (then_u (quiet n _ _ _) (variant_parts_add s _ i v 0 ps))
    pattern_adds s anc (named.struct_pattern n i fs) = then_u (quiet n _ _ _) (then_u (quiet n _ _ _) (field_patterns_add s _ i fs))

    parts_add : (s : rules.Matched) (anc : List Passing) (n : Node) (k : ℕ) (ps : Patterns) → Adds (rules.of_parts s anc n k ps)
    parts_add s anc n k named.no_pattern = none
    parts_add s anc n k (named.pattern_and p ps) = then_u (quiet (pattern_node p) _ _ _) (then_u (pattern_adds s anc p) (parts_add s anc n (suc k) ps))

    variant_parts_add : (s : rules.Matched) (anc : List Passing) (i v k : ℕ) (ps : Patterns) → Adds (rules.of_variant_parts s anc i v k ps)
    variant_parts_add s anc i v k named.no_pattern = none
    variant_parts_add s anc i v k (named.pattern_and p ps) = then_u (quiet (pattern_node p) _ _ _) (then_u (pattern_adds s anc p) (variant_parts_add s anc i v (suc k) ps))

    field_patterns_add : (s : rules.Matched) (anc : List Passing) (i : ℕ) (fs : FieldPatterns) → Adds (rules.of_field_patterns s anc i fs)
    field_patterns_add s anc i named.no_field_pattern = none
    field_patterns_add s anc i (named.field_pattern_and x p fs) = then_u (quiet (pattern_node p) _ _ _) (then_u (pattern_adds s anc p) (field_patterns_add s anc i fs))

  pub whole_adds : (s : rules.Matched) (x : Subject) (p : Pattern) → Adds (rules.whole_pattern s x p)
  whole_adds s x p = then_u (quiet (pattern_node p) _ _ _) (pattern_adds s [] p)

  -- ---- statements but for their values

  declared_adds : (p : Pattern) (t : Option Written) → Adds (rules.declared p t)
  declared_adds p None = one_variable_u (pattern_node p) (whole_binding p)
  declared_adds p (Some t) = then_u (whole_type_u t) (whole_adds rules.a_value _ p)

  pub typed_before_adds : (t : Option Written) (e : Exp) → Adds (rules.typed_before t e)
  typed_before_adds None e = none
  typed_before_adds (Some t) e = then_u (whole_type_u t) (quiet (node_of e) _ _ _)

  initialised_by_adds : (v : Bool) (p : Pattern) (s : rules.Matched) (n : Node) → Adds (rules.initialised_by v p s n)
  initialised_by_adds true p s n = one_variable_u (pattern_node p) (whole_binding p)
  initialised_by_adds false p s n = whole_adds s _ p

  pub initialised_adds : (p : Pattern) (t : Option Written) (e : Exp) → Adds (rules.initialised p t e)
  initialised_adds p None e = initialised_by_adds (never e) p (rules.matched e) (node_of e)
  initialised_adds p (Some t) e = whole_adds (rules.matched e) _ p

  -- ---- expressions and statements

  mutual
    pub exp_adds : (f : ℕ) (e : Exp) → Adds (rules.of_exp f e)
    exp_adds f (named.int n m v k) = quietly (integer_asks n m v k)
    exp_adds f (named.bool n b) = quietly (own_asks n op.Truth [])
    exp_adds f (named.tuple n es) = then_u (each_adds f rules.members 0 es) (then_u (own_asks n op.Tuple _) (quiet n _ _ _))
    exp_adds f (named.var n x) = then_u (named_u n x x.known) (place_adds n _ _ n.site)
    exp_adds f (named.field n e x) = then_u (exp_adds f e) (then_u (quiet n _ _ _) (place_adds n _ _ n.site))
    exp_adds f (named.part n e i) = then_u (exp_adds f e) (then_u (quiet n _ _ _) (place_adds n _ _ n.site))
    exp_adds f (named.deref n e) = then_u (exp_adds f e) (then_u (quiet n _ _ _) (place_adds n _ _ n.site))
    exp_adds f (named.negate n e) = then_u (exp_adds f e) (negated_asks n (node_of e) (never e))
    exp_adds f (named.invert n e) = then_u (exp_adds f e) (inverted_asks n (node_of e) (never e))
    exp_adds f (named.borrow n m e) = then_u (exp_adds f e) (borrowed_asks n m (node_of e) (root e) _)
    exp_adds f (named.binary n o x y) = then_u (exp_adds f x) (then_u (exp_adds f y) (operation_asks o n (node_of x) (never x) (node_of y) (never y)))
    exp_adds f (named.assign n p e) = then_u (exp_adds f p) (then_u (quiet (node_of e) _ _ _) (then_u (exp_adds f e) (then_u (assignable_u n (is_variable p) (root p) _) (own_asks n op.Unit []))))
    exp_adds f (named.gives n p x d e) = then_u (exp_adds f e) (then_u (given_u n p x d (node_of e) (never e)) (own_asks n op.Unit []))
    exp_adds f (named.update n o p e) = then_u (exp_adds f p) (then_u (exp_adds f e) (then_u (updated_u n (node_of p) (never p) (node_of e) (never e)) (then_u (assignable_u n (is_variable p) (root p) _) (own_asks n op.Unit []))))
    exp_adds f (named.call n g es) = then_u (quiet n _ _ _) (then_u (each_adds f (rules.parameters g) 0 es) (own_asks n (op.Result g) []))
    exp_adds f (named.hidden_call n es) = then_u (quiet n _ _ _) (each_adds f rules.values 0 es)
    exp_adds f (named.next_input n) = quietly (own_asks n (op.Integer Kind.I64) [])
    exp_adds f (named.variant n i v es) = then_u (quiet n _ _ _) (then_u (each_adds f (rules.parts_of i v) 0 es) (own_asks n (op.Item i) []))
    exp_adds f (named.make n i fs) = then_u (quiet n _ _ _) (then_u (fields_add f i fs) (own_asks n (op.Item i) []))
    exp_adds f (named.print n e) = then_u (exp_adds f e) (then_u (printed_u (node_of e) (never e)) (own_asks n op.Unit []))
    exp_adds f (named.block n b) = then_u (before_u n n.site (body_node b)) (then_u (body_adds f b) (then_u (after_u n n.site (body_never b) (body_node b)) (join_asks n (body_never b))))
    exp_adds f (named.if n x b o) = then_u (exp_adds f x) (then_u (tested_u (node_of x) (never x)) (then_u (branch_before_u n o b) (then_u (body_adds f b) (then_u (branch_after_asks n o b) (then_u (else_adds f n o) (if_joins_asks n o _))))))
    exp_adds f (named.if_let n p e b o) = then_u (exp_adds f e) (then_u (not_never_u (node_of e) (never e)) (then_u (whole_adds (rules.matched e) _ p)
        (then_u (branch_before_u n o b) (then_u (body_adds f b) (then_u (branch_after_asks n o b) (then_u (else_adds f n o) (if_joins_asks n o _)))))))
    exp_adds f (named.match n e l) = then_u (exp_adds f e) (then_u (not_never_u (node_of e) (never e)) (then_u (arms_add f n (rules.matched e) (node_of e) l) (join_asks n (all_never l))))
    exp_adds f (named.loop n l k b) = then_u (body_adds f b) (then_u (unit_u (body_node b) (body_never b)) (loop_asks n k))
    exp_adds f (named.while n l x b) = then_u (exp_adds f x) (then_u (tested_u (node_of x) (never x)) (then_u (body_adds f b) (then_u (unit_u (body_node b) (body_never b)) (own_asks n op.Unit []))))
    exp_adds f (named.while_let n l p e b) = then_u (exp_adds f e) (then_u (not_never_u (node_of e) (never e)) (then_u (whole_adds (rules.matched e) _ p) (then_u (body_adds f b) (then_u (unit_u (body_node b) (body_never b)) (own_asks n op.Unit [])))))
    exp_adds f (named.break n l) = quietly (never_asks n n.site)
    exp_adds f (named.continue n l) = quietly (never_asks n n.site)
    exp_adds f (named.return n o) = then_u (returns_u f n o) (then_u (returned_adds f o) (never_asks n n.site))

    pub each_adds : (f : ℕ) (w : rules.Listed) (k : ℕ) (es : Exps) → Adds (rules.of_each f w k es)
    each_adds f w k named.no_exp = none
    each_adds f w k (named.exp_and e es) = then_u (each_before_u w k (node_of e)) (then_u (exp_adds f e) (then_u (each_after_u w e) (each_adds f w (suc k) es)))

    pub fields_add : (f i : ℕ) (fs : Fields) → Adds (rules.of_fields f i fs)
    fields_add f i named.no_field = none
    fields_add f i (named.field_and x e fs) = then_u (quiet (node_of e) _ _ _) (then_u (exp_adds f e) (fields_add f i fs))

    pub else_adds : (f : ℕ) (n : Node) (o : Else) → Adds (rules.of_else f n o)
    else_adds f n named.absent = none
    else_adds f n (named.present e) = then_u (before_u n n.site (node_of e)) (then_u (exp_adds f e) (after_u n n.site (never e) (node_of e)))

    pub returned_adds : (f : ℕ) (o : Else) → Adds (rules.of_returned f o)
    returned_adds f named.absent = none
    returned_adds f (named.present e) = exp_adds f e

    pub arms_add : (f : ℕ) (n : Node) (s : rules.Matched) (m : Node) (l : Arms) → Adds (rules.of_arms f n s m l)
    arms_add f n s m named.no_arm = none
    arms_add f n s m (named.arm_and p e l) = then_u (whole_adds s _ p) (then_u (before_u n n.site (node_of e)) (then_u (exp_adds f e) (then_u (after_u n n.site (never e) (node_of e)) (arms_add f n s m l))))

    pub body_adds : (f : ℕ) (b : Body) → Adds (rules.of_body f b)
    body_adds f (named.body n ss o) = then_u (statements_add f ss) (then_u (tail_before_u n o) (then_u (returned_adds f o) (then_u (tail_after_u n (some_diverges ss) o) (join_asks n _))))

    pub statement_adds : (f : ℕ) (a : Statement) → Adds (rules.of_statement f a)
    statement_adds f (named.declares n p t) = declared_adds p t
    statement_adds f (named.lets n p t e) = then_u (typed_before_adds t e) (then_u (exp_adds f e) (initialised_adds p t e))
    statement_adds f (named.evaluates n e s) = then_u (exp_adds f e) (evaluated_u s (node_of e) (never e))

    pub statements_add : (f : ℕ) (ss : Statements) → Adds (rules.of_statements f ss)
    statements_add f named.no_statement = none
    statements_add f (named.statement_and a ss) = then_u (statement_adds f a) (statements_add f ss)
