-- The rules ask at most one demand of a slot at a node: as many as the node occurs in the function.
use Rattle.std.proofs.Common.{◌≡◌, ℕ, suc, ◌+◌, Bool, true, false, ◌&&◌, List, [], ◌∷◌, Option, Some, None, refl, arith}
use Rattle.rx_core.specs.declared.types.Kind.{Kind}
use Rattle.rx_typed.specs.declared.nodes.Node.{Node}
use Rattle.rx_typed.specs.Named as named
use Rattle.rx_typed.specs.Named.{Written, WrittenTypes, Pattern, Patterns, FieldPatterns, Exp, Exps, Else, Fields, Arms, Body, Statement, Statements, Parameter, Function, written_node, pattern_node, node_of, body_node, root, never, body_never, else_never, some_diverges}
use Rattle.rx_typeck_solver.specs.declared.facts.Op.{Op}
use Rattle.rx_typeck_solver.specs.declared.facts.Op.TheVariants as op
use Rattle.rx_typeck_solver.specs.declared.facts.Subject.{Subject}
use Rattle.rx_typeck_solver.specs.declared.facts.Test.TheVariants as test
use Rattle.rx_typeck_solver.specs.declared.facts.Passing.{Passing}
use Rattle.rx_typeck_typed.specs.Asking.{Asking, ◌>>◌, type_of}
use Rattle.rx_typeck_typed.specs.Demands as asked
use Rattle.rx_typeck_fault_laws.specs.TypeRules as rules
use Rattle.rx_typeck_fault_laws.specs.TypeRules.{of_node}
use Rattle.rx_typeck_fault_laws.proofs.Slots as slots
use Rattle.rx_typeck_fault_laws.proofs.Slots.{Slot, expects, own, limits}
use Rattle.rx_typeck_fault_laws.proofs.Times as times
use Rattle.rx_typeck_fault_laws.proofs.Pieces as pieces

module _ (m : ℕ) (s : Slot) where
  abbrev Within : Asking → ℕ → ℕ → Type 0
  Within g i j = slots.Within m s g i j

  abbrev at : ℕ → ℕ
  at n = slots.at m s n

  abbrev hits : Node → Slot → ℕ
  hits n r = slots.hit m s n.number r

  -- first this, then that; at most so many, with what is left
  and : {g h : Asking} {i j k l : ℕ} → Within g i j → Within h k l → Within (g >> h) (i + k) (j + l)
  and a b = slots.both m s a b

  -- ---- types: the limits of a whole type are left

  mutual
    type_within : (t : Written) → Within (asked.of_type t) (hits (written_node t) limits) (times.type_times at t)
    type_within (named.a_kind n k) = slots.weaker m s _ _ (pieces.owns m s n (op.Integer k) [] refl) (omega (arith, slots.few m s n.number))
    type_within (named.a_bool n) = slots.weaker m s _ _ (pieces.owns m s n op.Truth [] refl) (omega (arith, slots.few m s n.number))
    type_within (named.a_tuple n ts) = slots.weaker m s _ _ (and (types_within ts) (pieces.owns m s n op.Tuple (asked.written_nodes ts) refl)) (omega (arith, slots.few m s n.number))
    type_within (named.a_reference n w t) = slots.weaker m s _ _ (and (type_within t) (pieces.owns m s n (op.Referring w) (type_of (written_node t) ∷ []) refl)) (omega (arith, slots.few m s n.number))
    type_within (named.an_item n i ls) = slots.weaker m s _ _ (and (pieces.lifetimes_asked m s n i ls) (pieces.owns m s n (op.Item i) [] refl)) (omega (arith, slots.few m s n.number))

    types_within : (ts : WrittenTypes) → Within (asked.of_types ts) 0 (times.types_times at ts)
    types_within named.no_written = slots.none m s
    types_within (named.written_and t ts) = slots.weaker m s _ _ (and (type_within t) (types_within ts)) (omega arith)

  whole_within : (t : Written) → Within (asked.whole_type t) 0 (times.type_times at t)
  whole_within t = slots.weaker m s _ _ (and (type_within t) (pieces.limited m s (written_node t))) (omega arith)

  -- ---- patterns: the type of what a pattern is matched with is left

  part_given : (p : Pattern) (o : Op) (xs : List Subject) → of_node o xs ≡ rules.own_type → Within (asked.part_is (pattern_node p) o xs) 0 (hits (pattern_node p) own)
  part_given p o xs e = pieces.owns m s (pattern_node p) o xs e

  mutual
    pattern_within : (w : asked.Matched) (anc : List Passing) (p : Pattern) → Within (asked.of_pattern w anc p) (hits (pattern_node p) own) (times.pattern_times at p)
    pattern_within w anc (named.wild n) = slots.weaker m s _ _ (slots.none m s) (omega (arith, slots.few m s n.number))
    pattern_within w anc (named.bind n x z) = slots.weaker m s _ _ (pieces.bound m s w anc n x z) (omega (arith, slots.few m s n.number))
    pattern_within w anc (named.whole_number n g v k) = slots.weaker m s _ _ (pieces.literal m s n g v k) (omega (arith, slots.few m s n.number))
    pattern_within w anc (named.truth n b) = slots.weaker m s _ _ (pieces.shaped m s n test.TruthBehind refl) (omega (arith, slots.few m s n.number))
    pattern_within w anc (named.tuple_pattern n ps) =
        slots.weaker m s _ _ (and (pieces.shaped m s n (test.TupleBehind (asked.count ps)) refl) (parts_within w (asked.under n anc) n 0 ps)) (omega (arith, slots.few m s n.number))
    pattern_within w anc (named.variant_pattern n i v ps) = slots.weaker m s _ _ (and (pieces.shaped m s n (test.ItemBehind i) refl)
        (and (pieces.counts_arguments m s n (test.Holds i v (asked.count ps))) (variant_parts_within w (asked.under n anc) i v 0 ps))) (omega (arith, slots.few m s n.number))
    pattern_within w anc (named.struct_pattern n i fs) = slots.weaker m s _ _ (and (pieces.shaped m s n (test.ItemBehind i) refl)
        (and (pieces.names_fields m s n (test.HasFields i (asked.field_names fs))) (field_patterns_within w (asked.under n anc) i fs))) (omega (arith, slots.few m s n.number))

    parts_within : (w : asked.Matched) (anc : List Passing) (n : Node) (k : ℕ) (ps : Patterns) → Within (asked.of_parts w anc n k ps) 0 (times.patterns_times at ps)
    parts_within w anc n k named.no_pattern = slots.none m s
    parts_within w anc n k (named.pattern_and p ps) =
        slots.weaker m s _ _ (and (part_given p (op.Part k) (type_of n ∷ []) refl) (and (pattern_within w anc p) (parts_within w anc n (suc k) ps))) (omega arith)

    variant_parts_within : (w : asked.Matched) (anc : List Passing) (i v k : ℕ) (ps : Patterns) → Within (asked.of_variant_parts w anc i v k ps) 0 (times.patterns_times at ps)
    variant_parts_within w anc i v k named.no_pattern = slots.none m s
    variant_parts_within w anc i v k (named.pattern_and p ps) =
        slots.weaker m s _ _ (and (part_given p (op.PartOf i v k) [] refl) (and (pattern_within w anc p) (variant_parts_within w anc i v (suc k) ps))) (omega arith)

    field_patterns_within : (w : asked.Matched) (anc : List Passing) (i : ℕ) (fs : FieldPatterns) → Within (asked.of_field_patterns w anc i fs) 0 (times.field_patterns_times at fs)
    field_patterns_within w anc i named.no_field_pattern = slots.none m s
    field_patterns_within w anc i (named.field_pattern_and x p fs) =
        slots.weaker m s _ _ (and (part_given p (op.FieldOf i x) [] refl) (and (pattern_within w anc p) (field_patterns_within w anc i fs))) (omega arith)

  -- a whole one, matched with a node
  matched_within : (w : asked.Matched) (k : Node) (p : Pattern) → Within (asked.whole_pattern w (type_of k) p) 0 (times.pattern_times at p)
  matched_within w k p = slots.weaker m s _ _ (and (pieces.same m s (pattern_node p) k.number) (pattern_within w [] p)) (omega arith)

  -- ---- statements, beside their expressions

  declared_within : (p : Pattern) (t : Option Written) → Within (asked.declared p t) 0 (times.pattern_times at p + times.optional_times at t)
  declared_within p None = pieces.some m s _ (pieces.one_variable m s p)
  declared_within p (Some t) = slots.weaker m s _ _ (and (whole_within t) (matched_within asked.a_value (written_node t) p)) (omega arith)

  typed_before_within : (t : Option Written) (e : Exp) → Within (asked.typed_before t e) 0 (times.optional_times at t + hits (node_of e) expects)
  typed_before_within None e = pieces.some m s _ (slots.none m s)
  typed_before_within (Some t) e = and (whole_within t) (pieces.expects_same m s (node_of e) (type_of (written_node t)))

  initialised_by_within : (v : Bool) (p : Pattern) (w : asked.Matched) (n : Node) → Within (asked.initialised_by v p w n) 0 (times.pattern_times at p)
  initialised_by_within true p w n = pieces.some m s _ (pieces.one_variable m s p)
  initialised_by_within false p w n = matched_within w n p

  initialised_within : (p : Pattern) (t : Option Written) (e : Exp) → Within (asked.initialised p t e) 0 (times.pattern_times at p)
  initialised_within p None e = initialised_by_within (never e) p (asked.matched e) (node_of e)
  initialised_within p (Some t) e = matched_within (asked.matched e) (written_node t) p

  -- ---- expressions: what the place of one expects is left

  abbrev left_else : Else → ℕ
  left_else o = pieces.left_else m s o

  else_within : (f : ℕ) (n : Node) (o : Else) → Within (asked.of_returned f o) (left_else o) (times.else_times at o) → Within (asked.of_else f n o) 0 (times.else_times at o)
  else_within f n named.absent w = slots.none m s
  else_within f n (named.present e) w =
      slots.weaker m s _ _ (and (pieces.part_before m s n n.site (node_of e)) (and w (pieces.part_after m s n n.site (never e) (node_of e)))) (omega arith)

  branches_within : (f : ℕ) (n : Node) (b : Body) (o : Else) → Within (asked.of_body f b) (hits (body_node b) expects) (times.body_times at b) → Within (asked.of_returned f o) (left_else o) (times.else_times at o)
      → Within (asked.branch_before n o b >> asked.of_body f b >> asked.branch_after n o b >> asked.of_else f n o >> asked.if_joins n o (body_never b && else_never o)) 0 (times.body_times at b + times.else_times at o)
  branches_within f n b o x y = slots.weaker m s _ _ (and (pieces.branch_before m s n o b) (and x (and (pieces.branch_after m s n o b)
      (and (else_within f n o y) (pieces.if_joins m s n o (body_never b && else_never o)))))) (omega arith)

  mutual
    exp_within : (f : ℕ) (e : Exp) → Within (asked.of_exp f e) (hits (node_of e) expects) (times.exp_times at e)
    exp_within f (named.int n g v k) = slots.weaker m s _ _ (pieces.integer m s n g v k) (omega (arith, slots.few m s n.number))
    exp_within f (named.bool n b) = slots.weaker m s _ _ (pieces.own_value m s n op.Truth [] refl) (omega (arith, slots.few m s n.number))
    exp_within f (named.tuple n es) =
        slots.weaker m s _ _ (and (each_within f asked.members 0 es) (and (pieces.own_value m s n op.Tuple (asked.exp_nodes es) refl) (pieces.limited m s n))) (omega (arith, slots.few m s n.number))
    exp_within f (named.var n x) = slots.weaker m s _ _ (and (pieces.named_at m s n x x.known) (pieces.place m s (named.var n x))) (omega (arith, slots.few m s n.number))
    exp_within f (named.field n e x) =
        slots.weaker m s _ _ (and (exp_within f e) (and (pieces.step_to m s n (op.Field x) (node_of e)) (pieces.place m s (named.field n e x)))) (omega (arith, slots.few m s n.number))
    exp_within f (named.part n e i) =
        slots.weaker m s _ _ (and (exp_within f e) (and (pieces.step_to m s n (op.Part i) (node_of e)) (pieces.place m s (named.part n e i)))) (omega (arith, slots.few m s n.number))
    exp_within f (named.deref n e) =
        slots.weaker m s _ _ (and (exp_within f e) (and (pieces.step_to m s n op.Pointee (node_of e)) (pieces.place m s (named.deref n e)))) (omega (arith, slots.few m s n.number))
    exp_within f (named.negate n e) = slots.weaker m s _ _ (and (exp_within f e) (pieces.negated m s n (node_of e) (never e))) (omega (arith, slots.few m s n.number))
    exp_within f (named.invert n e) = slots.weaker m s _ _ (and (exp_within f e) (pieces.inverted m s n (node_of e) (never e))) (omega (arith, slots.few m s n.number))
    exp_within f (named.borrow n w e) = slots.weaker m s _ _ (and (exp_within f e) (pieces.borrowed m s n w (node_of e) (root e) (asked.through e))) (omega (arith, slots.few m s n.number))
    exp_within f (named.binary n o a b) =
        slots.weaker m s _ _ (and (exp_within f a) (and (exp_within f b) (pieces.operation m s n (node_of a) (never a) (node_of b) (never b) o))) (omega (arith, slots.few m s n.number))
    exp_within f (named.assign n p e) = slots.weaker m s _ _ (and (exp_within f p) (and (pieces.expects_same m s (node_of e) (type_of (node_of p))) (and (exp_within f e)
        (and (pieces.assignable m s n p) (pieces.own_unit m s n))))) (omega (arith, slots.few m s n.number))
    exp_within f (named.gives n p x d e) =
        slots.weaker m s _ _ (and (exp_within f e) (and (pieces.given m s n p x d (node_of e) (never e)) (pieces.own_unit m s n))) (omega (arith, slots.few m s n.number, slots.few m s p.number))
    exp_within f (named.update n o p e) = slots.weaker m s _ _ (and (exp_within f p) (and (exp_within f e) (and (pieces.ordered m s n (node_of p) (never p) (node_of e) (never e))
        (and (pieces.assignable m s n p) (pieces.own_unit m s n))))) (omega (arith, slots.few m s n.number))
    exp_within f (named.call n g es) = slots.weaker m s _ _ (and (pieces.counts_arguments m s n (test.Takes g (asked.argument_count es))) (and (each_within f (asked.parameters g) 0 es)
        (pieces.own_value m s n (op.Result g) [] refl))) (omega (arith, slots.few m s n.number))
    exp_within f (named.hidden_call n es) = slots.weaker m s _ _ (and (pieces.no_function m s n) (each_within f asked.values 0 es)) (omega (arith, slots.few m s n.number))
    exp_within f (named.next_input n) = slots.weaker m s _ _ (pieces.own_value m s n (op.Integer Kind.I64) [] refl) (omega (arith, slots.few m s n.number))
    exp_within f (named.variant n i v es) = slots.weaker m s _ _ (and (pieces.counts_arguments m s n (test.Holds i v (asked.argument_count es))) (and (each_within f (asked.parts_of i v) 0 es)
        (pieces.own_value m s n (op.Item i) [] refl))) (omega (arith, slots.few m s n.number))
    exp_within f (named.make n i fs) = slots.weaker m s _ _ (and (pieces.names_fields m s n (test.HasFields i (asked.names_given fs))) (and (fields_within f i fs)
        (pieces.own_value m s n (op.Item i) [] refl))) (omega (arith, slots.few m s n.number))
    exp_within f (named.print n e) = slots.weaker m s _ _ (and (exp_within f e) (and (pieces.printed m s (node_of e) (never e)) (pieces.own_unit m s n))) (omega (arith, slots.few m s n.number))
    exp_within f (named.block n b) = let v = body_never b in slots.weaker m s _ _ (and (pieces.part_before m s n n.site (body_node b)) (and (body_within f b)
        (and (pieces.part_after m s n n.site v (body_node b)) (pieces.join m s n v)))) (omega (arith, slots.few m s n.number))
    exp_within f (named.if n c b o) = slots.weaker m s _ _ (and (exp_within f c) (and (pieces.tested m s (node_of c) (never c))
        (branches_within f n b o (body_within f b) (returned_within f o)))) (omega (arith, slots.few m s n.number))
    exp_within f (named.if_let n p e b o) = slots.weaker m s _ _ (and (exp_within f e) (and (pieces.not_never m s (node_of e) (never e)) (and (matched_within (asked.matched e) (node_of e) p)
        (branches_within f n b o (body_within f b) (returned_within f o))))) (omega (arith, slots.few m s n.number))
    exp_within f (named.match n e l) = slots.weaker m s _ _ (and (exp_within f e) (and (pieces.not_never m s (node_of e) (never e)) (and (arms_within f n (asked.matched e) (node_of e) l)
        (pieces.join m s n (named.all_never l))))) (omega (arith, slots.few m s n.number))
    exp_within f (named.loop n l k b) =
        slots.weaker m s _ _ (and (body_within f b) (and (pieces.nothing_given m s (body_node b) (body_never b)) (pieces.loop_given m s n k))) (omega (arith, slots.few m s n.number))
    exp_within f (named.while n l c b) = slots.weaker m s _ _ (and (exp_within f c) (and (pieces.tested m s (node_of c) (never c)) (and (body_within f b)
        (and (pieces.nothing_given m s (body_node b) (body_never b)) (pieces.own_unit m s n))))) (omega (arith, slots.few m s n.number))
    exp_within f (named.while_let n l p e b) = slots.weaker m s _ _ (and (exp_within f e) (and (pieces.not_never m s (node_of e) (never e)) (and (matched_within (asked.matched e) (node_of e) p)
        (and (body_within f b) (and (pieces.nothing_given m s (body_node b) (body_never b)) (pieces.own_unit m s n)))))) (omega (arith, slots.few m s n.number))
    exp_within f (named.break n l) = slots.weaker m s _ _ (pieces.never_here m s n) (omega (arith, slots.few m s n.number))
    exp_within f (named.continue n l) = slots.weaker m s _ _ (pieces.never_here m s n) (omega (arith, slots.few m s n.number))
    exp_within f (named.return n o) = slots.weaker m s _ _ (and (pieces.returns_unit m s f n o) (and (returned_within f o) (pieces.never_here m s n))) (omega (arith, slots.few m s n.number))

    each_within : (f : ℕ) (w : asked.Listed) (k : ℕ) (es : Exps) → Within (asked.of_each f w k es) 0 (times.exps_times at es)
    each_within f w k named.no_exp = slots.none m s
    each_within f w k (named.exp_and e es) =
        slots.weaker m s _ _ (and (pieces.each_before m s w k (node_of e)) (and (exp_within f e) (and (pieces.each_after m s w e) (each_within f w (suc k) es)))) (omega arith)

    fields_within : (f i : ℕ) (fs : Fields) → Within (asked.of_fields f i fs) 0 (times.fields_times at fs)
    fields_within f i named.no_field = slots.none m s
    fields_within f i (named.field_and x e fs) = slots.weaker m s _ _ (and (pieces.expects_made m s (node_of e) (op.FieldOf i x)) (and (exp_within f e) (fields_within f i fs))) (omega arith)

    returned_within : (f : ℕ) (o : Else) → Within (asked.of_returned f o) (left_else o) (times.else_times at o)
    returned_within f named.absent = slots.none m s
    returned_within f (named.present e) = exp_within f e

    arms_within : (f : ℕ) (n : Node) (w : asked.Matched) (k : Node) (l : Arms) → Within (asked.of_arms f n w k l) 0 (times.arms_times at l)
    arms_within f n w k named.no_arm = slots.none m s
    arms_within f n w k (named.arm_and p e l) = slots.weaker m s _ _ (and (matched_within w k p) (and (pieces.part_before m s n n.site (node_of e)) (and (exp_within f e)
        (and (pieces.part_after m s n n.site (never e) (node_of e)) (arms_within f n w k l))))) (omega arith)

    body_within : (f : ℕ) (b : Body) → Within (asked.of_body f b) (hits (body_node b) expects) (times.body_times at b)
    body_within f (named.body n ss o) = slots.weaker m s _ _ (and (statements_within f ss) (and (pieces.tail_before m s n o) (and (returned_within f o)
        (and (pieces.tail_after m s n (some_diverges ss) o) (pieces.join m s n (named.tail_never (some_diverges ss) o)))))) (omega (arith, slots.few m s n.number))

    statement_within : (f : ℕ) (a : Statement) → Within (asked.of_statement f a) 0 (times.statement_times at a)
    statement_within f (named.declares n p t) = slots.weaker m s _ _ (declared_within p t) (omega arith)
    statement_within f (named.lets n p t e) = slots.weaker m s _ _ (and (typed_before_within t e) (and (exp_within f e) (initialised_within p t e))) (omega arith)
    statement_within f (named.evaluates n e w) = slots.weaker m s _ _ (and (exp_within f e) (pieces.evaluated m s w (node_of e) (never e))) (omega arith)

    statements_within : (f : ℕ) (ss : Statements) → Within (asked.of_statements f ss) 0 (times.statements_times at ss)
    statements_within f named.no_statement = slots.none m s
    statements_within f (named.statement_and a ss) = slots.weaker m s _ _ (and (statement_within f a) (statements_within f ss)) (omega arith)

  -- ---- functions

  parameters_within : (xs : List Parameter) → Within (asked.of_parameters xs) 0 (times.parameters_times at xs)
  parameters_within [] = slots.none m s
  parameters_within (x ∷ xs) =
      slots.weaker m s _ _ (and (and (whole_within x.typ) (pieces.has_type m s (written_node x.typ) x.variable)) (parameters_within xs)) (omega arith)

  result_within : (t : Option Written) → Within (asked.of_result t) 0 (times.optional_times at t)
  result_within None = slots.none m s
  result_within (Some t) = whole_within t

  waiting_within : (ns : List Node) → Within (asked.of_never_given ns) 0 0
  waiting_within [] = slots.none m s
  waiting_within (n ∷ ns) = slots.weaker m s _ _ (and (pieces.unclear m s n) (waiting_within ns)) (omega arith)

  pub function_within : (f : Function) → Within (asked.of_function f) 0 (times.parameters_times at f.params + (times.optional_times at f.result + times.body_times at f.body))
  function_within f = slots.weaker m s _ _ (and (parameters_within f.params) (and (result_within f.result) (and (pieces.expects_made m s (body_node f.body) (op.Result f.item))
      (and (body_within f.item f.body) (waiting_within f.never_given))))) (omega arith)
