-- Where what is asked of a part is met behind what was asked before, that is met too: rule by rule and form by form.
use Rattle.std.proofs.Common.{ℕ, suc, Bool, true, false, ◌&&◌, List, [], ◌∷◌, ◌++◌, Option, Some, None}
use Rattle.rx_core.specs.declared.types.Kind.{Kind}
use Rattle.rx_tree.specs.declared.tree.BinaryOp.{BinaryOp}
use Rattle.rx_typed.specs.declared.nodes.Node.{Node}
use Rattle.rx_typed.specs.declared.nodes.Site.{Site}
use Rattle.rx_typed.specs.declared.nodes.Use.{Use}
use Rattle.rx_typed.specs.Named as named
use Rattle.rx_typed.specs.Named.{all_never, body_never, body_node, else_never, is_variable, never, node_of, pattern_node, root, some_diverges, whole_binding, Arms, Body, Else, Exp, Exps, FieldPatterns, Fields, Pattern, Patterns, Statement, Statements, Written, WrittenTypes}
use Rattle.rx_typeck_solver.specs.declared.facts.Passing.{Passing}
use Rattle.rx_typeck_solver.specs.declared.facts.Op.{Op}
use Rattle.rx_typeck_solver.specs.declared.facts.Op.TheVariants as op
use Rattle.rx_typeck_solver.specs.declared.facts.Subject.{Subject}
use Rattle.rx_typeck_solver.specs.declared.facts.Demand.{Demand}
use Rattle.rx_typeck_solver.specs.Facts.{Assignment, KnownItems, MeetsEach}
use Rattle.rx_typeck_typed.specs.Asking.{type_of, when, Asking}
use Rattle.rx_typeck_typed.specs.Demands as rules

module _ (D : KnownItems) (A : Assignment) where
  pub split : (xs ys : List Demand) → MeetsEach D A (xs ++ ys) → MeetsEach D A xs × MeetsEach D A ys
  split [] ys m = (tt, m)
  split (x ∷ xs) ys m = let r = split xs ys m.1 in ((m.0, r.0), r.1)

  -- what was asked before a demand
  last : (d : Demand) (ds : List Demand) → MeetsEach D A (ds ++ d ∷ []) → MeetsEach D A ds
  last d ds h = (split ds (d ∷ []) h).0

  abbrev Earlier : Asking → Type 0
  Earlier a = (ds : List Demand) → MeetsEach D A (a ds) → MeetsEach D A ds

  when_earlier : (b : Bool) (a : Asking) → Earlier a → Earlier (when b a)
  when_earlier true a k ds h = k ds h
  when_earlier false a k ds h = h

  -- ---- places and values

  value_earlier : (n : Node) (s : Site) → Earlier (rules.value_in n s)
  value_earlier n Site.Place ds h = last _ ds h
  value_earlier n Site.Expects ds h = last _ ds h
  value_earlier n Site.Initialises ds h = last _ ds h
  value_earlier n Site.Reborrows ds h = last _ ds h
  value_earlier n Site.Value ds h = h
  value_earlier n Site.Scrutinee ds h = h

  never_earlier : (n : Node) (s : Site) → Earlier (rules.never_in n s)
  never_earlier n Site.Place ds h = last _ ds h
  never_earlier n Site.Expects ds h = h
  never_earlier n Site.Initialises ds h = h
  never_earlier n Site.Reborrows ds h = h
  never_earlier n Site.Value ds h = h
  never_earlier n Site.Scrutinee ds h = h

  place_earlier : (n : Node) (x : ℕ) (ps : List Passing) (s : Site) → Earlier (rules.place_in n x ps s)
  place_earlier n x ps Site.Value ds h = last _ ds h
  place_earlier n x ps Site.Place ds h = h
  place_earlier n x ps Site.Scrutinee ds h = h
  place_earlier n x ps Site.Expects ds h = last _ ds (last _ _ (last _ _ h))
  place_earlier n x ps Site.Initialises ds h = last _ ds (last _ _ h)
  place_earlier n x ps Site.Reborrows ds h = last _ ds (last _ _ (last _ _ h))

  own_earlier : (n : Node) (o : Op) (xs : List Subject) → Earlier (rules.own n o xs)
  own_earlier n o xs ds h = last _ ds (value_earlier n n.site _ h)

  joins_earlier : (n : Node) (s : Site) → Earlier (rules.joins n s)
  joins_earlier n Site.Value ds h = h
  joins_earlier n Site.Scrutinee ds h = h
  joins_earlier n Site.Place ds h = last _ ds h
  joins_earlier n Site.Reborrows ds h = last _ ds h
  joins_earlier n Site.Expects ds h = last _ ds h
  joins_earlier n Site.Initialises ds h = last _ ds h

  pub join_earlier : (n : Node) (v : Bool) → Earlier (rules.join n v)
  join_earlier n true ds h = never_earlier n n.site ds h
  join_earlier n false ds h = joins_earlier n n.site ds h

  before_earlier : (n : Node) (s : Site) (m : Node) → Earlier (rules.part_before n s m)
  before_earlier n Site.Expects m ds h = last _ ds h
  before_earlier n Site.Initialises m ds h = last _ ds h
  before_earlier n Site.Value m ds h = h
  before_earlier n Site.Place m ds h = h
  before_earlier n Site.Scrutinee m ds h = h
  before_earlier n Site.Reborrows m ds h = h

  as_part_earlier : (n : Node) (v : Bool) (m : Node) → Earlier (rules.as_part n v m)
  as_part_earlier n true m ds h = h
  as_part_earlier n false m ds h = last _ ds h

  pub after_earlier : (n : Node) (s : Site) (v : Bool) (m : Node) → Earlier (rules.part_after n s v m)
  after_earlier n Site.Expects v m ds h = h
  after_earlier n Site.Initialises v m ds h = h
  after_earlier n Site.Value v m ds h = as_part_earlier n v m ds h
  after_earlier n Site.Place v m ds h = as_part_earlier n v m ds h
  after_earlier n Site.Scrutinee v m ds h = as_part_earlier n v m ds h
  after_earlier n Site.Reborrows v m ds h = as_part_earlier n v m ds h

  unit_earlier : (n : Node) (v : Bool) → Earlier (rules.nothing_given n v)
  unit_earlier n true ds h = h
  unit_earlier n false ds h = last _ ds h

  tested_earlier : (n : Node) (v : Bool) → Earlier (rules.tested n v)
  tested_earlier n true ds h = h
  tested_earlier n false ds h = last _ ds h

  printed_earlier : (n : Node) (v : Bool) → Earlier (rules.printed n v)
  printed_earlier n true ds h = h
  printed_earlier n false ds h = last _ ds h

  not_never_earlier : (n : Node) (v : Bool) → Earlier (rules.not_never n v)
  not_never_earlier n true ds h = last _ ds h
  not_never_earlier n false ds h = h

  named_earlier : (n : Node) (x : Use) (k : Bool) → Earlier (rules.named_at n x k)
  named_earlier n x true ds h = last _ ds h
  named_earlier n x false ds h = last _ ds h

  fits_given_earlier : (x : ℕ) (e : Node) (v : Bool) → Earlier (rules.fits_given x e v)
  fits_given_earlier x e true ds h = h
  fits_given_earlier x e false ds h = last _ ds h

  given_earlier : (n p : Node) (x : Use) (d : Option ℕ) (e : Node) (v : Bool) → Earlier (rules.given n p x d e v)
  given_earlier n p x None e v ds h = named_earlier p x x.known ds (fits_given_earlier x.number e v _ h)
  given_earlier n p x (Some d) e v ds h = not_never_earlier e v ds (last _ _ (last _ _ h))

  assignable_earlier : (n : Node) (w : Bool) (x : Use) (ps : List Passing) → Earlier (rules.assignable_at n w x ps)
  assignable_earlier n true x ps ds h = h
  assignable_earlier n false x ps ds h = last _ ds h

  borrowed_earlier : (n : Node) (m : Bool) (e : Node) (x : Use) (ps : List Passing) → Earlier (rules.borrowed n m e x ps)
  borrowed_earlier n m e x ps ds h = last _ ds (last _ _ (when_earlier m (rules.writable n x.mutable x.number ps) (λ ds h. last _ ds h) _ (value_earlier n n.site _ h)))

  operation_earlier : (o : BinaryOp) (n a : Node) (x : Bool) (b : Node) (y : Bool) → Earlier (rules.operation o n a x b y)
  operation_earlier BinaryOp.Or n a x b y ds h = last _ ds (own_earlier n op.Truth [] _ h)
  operation_earlier BinaryOp.And n a x b y ds h = last _ ds (own_earlier n op.Truth [] _ h)
  operation_earlier BinaryOp.Eq n a x b y ds h = last _ ds (own_earlier n op.Truth [] _ h)
  operation_earlier BinaryOp.Ne n a x b y ds h = last _ ds (own_earlier n op.Truth [] _ h)
  operation_earlier BinaryOp.Lt n a x b y ds h = last _ ds (own_earlier n op.Truth [] _ h)
  operation_earlier BinaryOp.Le n a x b y ds h = last _ ds (own_earlier n op.Truth [] _ h)
  operation_earlier BinaryOp.Gt n a x b y ds h = last _ ds (own_earlier n op.Truth [] _ h)
  operation_earlier BinaryOp.Ge n a x b y ds h = last _ ds (own_earlier n op.Truth [] _ h)
  operation_earlier BinaryOp.Add n a x b y ds h = last _ ds (value_earlier n n.site _ h)
  operation_earlier BinaryOp.Sub n a x b y ds h = last _ ds (value_earlier n n.site _ h)
  operation_earlier BinaryOp.Mul n a x b y ds h = last _ ds (value_earlier n n.site _ h)
  operation_earlier BinaryOp.Div n a x b y ds h = last _ ds (value_earlier n n.site _ h)
  operation_earlier BinaryOp.Rem n a x b y ds h = last _ ds (value_earlier n n.site _ h)

  loop_earlier : (n : Node) (k : Bool) → Earlier (rules.loop_given n k)
  loop_earlier n true ds h = own_earlier n op.Unit [] ds h
  loop_earlier n false ds h = never_earlier n n.site ds h

  -- ---- types and patterns

  lifetimes_earlier : (n : Node) (i : ℕ) (l : Option ℕ) → Earlier (rules.lifetimes_asked n i l)
  lifetimes_earlier n i None ds h = h
  lifetimes_earlier n i (Some k) ds h = last _ ds h

  mutual
    type_earlier : (t : Written) → Earlier (rules.of_type t)
    type_earlier (named.a_kind n k) ds h = last _ ds h
    type_earlier (named.a_bool n) ds h = last _ ds h
    type_earlier (named.a_tuple n ts) ds h = types_earlier ts ds (last _ _ h)
    type_earlier (named.a_reference n m t) ds h = type_earlier t ds (last _ _ h)
    type_earlier (named.an_item n i ls) ds h = lifetimes_earlier n i ls ds (last _ _ h)

    types_earlier : (ts : WrittenTypes) → Earlier (rules.of_types ts)
    types_earlier named.no_written ds h = h
    types_earlier (named.written_and t ts) ds h = type_earlier t ds (types_earlier ts _ h)

  whole_earlier : (t : Written) → Earlier (rules.whole_type t)
  whole_earlier t ds h = type_earlier t ds (last _ _ h)

  binding_earlier : (n : Node) (anc : List Passing) (s : rules.Matched) → Earlier (rules.binding_of n anc s)
  binding_earlier n anc rules.a_value ds h = h
  binding_earlier n anc (rules.a_place x qs) ds h = last _ ds (last _ _ h)
  binding_earlier n anc (rules.an_initialiser e x qs) ds h = last _ ds (last _ _ h)

  direct_earlier : (n : Node) (m : Bool) (anc : List Passing) → Earlier (rules.direct n m anc)
  direct_earlier n true anc ds h = last _ ds h
  direct_earlier n false anc ds h = h

  minus_earlier : (n : Node) (g : Bool) → Earlier (rules.minus n g)
  minus_earlier n true ds h = last _ ds h
  minus_earlier n false ds h = h

  mutual
    pattern_earlier : (s : rules.Matched) (anc : List Passing) (p : Pattern) → Earlier (rules.of_pattern s anc p)
    pattern_earlier s anc (named.wild n) ds h = h
    pattern_earlier s anc (named.bind n x m) ds h = last _ ds (last _ _ (direct_earlier n m anc _ (binding_earlier n anc s _ h)))
    pattern_earlier s anc (named.whole_number n g v k) ds h = last _ ds (minus_earlier n g _ (last _ _ (last _ _ h)))
    pattern_earlier s anc (named.truth n b) ds h = last _ ds h
    pattern_earlier s anc (named.tuple_pattern n ps) ds h = last _ ds (parts_earlier s (rules.under n anc) n 0 ps _ h)
    pattern_earlier s anc (named.variant_pattern n i v ps) ds h = last _ ds (last _ _ (variant_parts_earlier s (rules.under n anc) i v 0 ps _ h))
    pattern_earlier s anc (named.struct_pattern n i fs) ds h = last _ ds (last _ _ (field_patterns_earlier s (rules.under n anc) i fs _ h))

    parts_earlier : (s : rules.Matched) (anc : List Passing) (n : Node) (k : ℕ) (ps : Patterns) → Earlier (rules.of_parts s anc n k ps)
    parts_earlier s anc n k named.no_pattern ds h = h
    parts_earlier s anc n k (named.pattern_and p ps) ds h = last _ ds (pattern_earlier s anc p _ (parts_earlier s anc n (suc k) ps _ h))

    variant_parts_earlier : (s : rules.Matched) (anc : List Passing) (i v k : ℕ) (ps : Patterns) → Earlier (rules.of_variant_parts s anc i v k ps)
    variant_parts_earlier s anc i v k named.no_pattern ds h = h
    variant_parts_earlier s anc i v k (named.pattern_and p ps) ds h = last _ ds (pattern_earlier s anc p _ (variant_parts_earlier s anc i v (suc k) ps _ h))

    field_patterns_earlier : (s : rules.Matched) (anc : List Passing) (i : ℕ) (fs : FieldPatterns) → Earlier (rules.of_field_patterns s anc i fs)
    field_patterns_earlier s anc i named.no_field_pattern ds h = h
    field_patterns_earlier s anc i (named.field_pattern_and x p fs) ds h = last _ ds (pattern_earlier s anc p _ (field_patterns_earlier s anc i fs _ h))

  whole_pattern_earlier : (s : rules.Matched) (x : Subject) (p : Pattern) → Earlier (rules.whole_pattern s x p)
  whole_pattern_earlier s x p ds h = last _ ds (pattern_earlier s [] p _ h)

  one_variable_earlier : (n : Node) (o : Option ℕ) → Earlier (rules.one_variable_at n o)
  one_variable_earlier n None ds h = last _ ds h
  one_variable_earlier n (Some x) ds h = h

  declared_earlier : (p : Pattern) (t : Option Written) → Earlier (rules.declared p t)
  declared_earlier p None ds h = one_variable_earlier (pattern_node p) (whole_binding p) ds h
  declared_earlier p (Some t) ds h = whole_earlier t ds (whole_pattern_earlier _ _ p _ h)

  typed_earlier : (t : Option Written) (e : Exp) → Earlier (rules.typed_before t e)
  typed_earlier None e ds h = h
  typed_earlier (Some t) e ds h = whole_earlier t ds (last _ _ h)

  initialised_earlier : (v : Bool) (p : Pattern) (s : rules.Matched) (n : Node) → Earlier (rules.initialised_by v p s n)
  initialised_earlier true p s n ds h = one_variable_earlier (pattern_node p) (whole_binding p) ds h
  initialised_earlier false p s n ds h = whole_pattern_earlier _ _ p ds h

  bound_earlier : (p : Pattern) (t : Option Written) (e : Exp) → Earlier (rules.initialised p t e)
  bound_earlier p None e ds h = initialised_earlier (never e) p _ _ ds h
  bound_earlier p (Some t) e ds h = whole_pattern_earlier _ _ p ds h

  evaluated_earlier : (s : Bool) (n : Node) (v : Bool) → Earlier (rules.evaluated s n v)
  evaluated_earlier true n v ds h = h
  evaluated_earlier false n v ds h = unit_earlier n v ds h

  each_before_earlier : (w : rules.Listed) (k : ℕ) (n : Node) → Earlier (rules.each_before w k n)
  each_before_earlier rules.members k n ds h = h
  each_before_earlier rules.values k n ds h = h
  each_before_earlier (rules.parameters g) k n ds h = last _ ds h
  each_before_earlier (rules.parts_of i v) k n ds h = last _ ds h

  each_after_earlier : (w : rules.Listed) (e : Exp) → Earlier (rules.each_after w e)
  each_after_earlier rules.members e ds h = not_never_earlier (node_of e) (never e) ds h
  each_after_earlier rules.values e ds h = h
  each_after_earlier (rules.parameters g) e ds h = h
  each_after_earlier (rules.parts_of i v) e ds h = h

  -- ---- forms

  mutual
    pub exp_earlier : (f : ℕ) (e : Exp) → Earlier (rules.of_exp f e)
    exp_earlier f (named.int n m v k) ds h = last _ ds (value_earlier n n.site _ (last _ _ h))
    exp_earlier f (named.bool n b) ds h = own_earlier n op.Truth [] ds h
    exp_earlier f (named.tuple n es) ds h = each_earlier f rules.members 0 es ds (own_earlier n op.Tuple (rules.exp_nodes es) _ (last _ _ h))
    exp_earlier f (named.var n x) ds h = named_earlier n x x.known ds (place_earlier n _ _ n.site _ h)
    exp_earlier f (named.field n e x) ds h = exp_earlier f e ds (last _ _ (place_earlier n _ _ n.site _ h))
    exp_earlier f (named.part n e i) ds h = exp_earlier f e ds (last _ _ (place_earlier n _ _ n.site _ h))
    exp_earlier f (named.deref n e) ds h = exp_earlier f e ds (last _ _ (place_earlier n _ _ n.site _ h))
    exp_earlier f (named.negate n e) ds h = exp_earlier f e ds (last _ _ (value_earlier n n.site _ h))
    exp_earlier f (named.invert n e) ds h = exp_earlier f e ds (last _ _ (own_earlier n op.Truth [] _ h))
    exp_earlier f (named.borrow n m e) ds h = exp_earlier f e ds (borrowed_earlier n m (node_of e) (root e) _ _ h)
    exp_earlier f (named.binary n o a b) ds h = exp_earlier f a ds (exp_earlier f b _ (operation_earlier o n (node_of a) (never a) (node_of b) (never b) _ h))
    exp_earlier f (named.assign n p e) ds h = exp_earlier f p ds (last _ _ (exp_earlier f e _ (assignable_earlier n (is_variable p) (root p) _ _ (own_earlier n op.Unit [] _ h))))
    exp_earlier f (named.gives n p x d e) ds h = exp_earlier f e ds (given_earlier n p x d (node_of e) (never e) _ (own_earlier n op.Unit [] _ h))
    exp_earlier f (named.update n o p e) ds h = exp_earlier f p ds (exp_earlier f e _ (last _ _ (assignable_earlier n (is_variable p) (root p) _ _ (own_earlier n op.Unit [] _ h))))
    exp_earlier f (named.call n g es) ds h = last _ ds (each_earlier f (rules.parameters g) 0 es _ (own_earlier n (op.Result g) [] _ h))
    exp_earlier f (named.hidden_call n es) ds h = last _ ds (each_earlier f rules.values 0 es _ h)
    exp_earlier f (named.next_input n) ds h = own_earlier n (op.Integer Kind.I64) [] ds h
    exp_earlier f (named.variant n i v es) ds h = last _ ds (each_earlier f (rules.parts_of i v) 0 es _ (own_earlier n (op.Item i) [] _ h))
    exp_earlier f (named.make n i fs) ds h = last _ ds (fields_earlier f i fs _ (own_earlier n (op.Item i) [] _ h))
    exp_earlier f (named.print n e) ds h = exp_earlier f e ds (printed_earlier (node_of e) (never e) _ (own_earlier n op.Unit [] _ h))
    exp_earlier f (named.block n b) ds h = before_earlier n n.site (body_node b) ds (body_earlier f b _ (after_earlier n n.site (body_never b) (body_node b) _ (join_earlier n (body_never b) _ h)))
    exp_earlier f (named.if n c b named.absent) ds h =
        exp_earlier f c ds (tested_earlier (node_of c) (never c) _ (body_earlier f b _ (unit_earlier (body_node b) (body_never b) _ (own_earlier n op.Unit [] _ h))))
    exp_earlier f (named.if n c b (named.present e)) ds h =
        exp_earlier f c ds (tested_earlier (node_of c) (never c) _ (before_earlier n n.site (body_node b) _ (body_earlier f b _ (after_earlier n n.site (body_never b) (body_node b) _
        (else_earlier f n (named.present e) _ (join_earlier n (body_never b && never e) _ h))))))
    exp_earlier f (named.if_let n p e b named.absent) ds h =
        exp_earlier f e ds (not_never_earlier (node_of e) (never e) _ (whole_pattern_earlier _ _ p _ (body_earlier f b _ (unit_earlier (body_node b) (body_never b) _ (own_earlier n op.Unit [] _ h)))))
    exp_earlier f (named.if_let n p e b (named.present o)) ds h =
        exp_earlier f e ds (not_never_earlier (node_of e) (never e) _ (whole_pattern_earlier _ _ p _ (before_earlier n n.site (body_node b) _ (body_earlier f b _ (after_earlier n n.site (body_never b) (body_node b) _
        (else_earlier f n (named.present o) _ (join_earlier n (body_never b && never o) _ h)))))))
    exp_earlier f (named.match n e l) ds h = exp_earlier f e ds (not_never_earlier (node_of e) (never e) _ (arms_earlier f n _ (node_of e) l _ (join_earlier n (all_never l) _ h)))
    exp_earlier f (named.loop n l k b) ds h = body_earlier f b ds (unit_earlier (body_node b) (body_never b) _ (loop_earlier n k _ h))
    exp_earlier f (named.while n l c b) ds h = exp_earlier f c ds (tested_earlier (node_of c) (never c) _ (body_earlier f b _ (unit_earlier (body_node b) (body_never b) _ (own_earlier n op.Unit [] _ h))))
    exp_earlier f (named.while_let n l p e b) ds h =
        exp_earlier f e ds (not_never_earlier (node_of e) (never e) _ (whole_pattern_earlier _ _ p _ (body_earlier f b _ (unit_earlier (body_node b) (body_never b) _ (own_earlier n op.Unit [] _ h)))))
    exp_earlier f (named.break n l) ds h = never_earlier n n.site ds h
    exp_earlier f (named.continue n l) ds h = never_earlier n n.site ds h
    exp_earlier f (named.return n named.absent) ds h = last _ ds (never_earlier n n.site _ h)
    exp_earlier f (named.return n (named.present e)) ds h = last _ ds (exp_earlier f e _ (never_earlier n n.site _ h))

    pub each_earlier : (f : ℕ) (w : rules.Listed) (k : ℕ) (es : Exps) → Earlier (rules.of_each f w k es)
    each_earlier f w k named.no_exp ds h = h
    each_earlier f w k (named.exp_and e es) ds h = each_before_earlier w k (node_of e) ds (exp_earlier f e _ (each_after_earlier w e _ (each_earlier f w (suc k) es _ h)))

    fields_earlier : (f i : ℕ) (fs : Fields) → Earlier (rules.of_fields f i fs)
    fields_earlier f i named.no_field ds h = h
    fields_earlier f i (named.field_and x e fs) ds h = last _ ds (exp_earlier f e _ (fields_earlier f i fs _ h))

    else_earlier : (f : ℕ) (n : Node) (o : Else) → Earlier (rules.of_else f n o)
    else_earlier f n named.absent ds h = h
    else_earlier f n (named.present e) ds h = before_earlier n n.site (node_of e) ds (exp_earlier f e _ (after_earlier n n.site (never e) (node_of e) _ h))

    arms_earlier : (f : ℕ) (n : Node) (s : rules.Matched) (m : Node) (l : Arms) → Earlier (rules.of_arms f n s m l)
    arms_earlier f n s m named.no_arm ds h = h
    arms_earlier f n s m (named.arm_and p e l) ds h =
        whole_pattern_earlier s (type_of m) p ds (before_earlier n n.site (node_of e) _ (exp_earlier f e _ (after_earlier n n.site (never e) (node_of e) _ (arms_earlier f n s m l _ h))))

    body_earlier : (f : ℕ) (b : Body) → Earlier (rules.of_body f b)
    body_earlier f (named.body n ss named.absent) ds h = statements_earlier f ss ds (unit_earlier n (some_diverges ss) _ (join_earlier n (some_diverges ss) _ h))
    body_earlier f (named.body n ss (named.present e)) ds h =
        statements_earlier f ss ds (before_earlier n n.site (node_of e) _ (exp_earlier f e _ (after_earlier n n.site (never e) (node_of e) _ (join_earlier n (never e) _ h))))

    statement_earlier : (f : ℕ) (a : Statement) → Earlier (rules.of_statement f a)
    statement_earlier f (named.declares n p t) ds h = declared_earlier p t ds h
    statement_earlier f (named.lets n p t e) ds h = typed_earlier t e ds (exp_earlier f e _ (bound_earlier p t e _ h))
    statement_earlier f (named.evaluates n e s) ds h = exp_earlier f e ds (evaluated_earlier s (node_of e) (never e) _ h)

    statements_earlier : (f : ℕ) (ss : Statements) → Earlier (rules.of_statements f ss)
    statements_earlier f named.no_statement ds h = h
    statements_earlier f (named.statement_and a ss) ds h = statement_earlier f a ds (statements_earlier f ss _ h)
