-- Where the demands of a function are met, each list of lifetimes in the type of a `let` is as long as what it belongs to declares: by one
-- induction on the tree with numbers, since what the rules ask is added behind what was asked before.
use Rattle.std.proofs.Common.{ℕ, suc, Bool, true, false, not, ◌&&◌, List, [], ◌∷◌, ◌++◌, Option, Some, None, eqb-true}
use Rattle.rx_core.specs.declared.types.Kind.{Kind}
use Rattle.rx_tree.specs.declared.tree.BinaryOp.{BinaryOp}
use Rattle.rx_typed.specs.declared.nodes.Node.{Node}
use Rattle.rx_typed.specs.declared.nodes.Site.{Site}
use Rattle.rx_typed.specs.declared.nodes.Use.{Use}
use Rattle.rx_typed.specs.Named as named
use Rattle.rx_typed.specs.Named.{Written, WrittenTypes, Pattern, Patterns, FieldPatterns, Exp, Exps, Else, Fields, Arms, Body, Statement, Statements, Parameter, Function, written_node, pattern_node, whole_binding, node_of, body_node, is_variable, root, never, body_never, else_never, some_diverges}
use Rattle.rx_typeck_solver.specs.declared.facts.Broken.{Broken}
use Rattle.rx_typeck_solver.specs.declared.facts.Rule.{Rule}
use Rattle.rx_typeck_solver.specs.declared.facts.Broken.TheVariants as broken
use Rattle.rx_typeck_solver.specs.declared.facts.Subject.{Subject}
use Rattle.rx_typeck_solver.specs.declared.facts.Subject.TheVariants as subject
use Rattle.rx_typeck_solver.specs.declared.facts.Op.{Op}
use Rattle.rx_typeck_solver.specs.declared.facts.Op.TheVariants as op
use Rattle.rx_typeck_solver.specs.declared.facts.Test.TheVariants as test
use Rattle.rx_typeck_solver.specs.declared.facts.Passing.{Passing}
use Rattle.rx_typeck_solver.specs.declared.facts.Fact.{Fact}
use Rattle.rx_typeck_solver.specs.declared.facts.Fact.TheVariants as fact
use Rattle.rx_typeck_solver.specs.declared.facts.Demand.{Demand}
use Rattle.rx_typeck_typed.specs.Asking.{Asking, ◌>>◌, nothing, asks, ask, when, passes, fitting, is_open}
use Rattle.rx_typeck_typed.specs.Demands as rules
use Rattle.rx_typeck_solver.specs.Facts.{Assignment, KnownItems, MeetsAll, MeetsEach}
use Rattle.rx_repair.proofs.Annotated.{ListFits, TypeFits, TypesFit, OptionFits, InExp, InExps, InElse, InFields, InArms, InBody, InStatement, InStatements}

module _ (K : KnownItems) (A : Assignment) where
  -- where what is asked is met, so is what was asked before, and this holds
  record Gives (R : Type 0) (a : Asking) : Type 0 where
    pub gives : (ds : List Demand) → MeetsEach K A (a ds) → MeetsEach K A ds × R

  abbrev U : Asking → Type 0
  U a = Gives (Unit {0}) a

  front : (ds es : List Demand) → MeetsEach K A (ds ++ es) → MeetsEach K A ds
  front [] es h = tt
  front (d ∷ ds) es h = (h.0, front ds es h.1)

  last : (ds : List Demand) (d : Demand) → MeetsEach K A (ds ++ d ∷ []) → MeetsAll K A d.facts
  last [] d h = h.0
  last (e ∷ ds) d h = last ds d h.1

  none : U nothing
  none = record { gives = λ ds h. (h, tt) }

  both : {R S : Type 0} {a b : Asking} → Gives R a → Gives S b → Gives (R × S) (a >> b)
  both {a = a} x y = record { gives = λ ds h. let v = y.gives (a ds) h in let u = x.gives ds v.0 in (u.0, (u.1, v.1)) }

  first : {R : Type 0} {a b : Asking} → Gives R a → U b → Gives R (a >> b)
  first {a = a} x y = record { gives = λ ds h. x.gives ds (y.gives (a ds) h).0 }

  second : {R : Type 0} {a b : Asking} → U a → Gives R b → Gives R (a >> b)
  second {a = a} x y = record { gives = λ ds h. let v = y.gives (a ds) h in ((x.gives ds v.0).0, v.1) }

  then_u : {a b : Asking} → U a → U b → U (a >> b)
  then_u x y = first x y

  asked : (n : Node) (b : Broken) (o : Bool) (fs : List Fact) → U (asks n b o fs)
  asked n b o fs = record { gives = λ ds h. (front ds _ h, tt) }

  when_u : (b : Bool) {a : Asking} → U a → U (when b a)
  when_u true x = x
  when_u false x = none

  -- ---- types

  lifetimes_fit : (n : Node) (i : ℕ) (l : Option ℕ) → Gives (ListFits K.items i l) (rules.lifetimes_asked n i l)
  lifetimes_fit n i None = none
  lifetimes_fit n i (Some k) = record { gives = λ ds h. (front ds _ h, eqb-true _ k (last ds _ h).0) }

  mutual
    type_fits : (t : Written) → Gives (TypeFits K.items t) (rules.of_type t)
    type_fits (named.a_kind n k) = asked n _ _ _
    type_fits (named.a_bool n) = asked n _ _ _
    type_fits (named.a_tuple n ts) = first (types_fit ts) (asked n _ _ _)
    type_fits (named.a_reference n m t) = first (type_fits t) (asked n _ _ _)
    type_fits (named.an_item n i ls) = first (lifetimes_fit n i ls) (asked n _ _ _)

    types_fit : (ts : WrittenTypes) → Gives (TypesFit K.items ts) (rules.of_types ts)
    types_fit named.no_written = none
    types_fit (named.written_and t ts) = both (type_fits t) (types_fit ts)

  whole_type_fits : (t : Written) → Gives (TypeFits K.items t) (rules.whole_type t)
  whole_type_fits t = first (type_fits t) (asked (written_node t) _ _ _)

  -- ---- places and sites

  place_u : (n : Node) (x : ℕ) (ps : List Passing) (t : Site) → U (rules.place_in n x ps t)
  place_u n x ps Site.Value = asked n _ _ _
  place_u n x ps Site.Place = none
  place_u n x ps Site.Scrutinee = none
  place_u n x ps Site.Expects = then_u (asked n _ _ _) (then_u (asked n _ _ _) (asked n _ _ _))
  place_u n x ps Site.Initialises = then_u (asked n _ _ _) (asked n _ _ _)
  place_u n x ps Site.Reborrows = then_u (asked n _ _ _) (then_u (asked n _ _ _) (asked n _ _ _))

  value_u : (n : Node) (t : Site) → U (rules.value_in n t)
  value_u n Site.Place = asked n _ _ _
  value_u n Site.Expects = asked n _ _ _
  value_u n Site.Initialises = asked n _ _ _
  value_u n Site.Reborrows = asked n _ _ _
  value_u n Site.Value = none
  value_u n Site.Scrutinee = none

  never_u : (n : Node) (t : Site) → U (rules.never_in n t)
  never_u n Site.Place = asked n _ _ _
  never_u n Site.Value = none
  never_u n Site.Scrutinee = none
  never_u n Site.Expects = none
  never_u n Site.Initialises = none
  never_u n Site.Reborrows = none

  assignable_u : (n : Node) (w : Bool) (x : Use) (ps : List Passing) → U (rules.assignable_at n w x ps)
  assignable_u n w x ps = when_u (not w) (asked n _ _ _)

  -- behind the type of a borrow
  behind_borrowed : (n : Node) (m : Bool) (x : Use) (ps : List Passing) → U (rules.limits n >> when m (rules.writable n x.mutable x.number ps) >> rules.value_at n)
  behind_borrowed n m x ps = then_u (asked n _ _ _) (then_u (when_u m (asked n _ _ _)) (value_u n n.site))

  borrowed_u : (n : Node) (m : Bool) (e : Node) (x : Use) (ps : List Passing) → U (rules.borrowed n m e x ps)
  borrowed_u n m e x ps = then_u (asked n _ _ _) (behind_borrowed n m x ps)

  -- ---- patterns

  binding_u : (n : Node) (anc : List Passing) (s : rules.Matched) → U (rules.binding_of n anc s)
  binding_u n anc rules.a_value = none
  binding_u n anc (rules.a_place x qs) = then_u (asked n _ _ _) (asked n _ _ _)
  binding_u n anc (rules.an_initialiser e x qs) = then_u (asked n _ _ _) (asked n _ _ _)

  -- behind the type of the variable
  behind_bound : (s : rules.Matched) (anc : List Passing) (n : Node) (x : ℕ) (m : Bool) → U (ask n Rule.Parts (passes test.Limits (subject.Variable x ∷ []) ∷ []) >> rules.direct n m anc >> rules.binding_of n anc s)
  behind_bound s anc n x m = then_u (asked n _ _ _) (then_u (when_u m (asked n _ _ _)) (binding_u n anc s))

  bound_u : (s : rules.Matched) (anc : List Passing) (n : Node) (x : ℕ) (m : Bool) → U (rules.bound_at s anc n x m)
  bound_u s anc n x m = then_u (asked n _ _ _) (behind_bound s anc n x m)

  literal_u : (n : Node) (g : Bool) (v : ℕ) (k : Option Kind) → U (rules.literal_at n g v k)
  literal_u n g v k = then_u (asked n _ _ _) (then_u (when_u g (asked n _ _ _)) (then_u (asked n _ _ _) (asked n _ _ _)))

  mutual
    pattern_u : (s : rules.Matched) (anc : List Passing) (p : Pattern) → U (rules.of_pattern s anc p)
    pattern_u s anc (named.wild n) = none
    pattern_u s anc (named.bind n x m) = bound_u s anc n x m
    pattern_u s anc (named.whole_number n g v k) = literal_u n g v k
    pattern_u s anc (named.truth n b) = asked n _ _ _
    pattern_u s anc (named.tuple_pattern n ps) = then_u (asked n _ _ _) (parts_u s _ n 0 ps)
    pattern_u s anc (named.variant_pattern n i v ps) = then_u (asked n _ _ _) (then_u (asked n _ _ _) (variant_parts_u s _ i v 0 ps))
    pattern_u s anc (named.struct_pattern n i fs) = then_u (asked n _ _ _) (then_u (asked n _ _ _) (field_patterns_u s _ i fs))

    parts_u : (s : rules.Matched) (anc : List Passing) (n : Node) (k : ℕ) (ps : Patterns) → U (rules.of_parts s anc n k ps)
    parts_u s anc n k named.no_pattern = none
    parts_u s anc n k (named.pattern_and p ps) = then_u (asked (pattern_node p) _ _ _) (then_u (pattern_u s anc p) (parts_u s anc n (suc k) ps))

    variant_parts_u : (s : rules.Matched) (anc : List Passing) (i v k : ℕ) (ps : Patterns) → U (rules.of_variant_parts s anc i v k ps)
    variant_parts_u s anc i v k named.no_pattern = none
    variant_parts_u s anc i v k (named.pattern_and p ps) = then_u (asked (pattern_node p) _ _ _) (then_u (pattern_u s anc p) (variant_parts_u s anc i v (suc k) ps))

    field_patterns_u : (s : rules.Matched) (anc : List Passing) (i : ℕ) (fs : FieldPatterns) → U (rules.of_field_patterns s anc i fs)
    field_patterns_u s anc i named.no_field_pattern = none
    field_patterns_u s anc i (named.field_pattern_and x p fs) = then_u (asked (pattern_node p) _ _ _) (then_u (pattern_u s anc p) (field_patterns_u s anc i fs))

  whole_u : (s : rules.Matched) (x : Subject) (p : Pattern) → U (rules.whole_pattern s x p)
  whole_u s x p = then_u (asked (pattern_node p) _ _ _) (pattern_u s [] p)

  -- ---- pieces of expressions

  part_u : (n : Node) (v : Bool) (m : Node) → U (rules.as_part n v m)
  part_u n v m = when_u (not v) (asked n _ _ _)

  joins_u : (n : Node) (t : Site) → U (rules.joins n t)
  joins_u n Site.Value = none
  joins_u n Site.Place = asked n _ _ _
  joins_u n Site.Scrutinee = none
  joins_u n Site.Reborrows = asked n _ _ _
  joins_u n Site.Expects = asked n _ _ _
  joins_u n Site.Initialises = asked n _ _ _

  join_u : (n : Node) (v : Bool) → U (rules.join n v)
  join_u n true = never_u n n.site
  join_u n false = joins_u n n.site

  before_u : (n : Node) (t : Site) (m : Node) → U (rules.part_before n t m)
  before_u n Site.Expects m = asked m _ _ _
  before_u n Site.Initialises m = asked m _ _ _
  before_u n Site.Value m = none
  before_u n Site.Place m = none
  before_u n Site.Scrutinee m = none
  before_u n Site.Reborrows m = none

  after_u : (n : Node) (t : Site) (v : Bool) (m : Node) → U (rules.part_after n t v m)
  after_u n Site.Expects v m = none
  after_u n Site.Initialises v m = none
  after_u n Site.Value v m = part_u n v m
  after_u n Site.Place v m = part_u n v m
  after_u n Site.Scrutinee v m = part_u n v m
  after_u n Site.Reborrows v m = part_u n v m

  tested_u : (n : Node) (v : Bool) → U (rules.tested n v)
  tested_u n v = when_u (not v) (asked n _ _ _)

  printed_u : (n : Node) (v : Bool) → U (rules.printed n v)
  printed_u n v = when_u (not v) (asked n _ _ _)

  unit_u : (n : Node) (v : Bool) → U (rules.nothing_given n v)
  unit_u n v = when_u (not v) (asked n _ _ _)

  not_never_u : (n : Node) (v : Bool) → U (rules.not_never n v)
  not_never_u n v = when_u v (asked n _ _ _)

  own_u : (n : Node) (o : Op) (xs : List Subject) → U (rules.own n o xs)
  own_u n o xs = then_u (asked n _ _ _) (value_u n n.site)

  operation_u : (o : BinaryOp) (n a : Node) (x : Bool) (b : Node) (y : Bool) → U (rules.operation o n a x b y)
  operation_u BinaryOp.Or n a x b y = then_u (asked n _ _ _) (own_u n _ _)
  operation_u BinaryOp.And n a x b y = then_u (asked n _ _ _) (own_u n _ _)
  operation_u BinaryOp.Eq n a x b y = then_u (asked n _ _ _) (own_u n _ _)
  operation_u BinaryOp.Ne n a x b y = then_u (asked n _ _ _) (own_u n _ _)
  operation_u BinaryOp.Lt n a x b y = then_u (asked n _ _ _) (own_u n _ _)
  operation_u BinaryOp.Le n a x b y = then_u (asked n _ _ _) (own_u n _ _)
  operation_u BinaryOp.Gt n a x b y = then_u (asked n _ _ _) (own_u n _ _)
  operation_u BinaryOp.Ge n a x b y = then_u (asked n _ _ _) (own_u n _ _)
  operation_u _ n a x b y = then_u (asked n _ _ _) (value_u n n.site)

  named_u : (n : Node) (x : Use) (k : Bool) → U (rules.named_at n x k)
  named_u n x true = asked n _ _ _
  named_u n x false = asked n _ _ _

  fits_given_u : (x : ℕ) (e : Node) (v : Bool) → U (rules.fits_given x e v)
  fits_given_u x e true = none
  fits_given_u x e false = asked e _ _ _

  given_u : (n p : Node) (x : Use) (d : Option ℕ) (e : Node) (v : Bool) → U (rules.given n p x d e v)
  given_u n p x (Some d) e v = then_u (not_never_u e v) (then_u (asked n _ _ _) (asked p _ _ _))
  given_u n p x None e v = then_u (named_u p x x.known) (fits_given_u x.number e v)

  returns_u : (f : ℕ) (n : Node) (o : Else) → U (rules.returns_unit f n o)
  returns_u f n named.absent = asked n _ _ _
  returns_u f n (named.present e) = asked (node_of e) _ _ _

  branch_before_u : (n : Node) (o : Else) (b : Body) → U (rules.branch_before n o b)
  branch_before_u n named.absent b = none
  branch_before_u n (named.present e) b = before_u n n.site (body_node b)

  branch_after_u : (n : Node) (o : Else) (b : Body) → U (rules.branch_after n o b)
  branch_after_u n named.absent b = then_u (unit_u (body_node b) (body_never b)) (own_u n _ _)
  branch_after_u n (named.present e) b = after_u n n.site (body_never b) (body_node b)

  if_joins_u : (n : Node) (o : Else) (v : Bool) → U (rules.if_joins n o v)
  if_joins_u n named.absent v = none
  if_joins_u n (named.present e) v = join_u n v

  one_variable_u : (n : Node) (o : Option ℕ) → U (rules.one_variable_at n o)
  one_variable_u n (Some x) = none
  one_variable_u n None = asked n _ _ _

  initialised_by_u : (v : Bool) (p : Pattern) (s : rules.Matched) (n : Node) → U (rules.initialised_by v p s n)
  initialised_by_u true p s n = one_variable_u (pattern_node p) (whole_binding p)
  initialised_by_u false p s n = whole_u s _ p

  initialised_u : (p : Pattern) (t : Option Written) (e : Exp) → U (rules.initialised p t e)
  initialised_u p None e = initialised_by_u (never e) p (rules.matched e) (node_of e)
  initialised_u p (Some t) e = whole_u (rules.matched e) _ p

  evaluated_u : (s : Bool) (n : Node) (v : Bool) → U (rules.evaluated s n v)
  evaluated_u true n v = none
  evaluated_u false n v = unit_u n v

  tail_before_u : (n : Node) (o : Else) → U (rules.tail_before n o)
  tail_before_u n named.absent = none
  tail_before_u n (named.present e) = before_u n n.site (node_of e)

  tail_after_u : (n : Node) (d : Bool) (o : Else) → U (rules.tail_after n d o)
  tail_after_u n d named.absent = unit_u n d
  tail_after_u n d (named.present e) = after_u n n.site (never e) (node_of e)

  loop_u : (n : Node) (k : Bool) → U (rules.loop_given n k)
  loop_u n true = own_u n _ _
  loop_u n false = never_u n n.site

  each_before_u : (w : rules.Listed) (k : ℕ) (n : Node) → U (rules.each_before w k n)
  each_before_u rules.members k n = none
  each_before_u rules.values k n = none
  each_before_u (rules.parameters g) k n = asked n _ _ _
  each_before_u (rules.parts_of i v) k n = asked n _ _ _

  each_after_u : (w : rules.Listed) (e : Exp) → U (rules.each_after w e)
  each_after_u rules.members e = not_never_u (node_of e) (never e)
  each_after_u rules.values e = none
  each_after_u (rules.parameters g) e = none
  each_after_u (rules.parts_of i v) e = none

  -- behind the type of the literal
  behind_integer : (n : Node) (m : Bool) (v : ℕ) (k : Option Kind) → U (rules.value_at n >> asks n broken.Literal (is_open k) (fact.Integer n.number (fitting m v) ∷ []))
  behind_integer n m v k = then_u (value_u n n.site) (asked n _ _ _)

  integer_u : (n : Node) (m : Bool) (v : ℕ) (k : Option Kind) → U (rules.integer_at n m v k)
  integer_u n m v k = then_u (asked n _ _ _) (behind_integer n m v k)

  declared_fits : (p : Pattern) (t : Option Written) → Gives (OptionFits K.items t) (rules.declared p t)
  declared_fits p None = one_variable_u (pattern_node p) (whole_binding p)
  declared_fits p (Some t) = first (whole_type_fits t) (whole_u rules.a_value _ p)

  typed_before_fits : (t : Option Written) (e : Exp) → Gives (OptionFits K.items t) (rules.typed_before t e)
  typed_before_fits None e = none
  typed_before_fits (Some t) e = first (whole_type_fits t) (asked (node_of e) _ _ _)

  -- ---- expressions

  branches_fit : {R S : Type 0} (f : ℕ) (n : Node) (b : Body) (o : Else) → Gives R (rules.of_body f b) → Gives S (rules.of_else f n o) → Gives (R × S) (rules.of_branches f n (b, o))
  branches_fit f n b o x y = second (branch_before_u n o b) (both x (second (branch_after_u n o b) (first y (if_joins_u n o (body_never b && else_never o)))))

  mutual
    exp_fits : (f : ℕ) (e : Exp) → Gives (InExp K.items e) (rules.of_exp f e)
    exp_fits f (named.int n m v k) = integer_u n m v k
    exp_fits f (named.bool n b) = own_u n _ _
    exp_fits f (named.tuple n es) = first (each_fits f rules.members 0 es) (then_u (own_u n _ _) (asked n _ _ _))
    exp_fits f (named.var n x) = then_u (named_u n x x.known) (place_u n _ _ n.site)
    exp_fits f (named.field n e x) = first (exp_fits f e) (then_u (asked n _ _ _) (place_u n _ _ n.site))
    exp_fits f (named.part n e i) = first (exp_fits f e) (then_u (asked n _ _ _) (place_u n _ _ n.site))
    exp_fits f (named.deref n e) = first (exp_fits f e) (then_u (asked n _ _ _) (place_u n _ _ n.site))
    exp_fits f (named.negate n e) = first (exp_fits f e) (then_u (asked n _ _ _) (value_u n n.site))
    exp_fits f (named.invert n e) = first (exp_fits f e) (then_u (asked n _ _ _) (own_u n _ _))
    exp_fits f (named.borrow n m e) = first (exp_fits f e) (borrowed_u n m (node_of e) (root e) _)
    exp_fits f (named.binary n o a b) = both (exp_fits f a) (first (exp_fits f b) (operation_u o n _ _ _ _))
    exp_fits f (named.assign n p e) = both (exp_fits f p) (second (asked (node_of e) _ _ _) (first (exp_fits f e) (then_u (assignable_u n (is_variable p) (root p) _) (own_u n _ _))))
    exp_fits f (named.gives n p x d e) = first (exp_fits f e) (then_u (given_u n p x d (node_of e) (never e)) (own_u n _ _))
    exp_fits f (named.update n o p e) = both (exp_fits f p) (first (exp_fits f e) (then_u (asked n _ _ _) (then_u (assignable_u n (is_variable p) (root p) _) (own_u n _ _))))
    exp_fits f (named.call n g es) = second (asked n _ _ _) (first (each_fits f (rules.parameters g) 0 es) (own_u n _ _))
    exp_fits f (named.hidden_call n es) = second (asked n _ _ _) (each_fits f rules.values 0 es)
    exp_fits f (named.next_input n) = own_u n _ _
    exp_fits f (named.variant n i v es) = second (asked n _ _ _) (first (each_fits f (rules.parts_of i v) 0 es) (own_u n _ _))
    exp_fits f (named.make n i fs) = second (asked n _ _ _) (first (fields_fit f i fs) (own_u n _ _))
    exp_fits f (named.print n e) = first (exp_fits f e) (then_u (printed_u (node_of e) (never e)) (own_u n _ _))
    exp_fits f (named.block n b) = second (before_u n n.site (body_node b)) (first (body_fits f b) (then_u (after_u n n.site (body_never b) (body_node b)) (join_u n (body_never b))))
    exp_fits f (named.if n c b o) = record { gives = λ ds h. let x = (both (exp_fits f c) (second (tested_u (node_of c) (never c)) (branches_fit f n b o (body_fits f b) (else_fits f n o)))).gives ds h in (x.0, (x.1.0, x.1.1.0, x.1.1.1)) }
    exp_fits f (named.if_let n p e b o) = record {
      gives = λ ds h. let x = (both (exp_fits f e) (second (not_never_u (node_of e) (never e))
          (second (whole_u (rules.matched e) _ p) (branches_fit f n b o (body_fits f b) (else_fits f n o))))).gives ds h in (x.0, (x.1.0, x.1.1.0, x.1.1.1));
    }
    exp_fits f (named.match n e l) = both (exp_fits f e) (second (not_never_u (node_of e) (never e)) (first (arms_fit f n (rules.matched e) (node_of e) l) (join_u n (named.all_never l))))
    exp_fits f (named.loop n l k b) = first (body_fits f b) (then_u (unit_u (body_node b) (body_never b)) (loop_u n k))
    exp_fits f (named.while n l c b) = both (exp_fits f c) (second (tested_u (node_of c) (never c)) (first (body_fits f b) (then_u (unit_u (body_node b) (body_never b)) (own_u n _ _))))
    exp_fits f (named.while_let n l p e b) = both (exp_fits f e) (second (not_never_u (node_of e) (never e))
        (second (whole_u (rules.matched e) _ p) (first (body_fits f b) (then_u (unit_u (body_node b) (body_never b)) (own_u n _ _)))))
    exp_fits f (named.break n l) = never_u n n.site
    exp_fits f (named.continue n l) = never_u n n.site
    exp_fits f (named.return n o) = second (returns_u f n o) (first (returned_fits f o) (never_u n n.site))

    each_fits : (f : ℕ) (w : rules.Listed) (k : ℕ) (es : Exps) → Gives (InExps K.items es) (rules.of_each f w k es)
    each_fits f w k named.no_exp = none
    each_fits f w k (named.exp_and e es) = second (each_before_u w k (node_of e)) (both (exp_fits f e) (second (each_after_u w e) (each_fits f w (suc k) es)))

    fields_fit : (f i : ℕ) (fs : Fields) → Gives (InFields K.items fs) (rules.of_fields f i fs)
    fields_fit f i named.no_field = none
    fields_fit f i (named.field_and x e fs) = second (asked (node_of e) _ _ _) (both (exp_fits f e) (fields_fit f i fs))

    else_fits : (f : ℕ) (n : Node) (o : Else) → Gives (InElse K.items o) (rules.of_else f n o)
    else_fits f n named.absent = none
    else_fits f n (named.present e) = second (before_u n n.site (node_of e)) (first (exp_fits f e) (after_u n n.site (never e) (node_of e)))

    returned_fits : (f : ℕ) (o : Else) → Gives (InElse K.items o) (rules.of_returned f o)
    returned_fits f named.absent = none
    returned_fits f (named.present e) = exp_fits f e

    arms_fit : (f : ℕ) (n : Node) (s : rules.Matched) (m : Node) (l : Arms) → Gives (InArms K.items l) (rules.of_arms f n s m l)
    arms_fit f n s m named.no_arm = none
    arms_fit f n s m (named.arm_and p e l) = second (whole_u s _ p) (second (before_u n n.site (node_of e)) (both (exp_fits f e)
        (second (after_u n n.site (never e) (node_of e)) (arms_fit f n s m l))))

    body_fits : (f : ℕ) (b : Body) → Gives (InBody K.items b) (rules.of_body f b)
    body_fits f (named.body n ss o) = both (statements_fit f ss) (second (tail_before_u n o) (first (returned_fits f o)
        (then_u (tail_after_u n (some_diverges ss) o) (join_u n (named.tail_never (some_diverges ss) o)))))

    statement_fits : (f : ℕ) (x : Statement) → Gives (InStatement K.items x) (rules.of_statement f x)
    statement_fits f (named.declares n p t) = declared_fits p t
    statement_fits f (named.lets n p t e) = both (typed_before_fits t e) (first (exp_fits f e) (initialised_u p t e))
    statement_fits f (named.evaluates n e s) = first (exp_fits f e) (evaluated_u s (node_of e) (never e))

    statements_fit : (f : ℕ) (ss : Statements) → Gives (InStatements K.items ss) (rules.of_statements f ss)
    statements_fit f named.no_statement = none
    statements_fit f (named.statement_and a ss) = both (statement_fits f a) (statements_fit f ss)

  never_given_u : (ns : List Node) → U (rules.of_never_given ns)
  never_given_u [] = none
  never_given_u (n ∷ ns) = then_u (asked n _ _ _) (never_given_u ns)

  -- the body of a function whose demands are met
  pub function_fits : (f : Function) → MeetsEach K A (rules.demands f) → InBody K.items f.body
  function_fits f h =
      let s = rules.of_result f.result (rules.of_parameters f.params []) in
      let x = (never_given_u f.never_given).gives (rules.of_body f.item f.body (rules.expects (body_node f.body) (op.Result f.item) [] s)) h in
      ((body_fits f.item f.body).gives (rules.expects (body_node f.body) (op.Result f.item) [] s) x.0).1
