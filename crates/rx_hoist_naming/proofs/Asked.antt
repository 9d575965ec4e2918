-- What the rules of types ask of a function whose names have a meaning speaks of structs and enums alone; and where it is met, its typed
-- tree names variables that there are: what is no place is refused where a place is wanted. Both by one induction on the tree with numbers.
use Rattle.std.proofs.Common.{◌≡◌, ℕ, suc, Bool, true, false, not, ◌&&◌, ◌||◌, List, [], ◌∷◌, ◌++◌, Option, Some, None, refl, sym, ap, ◌∙◌, subst, append_assoc, append-nil}
use Rattle.rx_core.specs.declared.types.Kind.{Kind}
use Rattle.rx_tree.specs.declared.tree.BinaryOp.{BinaryOp}
use Rattle.rx_tree.specs.Lists.{Every}
use Rattle.rx_typed.specs.declared.nodes.Node.{Node}
use Rattle.rx_typed.specs.declared.nodes.Site.{Site}
use Rattle.rx_typed.specs.declared.nodes.Use.{Use}
use Rattle.rx_typed.specs.Named as named
use Rattle.rx_typed.specs.Named.{Written, WrittenTypes, Pattern, Patterns, FieldPatterns, Exp, Exps, Else, Fields, Arms, Body, Statement, Statements, Parameter, Function, written_node, pattern_node, whole_binding, node_of, body_node, is_place, is_variable, root, never, body_never, else_never, some_diverges}
use Rattle.rx_typed.specs.Elaborated as elaborated
use Rattle.rx_typed.specs.Elaborated.{Assigned, Coercion, plain, reborrow, share, Met}
use Rattle.rx_typed.specs.Tree as tree
use Rattle.rx_exits_plan.specs.Blocks.{bound}
use Rattle.rx_exits_plan.specs.Occurrences.{Occurrence, the_variable, named_place, all_declared, occurrences, occurrences_in, occurrences_matched, occurrences_armed, occurrences_of}
use Rattle.rx_typeck_solver.specs.declared.facts.Broken.{Broken}
use Rattle.rx_typeck_solver.specs.declared.facts.Subject.{Subject}
use Rattle.rx_typeck_solver.specs.declared.facts.Subject.TheVariants as subject
use Rattle.rx_typeck_solver.specs.declared.facts.Op.{Op}
use Rattle.rx_typeck_solver.specs.declared.facts.Op.TheVariants as op
use Rattle.rx_typeck_solver.specs.declared.facts.Passing.{Passing}
use Rattle.rx_typeck_solver.specs.declared.facts.Fact.{Fact}
use Rattle.rx_typeck_solver.specs.declared.facts.Fact.TheVariants as fact
use Rattle.rx_typeck_solver.specs.declared.facts.Demand.{Demand}
use Rattle.rx_typeck_solver.specs.Facts.{Assignment, KnownItems, MeetsAll, MeetsEach}
use Rattle.rx_typeck_typed.specs.Asking.{Asking, ◌>>◌, nothing, asks, when, typed}
use Rattle.rx_typeck_typed.specs.Demands as rules
use Rattle.rx_hoist_naming.proofs.Claims.{Claims, OfWritten, OfWrittens, OfAnnotation, OfPattern, OfPatterns, OfFieldPatterns, IsPlaced, OfExp, OfExps, OfElse, OfFields, OfArms, OfBody, OfStatement, OfStatements, OfParameters, OfFunction}
use Rattle.rx_hoist_naming.proofs.Good.{GoodOp, GoodFact, GoodDemand, GoodDemands, every_append}
use Rattle.rx_hoist_naming.proofs.Occurring as occurring

module _ (C : Claims) (K : KnownItems) (A : Assignment) where
  abbrev pub T : Assigned
  T = record { items = K.items; typ = λ n. A (subject.Node n); expected = λ n. A (subject.Expected n) }

  -- an occurrence of a variable that there is
  abbrev pub V : Occurrence → Type 0
  V o = C.variable (the_variable o)

  -- ---- what is asked, and what holds where it is met

  pub record Asks (R : Type 0) (a : Asking) : Type 0 where
    pub more : List Demand
    pub adds : (ds : List Demand) → a ds ≡ ds ++ more
    pub good : GoodDemands C.item more
    pub gives : MeetsEach K A more → R

  abbrev pub U : Asking → Type 0
  U a = Asks (Unit {0}) a

  pub met_front : (x y : List Demand) → MeetsEach K A (x ++ y) → MeetsEach K A x
  met_front [] y h = tt
  met_front (d ∷ x) y h = (h.0, met_front x y h.1)

  pub met_behind : (x y : List Demand) → MeetsEach K A (x ++ y) → MeetsEach K A y
  met_behind [] y h = h
  met_behind (d ∷ x) y h = met_behind x y h.1

  pub asks_map : {R S : Type 0} {a : Asking} → (R → S) → Asks R a → Asks S a
  asks_map f x = record { more = x.more; adds = x.adds; good = x.good; gives = λ h. f (x.gives h) }

  pub quietly : {R : Type 0} {a : Asking} → Asks R a → U a
  quietly x = record { more = x.more; adds = x.adds; good = x.good; gives = λ h. tt }

  pub none : U nothing
  none = record { more = []; adds = λ ds. sym (append-nil ds); good = tt; gives = λ h. tt }

  pub both : {R S : Type 0} {a b : Asking} → Asks R a → Asks S b → Asks (R × S) (a >> b)
  both {a = a} {b = b} x y = record {
    more = x.more ++ y.more;
    adds = λ ds. y.adds (a ds) ∙ ap (λ (l : List Demand). l ++ y.more) (x.adds ds) ∙ append_assoc ds x.more y.more;
    good = every_append (GoodDemand C.item) x.more y.more x.good y.good;
    gives = λ h. (x.gives (met_front x.more y.more h), y.gives (met_behind x.more y.more h));
  }

  -- the first, the second, or none of what they give
  pub then_first : {R S : Type 0} {a b : Asking} → Asks R a → Asks S b → Asks R (a >> b)
  then_first x y = asks_map (λ h. h.0) (both x y)

  pub then_second : {R S : Type 0} {a b : Asking} → Asks R a → Asks S b → Asks S (a >> b)
  then_second x y = asks_map (λ h. h.1) (both x y)

  pub then_u : {R S : Type 0} {a b : Asking} → Asks R a → Asks S b → U (a >> b)
  then_u x y = quietly (both x y)

  pub one_asked : (n : Node) (b : Broken) (o : Bool) (fs : List Fact) → Every (GoodFact C.item) fs → Asks (MeetsAll K A fs) (asks n b o fs)
  one_asked n b o fs g = record { more = record { node = n.number; span = n.span; broken = b; unsuffixed = o; facts = fs } ∷ []; adds = λ ds. refl; good = (g, tt); gives = λ h. h.0 }

  -- one fact, that asks for no item
  pub asked : (n : Node) (b : Broken) (o : Bool) (f : Fact) → GoodFact C.item f → U (asks n b o (f ∷ []))
  asked n b o f g = quietly (one_asked n b o (f ∷ []) (g, tt))

  pub when_u : (b : Bool) (a : Asking) → U a → U (when b a)
  when_u true a x = x
  when_u false a x = none

  pub typed_good : (b : Bool) (f : Fact) → GoodFact C.item f → Every (GoodFact C.item) (typed b f)
  typed_good true f g = tt
  typed_good false f g = (g, tt)

  pub two_good : (fs gs : List Fact) → Every (GoodFact C.item) fs → Every (GoodFact C.item) gs → Every (GoodFact C.item) (fs ++ gs)
  two_good fs gs x y = every_append (GoodFact C.item) fs gs x y

  -- ---- types

  lifetimes_u : (n : Node) (i : ℕ) (l : Option ℕ) → U (rules.lifetimes_asked n i l)
  lifetimes_u n i None = none
  lifetimes_u n i (Some k) = asked n _ _ _ tt

  mutual
    type_u : (t : Written) → OfWritten C t → U (rules.of_type t)
    type_u (named.a_kind n k) h = asked n _ _ _ tt
    type_u (named.a_bool n) h = asked n _ _ _ tt
    type_u (named.a_tuple n ts) h = then_u (types_u ts h) (asked n _ _ _ tt)
    type_u (named.a_reference n m t) h = then_u (type_u t h) (asked n _ _ _ tt)
    type_u (named.an_item n i ls) h = then_u (lifetimes_u n i ls) (asked n _ _ _ h)

    types_u : (ts : WrittenTypes) → OfWrittens C ts → U (rules.of_types ts)
    types_u named.no_written h = none
    types_u (named.written_and t ts) h = then_u (type_u t h.0) (types_u ts h.1)

  pub whole_type_u : (t : Written) → OfWritten C t → U (rules.whole_type t)
  whole_type_u t h = then_u (type_u t h) (asked (written_node t) _ _ _ tt)

  -- ---- places and sites

  pub place_u : (n : Node) (x : ℕ) (ps : List Passing) (t : Site) → U (rules.place_in n x ps t)
  place_u n x ps Site.Value = asked n _ _ _ tt
  place_u n x ps Site.Place = none
  place_u n x ps Site.Scrutinee = none
  place_u n x ps Site.Expects = then_u (asked n _ _ _ tt) (then_u (asked n _ _ _ tt) (asked n _ _ _ tt))
  place_u n x ps Site.Initialises = then_u (asked n _ _ _ tt) (asked n _ _ _ tt)
  place_u n x ps Site.Reborrows = then_u (asked n _ _ _ tt) (then_u (asked n _ _ _ tt) (asked n _ _ _ tt))

  -- no place is wanted there
  abbrev pub NoPlace : Site → Type 0
  NoPlace t = t ≡ Site.Place → ⊥

  pub refused : (n : Node) (b : Broken) → Asks ⊥ (asks n b false (fact.Never ∷ []))
  refused n b = asks_map (λ h. h.0) (one_asked n b false (fact.Never ∷ []) (tt, tt))

  pub value_asks : (n : Node) (t : Site) → Asks (NoPlace t) (rules.value_in n t)
  value_asks n Site.Place = asks_map (λ h e. h) (refused n _)
  value_asks n Site.Expects = asks_map (λ h e. cc) (asked n _ _ _ tt)
  value_asks n Site.Initialises = asks_map (λ h e. cc) (asked n _ _ _ tt)
  value_asks n Site.Reborrows = asks_map (λ h e. cc) (asked n _ _ _ tt)
  value_asks n Site.Value = asks_map (λ h e. cc) none
  value_asks n Site.Scrutinee = asks_map (λ h e. cc) none

  pub never_asks : (n : Node) (t : Site) → Asks (NoPlace t) (rules.never_in n t)
  never_asks n Site.Place = asks_map (λ h e. h) (refused n _)
  never_asks n Site.Value = asks_map (λ h e. cc) none
  never_asks n Site.Scrutinee = asks_map (λ h e. cc) none
  never_asks n Site.Expects = asks_map (λ h e. cc) none
  never_asks n Site.Initialises = asks_map (λ h e. cc) none
  never_asks n Site.Reborrows = asks_map (λ h e. cc) none

  pub joins_asks : (n : Node) (t : Site) → Asks (NoPlace t) (rules.joins n t)
  joins_asks n Site.Place = asks_map (λ h e. h) (refused n _)
  joins_asks n Site.Value = asks_map (λ h e. cc) none
  joins_asks n Site.Scrutinee = asks_map (λ h e. cc) none
  joins_asks n Site.Reborrows = asks_map (λ h e. cc) (asked n _ _ _ tt)
  joins_asks n Site.Expects = asks_map (λ h e. cc) (asked n _ _ _ tt)
  joins_asks n Site.Initialises = asks_map (λ h e. cc) (asked n _ _ _ tt)

  pub join_asks : (n : Node) (v : Bool) → Asks (NoPlace n.site) (rules.join n v)
  join_asks n true = never_asks n n.site
  join_asks n false = joins_asks n n.site

  pub own_asks : (n : Node) (o : Op) (xs : List Subject) → GoodOp C.item o → Asks (NoPlace n.site) (rules.own n o xs)
  own_asks n o xs g = then_second (asked n _ _ _ g) (value_asks n n.site)

  pub assignable_u : (n : Node) (w : Bool) (x : Use) (ps : List Passing) → U (rules.assignable_at n w x ps)
  assignable_u n w x ps = when_u (not w) _ (asked n _ _ _ tt)

  pub borrowed_asks : (n : Node) (m : Bool) (e : Node) (x : Use) (ps : List Passing) → Asks (NoPlace n.site) (rules.borrowed n m e x ps)
  borrowed_asks n m e x ps = then_second (asked n _ _ _ tt) (then_second (asked n _ _ _ tt) (then_second (when_u m _ (asked n _ _ _ tt)) (value_asks n n.site)))

  -- ---- patterns

  binding_u : (n : Node) (anc : List Passing) (s : rules.Matched) → U (rules.binding_of n anc s)
  binding_u n anc rules.a_value = none
  binding_u n anc (rules.a_place x qs) = then_u (asked n _ _ _ tt) (asked n _ _ _ tt)
  binding_u n anc (rules.an_initialiser e x qs) = then_u (asked n _ _ _ tt) (asked n _ _ _ tt)

  bound_u : (s : rules.Matched) (anc : List Passing) (n : Node) (x : ℕ) (m : Bool) → U (rules.bound_at s anc n x m)
  bound_u s anc n x m = then_u (asked n _ _ _ tt) (then_u (asked n _ _ _ tt) (then_u (when_u m _ (asked n _ _ _ tt)) (binding_u n anc s)))

  literal_u : (n : Node) (g : Bool) (v : ℕ) (k : Option Kind) → U (rules.literal_at n g v k)
  literal_u n g v k = then_u (asked n _ _ _ tt) (then_u (when_u g _ (asked n _ _ _ tt)) (then_u (asked n _ _ _ tt) (asked n _ _ _ tt)))

  mutual
    pattern_u : (s : rules.Matched) (anc : List Passing) (p : Pattern) → OfPattern C p → U (rules.of_pattern s anc p)
    pattern_u s anc (named.wild n) h = none
    pattern_u s anc (named.bind n x m) h = bound_u s anc n x m
    pattern_u s anc (named.whole_number n g v k) h = literal_u n g v k
    pattern_u s anc (named.truth n b) h = asked n _ _ _ tt
    pattern_u s anc (named.tuple_pattern n ps) h = then_u (asked n _ _ _ tt) (parts_u s _ n 0 ps h)
    pattern_u s anc (named.variant_pattern n i v ps) h = then_u (asked n _ _ _ h.0) (then_u (asked n _ _ _ tt) (variant_parts_u s _ i v 0 ps h.1))
    pattern_u s anc (named.struct_pattern n i fs) h = then_u (asked n _ _ _ h.0) (then_u (asked n _ _ _ tt) (field_patterns_u s _ i fs h.1))

    parts_u : (s : rules.Matched) (anc : List Passing) (n : Node) (k : ℕ) (ps : Patterns) → OfPatterns C ps → U (rules.of_parts s anc n k ps)
    parts_u s anc n k named.no_pattern h = none
    parts_u s anc n k (named.pattern_and p ps) h = then_u (asked (pattern_node p) _ _ _ tt) (then_u (pattern_u s anc p h.0) (parts_u s anc n (suc k) ps h.1))

    variant_parts_u : (s : rules.Matched) (anc : List Passing) (i v k : ℕ) (ps : Patterns) → OfPatterns C ps → U (rules.of_variant_parts s anc i v k ps)
    variant_parts_u s anc i v k named.no_pattern h = none
    variant_parts_u s anc i v k (named.pattern_and p ps) h = then_u (asked (pattern_node p) _ _ _ tt) (then_u (pattern_u s anc p h.0) (variant_parts_u s anc i v (suc k) ps h.1))

    field_patterns_u : (s : rules.Matched) (anc : List Passing) (i : ℕ) (fs : FieldPatterns) → OfFieldPatterns C fs → U (rules.of_field_patterns s anc i fs)
    field_patterns_u s anc i named.no_field_pattern h = none
    field_patterns_u s anc i (named.field_pattern_and x p fs) h = then_u (asked (pattern_node p) _ _ _ tt) (then_u (pattern_u s anc p h.0) (field_patterns_u s anc i fs h.1))

  pub whole_u : (s : rules.Matched) (x : Subject) (p : Pattern) → OfPattern C p → U (rules.whole_pattern s x p)
  whole_u s x p h = then_u (asked (pattern_node p) _ _ _ tt) (pattern_u s [] p h)

  -- ---- pieces of expressions

  pub part_u : (n : Node) (v : Bool) (m : Node) → U (rules.as_part n v m)
  part_u n v m = when_u (not v) _ (asked n _ _ _ tt)

  pub before_u : (n : Node) (t : Site) (m : Node) → U (rules.part_before n t m)
  before_u n Site.Expects m = asked m _ _ _ tt
  before_u n Site.Initialises m = asked m _ _ _ tt
  before_u n Site.Value m = none
  before_u n Site.Place m = none
  before_u n Site.Scrutinee m = none
  before_u n Site.Reborrows m = none

  pub after_u : (n : Node) (t : Site) (v : Bool) (m : Node) → U (rules.part_after n t v m)
  after_u n Site.Expects v m = none
  after_u n Site.Initialises v m = none
  after_u n Site.Value v m = part_u n v m
  after_u n Site.Place v m = part_u n v m
  after_u n Site.Scrutinee v m = part_u n v m
  after_u n Site.Reborrows v m = part_u n v m

  pub tested_u : (n : Node) (v : Bool) → U (rules.tested n v)
  tested_u n v = when_u (not v) _ (asked n _ _ _ tt)

  pub printed_u : (n : Node) (v : Bool) → U (rules.printed n v)
  printed_u n v = when_u (not v) _ (asked n _ _ _ tt)

  pub unit_u : (n : Node) (v : Bool) → U (rules.nothing_given n v)
  unit_u n v = when_u (not v) _ (asked n _ _ _ tt)

  pub not_never_u : (n : Node) (v : Bool) → U (rules.not_never n v)
  not_never_u n v = when_u v _ (asked n _ _ _ tt)

  equality_asks : (n a : Node) (x : Bool) (b : Node) (y : Bool) → Asks (NoPlace n.site) (rules.equality n a x b y)
  equality_asks n a x b y = then_second (one_asked n _ _ _ (two_good (rules.plain_operand a x ++ rules.plain_operand b y) (rules.same_operands a x b y)
      (two_good (rules.plain_operand a x) (rules.plain_operand b y) (typed_good x _ tt) (typed_good y _ tt)) (typed_good (x || y) _ tt))) (own_asks n op.Truth [] tt)

  order_asks : (n a : Node) (x : Bool) (b : Node) (y : Bool) → Asks (NoPlace n.site) (rules.order n a x b y)
  order_asks n a x b y = then_second (one_asked n _ _ _ (two_good (rules.integer_operand a x ++ rules.integer_operand b y) (rules.same_operands a x b y)
      (two_good (rules.integer_operand a x) (rules.integer_operand b y) (typed_good x _ tt) (typed_good y _ tt)) (typed_good (x || y) _ tt))) (own_asks n op.Truth [] tt)

  lazy_asks : (n a : Node) (x : Bool) (b : Node) (y : Bool) → Asks (NoPlace n.site) (rules.lazy n a x b y)
  lazy_asks n a x b y = then_second (one_asked n _ _ _ (two_good (rules.truth_operand a x) (rules.truth_operand b y) (typed_good x _ tt) (typed_good y _ tt))) (own_asks n op.Truth [] tt)

  arithmetic_asks : (n a : Node) (x : Bool) (b : Node) (y : Bool) → Asks (NoPlace n.site) (rules.arithmetic n a x b y)
  arithmetic_asks n a x b y = then_second (one_asked n _ _ _ (two_good (rules.own_operand n a x ++ rules.own_operand n b y) (fact.Integer n.number _ ∷ [])
      (two_good (rules.own_operand n a x) (rules.own_operand n b y) (typed_good x _ tt) (typed_good y _ tt)) (tt, tt))) (value_asks n n.site)

  pub operation_asks : (o : BinaryOp) (n a : Node) (x : Bool) (b : Node) (y : Bool) → Asks (NoPlace n.site) (rules.operation o n a x b y)
  operation_asks BinaryOp.Or n a x b y = lazy_asks n a x b y
  operation_asks BinaryOp.And n a x b y = lazy_asks n a x b y
  operation_asks BinaryOp.Eq n a x b y = equality_asks n a x b y
  operation_asks BinaryOp.Ne n a x b y = equality_asks n a x b y
  operation_asks BinaryOp.Lt n a x b y = order_asks n a x b y
  operation_asks BinaryOp.Le n a x b y = order_asks n a x b y
  operation_asks BinaryOp.Gt n a x b y = order_asks n a x b y
  operation_asks BinaryOp.Ge n a x b y = order_asks n a x b y
  operation_asks _ n a x b y = arithmetic_asks n a x b y

  pub updated_u : (n a : Node) (x : Bool) (b : Node) (y : Bool) → U (rules.updated n a x b y)
  updated_u n a x b y = quietly (one_asked n _ _ _ (two_good (rules.integer_operand a x ++ rules.integer_operand b y) (rules.same_operands a x b y)
      (two_good (rules.integer_operand a x) (rules.integer_operand b y) (typed_good x _ tt) (typed_good y _ tt)) (typed_good (x || y) _ tt)))

  pub negated_asks : (n a : Node) (x : Bool) → Asks (NoPlace n.site) (rules.negated n a x)
  negated_asks n a x = then_second (one_asked n _ _ _ (two_good (rules.own_operand n a x) (fact.Integer n.number _ ∷ []) (typed_good x _ tt) (tt, tt))) (value_asks n n.site)

  pub inverted_asks : (n a : Node) (x : Bool) → Asks (NoPlace n.site) (rules.inverted n a x)
  inverted_asks n a x = then_second (one_asked n _ _ _ (typed_good x _ tt)) (own_asks n op.Truth [] tt)

  pub named_u : (n : Node) (x : Use) (k : Bool) → U (rules.named_at n x k)
  named_u n x true = asked n _ _ _ tt
  named_u n x false = asked n _ _ _ tt

  fits_given_u : (x : ℕ) (e : Node) (v : Bool) → U (rules.fits_given x e v)
  fits_given_u x e true = none
  fits_given_u x e false = asked e _ _ _ tt

  pub given_u : (n p : Node) (x : Use) (d : Option ℕ) (e : Node) (v : Bool) → U (rules.given n p x d e v)
  given_u n p x (Some d) e v = then_u (not_never_u e v) (then_u (asked n _ _ _ tt) (quietly (one_asked p _ _ _ (tt, (tt, tt)))))
  given_u n p x None e v = then_u (named_u p x x.known) (fits_given_u x.number e v)

  pub returns_u : (f : ℕ) (n : Node) (o : Else) → U (rules.returns_unit f n o)
  returns_u f n named.absent = asked n _ _ _ tt
  returns_u f n (named.present e) = asked (node_of e) _ _ _ tt

  pub branch_before_u : (n : Node) (o : Else) (b : Body) → U (rules.branch_before n o b)
  branch_before_u n named.absent b = none
  branch_before_u n (named.present e) b = before_u n n.site (body_node b)

  -- an `if` is no place, whether it has one branch or two
  abbrev pub OnePart : Node → Else → Type 0
  OnePart n named.absent = NoPlace n.site
  OnePart n (named.present e) = Unit {0}

  abbrev pub TwoParts : Node → Else → Type 0
  TwoParts n named.absent = Unit {0}
  TwoParts n (named.present e) = NoPlace n.site

  pub branch_after_asks : (n : Node) (o : Else) (b : Body) → Asks (OnePart n o) (rules.branch_after n o b)
  branch_after_asks n named.absent b = then_second (unit_u (body_node b) (body_never b)) (own_asks n op.Unit [] tt)
  branch_after_asks n (named.present e) b = after_u n n.site (body_never b) (body_node b)

  pub if_joins_asks : (n : Node) (o : Else) (v : Bool) → Asks (TwoParts n o) (rules.if_joins n o v)
  if_joins_asks n named.absent v = none
  if_joins_asks n (named.present e) v = join_asks n v

  pub no_if_place : (n : Node) (o : Else) → OnePart n o → TwoParts n o → NoPlace n.site
  no_if_place n named.absent a b = a
  no_if_place n (named.present e) a b = b

  pub one_variable_u : (n : Node) (o : Option ℕ) → U (rules.one_variable_at n o)
  one_variable_u n (Some x) = none
  one_variable_u n None = asked n _ _ _ tt

  pub declared_u : (p : Pattern) (t : Option Written) → OfPattern C p → OfAnnotation C t → U (rules.declared p t)
  declared_u p None h g = one_variable_u (pattern_node p) (whole_binding p)
  declared_u p (Some t) h g = then_u (whole_type_u t g) (whole_u rules.a_value _ p h)

  pub typed_before_u : (t : Option Written) (e : Exp) → OfAnnotation C t → U (rules.typed_before t e)
  typed_before_u None e g = none
  typed_before_u (Some t) e g = then_u (whole_type_u t g) (asked (node_of e) _ _ _ tt)

  initialised_by_u : (v : Bool) (p : Pattern) (s : rules.Matched) (n : Node) → OfPattern C p → U (rules.initialised_by v p s n)
  initialised_by_u true p s n h = one_variable_u (pattern_node p) (whole_binding p)
  initialised_by_u false p s n h = whole_u s _ p h

  pub initialised_u : (p : Pattern) (t : Option Written) (e : Exp) → OfPattern C p → U (rules.initialised p t e)
  initialised_u p None e h = initialised_by_u (never e) p (rules.matched e) (node_of e) h
  initialised_u p (Some t) e h = whole_u (rules.matched e) _ p h

  pub evaluated_u : (s : Bool) (n : Node) (v : Bool) → U (rules.evaluated s n v)
  evaluated_u true n v = none
  evaluated_u false n v = unit_u n v

  pub tail_before_u : (n : Node) (o : Else) → U (rules.tail_before n o)
  tail_before_u n named.absent = none
  tail_before_u n (named.present e) = before_u n n.site (node_of e)

  pub tail_after_u : (n : Node) (d : Bool) (o : Else) → U (rules.tail_after n d o)
  tail_after_u n d named.absent = unit_u n d
  tail_after_u n d (named.present e) = after_u n n.site (never e) (node_of e)

  pub loop_asks : (n : Node) (k : Bool) → Asks (NoPlace n.site) (rules.loop_given n k)
  loop_asks n true = own_asks n op.Unit [] tt
  loop_asks n false = never_asks n n.site

  pub each_before_u : (w : rules.Listed) (k : ℕ) (n : Node) → U (rules.each_before w k n)
  each_before_u rules.members k n = none
  each_before_u rules.values k n = none
  each_before_u (rules.parameters g) k n = asked n _ _ _ tt
  each_before_u (rules.parts_of i v) k n = asked n _ _ _ tt

  pub each_after_u : (w : rules.Listed) (e : Exp) → U (rules.each_after w e)
  each_after_u rules.members e = not_never_u (node_of e) (never e)
  each_after_u rules.values e = none
  each_after_u (rules.parameters g) e = none
  each_after_u (rules.parts_of i v) e = none

  pub integer_asks : (n : Node) (m : Bool) (v : ℕ) (k : Option Kind) → Asks (NoPlace n.site) (rules.integer_at n m v k)
  integer_asks n m v k = then_second (asked n _ _ _ tt) (then_first (value_asks n n.site) (asked n _ _ _ tt))

  -- ---- what expressions give

  pub record Gives (e : Exp) : Type 0 where
    pub placed : IsPlaced e → is_place e ≡ true
    pub place : is_place e ≡ true → Every V (named_place (elaborated.place T e))
    pub value : Every V (occurrences (elaborated.value T e))

  no_place : (e : Exp) → is_place e ≡ false → NoPlace (node_of e).site → Every V (occurrences (elaborated.value T e)) → Gives e
  no_place e is f h = record { placed = λ p. absurd (f p); place = λ q. absurd (cc); value = h }

  a_place : (e : Exp) (n : Node) → is_place e ≡ true → elaborated.value T e ≡ elaborated.place_value T n (elaborated.place T e) → Every V (named_place (elaborated.place T e)) → Gives e
  a_place e n is same h = record {
    placed = λ p. is;
    place = λ q. h;
    value = subst (λ (x : tree.Exp). Every V (occurrences x)) (sym same) (occurring.reads C T n (elaborated.coercion_at T n) (elaborated.place T e) h);
  }

  -- where a place is wanted
  root_of : (e : Exp) → IsPlaced e → Gives e → Every V (named_place (elaborated.place T e))
  root_of e p g = g.place (g.placed p)

  abbrev pub GivesElse : Else → Type 0
  GivesElse named.absent = Unit {0}
  GivesElse (named.present e) = Every V (occurrences (elaborated.value T e))

  otherwise_gives : (n : Node) (o : Else) → GivesElse o → Every V (occurrences (elaborated.otherwise T n o))
  otherwise_gives n named.absent h = tt
  otherwise_gives n (named.present e) h = h

  returned_gives : (n : Node) (o : Else) → GivesElse o → Every V (occurrences (elaborated.returned T n o))
  returned_gives n named.absent h = tt
  returned_gives n (named.present e) h = h

  tail_gives : (n : Node) (o : Else) → GivesElse o → Every V (occurrences (elaborated.tail T n o))
  tail_gives n named.absent h = tt
  tail_gives n (named.present e) h = h

  pub record GivesBody (b : Body) : Type 0 where
    pub value : Every V (occurrences (elaborated.body T b))
    pub whole : Every V (occurrences (elaborated.function_body T b))

  abbrev GivesStatement : Statement → Type 0
  GivesStatement a = (rest : tree.Body) → Every V (occurrences_of rest) → Every V (occurrences_of (elaborated.statement T a rest))

  abbrev GivesStatements : Statements → Type 0
  GivesStatements ss = (last : tree.Exp) → Every V (occurrences last) → Every V (occurrences_of (elaborated.nested T ss last))

  abbrev matched_gives : (e : Exp) → Gives e → Every V (occurrences_matched (elaborated.matched T e (elaborated.value T e)))
  matched_gives e g = occurring.matches C T (is_place e) (elaborated.coercion_at T (node_of e)) e (elaborated.value T e) g.place g.value

  -- the branches of an `if`
  record Branches (n : Node) (b : Body) (o : Else) : Type 0 where
    first : Every V (occurrences (elaborated.body T b))
    second : GivesElse o
    outside : NoPlace n.site

  branches : (f : ℕ) (n : Node) (b : Body) (o : Else) → Asks (GivesBody b) (rules.of_body f b) → Asks (GivesElse o) (rules.of_else f n o) → Asks (Branches n b o) (rules.of_branches f n (b, o))
  branches f n b o x y =
      asks_map (λ h. record { first = h.0.value; second = h.1.1.0; outside = no_if_place n o h.1.0 h.1.1.1 })
      (then_second (branch_before_u n o b) (both x (both (branch_after_asks n o b) (both y (if_joins_asks n o (body_never b && else_never o))))))

  mutual
    exp_asks : (f : ℕ) (e : Exp) → OfExp C e → Asks (Gives e) (rules.of_exp f e)
    exp_asks f (named.int n m v k) h = asks_map (λ p. no_place (named.int n m v k) refl p tt) (integer_asks n m v k)
    exp_asks f (named.bool n b) h = asks_map (λ p. no_place (named.bool n b) refl p tt) (own_asks n op.Truth [] tt)
    exp_asks f (named.tuple n es) h =
        asks_map (λ g. no_place (named.tuple n es) refl g.1.0 (occurring.tuples C T n (elaborated.operands T 0 es) g.0))
        (both (each_asks f rules.members 0 es h) (both (own_asks n op.Tuple _ tt) (asked n _ _ _ tt)))
    exp_asks f (named.var n x) h = asks_map (λ _. a_place (named.var n x) n refl refl (h, tt)) (then_u (named_u n x x.known) (place_u n _ _ n.site))
    exp_asks f (named.field n e x) h = asks_map (λ g. a_place (named.field n e x) n refl refl (root_of e h.1 g)) (then_first (exp_asks f e h.0) (then_u (asked n _ _ _ tt) (place_u n _ _ n.site)))
    exp_asks f (named.part n e i) h = asks_map (λ g. a_place (named.part n e i) n refl refl (root_of e h.1 g)) (then_first (exp_asks f e h.0) (then_u (asked n _ _ _ tt) (place_u n _ _ n.site)))
    exp_asks f (named.deref n e) h = asks_map (λ g. a_place (named.deref n e) n refl refl (root_of e h.1 g)) (then_first (exp_asks f e h.0) (then_u (asked n _ _ _ tt) (place_u n _ _ n.site)))
    exp_asks f (named.negate n e) h = asks_map (λ g. no_place (named.negate n e) refl g.1 (occurring.one C T (elaborated.value T e) g.0.value)) (both (exp_asks f e h) (negated_asks n (node_of e) (never e)))
    exp_asks f (named.invert n e) h = asks_map (λ g. no_place (named.invert n e) refl g.1 (occurring.one C T (elaborated.value T e) g.0.value)) (both (exp_asks f e h) (inverted_asks n (node_of e) (never e)))
    exp_asks f (named.borrow n m e) h =
        asks_map (λ g. no_place (named.borrow n m e) refl g.1 (occurring.passes_on C T n (elaborated.coercion_at T n) (tree.borrow (elaborated.mark T n) m (elaborated.place T e)) (root_of e h.1 g.0)))
        (both (exp_asks f e h.0) (borrowed_asks n m (node_of e) (root e) _))
    exp_asks f (named.binary n o a b) h =
        asks_map (λ g. no_place (named.binary n o a b) refl g.1.1 (occurring.operates C T n o (elaborated.value T a) (elaborated.value T b) g.0.value g.1.0.value))
        (both (exp_asks f a h.0) (both (exp_asks f b h.1) (operation_asks o n (node_of a) (never a) (node_of b) (never b))))
    exp_asks f (named.assign n p e) h =
        asks_map (λ g. no_place (named.assign n p e) refl g.1.1.1 (every_append V (named_place (elaborated.place T p)) (occurrences (elaborated.value T e)) (root_of p h.0.1 g.0) g.1.1.0.value))
        (both (exp_asks f p h.0.0) (both (asked (node_of e) _ _ _ tt) (both (exp_asks f e h.1) (then_second (assignable_u n (is_variable p) (root p) _) (own_asks n op.Unit [] tt)))))
    exp_asks f (named.gives n p x d e) h =
        asks_map (λ g. no_place (named.gives n p x d e) refl g.1 (h.0, g.0.value))
        (both (exp_asks f e h.1) (then_second (given_u n p x d (node_of e) (never e)) (own_asks n op.Unit [] tt)))
    exp_asks f (named.update n o p e) h =
        asks_map (λ g. no_place (named.update n o p e) refl g.1.1 (every_append V (named_place (elaborated.place T p)) (occurrences (elaborated.value T e)) (root_of p h.0.1 g.0) g.1.0.value))
        (both (exp_asks f p h.0.0) (both (exp_asks f e h.1) (then_second (updated_u n (node_of p) (never p) (node_of e) (never e)) (then_second (assignable_u n (is_variable p) (root p) _) (own_asks n op.Unit [] tt)))))
    exp_asks f (named.call n g es) h =
        asks_map (λ x. no_place (named.call n g es) refl x.1 (occurring.passes_on C T n (elaborated.coercion_at T n) (tree.call (elaborated.mark T n) g (elaborated.operands T 0 es)) x.0))
        (then_second (asked n _ _ _ tt) (both (each_asks f (rules.parameters g) 0 es h) (own_asks n (op.Result g) [] tt)))
    exp_asks f (named.hidden_call n es) h = asks_map (λ g. absurd g) (then_first (refused n _) (each_asks f rules.values 0 es h))
    exp_asks f (named.next_input n) h = asks_map (λ p. no_place (named.next_input n) refl p tt) (own_asks n (op.Integer Kind.I64) [] tt)
    exp_asks f (named.variant n i v es) h =
        asks_map (λ x. no_place (named.variant n i v es) refl x.1 x.0)
        (then_second (asked n _ _ _ tt) (both (each_asks f (rules.parts_of i v) 0 es h.1) (own_asks n (op.Item i) [] h.0)))
    exp_asks f (named.make n i fs) h =
        asks_map (λ x. no_place (named.make n i fs) refl x.1 x.0)
        (then_second (asked n _ _ _ tt) (both (fields_asks f i fs h.1) (own_asks n (op.Item i) [] h.0)))
    exp_asks f (named.print n e) h = asks_map (λ g. no_place (named.print n e) refl g.1 g.0.value) (both (exp_asks f e h) (then_second (printed_u (node_of e) (never e)) (own_asks n op.Unit [] tt)))
    exp_asks f (named.block n b) h =
        asks_map (λ g. no_place (named.block n b) refl g.1 g.0.value)
        (then_second (before_u n n.site (body_node b)) (both (body_asks f b h) (then_second (after_u n n.site (body_never b) (body_node b)) (join_asks n (body_never b)))))
    exp_asks f (named.if n c b o) h =
        asks_map (λ g. no_place (named.if n c b o) refl g.1.outside (occurring.tests C T n (elaborated.value T c) (elaborated.mark_if T n (body_never b && else_never o)) (elaborated.body T b) (elaborated.otherwise T n o)
        g.0.value g.1.first (otherwise_gives n o g.1.second)))
        (both (exp_asks f c h.0) (then_second (tested_u (node_of c) (never c)) (branches f n b o (body_asks f b h.1) (else_asks f n o h.2))))
    exp_asks f (named.if_let n p e b o) h =
        asks_map (λ g. no_place (named.if_let n p e b o) refl g.1.outside (occurring.looks C T (elaborated.mark_if T n (body_never b && else_never o)) (elaborated.matched T e (elaborated.value T e)) (elaborated.pattern T None p)
        (elaborated.body T b) (elaborated.otherwise T n o) (matched_gives e g.0) (occurring.declares C T None p h.0) g.1.first (otherwise_gives n o g.1.second)))
        (both (exp_asks f e h.1) (then_second (not_never_u (node_of e) (never e)) (then_second (whole_u (rules.matched e) _ p h.0) (branches f n b o (body_asks f b h.2) (else_asks f n o h.3)))))
    exp_asks f (named.match n e l) h =
        asks_map (λ g. no_place (named.match n e l) refl g.1.1 (every_append V (occurrences_matched (elaborated.matched T e (elaborated.value T e))) (occurrences_armed (elaborated.arms T l)) (matched_gives e g.0) g.1.0))
        (both (exp_asks f e h.0) (then_second (not_never_u (node_of e) (never e)) (both (arms_asks f n (rules.matched e) (node_of e) l h.1) (join_asks n (named.all_never l)))))
    exp_asks f (named.loop n l k b) h = asks_map (λ g. no_place (named.loop n l k b) refl g.1 g.0.value) (both (body_asks f b h) (then_second (unit_u (body_node b) (body_never b)) (loop_asks n k)))
    exp_asks f (named.while n l c b) h =
        asks_map (λ g. no_place (named.while n l c b) refl g.1.1 (occurring.tests C T n (elaborated.value T c) (elaborated.mark_if T (body_node b) (body_never b)) (elaborated.body T b) (elaborated.leaves n l) g.0.value g.1.0.value tt))
        (both (exp_asks f c h.0) (then_second (tested_u (node_of c) (never c)) (both (body_asks f b h.1) (then_second (unit_u (body_node b) (body_never b)) (own_asks n op.Unit [] tt)))))
    exp_asks f (named.while_let n l p e b) h =
        asks_map (λ g. no_place (named.while_let n l p e b) refl g.1.1 (occurring.looks C T (elaborated.mark_if T (body_node b) (body_never b)) (elaborated.matched T e (elaborated.value T e)) (elaborated.pattern T None p)
        (elaborated.body T b) (elaborated.leaves n l) (matched_gives e g.0) (occurring.declares C T None p h.0) g.1.0.value tt))
        (both (exp_asks f e h.1) (then_second (not_never_u (node_of e) (never e)) (then_second (whole_u (rules.matched e) _ p h.0) (both (body_asks f b h.2) (then_second (unit_u (body_node b) (body_never b)) (own_asks n op.Unit [] tt))))))
    exp_asks f (named.break n l) h = asks_map (λ p. no_place (named.break n l) refl p tt) (never_asks n n.site)
    exp_asks f (named.continue n l) h = asks_map (λ p. no_place (named.continue n l) refl p tt) (never_asks n n.site)
    exp_asks f (named.return n o) h =
        asks_map (λ g. no_place (named.return n o) refl g.1 (returned_gives n o g.0)) (then_second (returns_u f n o) (both (returned_asks f o h) (never_asks n n.site)))

    each_asks : (f : ℕ) (w : rules.Listed) (k : ℕ) (es : Exps) → OfExps C es → Asks (Every V (occurrences_in (elaborated.operands T k es))) (rules.of_each f w k es)
    each_asks f w k named.no_exp h = none
    each_asks f w k (named.exp_and e es) h =
        asks_map (λ g. every_append V (occurrences (elaborated.value T e)) (occurrences_in (elaborated.operands T (suc k) es)) g.0.value g.1)
        (then_second (each_before_u w k (node_of e)) (both (exp_asks f e h.0) (then_second (each_after_u w e) (each_asks f w (suc k) es h.1))))

    fields_asks : (f i : ℕ) (fs : Fields) → OfFields C fs → Asks (Every V (occurrences_in (elaborated.fields T i fs))) (rules.of_fields f i fs)
    fields_asks f i named.no_field h = none
    fields_asks f i (named.field_and x e fs) h =
        asks_map (λ g. every_append V (occurrences (elaborated.value T e)) (occurrences_in (elaborated.fields T i fs)) g.0.value g.1)
        (then_second (asked (node_of e) _ _ _ tt) (both (exp_asks f e h.0) (fields_asks f i fs h.1)))

    else_asks : (f : ℕ) (n : Node) (o : Else) → OfElse C o → Asks (GivesElse o) (rules.of_else f n o)
    else_asks f n named.absent h = none
    else_asks f n (named.present e) h = asks_map (λ g. g.value) (then_second (before_u n n.site (node_of e)) (then_first (exp_asks f e h) (after_u n n.site (never e) (node_of e))))

    returned_asks : (f : ℕ) (o : Else) → OfElse C o → Asks (GivesElse o) (rules.of_returned f o)
    returned_asks f named.absent h = none
    returned_asks f (named.present e) h = asks_map (λ g. g.value) (exp_asks f e h)

    arms_asks : (f : ℕ) (n : Node) (s : rules.Matched) (m : Node) (l : Arms) → OfArms C l → Asks (Every V (occurrences_armed (elaborated.arms T l))) (rules.of_arms f n s m l)
    arms_asks f n s m named.no_arm h = none
    arms_asks f n s m (named.arm_and p e l) h =
        asks_map (λ g. every_append V (all_declared (bound (elaborated.pattern T None p))) (occurrences (elaborated.value T e) ++ occurrences_armed (elaborated.arms T l)) (occurring.declares C T None p h.0)
        (every_append V (occurrences (elaborated.value T e)) (occurrences_armed (elaborated.arms T l)) g.0.value g.1))
        (then_second (whole_u s _ p h.0) (then_second (before_u n n.site (node_of e)) (both (exp_asks f e h.1) (then_second (after_u n n.site (never e) (node_of e)) (arms_asks f n s m l h.2)))))

    pub body_asks : (f : ℕ) (b : Body) → OfBody C b → Asks (GivesBody b) (rules.of_body f b)
    body_asks f (named.body n ss o) h =
        asks_map (λ g. record { value = g.0 (elaborated.tail T n o) (tail_gives n o g.1); whole = g.0 (tree.give (elaborated.no_mark n) (elaborated.tail T n o)) (tail_gives n o g.1) })
        (both (statements_asks f ss h.0) (then_second (tail_before_u n o) (then_first (returned_asks f o h.1)
        (then_u (tail_after_u n (some_diverges ss) o) (join_asks n (named.tail_never (some_diverges ss) o))))))

    statement_asks : (f : ℕ) (x : Statement) → OfStatement C x → Asks (GivesStatement x) (rules.of_statement f x)
    statement_asks f (named.declares n p t) h =
        asks_map (λ _ rest r. every_append V (all_declared (elaborated.variables p)) (occurrences_of rest) (occurring.begins C T p h.0) r) (declared_u p t h.0 h.1)
    statement_asks f (named.lets n p t e) h =
        asks_map (λ g rest r. every_append V (all_declared (bound (elaborated.pattern T None p))) (occurrences_matched (elaborated.matched T e (elaborated.value T e)) ++ occurrences_of rest) (occurring.declares C T None p h.0)
        (every_append V (occurrences_matched (elaborated.matched T e (elaborated.value T e))) (occurrences_of rest) (matched_gives e g) r))
        (then_second (typed_before_u t e h.1) (then_first (exp_asks f e h.2) (initialised_u p t e h.0)))
    statement_asks f (named.evaluates n e s) h = asks_map (λ g rest r. every_append V (occurrences (elaborated.value T e)) (occurrences_of rest) g.value r) (then_first (exp_asks f e h) (evaluated_u s (node_of e) (never e)))

    statements_asks : (f : ℕ) (ss : Statements) → OfStatements C ss → Asks (GivesStatements ss) (rules.of_statements f ss)
    statements_asks f named.no_statement h = asks_map (λ _ last r. r) none
    statements_asks f (named.statement_and a ss) h = asks_map (λ g last r. g.0 (elaborated.nested T ss last) (g.1 last r)) (both (statement_asks f a h.0) (statements_asks f ss h.1))

  -- ---- functions

  pub never_given_u : (ns : List Node) → U (rules.of_never_given ns)
  never_given_u [] = none
  never_given_u (n ∷ ns) = then_u (asked n _ _ _ tt) (never_given_u ns)

  pub parameters_u : (xs : List Parameter) → OfParameters C xs → U (rules.of_parameters xs)
  parameters_u [] h = none
  parameters_u (x ∷ xs) h = then_u (then_u (whole_type_u x.typ h.0.1) (asked (written_node x.typ) _ _ _ tt)) (parameters_u xs h.1)

  pub result_u : (t : Option Written) → OfAnnotation C t → U (rules.of_result t)
  result_u None h = none
  result_u (Some t) h = whole_type_u t h

  function_asks : (F : Function) → OfFunction C F → Asks (GivesBody F.body) (rules.of_function F)
  function_asks F h = then_second (parameters_u F.params h.params) (then_second (result_u F.result h.result) (then_second (asked (body_node F.body) _ _ _ tt) (then_first (body_asks F.item F.body h.body) (never_given_u F.never_given))))

  -- what is asked of it speaks of structs and enums alone; where it is met, its typed tree names variables that there are
  pub function_good : (F : Function) → OfFunction C F → GoodDemands C.item (rules.demands F)
  function_good F h = let x = function_asks F h in subst (GoodDemands C.item) (sym (x.adds [])) x.good

  pub function_occurs : (F : Function) → OfFunction C F → MeetsEach K A (rules.demands F) → Every V (occurrences (elaborated.elaborated T F).body)
  function_occurs F h met = let x = function_asks F h in (x.gives (subst (λ (l : List Demand). MeetsEach K A l) (x.adds []) met)).whole
