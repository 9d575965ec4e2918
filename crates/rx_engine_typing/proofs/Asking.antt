-- What the rules of types ask, one piece behind the other, and what holds where it is met.
use Rattle.std.proofs.Common.{◌≡◌, ℕ, Bool, true, false, not, List, [], ◌∷◌, ◌++◌, Option, Some, None, refl, sym, ap, ◌∙◌, append_assoc, append-nil}
use Rattle.rx_core.specs.declared.types.Kind.{Kind}
use Rattle.rx_tree.specs.declared.tree.BinaryOp.{BinaryOp}
use Rattle.rx_typed.specs.declared.nodes.Node.{Node}
use Rattle.rx_typed.specs.declared.nodes.Site.{Site}
use Rattle.rx_typed.specs.declared.nodes.Use.{Use}
use Rattle.rx_typed.specs.Named as named
use Rattle.rx_typed.specs.Named.{Written, WrittenTypes, Pattern, Patterns, FieldPatterns, Exp, Exps, Else, Fields, Arms, Body, Statement, Statements, Parameter, Function, written_node, pattern_node, whole_binding, node_of, body_node, is_place, is_variable, root, never, body_never, else_never, some_diverges}
use Rattle.rx_typeck_solver.specs.declared.facts.Broken.{Broken}
use Rattle.rx_typeck_solver.specs.declared.facts.Subject.{Subject}
use Rattle.rx_typeck_solver.specs.declared.facts.Op.{Op}
use Rattle.rx_typeck_solver.specs.declared.facts.Op.TheVariants as op
use Rattle.rx_typeck_solver.specs.declared.facts.Passing.{Passing}
use Rattle.rx_typeck_solver.specs.declared.facts.Fact.{Fact}
use Rattle.rx_typeck_solver.specs.declared.facts.Fact.TheVariants as fact
use Rattle.rx_typeck_solver.specs.declared.facts.Demand.{Demand}
use Rattle.rx_typeck_solver.specs.Facts.{Assignment, KnownItems, MeetsAll, MeetsEach}
use Rattle.rx_typeck_typed.specs.Asking.{Asking, ◌>>◌, nothing, asks, when}
use Rattle.rx_typeck_typed.specs.Demands as rules

pub record Asks (K : KnownItems) (A : Assignment) (R : Type 0) (a : Asking) : Type 0 where
  pub more : List Demand
  pub adds : (ds : List Demand) → a ds ≡ ds ++ more
  pub gives : MeetsEach K A more → R

abbrev pub U : KnownItems → Assignment → Asking → Type 0
U K A a = Asks K A (Unit {0}) a

pub met_front : (K : KnownItems) (A : Assignment) (x y : List Demand) → MeetsEach K A (x ++ y) → MeetsEach K A x
met_front K A [] y h = tt
met_front K A (d ∷ x) y h = (h.0, met_front K A x y h.1)

pub met_behind : (K : KnownItems) (A : Assignment) (x y : List Demand) → MeetsEach K A (x ++ y) → MeetsEach K A y
met_behind K A [] y h = h
met_behind K A (d ∷ x) y h = met_behind K A x y h.1

-- no place is wanted there
abbrev pub NoPlace : Site → Type 0
NoPlace t = t ≡ Site.Place → ⊥

-- an `if` is no place, whether it has one branch or two
abbrev pub OnePart : Node → Else → Type 0
OnePart n named.absent = NoPlace n.site
OnePart n (named.present e) = Unit {0}

abbrev pub TwoParts : Node → Else → Type 0
TwoParts n named.absent = Unit {0}
TwoParts n (named.present e) = NoPlace n.site

pub no_if_place : (n : Node) (o : Else) → OnePart n o → TwoParts n o → NoPlace n.site
no_if_place n named.absent a b = a
no_if_place n (named.present e) a b = b

module _ {K : KnownItems} {A : Assignment} where
  pub asks_map : {R S : Type 0} {a : Asking} → (R → S) → Asks K A R a → Asks K A S a
  asks_map f x = record { more = x.more; adds = x.adds; gives = λ h. f (x.gives h) }

  pub quietly : {R : Type 0} {a : Asking} → Asks K A R a → U K A a
  quietly x = record { more = x.more; adds = x.adds; gives = λ h. tt }

  pub none : U K A nothing
  none = record { more = []; adds = λ ds. sym (append-nil ds); gives = λ h. tt }

  pub both : {R S : Type 0} {a b : Asking} → Asks K A R a → Asks K A S b → Asks K A (R × S) (a >> b)
  both {a = a} {b = b} x y = record {
    more = x.more ++ y.more;
    adds = λ ds. y.adds (a ds) ∙ ap (λ (l : List Demand). l ++ y.more) (x.adds ds) ∙ append_assoc ds x.more y.more;
    gives = λ h. (x.gives (met_front K A x.more y.more h), y.gives (met_behind K A x.more y.more h));
  }

  -- the first, the second, or none of what they give
  pub then_first : {R S : Type 0} {a b : Asking} → Asks K A R a → Asks K A S b → Asks K A R (a >> b)
  then_first x y = asks_map (λ h. h.0) (both x y)

  pub then_second : {R S : Type 0} {a b : Asking} → Asks K A R a → Asks K A S b → Asks K A S (a >> b)
  then_second x y = asks_map (λ h. h.1) (both x y)

  pub then_u : {R S : Type 0} {a b : Asking} → Asks K A R a → Asks K A S b → U K A (a >> b)
  then_u x y = quietly (both x y)

  pub one_asked : (n : Node) (b : Broken) (o : Bool) (fs : List Fact) → Asks K A (MeetsAll K A fs) (asks n b o fs)
  one_asked n b o fs = record { more = record { node = n.number; span = n.span; broken = b; unsuffixed = o; facts = fs } ∷ []; adds = λ ds. refl; gives = λ h. h.0 }

  pub quiet : (n : Node) (b : Broken) (o : Bool) (fs : List Fact) → U K A (asks n b o fs)
  quiet n b o fs = quietly (one_asked n b o fs)

  pub when_u : (b : Bool) (a : Asking) → U K A a → U K A (when b a)
  when_u true a x = x
  when_u false a x = none

  pub lifetimes_u : (n : Node) (i : ℕ) (l : Option ℕ) → U K A (rules.lifetimes_asked n i l)
  lifetimes_u n i None = none
  lifetimes_u n i (Some k) = quiet n _ _ _

  mutual
    pub type_u : (t : Written) → U K A (rules.of_type t)
    type_u (named.a_kind n k) = quiet n _ _ _
    type_u (named.a_bool n) = quiet n _ _ _
    type_u (named.a_tuple n ts) = then_u (types_u ts) (quiet n _ _ _)
    type_u (named.a_reference n m t) = then_u (type_u t) (quiet n _ _ _)
    type_u (named.an_item n i ls) = then_u (lifetimes_u n i ls) (quiet n _ _ _)

    pub types_u : (ts : WrittenTypes) → U K A (rules.of_types ts)
    types_u named.no_written = none
    types_u (named.written_and t ts) = then_u (type_u t) (types_u ts)

  pub whole_type_u : (t : Written) → U K A (rules.whole_type t)
  whole_type_u t = then_u (type_u t) (quiet (written_node t) _ _ _)

  pub refused : (n : Node) (b : Broken) → Asks K A ⊥ (asks n b false (fact.Never ∷ []))
  refused n b = asks_map (λ h. h.0) (one_asked n b false (fact.Never ∷ []))

  pub value_asks : (n : Node) (t : Site) → Asks K A (NoPlace t) (rules.value_in n t)
  value_asks n Site.Place = asks_map (λ h e. h) (refused n _)
  value_asks n Site.Expects = asks_map (λ h e. cc) (quiet n _ _ _)
  value_asks n Site.Initialises = asks_map (λ h e. cc) (quiet n _ _ _)
  value_asks n Site.Reborrows = asks_map (λ h e. cc) (quiet n _ _ _)
  value_asks n Site.Value = asks_map (λ h e. cc) none
  value_asks n Site.Scrutinee = asks_map (λ h e. cc) none

  pub never_asks : (n : Node) (t : Site) → Asks K A (NoPlace t) (rules.never_in n t)
  never_asks n Site.Place = asks_map (λ h e. h) (refused n _)
  never_asks n Site.Value = asks_map (λ h e. cc) none
  never_asks n Site.Scrutinee = asks_map (λ h e. cc) none
  never_asks n Site.Expects = asks_map (λ h e. cc) none
  never_asks n Site.Initialises = asks_map (λ h e. cc) none
  never_asks n Site.Reborrows = asks_map (λ h e. cc) none

  pub joins_asks : (n : Node) (t : Site) → Asks K A (NoPlace t) (rules.joins n t)
  joins_asks n Site.Place = asks_map (λ h e. h) (refused n _)
  joins_asks n Site.Value = asks_map (λ h e. cc) none
  joins_asks n Site.Scrutinee = asks_map (λ h e. cc) none
  joins_asks n Site.Reborrows = asks_map (λ h e. cc) (quiet n _ _ _)
  joins_asks n Site.Expects = asks_map (λ h e. cc) (quiet n _ _ _)
  joins_asks n Site.Initialises = asks_map (λ h e. cc) (quiet n _ _ _)

  pub join_asks : (n : Node) (v : Bool) → Asks K A (NoPlace n.site) (rules.join n v)
  join_asks n true = never_asks n n.site
  join_asks n false = joins_asks n n.site

  pub own_asks : (n : Node) (o : Op) (xs : List Subject) → Asks K A (NoPlace n.site) (rules.own n o xs)
  own_asks n o xs = then_second (quiet n _ _ _) (value_asks n n.site)

  pub assignable_u : (n : Node) (w : Bool) (x : Use) (ps : List Passing) → U K A (rules.assignable_at n w x ps)
  assignable_u n w x ps = when_u (not w) _ (quiet n _ _ _)

  pub borrowed_asks : (n : Node) (m : Bool) (e : Node) (x : Use) (ps : List Passing) → Asks K A (NoPlace n.site) (rules.borrowed n m e x ps)
  borrowed_asks n m e x ps = then_second (quiet n _ _ _) (then_second (quiet n _ _ _) (then_second (when_u m _ (quiet n _ _ _)) (value_asks n n.site)))

  pub binding_u : (n : Node) (anc : List Passing) (s : rules.Matched) → U K A (rules.binding_of n anc s)
  binding_u n anc rules.a_value = none
  binding_u n anc (rules.a_place x qs) = then_u (quiet n _ _ _) (quiet n _ _ _)
  binding_u n anc (rules.an_initialiser e x qs) = then_u (quiet n _ _ _) (quiet n _ _ _)

  pub bound_u : (s : rules.Matched) (anc : List Passing) (n : Node) (x : ℕ) (m : Bool) → U K A (rules.bound_at s anc n x m)
  bound_u s anc n x m = then_u (quiet n _ _ _) (then_u (quiet n _ _ _) (then_u (when_u m _ (quiet n _ _ _)) (binding_u n anc s)))

  pub literal_u : (n : Node) (g : Bool) (v : ℕ) (k : Option Kind) → U K A (rules.literal_at n g v k)
  literal_u n g v k = then_u (quiet n _ _ _) (then_u (when_u g _ (quiet n _ _ _)) (then_u (quiet n _ _ _) (quiet n _ _ _)))

  pub part_u : (n : Node) (v : Bool) (m : Node) → U K A (rules.as_part n v m)
  part_u n v m = when_u (not v) _ (quiet n _ _ _)

  pub before_u : (n : Node) (t : Site) (m : Node) → U K A (rules.part_before n t m)
  before_u n Site.Expects m = quiet m _ _ _
  before_u n Site.Initialises m = quiet m _ _ _
  before_u n Site.Value m = none
  before_u n Site.Place m = none
  before_u n Site.Scrutinee m = none
  before_u n Site.Reborrows m = none

  pub after_u : (n : Node) (t : Site) (v : Bool) (m : Node) → U K A (rules.part_after n t v m)
  after_u n Site.Expects v m = none
  after_u n Site.Initialises v m = none
  after_u n Site.Value v m = part_u n v m
  after_u n Site.Place v m = part_u n v m
  after_u n Site.Scrutinee v m = part_u n v m
  after_u n Site.Reborrows v m = part_u n v m

  pub tested_u : (n : Node) (v : Bool) → U K A (rules.tested n v)
  tested_u n v = when_u (not v) _ (quiet n _ _ _)

  pub printed_u : (n : Node) (v : Bool) → U K A (rules.printed n v)
  printed_u n v = when_u (not v) _ (quiet n _ _ _)

  pub unit_u : (n : Node) (v : Bool) → U K A (rules.nothing_given n v)
  unit_u n v = when_u (not v) _ (quiet n _ _ _)

  pub not_never_u : (n : Node) (v : Bool) → U K A (rules.not_never n v)
  not_never_u n v = when_u v _ (quiet n _ _ _)

  pub equality_asks : (n a : Node) (x : Bool) (b : Node) (y : Bool) → Asks K A (NoPlace n.site) (rules.equality n a x b y)
  equality_asks n a x b y = then_second (quiet n _ _ _) (own_asks n op.Truth [])

  pub order_asks : (n a : Node) (x : Bool) (b : Node) (y : Bool) → Asks K A (NoPlace n.site) (rules.order n a x b y)
  order_asks n a x b y = then_second (quiet n _ _ _) (own_asks n op.Truth [])

  pub lazy_asks : (n a : Node) (x : Bool) (b : Node) (y : Bool) → Asks K A (NoPlace n.site) (rules.lazy n a x b y)
  lazy_asks n a x b y = then_second (quiet n _ _ _) (own_asks n op.Truth [])

  pub arithmetic_asks : (n a : Node) (x : Bool) (b : Node) (y : Bool) → Asks K A (NoPlace n.site) (rules.arithmetic n a x b y)
  arithmetic_asks n a x b y = then_second (quiet n _ _ _) (value_asks n n.site)

  pub operation_asks : (o : BinaryOp) (n a : Node) (x : Bool) (b : Node) (y : Bool) → Asks K A (NoPlace n.site) (rules.operation o n a x b y)
  operation_asks BinaryOp.Or n a x b y = lazy_asks n a x b y
  operation_asks BinaryOp.And n a x b y = lazy_asks n a x b y
  operation_asks BinaryOp.Eq n a x b y = equality_asks n a x b y
  operation_asks BinaryOp.Ne n a x b y = equality_asks n a x b y
  operation_asks BinaryOp.Lt n a x b y = order_asks n a x b y
  operation_asks BinaryOp.Le n a x b y = order_asks n a x b y
  operation_asks BinaryOp.Gt n a x b y = order_asks n a x b y
  operation_asks BinaryOp.Ge n a x b y = order_asks n a x b y
  operation_asks _ n a x b y = arithmetic_asks n a x b y

  pub updated_u : (n a : Node) (x : Bool) (b : Node) (y : Bool) → U K A (rules.updated n a x b y)
  updated_u n a x b y = quiet n _ _ _

  pub negated_asks : (n a : Node) (x : Bool) → Asks K A (NoPlace n.site) (rules.negated n a x)
  negated_asks n a x = then_second (quiet n _ _ _) (value_asks n n.site)

  pub inverted_asks : (n a : Node) (x : Bool) → Asks K A (NoPlace n.site) (rules.inverted n a x)
  inverted_asks n a x = then_second (quiet n _ _ _) (own_asks n op.Truth [])

  pub named_u : (n : Node) (x : Use) (k : Bool) → U K A (rules.named_at n x k)
  named_u n x true = quiet n _ _ _
  named_u n x false = quiet n _ _ _

  pub fits_given_u : (x : ℕ) (e : Node) (v : Bool) → U K A (rules.fits_given x e v)
  fits_given_u x e true = none
  fits_given_u x e false = quiet e _ _ _

  pub given_u : (n p : Node) (x : Use) (d : Option ℕ) (e : Node) (v : Bool) → U K A (rules.given n p x d e v)
  given_u n p x (Some d) e v = then_u (not_never_u e v) (then_u (quiet n _ _ _) (quiet p _ _ _))
  given_u n p x None e v = then_u (named_u p x x.known) (fits_given_u x.number e v)

  pub returns_u : (f : ℕ) (n : Node) (o : Else) → U K A (rules.returns_unit f n o)
  returns_u f n named.absent = quiet n _ _ _
  returns_u f n (named.present e) = quiet (node_of e) _ _ _

  pub branch_before_u : (n : Node) (o : Else) (b : Body) → U K A (rules.branch_before n o b)
  branch_before_u n named.absent b = none
  branch_before_u n (named.present e) b = before_u n n.site (body_node b)

  pub branch_after_asks : (n : Node) (o : Else) (b : Body) → Asks K A (OnePart n o) (rules.branch_after n o b)
  branch_after_asks n named.absent b = then_second (unit_u (body_node b) (body_never b)) (own_asks n op.Unit [])
  branch_after_asks n (named.present e) b = after_u n n.site (body_never b) (body_node b)

  pub if_joins_asks : (n : Node) (o : Else) (v : Bool) → Asks K A (TwoParts n o) (rules.if_joins n o v)
  if_joins_asks n named.absent v = none
  if_joins_asks n (named.present e) v = join_asks n v

  pub one_variable_u : (n : Node) (o : Option ℕ) → U K A (rules.one_variable_at n o)
  one_variable_u n (Some x) = none
  one_variable_u n None = quiet n _ _ _

  pub evaluated_u : (s : Bool) (n : Node) (v : Bool) → U K A (rules.evaluated s n v)
  evaluated_u true n v = none
  evaluated_u false n v = unit_u n v

  pub tail_before_u : (n : Node) (o : Else) → U K A (rules.tail_before n o)
  tail_before_u n named.absent = none
  tail_before_u n (named.present e) = before_u n n.site (node_of e)

  pub tail_after_u : (n : Node) (d : Bool) (o : Else) → U K A (rules.tail_after n d o)
  tail_after_u n d named.absent = unit_u n d
  tail_after_u n d (named.present e) = after_u n n.site (never e) (node_of e)

  pub loop_asks : (n : Node) (k : Bool) → Asks K A (NoPlace n.site) (rules.loop_given n k)
  loop_asks n true = own_asks n op.Unit []
  loop_asks n false = never_asks n n.site

  pub each_before_u : (w : rules.Listed) (k : ℕ) (n : Node) → U K A (rules.each_before w k n)
  each_before_u rules.members k n = none
  each_before_u rules.values k n = none
  each_before_u (rules.parameters g) k n = quiet n _ _ _
  each_before_u (rules.parts_of i v) k n = quiet n _ _ _

  pub each_after_u : (w : rules.Listed) (e : Exp) → U K A (rules.each_after w e)
  each_after_u rules.members e = not_never_u (node_of e) (never e)
  each_after_u rules.values e = none
  each_after_u (rules.parameters g) e = none
  each_after_u (rules.parts_of i v) e = none

  pub integer_asks : (n : Node) (m : Bool) (v : ℕ) (k : Option Kind) → Asks K A (NoPlace n.site) (rules.integer_at n m v k)
  integer_asks n m v k = then_second (quiet n _ _ _) (then_first (value_asks n n.site) (quiet n _ _ _))

  pub never_given_u : (ns : List Node) → U K A (rules.of_never_given ns)
  never_given_u [] = none
  never_given_u (n ∷ ns) = then_u (quiet n _ _ _) (never_given_u ns)

  pub parameters_u : (xs : List Parameter) → U K A (rules.of_parameters xs)
  parameters_u [] = none
  parameters_u (x ∷ xs) = then_u (then_u (whole_type_u x.typ) (quiet (written_node x.typ) _ _ _)) (parameters_u xs)

  pub result_u : (t : Option Written) → U K A (rules.of_result t)
  result_u None = none
  result_u (Some t) = whole_type_u t
