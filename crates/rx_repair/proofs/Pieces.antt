-- What the rules of types say of one node where it is met, by the type that what stands there gets.
use Rattle.std.proofs.Common.{◌≡◌, ℕ, Bool, true, false, not, List, [], ◌∷◌, ◌++◌, Option, Some, slice_get, refl, sym, subst}
use Rattle.rx_core.specs.declared.types.Kind.{Kind}
use Rattle.rx_tree.specs.declared.tree.BinaryOp.{BinaryOp}
use Rattle.rx_typed.specs.declared.nodes.Node.{Node}
use Rattle.rx_typed.specs.declared.nodes.Site.{Site}
use Rattle.rx_typed.specs.declared.nodes.Use.{Use}
use Rattle.rx_typed.specs.Types as types
use Rattle.rx_typed.specs.Types.{Typ, integer, boolean, tuple_of, reference, unit_shape, shapes_of, peeled, result_declared}
use Rattle.rx_typed.specs.Elaborated as elaborated
use Rattle.rx_typed.specs.Elaborated.{Assigned, Coercion}
use Rattle.rx_typeck_solver.specs.declared.facts.Subject.{Subject}
use Rattle.rx_typeck_solver.specs.declared.facts.Subject.TheVariants as subject
use Rattle.rx_typeck_solver.specs.declared.facts.Op.{Op}
use Rattle.rx_typeck_solver.specs.declared.facts.Op.TheVariants as op
use Rattle.rx_typeck_solver.specs.declared.facts.Passing.{Passing as Gone}
use Rattle.rx_typeck_solver.specs.declared.facts.Fact.{Fact}
use Rattle.rx_typeck_solver.specs.declared.facts.Fact.TheVariants as fact
use Rattle.rx_typeck_solver.specs.declared.facts.Kinds.{Kinds}
use Rattle.rx_typeck_solver.specs.Facts.{MeetsAll, Assignment, KnownItems, coerced, AnInteger, types_at}
use Rattle.rx_typeck_typed.specs.Asking.{Asking, when, type_of, all, signed}
use Rattle.rx_typeck_typed.specs.Demands as rules
use Rattle.rx_repair.specs.TemporaryTypes.{at_site}
use Rattle.rx_repair.proofs.Asking.{Asks, NoPlace, asks_map, none, both, then_first, then_second, then_u, one_asked, quiet, refused}
use Rattle.rx_repair.proofs.Places.{some_same, fixed_same}
use Rattle.rx_repair.proofs.Settling.{NoItem, NotLent, Passing, Settles, site_coercion, settled, Before, After}

module _ (K : KnownItems) (A : Assignment) where
  abbrev pub T : Assigned
  T = record { items = K.items; typ = λ n. A (subject.Node n); expected = λ n. A (subject.Expected n) }

  -- the type of a node, and that which its place expects
  abbrev pub own : Node → Typ
  own n = A (subject.Node n.number)

  abbrev pub wished : Node → Typ
  wished n = A (subject.Expected n.number)

  abbrev Wants : Type 0 → Asking → Type 0
  Wants R a = Asks K A R a

  coercion_same : (t : Site) (n : ℕ) → site_coercion t (T.typ n) (T.expected n) ≡ elaborated.coercion_in T n t
  coercion_same Site.Value n = refl
  coercion_same Site.Place n = refl
  coercion_same Site.Scrutinee n = refl
  coercion_same Site.Expects n = refl
  coercion_same Site.Initialises n = refl
  coercion_same Site.Reborrows n = refl

  abbrev pub Stands : Node → Type 0
  Stands n = Settles n.site (own n) (wished n)

  pub passing : (n : Node) → Stands n → Passing (elaborated.coercion_at T n) (own n) (at_site n.site (own n) (wished n))
  passing n h = subst (λ (c : Coercion). Passing c (own n) (at_site n.site (own n) (wished n))) (coercion_same n.site n.number) (settled n.site (own n) (wished n) h)

  -- ---- sites

  fits_given : (n : Node) → Wants (coerced (own n) (wished n) ≡ own n) (rules.coerces n)
  fits_given n = asks_map (λ h. some_same _ _ h.0) (one_asked n _ _ _)

  own_wished : (n : Node) → Wants (wished n ≡ own n) (rules.expects_own n)
  own_wished n = asks_map (λ h. sym (some_same _ _ h.0)) (one_asked n _ _ _)

  pub value_given : (n : Node) (t : Site) → Wants (NoPlace t × Settles t (own n) (wished n)) (rules.value_in n t)
  value_given n Site.Place = asks_map (λ h. absurd h) (refused n _)
  value_given n Site.Expects = asks_map (λ h. (λ e. cc, h)) (fits_given n)
  value_given n Site.Initialises = asks_map (λ h. (λ e. cc, h)) (fits_given n)
  value_given n Site.Reborrows = asks_map (λ h. (λ e. cc, h)) (own_wished n)
  value_given n Site.Value = asks_map (λ h. (λ e. cc, tt)) none
  value_given n Site.Scrutinee = asks_map (λ h. (λ e. cc, tt)) none

  pub place_given : (n : Node) (x : ℕ) (ps : List Gone) (t : Site) → Wants (Settles t (own n) (wished n)) (rules.place_in n x ps t)
  place_given n x ps Site.Value = quiet n _ _ _
  place_given n x ps Site.Place = none
  place_given n x ps Site.Scrutinee = none
  place_given n x ps Site.Expects = then_first (fits_given n) (then_u (quiet n _ _ _) (quiet n _ _ _))
  place_given n x ps Site.Initialises = then_first (fits_given n) (quiet n _ _ _)
  place_given n x ps Site.Reborrows = then_first (own_wished n) (then_u (quiet n _ _ _) (quiet n _ _ _))

  -- ---- values that have a type of their own

  pub record Has (n : Node) (t : Typ) : Type 0 where
    pub same : own n ≡ t
    pub outside : NoPlace n.site
    pub stands : Stands n

  -- no struct, enum or mutable reference
  pub record Plain (n : Node) : Type 0 where
    pub no_item : NoItem (own n)
    pub not_lent : NotLent (own n)
    pub outside : NoPlace n.site
    pub stands : Stands n

  pub plain_if : (n : Node) (t : Typ) → Has n t → NoItem t → NotLent t → Plain n
  plain_if n t h i l = record { no_item = subst NoItem (sym h.same) i; not_lent = subst NotLent (sym h.same) l; outside = h.outside; stands = h.stands }

  own_given : (n : Node) (o : Op) (xs : List Subject) → Wants (MeetsAll K A (fact.Equals (type_of n) o xs [] ∷ []) × (NoPlace n.site × Stands n)) (rules.own n o xs)
  own_given n o xs = both (one_asked n _ _ _) (value_given n n.site)

  pub truth_given : (n : Node) → Wants (Has n boolean) (rules.own n op.Truth [])
  truth_given n = asks_map (λ h. record { same = sym (some_same _ _ h.0.0); outside = h.1.0; stands = h.1.1 }) (own_given n op.Truth [])

  pub unit_given : (n : Node) → Wants (Has n unit_shape) (rules.own n op.Unit [])
  unit_given n = asks_map (λ h. record { same = sym (some_same _ _ h.0.0); outside = h.1.0; stands = h.1.1 }) (own_given n op.Unit [])

  pub item_given : (n : Node) (i : ℕ) → Wants (Has n (types.named i)) (rules.own n (op.Item i) [])
  item_given n i = asks_map (λ h. record { same = sym (some_same _ _ h.0.0); outside = h.1.0; stands = h.1.1 }) (own_given n (op.Item i) [])

  pub number_given : (n : Node) (k : Kind) → Wants (Has n (integer k)) (rules.own n (op.Integer k) [])
  number_given n k = asks_map (λ h. record { same = sym (some_same _ _ h.0.0); outside = h.1.0; stands = h.1.1 }) (own_given n (op.Integer k) [])

  pub tuple_given : (n : Node) (xs : List Subject) → Wants (Has n (tuple_of (shapes_of (types_at A xs)))) (rules.own n op.Tuple xs)
  tuple_given n xs = asks_map (λ h. record { same = sym (some_same _ _ h.0.0); outside = h.1.0; stands = h.1.1 }) (own_given n op.Tuple xs)

  -- the result of a function
  pub record Results (n : Node) (g : ℕ) : Type 0 where
    pub result : result_declared (slice_get K.items g) ≡ Some (own n)
    pub outside : NoPlace n.site
    pub stands : Stands n

  pub result_given : (n : Node) (g : ℕ) → Wants (Results n g) (rules.own n (op.Result g) [])
  result_given n g = asks_map (λ h. record { result = fixed_same (result_declared (slice_get K.items g)) (own n) h.0.0; outside = h.1.0; stands = h.1.1 }) (own_given n (op.Result g) [])

  pub borrowed_given : (n : Node) (m : Bool) (e : Node) (x : Use) (ps : List Gone) → Wants (Has n (reference m (own e))) (rules.borrowed n m e x ps)
  borrowed_given n m e x ps =
      asks_map (λ h. record { same = sym (some_same _ _ h.0.0); outside = h.1.0; stands = h.1.1 })
      (both (one_asked n _ _ _) (then_second (quiet n _ _ _) (then_second (when_quiet m _ (quiet n _ _ _)) (value_given n n.site))))
    where
      when_quiet : (b : Bool) (a : Asking) → Wants (Unit {0}) a → Wants (Unit {0}) (when b a)
      when_quiet true a x = x
      when_quiet false a x = none

  -- ---- operators

  meets_behind : (fs gs : List Fact) → MeetsAll K A (fs ++ gs) → MeetsAll K A gs
  meets_behind [] gs h = h
  meets_behind (f ∷ fs) gs h = meets_behind fs gs h.1

  integer_plain : (n : Node) (s : Kinds) → AnInteger s (own n) → NoPlace n.site × Stands n → Plain n
  integer_plain n s h k = plain_if n (integer h.0) (record { same = h.1; outside = k.0; stands = k.1 }) tt tt

  pub integer_given : (n : Node) (m : Bool) (v : ℕ) (k : Option Kind) → Wants (Plain n) (rules.integer_at n m v k)
  integer_given n m v k = asks_map (λ h. integer_plain n _ h.0.0 h.1) (both (one_asked n _ _ _) (then_first (value_given n n.site) (quiet n _ _ _)))

  truth_plain : (n : Node) → Has n boolean → Plain n
  truth_plain n h = plain_if n boolean h tt tt

  arithmetic_given : (n a : Node) (x : Bool) (b : Node) (y : Bool) → Wants (Plain n) (rules.arithmetic n a x b y)
  arithmetic_given n a x b y =
      asks_map (λ h. integer_plain n all (meets_behind (rules.own_operand n a x ++ rules.own_operand n b y) (fact.Integer n.number all ∷ []) h.0).0 h.1) (both (one_asked n _ _ _) (value_given n n.site))

  lazy_given : (n a : Node) (x : Bool) (b : Node) (y : Bool) → Wants (Plain n) (rules.lazy n a x b y)
  lazy_given n a x b y = asks_map (λ h. truth_plain n h) (then_second (quiet n _ _ _) (truth_given n))

  equality_given : (n a : Node) (x : Bool) (b : Node) (y : Bool) → Wants (Plain n) (rules.equality n a x b y)
  equality_given n a x b y = asks_map (λ h. truth_plain n h) (then_second (quiet n _ _ _) (truth_given n))

  order_given : (n a : Node) (x : Bool) (b : Node) (y : Bool) → Wants (Plain n) (rules.order n a x b y)
  order_given n a x b y = asks_map (λ h. truth_plain n h) (then_second (quiet n _ _ _) (truth_given n))

  pub operation_given : (o : BinaryOp) (n a : Node) (x : Bool) (b : Node) (y : Bool) → Wants (Plain n) (rules.operation o n a x b y)
  operation_given BinaryOp.Or n a x b y = lazy_given n a x b y
  operation_given BinaryOp.And n a x b y = lazy_given n a x b y
  operation_given BinaryOp.Eq n a x b y = equality_given n a x b y
  operation_given BinaryOp.Ne n a x b y = equality_given n a x b y
  operation_given BinaryOp.Lt n a x b y = order_given n a x b y
  operation_given BinaryOp.Le n a x b y = order_given n a x b y
  operation_given BinaryOp.Gt n a x b y = order_given n a x b y
  operation_given BinaryOp.Ge n a x b y = order_given n a x b y
  operation_given _ n a x b y = arithmetic_given n a x b y

  pub negated_given : (n a : Node) (x : Bool) → Wants (Plain n) (rules.negated n a x)
  negated_given n a x = asks_map (λ h. integer_plain n signed (meets_behind (rules.own_operand n a x) (fact.Integer n.number signed ∷ []) h.0).0 h.1) (both (one_asked n _ _ _) (value_given n n.site))

  pub inverted_given : (n a : Node) (x : Bool) → Wants (Plain n) (rules.inverted n a x)
  inverted_given n a x = asks_map (λ h. truth_plain n h) (then_second (quiet n _ _ _) (truth_given n))

  -- what is changed is an integer
  pub updated_given : (n a : Node) (x : Bool) (b : Node) (y : Bool) → Wants (x ≡ false → NoItem (own a)) (rules.updated n a x b y)
  updated_given n a x b y =
      asks_map (λ h e. let g = subst (λ (v : Bool). MeetsAll K A ((rules.integer_operand a v ++ rules.integer_operand b y) ++ rules.same_operands a v b y)) e h in subst NoItem (sym g.0.1) tt) (one_asked n _ _ _)

  -- ---- parts

  pub when_given : {R : Type 0} (v : Bool) (a : Asking) → Wants R a → Wants (v ≡ false → R) (when (not v) a)
  when_given true a x = asks_map (λ h e. absurd (cc)) none
  when_given false a x = asks_map (λ r e. r) x

  pub nothing_given : (n : Node) (v : Bool) → Wants (v ≡ false → own n ≡ unit_shape) (rules.nothing_given n v)
  nothing_given n v = when_given v _ (asks_map (λ h. sym (some_same _ _ h.0)) (one_asked n _ _ _))

  hands_on : (n m : Node) → Wants (wished m ≡ wished n) (rules.hands_on n m)
  hands_on n m = asks_map (λ h. sym (some_same _ _ h.0)) (one_asked m _ _ _)

  pub before_given : (n : Node) (t : Site) (m : Node) → Wants (Before t (wished m) (wished n)) (rules.part_before n t m)
  before_given n Site.Expects m = hands_on n m
  before_given n Site.Initialises m = hands_on n m
  before_given n Site.Value m = none
  before_given n Site.Place m = none
  before_given n Site.Scrutinee m = none
  before_given n Site.Reborrows m = none

  part_given : (n : Node) (v : Bool) (m : Node) → Wants (v ≡ false → own m ≡ own n) (rules.as_part n v m)
  part_given n v m = when_given v _ (asks_map (λ h. some_same _ _ h.0) (one_asked n _ _ _))

  pub after_given : (n : Node) (t : Site) (v : Bool) (m : Node) → Wants (After t v (own m) (own n)) (rules.part_after n t v m)
  after_given n Site.Expects v m = none
  after_given n Site.Initialises v m = none
  after_given n Site.Value v m = part_given n v m
  after_given n Site.Place v m = part_given n v m
  after_given n Site.Scrutinee v m = part_given n v m
  after_given n Site.Reborrows v m = part_given n v m
