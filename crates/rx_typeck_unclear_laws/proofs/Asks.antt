-- What the rules ask at a node gives a type to nodes of a kind alone, where those that must have one are of the kind.
use Rattle.std.proofs.Common.{◌≡◌, ◌⊎◌, inl, inr, ⊎_elim, ℕ, Bool, true, false, not, ◌||◌, List, [], ◌∷◌, ◌++◌, Option, Some, None, refl, sym, subst}
use Rattle.rx_core.specs.declared.types.Kind.{Kind}
use Rattle.rx_tree.specs.declared.tree.BinaryOp.{BinaryOp}
use Rattle.rx_typed.specs.declared.nodes.Node.{Node}
use Rattle.rx_typed.specs.declared.nodes.Site.{Site}
use Rattle.rx_typed.specs.declared.nodes.Use.{Use}
use Rattle.rx_typed.specs.Named as named
use Rattle.rx_typed.specs.Named.{Pattern, Exp, Else, Body, node_of, body_node, pattern_node, whole_binding, never, body_never}
use Rattle.rx_typeck_solver.specs.declared.facts.Broken.{Broken}
use Rattle.rx_typeck_solver.specs.declared.facts.Broken.TheVariants as broken
use Rattle.rx_typeck_solver.specs.declared.facts.Rule.{Rule}
use Rattle.rx_typeck_solver.specs.declared.facts.Subject.{Subject}
use Rattle.rx_typeck_solver.specs.declared.facts.Subject.TheVariants as subject
use Rattle.rx_typeck_solver.specs.declared.facts.Op.{Op}
use Rattle.rx_typeck_solver.specs.declared.facts.Op.TheVariants as op
use Rattle.rx_typeck_solver.specs.declared.facts.Test.{Test}
use Rattle.rx_typeck_solver.specs.declared.facts.Test.TheVariants as test
use Rattle.rx_typeck_solver.specs.declared.facts.Passing.{Passing}
use Rattle.rx_typeck_solver.specs.declared.facts.Fact.{Fact}
use Rattle.rx_typeck_solver.specs.declared.facts.Fact.TheVariants as fact
use Rattle.rx_typeck_solver.specs.declared.facts.Demand.{Demand}
use Rattle.rx_typeck_solver.specs.Valid.{Tells, TellsAny, Told}
use Rattle.rx_typeck_typed.specs.Asking.{Asking, ◌>>◌, nothing, asks, ask, when, type_of, expected, is, alike, typed, all, signed, fitting, with_suffix, is_open}
use Rattle.rx_typeck_typed.specs.Demands as rules

pub or_left : (x y : Bool) → (x || y) ≡ false → x ≡ false
or_left true y e = e
or_left false y e = refl

last : (ds : List Demand) (d : Demand) (x : Subject) → Told (ds ++ d ∷ []) x → Told ds x ⊎ TellsAny d.facts x
last [] d x (inl t) = inr t
last [] d x (inr t) = absurd t
last (e ∷ ds) d x (inl t) = inl (inl t)
last (e ∷ ds) d x (inr t) = ⊎_elim (λ a. inl (inr a)) (λ b. inr b) (last ds d x t)

module _ (P : ℕ → Type 0) where
  -- to nodes of the kind alone it gives a type
  pub record Only (g : Asking) : Type 0 where
    pub told : (ds : List Demand) (m : ℕ) → Told (g ds) (subject.Node m) → Told ds (subject.Node m) ⊎ P m

  pub both : {g h : Asking} → Only g → Only h → Only (g >> h)
  both {g = g} a b = record { told = λ ds m t. ⊎_elim (λ x. a.told ds m x) (λ p. inr p) (b.told (g ds) m t) }

  pub none : Only nothing
  none = record { told = λ ds m t. inl t }

  abbrev Facts : List Fact → Type 0
  Facts fs = (m : ℕ) → TellsAny fs (subject.Node m) → P m

  pub asked : (n : Node) (b : Broken) (o : Bool) (fs : List Fact) → Facts fs → Only (asks n b o fs)
  asked n b o fs h = record { told = λ ds m t. ⊎_elim (λ a. inl a) (λ k. inr (h m k)) (last ds _ (subject.Node m) t) }

  of_kind : (m k : ℕ) → P k → subject.Node m ≡ subject.Node k → P m
  of_kind m k p e = let q : m ≡ k = cc in subst P (sym q) p

  -- a fact, and one that gives no node a type
  one_fact : (f : Fact) → ((m : ℕ) → Tells f (subject.Node m) → P m) → Facts (f ∷ [])
  one_fact f h m (inl t) = h m t
  one_fact f h m (inr t) = absurd t

  pub silent : (n : Node) (b : Broken) (o : Bool) (f : Fact) → ((m : ℕ) → Tells f (subject.Node m) → ⊥) → Only (asks n b o (f ∷ []))
  silent n b o f h = asked n b o (f ∷ []) (one_fact f (λ m t. absurd (h m t)))

  facts_then : (fs gs : List Fact) → Facts fs → Facts gs → Facts (fs ++ gs)
  facts_then [] gs a b m t = b m t
  facts_then (f ∷ fs) gs a b m (inl t) = a m (inl t)
  facts_then (f ∷ fs) gs a b m (inr t) = facts_then fs gs (λ k i. a k (inr i)) b m t

  facts_where : (b : Bool) (f : Fact) → (b ≡ false → (m : ℕ) → Tells f (subject.Node m) → P m) → Facts (typed b f)
  facts_where true f h m t = absurd t
  facts_where false f h m t = one_fact f (h refl) m t

  pub unless_never : (v : Bool) (g : Asking) → (v ≡ false → Only g) → Only (when (not v) g)
  unless_never true g h = none
  unless_never false g h = h refl

  pub where_so : (b : Bool) (g : Asking) → Only g → Only (when b g)
  where_so true g h = h
  where_so false g h = none

  -- a node is told a type
  pub gives_type : (n : Node) (r : Rule) (k : Node) (o : Op) (xs : List Subject) → P k.number → Only (ask n r (is (type_of k) o xs ∷ []))
  gives_type n r k o xs p = asked n (broken.Mismatch r) false (is (type_of k) o xs ∷ []) (one_fact (is (type_of k) o xs) (λ m t. of_kind m k.number p t))

  pub tests : (n : Node) (r : Rule) (t : Test) (xs : List Subject) (ps qs : List Passing) → Only (ask n r (fact.Passes t xs ps qs ∷ []))
  tests n r t xs ps qs = silent n (broken.Mismatch r) false (fact.Passes t xs ps qs) (λ m i. i)

  pub never_met : (n : Node) (r : Rule) → Only (ask n r (fact.Never ∷ []))
  never_met n r = silent n (broken.Mismatch r) false fact.Never (λ m i. i)

  pub mutable_tests : (n : Node) (x : ℕ) (t : Test) (xs : List Subject) (ps qs : List Passing) → Only (asks n (broken.Mutability x) false (fact.Passes t xs ps qs ∷ []))
  mutable_tests n x t xs ps qs = silent n (broken.Mutability x) false (fact.Passes t xs ps qs) (λ m i. i)

  -- ---- types and places

  pub expects_only : (n : Node) (o : Op) (xs : List Subject) → Only (rules.expects n o xs)
  expects_only n o xs = silent n (broken.Mismatch Rule.Equal) false (is (expected n) o xs) (λ m i. cc)

  pub variable_only : (n : Node) (x : ℕ) (o : Op) (xs : List Subject) (ps : List Passing) → Only (ask n Rule.Equal (fact.Equals (subject.Variable x) o xs ps ∷ []))
  variable_only n x o xs ps = silent n (broken.Mismatch Rule.Equal) false (fact.Equals (subject.Variable x) o xs ps) (λ m i. cc)

  pub limits_only : (n : Node) → Only (rules.limits n)
  limits_only n = tests n Rule.Parts test.Limits (type_of n ∷ []) [] []

  coerces_only : (n : Node) → P n.number → Only (rules.coerces n)
  coerces_only n p = gives_type n Rule.Equal n op.Coerced (type_of n ∷ expected n ∷ []) p

  expects_own_only : (n : Node) → Only (rules.expects_own n)
  expects_own_only n = expects_only n op.Same (type_of n ∷ [])

  kept_only : (n : Node) (t : Test) (ps : List Passing) → Only (rules.kept n t ps)
  kept_only n t ps = tests n Rule.MoveOut t (type_of n ∷ []) [] ps

  lendable_only : (n : Node) (x : ℕ) (ps : List Passing) → Only (rules.lendable n x ps)
  lendable_only n x ps = mutable_tests n x test.Lendable (type_of n ∷ expected n ∷ []) [] ps

  place_in_only : (n : Node) (x : ℕ) (ps : List Passing) (s : Site) → P n.number → Only (rules.place_in n x ps s)
  place_in_only n x ps Site.Value p = kept_only n test.Kept ps
  place_in_only n x ps Site.Place p = none
  place_in_only n x ps Site.Scrutinee p = none
  place_in_only n x ps Site.Expects p = both (coerces_only n p) (both (kept_only n test.KeptOrLent ps) (lendable_only n x ps))
  place_in_only n x ps Site.Initialises p = both (coerces_only n p) (lendable_only n x ps)
  place_in_only n x ps Site.Reborrows p = both (expects_own_only n) (both (kept_only n test.KeptOrLent ps) (lendable_only n x ps))

  pub place_only : (e : Exp) → P (node_of e).number → Only (rules.place_at e)
  place_only e p = place_in_only (node_of e) (named.root e).number (rules.through e) (node_of e).site p

  value_in_only : (n : Node) (s : Site) → P n.number → Only (rules.value_in n s)
  value_in_only n Site.Value p = none
  value_in_only n Site.Place p = never_met n Rule.NotPlace
  value_in_only n Site.Scrutinee p = none
  value_in_only n Site.Expects p = coerces_only n p
  value_in_only n Site.Initialises p = coerces_only n p
  value_in_only n Site.Reborrows p = expects_own_only n

  pub value_only : (n : Node) → P n.number → Only (rules.value_at n)
  value_only n p = value_in_only n n.site p

  never_in_only : (n : Node) (s : Site) → Only (rules.never_in n s)
  never_in_only n Site.Value = none
  never_in_only n Site.Place = never_met n Rule.NotPlace
  never_in_only n Site.Scrutinee = none
  never_in_only n Site.Expects = none
  never_in_only n Site.Initialises = none
  never_in_only n Site.Reborrows = none

  pub never_only : (n : Node) → Only (rules.never_at n)
  never_only n = never_in_only n n.site

  pub writable_only : (n : Node) (own : Bool) (x : ℕ) (ps : List Passing) → Only (rules.writable n own x ps)
  writable_only n own x ps = mutable_tests n x (test.Writable own) [] [] ps

  pub assignable_only : (n : Node) (e : Exp) → Only (rules.assignable n e)
  assignable_only n e = unless_never (named.is_variable e) _ (λ i. writable_only n (named.root e).mutable (named.root e).number (rules.through e))

  pub step_only : (n : Node) (o : Op) (e : Node) → P n.number → Only (rules.step_at n o e)
  step_only n o e p = gives_type n Rule.NotPlace n o (type_of e ∷ []) p

  pub borrowed_only : (n : Node) (m : Bool) (e : Node) (x : Use) (ps : List Passing) → P n.number → Only (rules.borrowed n m e x ps)
  borrowed_only n m e x ps p = both (gives_type n Rule.Equal n (op.Referring m) (type_of e ∷ []) p) (both (limits_only n)
      (both (where_so m (rules.writable n x.mutable x.number ps) (writable_only n x.mutable x.number ps)) (value_only n p)))

  -- ---- expressions

  pub own_only : (n : Node) (o : Op) (xs : List Subject) → P n.number → Only (rules.own n o xs)
  own_only n o xs p = both (gives_type n Rule.Equal n o xs p) (value_only n p)

  as_part_only : (n : Node) (v : Bool) (m : Node) → (v ≡ false → P n.number) → Only (rules.as_part n v m)
  as_part_only n v m p = unless_never v _ (λ e. gives_type n Rule.Equal n op.Same (type_of m ∷ []) (p e))

  joins_only : (n : Node) (s : Site) → P n.number → Only (rules.joins n s)
  joins_only n Site.Value p = none
  joins_only n Site.Place p = never_met n Rule.NotPlace
  joins_only n Site.Scrutinee p = none
  joins_only n Site.Expects p = gives_type n Rule.Equal n op.Same (expected n ∷ []) p
  joins_only n Site.Initialises p = gives_type n Rule.Equal n op.Same (expected n ∷ []) p
  joins_only n Site.Reborrows p = expects_own_only n

  pub join_only : (n : Node) (v : Bool) → (v ≡ false → P n.number) → Only (rules.join n v)
  join_only n true p = never_only n
  join_only n false p = joins_only n n.site (p refl)

  hands_only : (n m : Node) → Only (rules.hands_on n m)
  hands_only n m = expects_only m op.Same (expected n ∷ [])

  pub part_before_only : (n : Node) (s : Site) (m : Node) → Only (rules.part_before n s m)
  part_before_only n Site.Value m = none
  part_before_only n Site.Place m = none
  part_before_only n Site.Scrutinee m = none
  part_before_only n Site.Expects m = hands_only n m
  part_before_only n Site.Initialises m = hands_only n m
  part_before_only n Site.Reborrows m = none

  pub part_after_only : (n : Node) (s : Site) (v : Bool) (m : Node) → (v ≡ false → P n.number) → Only (rules.part_after n s v m)
  part_after_only n Site.Value v m p = as_part_only n v m p
  part_after_only n Site.Place v m p = as_part_only n v m p
  part_after_only n Site.Scrutinee v m p = as_part_only n v m p
  part_after_only n Site.Expects v m p = none
  part_after_only n Site.Initialises v m p = none
  part_after_only n Site.Reborrows v m p = as_part_only n v m p

  pub tested_only : (n : Node) (v : Bool) → (v ≡ false → P n.number) → Only (rules.tested n v)
  tested_only n v p = unless_never v _ (λ e. gives_type n Rule.KindOf n op.Truth [] (p e))

  pub printed_only : (n : Node) (v : Bool) → Only (rules.printed n v)
  printed_only n v = unless_never v _ (λ e. tests n Rule.KindOf test.Plain (type_of n ∷ []) [] [])

  pub nothing_given_only : (n : Node) (v : Bool) → (v ≡ false → P n.number) → Only (rules.nothing_given n v)
  nothing_given_only n v p = unless_never v _ (λ e. gives_type n Rule.Equal n op.Unit [] (p e))

  pub not_never_only : (n : Node) (v : Bool) → Only (rules.not_never n v)
  not_never_only n v = where_so v _ (never_met n Rule.Unclear)

  pub named_only : (n : Node) (x : Use) (k : Bool) → P n.number → Only (rules.named_at n x k)
  named_only n x true p = gives_type n Rule.Equal n op.Same (subject.Variable x.number ∷ []) p
  named_only n x false p = never_met n Rule.Unclear

  fits_given_only : (x : ℕ) (e : Node) (v : Bool) → Only (rules.fits_given x e v)
  fits_given_only x e v = unless_never v _ (λ i. variable_only e x op.Same (type_of e ∷ []) [])

  pub given_only : (n p : Node) (x : Use) (o : Option ℕ) (e : Node) (v : Bool) → P p.number → ((d : ℕ) → o ≡ Some d → P d) → Only (rules.given n p x o e v)
  given_only n p x None e v h g = both (named_only p x x.known h) (fits_given_only x.number e v)
  given_only n p x (Some d) e v h g = both (not_never_only e v) (both (variable_only n x.number op.Same (type_of e ∷ []) [])
      (asked p (broken.Mismatch Rule.Equal) false (alike (type_of p) (subject.Variable x.number) ∷ alike (subject.Node d) (subject.Variable x.number) ∷ [])
      (facts_then (alike (type_of p) (subject.Variable x.number) ∷ []) (alike (subject.Node d) (subject.Variable x.number) ∷ [])
      (one_fact (alike (type_of p) (subject.Variable x.number)) (λ m t. of_kind m p.number h t))
      (one_fact (alike (subject.Node d) (subject.Variable x.number)) (λ m t. of_kind m d (g d refl) t)))))

  pub returns_only : (f : ℕ) (n : Node) (o : Else) → Only (rules.returns_unit f n o)
  returns_only f n named.absent = tests n Rule.Equal (test.GivesUnit f) [] [] []
  returns_only f n (named.present e) = expects_only (node_of e) (op.Result f) []

  pub branch_before_only : (n : Node) (o : Else) (b : Body) → Only (rules.branch_before n o b)
  branch_before_only n named.absent b = none
  branch_before_only n (named.present e) b = part_before_only n n.site (body_node b)

  pub loop_given_only : (n : Node) (k : Bool) → (not k ≡ false → P n.number) → Only (rules.loop_given n k)
  loop_given_only n true p = own_only n op.Unit [] (p refl)
  loop_given_only n false p = never_only n

  pub each_before_only : (w : rules.Listed) (k : ℕ) (n : Node) → Only (rules.each_before w k n)
  each_before_only rules.members k n = none
  each_before_only rules.values k n = none
  each_before_only (rules.parameters g) k n = expects_only n (op.Parameter g k) []
  each_before_only (rules.parts_of i v) k n = expects_only n (op.PartOf i v k) []

  pub each_after_only : (w : rules.Listed) (e : Exp) → Only (rules.each_after w e)
  each_after_only rules.members e = not_never_only (node_of e) (never e)
  each_after_only rules.values e = none
  each_after_only (rules.parameters g) e = none
  each_after_only (rules.parts_of i v) e = none

  pub integer_only : (n : Node) (m : Bool) (v : ℕ) (k : Option Kind) → P n.number → Only (rules.integer_at n m v k)
  integer_only n m v k p = both (asked n (broken.Mismatch Rule.Equal) false (fact.Integer n.number (with_suffix k) ∷ []) (one_fact (fact.Integer n.number (with_suffix k)) (λ m t. of_kind m n.number p t)))
      (both (value_only n p) (asked n broken.Literal (is_open k) (fact.Integer n.number (fitting m v) ∷ []) (one_fact (fact.Integer n.number (fitting m v)) (λ m t. of_kind m n.number p t))))

  -- ---- operators

  module _ (n a : Node) (x : Bool) (b : Node) (y : Bool) (p : P n.number) (pa : x ≡ false → P a.number) (pb : y ≡ false → P b.number) where
    same_facts : Facts (rules.same_operands a x b y)
    same_facts = facts_where (x || y) _ (λ e m t. of_kind m a.number (pa (or_left x y e)) t)

    first_integer : Facts (rules.integer_operand a x)
    first_integer = facts_where x _ (λ e m t. of_kind m a.number (pa e) t)

    second_integer : Facts (rules.integer_operand b y)
    second_integer = facts_where y _ (λ e m t. of_kind m b.number (pb e) t)

    plain_facts : (c : Node) (z : Bool) → Facts (rules.plain_operand c z)
    plain_facts c z = facts_where z _ (λ e m t. absurd t)

    first_truth : Facts (rules.truth_operand a x)
    first_truth = facts_where x _ (λ e m t. of_kind m a.number (pa e) t)

    second_truth : Facts (rules.truth_operand b y)
    second_truth = facts_where y _ (λ e m t. of_kind m b.number (pb e) t)

    own_facts : (c : Node) (z : Bool) → Facts (rules.own_operand n c z)
    own_facts c z = facts_where z _ (λ e m t. of_kind m n.number p t)

    kind_asked : (fs : List Fact) → Facts fs → Only (ask n Rule.KindOf fs)
    kind_asked fs h = asked n (broken.Mismatch Rule.KindOf) false fs h

    order_facts : Facts ((rules.integer_operand a x ++ rules.integer_operand b y) ++ rules.same_operands a x b y)
    order_facts = facts_then (rules.integer_operand a x ++ rules.integer_operand b y) (rules.same_operands a x b y) (facts_then (rules.integer_operand a x) (rules.integer_operand b y) first_integer second_integer) same_facts

    arithmetic_only : Only (rules.arithmetic n a x b y)
    arithmetic_only = both (kind_asked _ (facts_then (rules.own_operand n a x ++ rules.own_operand n b y) (fact.Integer n.number all ∷ [])
        (facts_then (rules.own_operand n a x) (rules.own_operand n b y) (own_facts a x) (own_facts b y)) (one_fact (fact.Integer n.number all) (λ m t. of_kind m n.number p t)))) (value_only n p)

    equality_only : Only (rules.equality n a x b y)
    equality_only = both (kind_asked _ (facts_then (rules.plain_operand a x ++ rules.plain_operand b y) (rules.same_operands a x b y)
        (facts_then (rules.plain_operand a x) (rules.plain_operand b y) (plain_facts a x) (plain_facts b y)) same_facts)) (own_only n op.Truth [] p)

    order_only : Only (rules.order n a x b y)
    order_only = both (kind_asked _ order_facts) (own_only n op.Truth [] p)

    lazy_only : Only (rules.lazy n a x b y)
    lazy_only = both (kind_asked _ (facts_then (rules.truth_operand a x) (rules.truth_operand b y) first_truth second_truth)) (own_only n op.Truth [] p)

    pub updated_only : Only (rules.updated n a x b y)
    updated_only = kind_asked _ order_facts

    pub operation_only : (o : BinaryOp) → Only (rules.operation o n a x b y)
    operation_only BinaryOp.Or = lazy_only
    operation_only BinaryOp.And = lazy_only
    operation_only BinaryOp.Eq = equality_only
    operation_only BinaryOp.Ne = equality_only
    operation_only BinaryOp.Lt = order_only
    operation_only BinaryOp.Le = order_only
    operation_only BinaryOp.Gt = order_only
    operation_only BinaryOp.Ge = order_only
    operation_only BinaryOp.Add = arithmetic_only
    operation_only BinaryOp.Sub = arithmetic_only
    operation_only BinaryOp.Mul = arithmetic_only
    operation_only BinaryOp.Div = arithmetic_only
    operation_only BinaryOp.Rem = arithmetic_only

  pub negated_only : (n a : Node) (x : Bool) → P n.number → Only (rules.negated n a x)
  negated_only n a x p = both (asked n (broken.Mismatch Rule.KindOf) false (rules.own_operand n a x ++ fact.Integer n.number signed ∷ [])
      (facts_then (rules.own_operand n a x) (fact.Integer n.number signed ∷ []) (facts_where x _ (λ e m t. of_kind m n.number p t)) (one_fact (fact.Integer n.number signed) (λ m t. of_kind m n.number p t)))) (value_only n p)

  pub inverted_only : (n a : Node) (x : Bool) → P n.number → (x ≡ false → P a.number) → Only (rules.inverted n a x)
  inverted_only n a x p pa = both (asked n (broken.Mismatch Rule.KindOf) false (rules.truth_operand a x) (facts_where x _ (λ e m t. of_kind m a.number (pa e) t))) (own_only n op.Truth [] p)

  -- ---- statements

  one_variable_at_only : (n : Node) (o : Option ℕ) → Only (rules.one_variable_at n o)
  one_variable_at_only n (Some x) = none
  one_variable_at_only n None = never_met n Rule.Unclear

  pub one_variable_only : (p : Pattern) → Only (rules.one_variable p)
  one_variable_only p = one_variable_at_only (pattern_node p) (whole_binding p)

  pub tail_before_only : (n : Node) (o : Else) → Only (rules.tail_before n o)
  tail_before_only n named.absent = none
  tail_before_only n (named.present e) = part_before_only n n.site (node_of e)

  pub tail_after_only : (n : Node) (d : Bool) (o : Else) → (named.tail_never d o ≡ false → P n.number) → Only (rules.tail_after n d o)
  tail_after_only n d named.absent p = nothing_given_only n d p
  tail_after_only n d (named.present e) p = part_after_only n n.site (never e) (node_of e) p

  pub evaluated_only : (s : Bool) (n : Node) (v : Bool) → (v ≡ false → P n.number) → Only (rules.evaluated s n v)
  evaluated_only true n v p = none
  evaluated_only false n v p = nothing_given_only n v p
