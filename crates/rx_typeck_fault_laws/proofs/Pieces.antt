-- How many demands of a slot each rule asks at a node.
use Rattle.std.proofs.Common.{◌≡◌, ℕ, ◌+◌, nat_eq, Bool, true, false, not, if◌then◌else◌, List, [], ◌∷◌, ◌++◌, Option, Some, None, refl, ap, arith}
use Rattle.std.proofs.lemmas.Bool.{eqb-true, eq-eqb}
use Rattle.rx_core.specs.declared.types.Kind.{Kind}
use Rattle.rx_tree.specs.declared.tree.BinaryOp.{BinaryOp}
use Rattle.rx_typed.specs.declared.nodes.Node.{Node}
use Rattle.rx_typed.specs.declared.nodes.Site.{Site}
use Rattle.rx_typed.specs.declared.nodes.Use.{Use}
use Rattle.rx_typed.specs.Named as named
use Rattle.rx_typed.specs.Named.{Pattern, Exp, Else, Body, node_of, body_node, pattern_node, whole_binding, is_variable, root, never, body_never}
use Rattle.rx_typeck_solver.specs.declared.facts.Broken.TheVariants as broken
use Rattle.rx_typeck_solver.specs.declared.facts.Rule.{Rule}
use Rattle.rx_typeck_solver.specs.declared.facts.Subject.{Subject}
use Rattle.rx_typeck_solver.specs.declared.facts.Subject.TheVariants as subject
use Rattle.rx_typeck_solver.specs.declared.facts.Op.{Op}
use Rattle.rx_typeck_solver.specs.declared.facts.Op.TheVariants as op
use Rattle.rx_typeck_solver.specs.declared.facts.Test.{Test}
use Rattle.rx_typeck_solver.specs.declared.facts.Test.TheVariants as test
use Rattle.rx_typeck_solver.specs.declared.facts.Passing.{Passing}
use Rattle.rx_typeck_solver.specs.declared.facts.Fact.{Fact}
use Rattle.rx_typeck_solver.specs.declared.facts.Fact.TheVariants as fact
use Rattle.rx_typeck_typed.specs.Asking.{Asking, ◌>>◌, asks, ask, when, type_of, expected, is, alike, passes, all, signed, fitting, with_suffix, is_open}
use Rattle.rx_typeck_typed.specs.Demands as asked
use Rattle.rx_typeck_fault_laws.specs.TypeRules as rules
use Rattle.rx_typeck_fault_laws.specs.TypeRules.{TypeRule, are_signed, of_asked, of_node, of_pattern}
use Rattle.rx_typeck_fault_laws.proofs.Slots as slots
use Rattle.rx_typeck_fault_laws.proofs.Slots.{Slot, expects, own, binds, gives, returns, operands, shape, suffix, direct, range, arguments, names, step, limits, lifetimes, kept, mutable, settled}

itself : (n : ℕ) → nat_eq n n ≡ true
itself n = eq-eqb n n refl

module _ (m : ℕ) (s : Slot) where
  abbrev pub Within : Asking → ℕ → ℕ → Type 0
  Within g i j = slots.Within m s g i j

  -- a node and a slot of it
  abbrev pub hits : Node → Slot → ℕ
  hits n r = slots.hit m s n.number r

  pub some : {g : Asking} (j : ℕ) → Within g 0 0 → Within g 0 j
  some j w = slots.weaker m s 0 j w (omega arith)

  -- nothing that counts
  silent : {g h : Asking} → Within g 0 0 → Within h 0 0 → Within (g >> h) 0 0
  silent a b = slots.weaker m s 0 0 (slots.both m s a b) (omega arith)

  then_silent : {g h : Asking} {j : ℕ} → Within g 0 j → Within h 0 0 → Within (g >> h) 0 j
  then_silent {j = j} a b = slots.weaker m s 0 j (slots.both m s a b) (omega arith)

  silent_then : {g h : Asking} {j : ℕ} → Within g 0 0 → Within h 0 j → Within (g >> h) 0 j
  silent_then {j = j} a b = slots.weaker m s 0 j (slots.both m s a b) (omega arith)

  silent_where : {g : Asking} (b : Bool) → Within g 0 0 → Within (when b g) 0 0
  silent_where b w = slots.where_so m s b w

  never_met : (n : Node) (r : Rule) (t : TypeRule) → of_asked n.number (broken.Mismatch r) (fact.Never ∷ []) ≡ t → slots.slot_of t ≡ settled → fact.Never ∷ [] ≡ slots.facts_of n.number t
      → Within (ask n r (fact.Never ∷ [])) 0 0
  never_met n r t e u f = slots.certain m s n (broken.Mismatch r) false (fact.Never ∷ []) t e u f

  no_place : (n : Node) → Within (ask n Rule.NotPlace (fact.Never ∷ [])) 0 0
  no_place n = never_met n Rule.NotPlace rules.no_place refl refl refl

  pub unclear : (n : Node) → Within (ask n Rule.Unclear (fact.Never ∷ [])) 0 0
  unclear n = never_met n Rule.Unclear rules.unclear refl refl refl

  pub no_function : (n : Node) → Within (ask n Rule.NotFunction (fact.Never ∷ [])) 0 0
  no_function n = never_met n Rule.NotFunction rules.no_function refl refl refl

  -- ---- what a place expects

  expects_node : (n : Node) (k : ℕ) (b : Bool) → nat_eq k n.number ≡ b → Within (asked.expects n op.Same (subject.Node k ∷ [])) 0 (hits n expects)
  expects_node n k true e = some (hits n expects) (slots.certain m s n (broken.Mismatch Rule.Equal) false (is (expected n) op.Same (subject.Node k ∷ []) ∷ []) rules.own_expectation
      (ap (λ c. if c then rules.own_expectation else rules.expectation) e) refl (ap (λ i. is (expected n) op.Same (subject.Node i ∷ []) ∷ []) (eqb-true k n.number e)))
  expects_node n k false e = slots.counted m s n (broken.Mismatch Rule.Equal) false (is (expected n) op.Same (subject.Node k ∷ []) ∷ []) rules.expectation
      (ap (λ c. if c then rules.own_expectation else rules.expectation) e) (λ q. cc)

  pub expects_same : (n : Node) (x : Subject) → Within (asked.expects n op.Same (x ∷ [])) 0 (hits n expects)
  expects_same n (subject.Node k) = expects_node n k (nat_eq k n.number) refl
  expects_same n (subject.Variable x) = slots.counted m s n (broken.Mismatch Rule.Equal) false (is (expected n) op.Same (subject.Variable x ∷ []) ∷ []) rules.expectation refl (λ q. cc)
  expects_same n (subject.Expected k) = slots.counted m s n (broken.Mismatch Rule.Equal) false (is (expected n) op.Same (subject.Expected k ∷ []) ∷ []) rules.expectation refl (λ q. cc)

  pub expects_made : (n : Node) (o : Op) → Within (asked.expects n o []) 0 (hits n expects)
  expects_made n o = slots.counted m s n (broken.Mismatch Rule.Equal) false (is (expected n) o [] ∷ []) rules.expectation refl (λ q. cc)

  expects_own : (n : Node) → Within (asked.expects_own n) 0 0
  expects_own n = slots.certain m s n (broken.Mismatch Rule.Equal) false (alike (expected n) (type_of n) ∷ []) rules.own_expectation
      (ap (λ c. if c then rules.own_expectation else rules.expectation) (itself n.number)) refl refl

  coerces : (n : Node) → Within (asked.coerces n) 0 0
  coerces n = slots.certain m s n (broken.Mismatch Rule.Equal) false _ rules.coercion refl refl refl

  -- ---- places

  tests : (n : Node) (r : Rule) (t : Test) (xs : List Subject) (ps qs : List Passing) (u : TypeRule) → of_asked n.number (broken.Mismatch r) (fact.Passes t xs ps qs ∷ []) ≡ u → (slots.slot_of u ≡ settled → ⊥)
      → Within (ask n r (fact.Passes t xs ps qs ∷ [])) 0 (hits n (slots.slot_of u))
  tests n r t xs ps qs u e d = slots.counted m s n (broken.Mismatch r) false (fact.Passes t xs ps qs ∷ []) u e d

  mutability : (n : Node) (x : ℕ) (t : Test) (xs : List Subject) (ps qs : List Passing) → Within (asks n (broken.Mutability x) false (fact.Passes t xs ps qs ∷ [])) 0 (hits n mutable)
  mutability n x t xs ps qs = slots.counted m s n (broken.Mutability x) false (fact.Passes t xs ps qs ∷ []) (rules.mutable_place x) refl (λ q. cc)

  kept_in : (n : Node) (t : Test) (ps : List Passing) → Within (asked.kept n t ps) 0 (hits n kept)
  kept_in n t ps = tests n Rule.MoveOut t (type_of n ∷ []) [] ps rules.kept_place refl (λ q. cc)

  lendable : (n : Node) (x : ℕ) (ps : List Passing) → Within (asked.lendable n x ps) 0 (hits n mutable)
  lendable n x ps = mutability n x test.Lendable (type_of n ∷ expected n ∷ []) [] ps

  place_in : (n : Node) (x : ℕ) (ps : List Passing) (t : Site) → Within (asked.place_in n x ps t) 0 (hits n kept + hits n mutable)
  place_in n x ps Site.Value = slots.weaker m s 0 _ (kept_in n test.Kept ps) (omega arith)
  place_in n x ps Site.Place = some _ (slots.none m s)
  place_in n x ps Site.Scrutinee = some _ (slots.none m s)
  place_in n x ps Site.Expects = silent_then (coerces n) (slots.both m s (kept_in n test.KeptOrLent ps) (lendable n x ps))
  place_in n x ps Site.Initialises = slots.weaker m s 0 _ (silent_then (coerces n) (lendable n x ps)) (omega arith)
  place_in n x ps Site.Reborrows = silent_then (expects_own n) (slots.both m s (kept_in n test.KeptOrLent ps) (lendable n x ps))

  pub place : (e : Exp) → Within (asked.place_at e) 0 (hits (node_of e) kept + hits (node_of e) mutable)
  place e = place_in (node_of e) (root e).number (asked.through e) (node_of e).site

  value_in : (n : Node) (t : Site) → Within (asked.value_in n t) 0 0
  value_in n Site.Value = slots.none m s
  value_in n Site.Place = no_place n
  value_in n Site.Scrutinee = slots.none m s
  value_in n Site.Expects = coerces n
  value_in n Site.Initialises = coerces n
  value_in n Site.Reborrows = expects_own n

  pub value : (n : Node) → Within (asked.value_at n) 0 0
  value n = value_in n n.site

  never_in : (n : Node) (t : Site) → Within (asked.never_in n t) 0 0
  never_in n Site.Value = slots.none m s
  never_in n Site.Place = no_place n
  never_in n Site.Scrutinee = slots.none m s
  never_in n Site.Expects = slots.none m s
  never_in n Site.Initialises = slots.none m s
  never_in n Site.Reborrows = slots.none m s

  pub never_here : (n : Node) → Within (asked.never_at n) 0 0
  never_here n = never_in n n.site

  writable : (n : Node) (w : Bool) (x : ℕ) (ps : List Passing) → Within (asked.writable n w x ps) 0 (hits n mutable)
  writable n w x ps = mutability n x (test.Writable w) [] [] ps

  pub assignable : (n : Node) (e : Exp) → Within (asked.assignable n e) 0 (hits n mutable)
  assignable n e = slots.where_so m s (not (is_variable e)) (writable n (root e).mutable (root e).number (asked.through e))

  pub step_to : (n : Node) (o : Op) (e : Node) → Within (asked.step_at n o e) 0 (hits n step)
  step_to n o e = slots.counted m s n (broken.Mismatch Rule.NotPlace) false (is (type_of n) o (type_of e ∷ []) ∷ []) rules.place_step refl (λ q. cc)

  pub limited : (n : Node) → Within (asked.limits n) 0 (hits n limits)
  limited n = tests n Rule.Parts test.Limits (type_of n ∷ []) [] [] rules.type_limits refl (λ q. cc)

  -- a node has the type of its form
  pub owns : (n : Node) (o : Op) (xs : List Subject) → of_node o xs ≡ rules.own_type → Within (ask n Rule.Equal (is (type_of n) o xs ∷ [])) 0 (hits n own)
  owns n o xs e = slots.counted m s n (broken.Mismatch Rule.Equal) false (is (type_of n) o xs ∷ []) rules.own_type e (λ q. cc)

  pub borrowed : (n : Node) (w : Bool) (e : Node) (x : Use) (ps : List Passing) → Within (asked.borrowed n w e x ps) 0 (hits n own + (hits n limits + hits n mutable))
  borrowed n w e x ps = slots.both m s (owns n (op.Referring w) (type_of e ∷ []) refl)
      (slots.both m s (limited n) (then_silent (slots.where_so m s w (writable n x.mutable x.number ps)) (value n)))

  -- ---- expressions

  pub own_value : (n : Node) (o : Op) (xs : List Subject) → of_node o xs ≡ rules.own_type → Within (asked.own n o xs) 0 (hits n own)
  own_value n o xs e = then_silent (owns n o xs e) (value n)

  gives_unit : (n : Node) → Within (ask n Rule.Equal (is (type_of n) op.Unit [] ∷ [])) 0 0
  gives_unit n = slots.certain m s n (broken.Mismatch Rule.Equal) false (is (type_of n) op.Unit [] ∷ []) rules.unit_type refl refl refl

  pub own_unit : (n : Node) → Within (asked.own n op.Unit []) 0 0
  own_unit n = silent (gives_unit n) (value n)

  pub same : (n : Node) (k : ℕ) → Within (ask n Rule.Equal (alike (type_of n) (subject.Node k) ∷ [])) 0 0
  same n k = slots.certain m s n (broken.Mismatch Rule.Equal) false (alike (type_of n) (subject.Node k) ∷ []) (rules.same_type k) refl refl refl

  as_part : (n : Node) (v : Bool) (k : Node) → Within (asked.as_part n v k) 0 0
  as_part n v k = silent_where (not v) (same n k.number)

  joins_at : (n : Node) → Within (ask n Rule.Equal (alike (type_of n) (expected n) ∷ [])) 0 0
  joins_at n = slots.certain m s n (broken.Mismatch Rule.Equal) false (alike (type_of n) (expected n) ∷ []) rules.joined_type refl refl refl

  joins : (n : Node) (t : Site) → Within (asked.joins n t) 0 0
  joins n Site.Value = slots.none m s
  joins n Site.Place = no_place n
  joins n Site.Scrutinee = slots.none m s
  joins n Site.Expects = joins_at n
  joins n Site.Initialises = joins_at n
  joins n Site.Reborrows = expects_own n

  pub join : (n : Node) (v : Bool) → Within (asked.join n v) 0 0
  join n true = never_here n
  join n false = joins n n.site

  pub part_before : (n : Node) (t : Site) (k : Node) → Within (asked.part_before n t k) 0 (hits k expects)
  part_before n Site.Value k = some _ (slots.none m s)
  part_before n Site.Place k = some _ (slots.none m s)
  part_before n Site.Scrutinee k = some _ (slots.none m s)
  part_before n Site.Expects k = expects_same k (expected n)
  part_before n Site.Initialises k = expects_same k (expected n)
  part_before n Site.Reborrows k = some _ (slots.none m s)

  pub part_after : (n : Node) (t : Site) (v : Bool) (k : Node) → Within (asked.part_after n t v k) 0 0
  part_after n Site.Value v k = as_part n v k
  part_after n Site.Place v k = as_part n v k
  part_after n Site.Scrutinee v k = as_part n v k
  part_after n Site.Expects v k = slots.none m s
  part_after n Site.Initialises v k = slots.none m s
  part_after n Site.Reborrows v k = as_part n v k

  pub tested : (n : Node) (v : Bool) → Within (asked.tested n v) 0 0
  tested n v = silent_where (not v) (slots.certain m s n (broken.Mismatch Rule.KindOf) false (is (type_of n) op.Truth [] ∷ []) rules.tested
      (ap (λ c. if c then rules.tested else rules.operands) (itself n.number)) refl refl)

  pub printed : (n : Node) (v : Bool) → Within (asked.printed n v) 0 0
  printed n v = silent_where (not v) (slots.certain m s n (broken.Mismatch Rule.KindOf) false (passes test.Plain (type_of n ∷ []) ∷ []) rules.printed
      (ap (λ c. if c then rules.printed else rules.operands) (itself n.number)) refl refl)

  pub nothing_given : (n : Node) (v : Bool) → Within (asked.nothing_given n v) 0 0
  nothing_given n v = silent_where (not v) (gives_unit n)

  pub not_never : (n : Node) (v : Bool) → Within (asked.not_never n v) 0 0
  not_never n v = silent_where v (unclear n)

  pub named_at : (n : Node) (x : Use) (k : Bool) → Within (asked.named_at n x k) 0 (hits n own)
  named_at n x true = owns n op.Same (subject.Variable x.number ∷ []) refl
  named_at n x false = some _ (unclear n)

  -- a variable has the type of the node
  pub has_type : (n : Node) (x : ℕ) → Within (ask n Rule.Equal (alike (subject.Variable x) (type_of n) ∷ [])) 0 0
  has_type n x = slots.certain m s n (broken.Mismatch Rule.Equal) false (alike (subject.Variable x) (type_of n) ∷ []) (rules.variable_type x)
      (ap (λ c. if c then rules.variable_type x else rules.given_type) (itself n.number)) refl refl

  fits_given : (x : ℕ) (e : Node) (v : Bool) → Within (asked.fits_given x e v) 0 0
  fits_given x e v = silent_where (not v) (has_type e x)

  gives_type : (n : Node) (x k : ℕ) (b : Bool) → nat_eq k n.number ≡ b → Within (ask n Rule.Equal (alike (subject.Variable x) (subject.Node k) ∷ [])) 0 (hits n gives)
  gives_type n x k true e = some (hits n gives) (slots.certain m s n (broken.Mismatch Rule.Equal) false (alike (subject.Variable x) (subject.Node k) ∷ []) (rules.variable_type x)
      (ap (λ c. if c then rules.variable_type x else rules.given_type) e) refl (ap (λ i. alike (subject.Variable x) (subject.Node i) ∷ []) (eqb-true k n.number e)))
  gives_type n x k false e = slots.counted m s n (broken.Mismatch Rule.Equal) false (alike (subject.Variable x) (subject.Node k) ∷ []) rules.given_type
      (ap (λ c. if c then rules.variable_type x else rules.given_type) e) (λ q. cc)

  pub given : (n p : Node) (x : Use) (o : Option ℕ) (e : Node) (v : Bool) → Within (asked.given n p x o e v) 0 (hits n gives + hits p own)
  given n p x None e v = slots.weaker m s 0 _ (then_silent (named_at p x x.known) (fits_given x.number e v)) (omega arith)
  given n p x (Some d) e v = silent_then (not_never e v) (slots.both m s (gives_type n x.number e.number (nat_eq e.number n.number) refl)
      (slots.counted m s p (broken.Mismatch Rule.Equal) false (alike (type_of p) (subject.Variable x.number) ∷ alike (subject.Node d) (subject.Variable x.number) ∷ []) rules.own_type refl (λ q. cc)))

  -- what a part that may be missing leaves
  abbrev pub left_else : Else → ℕ
  left_else named.absent = 0
  left_else (named.present e) = hits (node_of e) expects

  pub returns_unit : (f : ℕ) (n : Node) (o : Else) → Within (asked.returns_unit f n o) 0 (hits n returns + left_else o)
  returns_unit f n named.absent = slots.weaker m s 0 _ (tests n Rule.Equal (test.GivesUnit f) [] [] [] rules.returned_unit refl (λ q. cc)) (omega arith)
  returns_unit f n (named.present e) = slots.weaker m s 0 _ (expects_made (node_of e) (op.Result f)) (omega arith)

  pub branch_before : (n : Node) (o : Else) (b : Body) → Within (asked.branch_before n o b) 0 (hits (body_node b) expects)
  branch_before n named.absent b = some _ (slots.none m s)
  branch_before n (named.present e) b = part_before n n.site (body_node b)

  pub branch_after : (n : Node) (o : Else) (b : Body) → Within (asked.branch_after n o b) 0 0
  branch_after n named.absent b = silent (nothing_given (body_node b) (body_never b)) (own_unit n)
  branch_after n (named.present e) b = part_after n n.site (body_never b) (body_node b)

  pub if_joins : (n : Node) (o : Else) (v : Bool) → Within (asked.if_joins n o v) 0 0
  if_joins n named.absent v = slots.none m s
  if_joins n (named.present e) v = join n v

  pub loop_given : (n : Node) (k : Bool) → Within (asked.loop_given n k) 0 0
  loop_given n true = own_unit n
  loop_given n false = never_here n

  pub each_before : (w : asked.Listed) (k : ℕ) (n : Node) → Within (asked.each_before w k n) 0 (hits n expects)
  each_before asked.members k n = some _ (slots.none m s)
  each_before asked.values k n = some _ (slots.none m s)
  each_before (asked.parameters g) k n = expects_made n (op.Parameter g k)
  each_before (asked.parts_of i v) k n = expects_made n (op.PartOf i v k)

  pub each_after : (w : asked.Listed) (e : Exp) → Within (asked.each_after w e) 0 0
  each_after asked.members e = not_never (node_of e) (never e)
  each_after asked.values e = slots.none m s
  each_after (asked.parameters g) e = slots.none m s
  each_after (asked.parts_of i v) e = slots.none m s

  pub integer : (n : Node) (g : Bool) (v : ℕ) (k : Option Kind) → Within (asked.integer_at n g v k) 0 (hits n own + hits n range)
  integer n g v k = slots.both m s (slots.counted m s n (broken.Mismatch Rule.Equal) false (fact.Integer n.number (with_suffix k) ∷ []) rules.own_type refl (λ q. cc))
      (silent_then (value n) (slots.counted m s n broken.Literal (is_open k) (fact.Integer n.number (fitting g v) ∷ []) rules.literal_range refl (λ q. cc)))

  pub counts_arguments : (n : Node) (t : Test) → Within (ask n Rule.Count (passes t [] ∷ [])) 0 (hits n arguments)
  counts_arguments n t = tests n Rule.Count t [] [] [] rules.argument_count refl (λ q. cc)

  pub names_fields : (n : Node) (t : Test) → Within (ask n Rule.Fields (passes t [] ∷ [])) 0 (hits n names)
  names_fields n t = tests n Rule.Fields t [] [] [] rules.field_names refl (λ q. cc)

  -- ---- operators

  operands_in : (n : Node) (fs : List Fact) → of_asked n.number (broken.Mismatch Rule.KindOf) fs ≡ rules.operands → Within (ask n Rule.KindOf fs) 0 (hits n operands)
  operands_in n fs e = slots.counted m s n (broken.Mismatch Rule.KindOf) false fs rules.operands e (λ q. cc)

  -- of one operand alone
  one_truth : (n : Node) (k : ℕ) (b : Bool) → nat_eq k n.number ≡ b → Within (ask n Rule.KindOf (is (subject.Node k) op.Truth [] ∷ [])) 0 (hits n operands)
  one_truth n k true e = some _ (slots.certain m s n (broken.Mismatch Rule.KindOf) false (is (subject.Node k) op.Truth [] ∷ []) rules.tested
      (ap (λ c. if c then rules.tested else rules.operands) e) refl (ap (λ i. is (subject.Node i) op.Truth [] ∷ []) (eqb-true k n.number e)))
  one_truth n k false e = operands_in n (is (subject.Node k) op.Truth [] ∷ []) (ap (λ c. if c then rules.tested else rules.operands) e)

  one_plain : (n : Node) (k : ℕ) (b : Bool) → nat_eq k n.number ≡ b → Within (ask n Rule.KindOf (passes test.Plain (subject.Node k ∷ []) ∷ [])) 0 (hits n operands)
  one_plain n k true e = some _ (slots.certain m s n (broken.Mismatch Rule.KindOf) false (passes test.Plain (subject.Node k ∷ []) ∷ []) rules.printed
      (ap (λ c. if c then rules.printed else rules.operands) e) refl (ap (λ i. passes test.Plain (subject.Node i ∷ []) ∷ []) (eqb-true k n.number e)))
  one_plain n k false e = operands_in n (passes test.Plain (subject.Node k ∷ []) ∷ []) (ap (λ c. if c then rules.printed else rules.operands) e)

  arithmetic : (n a : Node) (x : Bool) (b : Node) (y : Bool) → Within (ask n Rule.KindOf ((asked.own_operand n a x ++ asked.own_operand n b y) ++ fact.Integer n.number all ∷ [])) 0 (hits n operands)
  arithmetic n a true b true = operands_in n _ refl
  arithmetic n a true b false = operands_in n _ refl
  arithmetic n a false b true = operands_in n _ refl
  arithmetic n a false b false = operands_in n _ refl

  equality : (n a : Node) (x : Bool) (b : Node) (y : Bool) → Within (ask n Rule.KindOf ((asked.plain_operand a x ++ asked.plain_operand b y) ++ asked.same_operands a x b y)) 0 (hits n operands)
  equality n a true b true = operands_in n [] refl
  equality n a true b false = one_plain n b.number (nat_eq b.number n.number) refl
  equality n a false b true = one_plain n a.number (nat_eq a.number n.number) refl
  equality n a false b false = operands_in n _ refl

  pub ordered : (n a : Node) (x : Bool) (b : Node) (y : Bool) → Within (ask n Rule.KindOf ((asked.integer_operand a x ++ asked.integer_operand b y) ++ asked.same_operands a x b y)) 0 (hits n operands)
  ordered n a true b true = operands_in n [] refl
  ordered n a true b false = operands_in n _ refl
  ordered n a false b true = operands_in n _ refl
  ordered n a false b false = operands_in n _ refl

  lazy : (n a : Node) (x : Bool) (b : Node) (y : Bool) → Within (ask n Rule.KindOf (asked.truth_operand a x ++ asked.truth_operand b y)) 0 (hits n operands)
  lazy n a true b true = operands_in n [] refl
  lazy n a true b false = one_truth n b.number (nat_eq b.number n.number) refl
  lazy n a false b true = one_truth n a.number (nat_eq a.number n.number) refl
  lazy n a false b false = operands_in n _ refl

  pub negated : (n a : Node) (x : Bool) → Within (asked.negated n a x) 0 (hits n operands)
  negated n a true = then_silent (operands_in n _ refl) (value n)
  negated n a false = then_silent (operands_in n _ refl) (value n)

  truth : (n : Node) → Within (asked.own n op.Truth []) 0 (hits n own)
  truth n = own_value n op.Truth [] refl

  pub inverted : (n a : Node) (x : Bool) → Within (asked.inverted n a x) 0 (hits n operands + hits n own)
  inverted n a true = slots.both m s (operands_in n [] refl) (truth n)
  inverted n a false = slots.both m s (one_truth n a.number (nat_eq a.number n.number) refl) (truth n)

  module _ (n a : Node) (x : Bool) (b : Node) (y : Bool) where
    arithmetic_operation : Within (asked.arithmetic n a x b y) 0 (hits n operands + hits n own)
    arithmetic_operation = slots.weaker m s 0 _ (then_silent (arithmetic n a x b y) (value n)) (omega arith)

    pub operation : (o : BinaryOp) → Within (asked.operation o n a x b y) 0 (hits n operands + hits n own)
    operation BinaryOp.Or = slots.both m s (lazy n a x b y) (truth n)
    operation BinaryOp.And = slots.both m s (lazy n a x b y) (truth n)
    operation BinaryOp.Eq = slots.both m s (equality n a x b y) (truth n)
    operation BinaryOp.Ne = slots.both m s (equality n a x b y) (truth n)
    operation BinaryOp.Lt = slots.both m s (ordered n a x b y) (truth n)
    operation BinaryOp.Le = slots.both m s (ordered n a x b y) (truth n)
    operation BinaryOp.Gt = slots.both m s (ordered n a x b y) (truth n)
    operation BinaryOp.Ge = slots.both m s (ordered n a x b y) (truth n)
    operation BinaryOp.Add = arithmetic_operation
    operation BinaryOp.Sub = arithmetic_operation
    operation BinaryOp.Mul = arithmetic_operation
    operation BinaryOp.Div = arithmetic_operation
    operation BinaryOp.Rem = arithmetic_operation

  -- ---- patterns

  pub shaped : (n : Node) (t : Test) → of_pattern (passes t (type_of n ∷ [])) ≡ rules.pattern_shape → Within (asked.pattern_is n t) 0 (hits n shape)
  shaped n t e = tests n Rule.PatternOf t (type_of n ∷ []) [] [] rules.pattern_shape e (λ q. cc)

  minus : (n : Node) (g : Bool) → Within (asked.minus n g) 0 0
  minus n g = silent_where g (slots.certain m s n (broken.Mismatch Rule.PatternOf) false (fact.IntegerBehind n.number signed ∷ []) rules.literal_sign refl refl refl)

  one_kind : (k : Option Kind) → are_signed (with_suffix k) ≡ false
  one_kind None = refl
  one_kind (Some Kind.U8) = refl
  one_kind (Some Kind.U32) = refl
  one_kind (Some Kind.U64) = refl
  one_kind (Some Kind.I32) = refl
  one_kind (Some Kind.I64) = refl

  suffixed : (n : Node) (k : Option Kind) → Within (ask n Rule.PatternOf (fact.IntegerBehind n.number (with_suffix k) ∷ [])) 0 (hits n suffix)
  suffixed n k = slots.counted m s n (broken.Mismatch Rule.PatternOf) false (fact.IntegerBehind n.number (with_suffix k) ∷ []) rules.literal_suffix
      (ap (λ c. if c then rules.literal_sign else rules.literal_suffix) (one_kind k)) (λ q. cc)

  pub literal : (n : Node) (g : Bool) (v : ℕ) (k : Option Kind) → Within (asked.literal_at n g v k) 0 (hits n shape + (hits n suffix + hits n range))
  literal n g v k = slots.both m s (shaped n test.IntegerBehind refl) (silent_then (minus n g) (slots.both m s (suffixed n k)
      (slots.counted m s n broken.Literal (is_open k) (fact.IntegerBehind n.number (fitting g v) ∷ []) rules.literal_range refl (λ q. cc))))

  binding : (n : Node) (anc : List Passing) (w : asked.Matched) → Within (asked.binding_of n anc w) 0 (hits n kept + hits n mutable)
  binding n anc asked.a_value = some _ (slots.none m s)
  binding n anc (asked.a_place x qs) = slots.both m s (tests n Rule.MoveOut test.BindingKept (type_of n ∷ []) anc qs rules.kept_place refl (λ q. cc)) (mutability n x test.BindingWritable [] anc qs)
  binding n anc (asked.an_initialiser e x qs) = slots.both m s (tests n Rule.MoveOut test.BindingKeptOrLent (type_of n ∷ type_of e ∷ []) anc qs rules.kept_place refl (λ q. cc))
      (mutability n x test.BindingWritableOrLent (type_of e ∷ []) anc qs)

  pub bound : (w : asked.Matched) (anc : List Passing) (n : Node) (x : ℕ) (z : Bool) → Within (asked.bound_at w anc n x z) 0 (hits n binds + (hits n limits + (hits n direct + (hits n kept + hits n mutable))))
  bound w anc n x z = slots.both m s (slots.counted m s n (broken.Mismatch Rule.Equal) false (fact.Equals (subject.Variable x) op.Bound (type_of n ∷ []) anc ∷ []) rules.binding refl (λ q. cc))
      (slots.both m s (tests n Rule.Parts test.Limits (subject.Variable x ∷ []) [] [] rules.type_limits refl (λ q. cc))
      (slots.both m s (slots.where_so m s z (tests n Rule.PatternOf test.Direct [] anc [] rules.direct_binding refl (λ q. cc))) (binding n anc w)))

  -- ---- types and statements

  pub lifetimes_asked : (n : Node) (i : ℕ) (o : Option ℕ) → Within (asked.lifetimes_asked n i o) 0 (hits n lifetimes)
  lifetimes_asked n i None = some _ (slots.none m s)
  lifetimes_asked n i (Some k) = tests n Rule.Lifetimes (test.HasLifetimes i k) [] [] [] rules.lifetime_count refl (λ q. cc)

  one_variable_at : (n : Node) (o : Option ℕ) → Within (asked.one_variable_at n o) 0 0
  one_variable_at n (Some x) = slots.none m s
  one_variable_at n None = unclear n

  pub one_variable : (p : Pattern) → Within (asked.one_variable p) 0 0
  one_variable p = one_variable_at (pattern_node p) (whole_binding p)

  pub tail_before : (n : Node) (o : Else) → Within (asked.tail_before n o) 0 (left_else o)
  tail_before n named.absent = slots.none m s
  tail_before n (named.present e) = part_before n n.site (node_of e)

  pub tail_after : (n : Node) (d : Bool) (o : Else) → Within (asked.tail_after n d o) 0 0
  tail_after n d named.absent = nothing_given n d
  tail_after n d (named.present e) = part_after n n.site (never e) (node_of e)

  pub evaluated : (w : Bool) (n : Node) (v : Bool) → Within (asked.evaluated w n v) 0 0
  evaluated true n v = slots.none m s
  evaluated false n v = nothing_given n v
