-- Each read of an elaborated tree whose function meets what the rules of types ask moves what isn't Copy, and nothing from behind a reference. One
-- induction on the tree with numbers.
use Rattle.std.proofs.Common.{◌≡◌, ◌⊎◌, inl, inr, ℕ, suc, Bool, true, false, not, ◌&&◌, List, [], ◌∷◌, ◌++◌, Option, Some, None, slice_get, refl, sym, ap, ◌∙◌, subst, true≢false}
use Rattle.rx_core.specs.declared.types.Kind.{Kind}
use Rattle.rx_core.specs.declared.types.Step.{Step}
use Rattle.rx_core.specs.declared.types.Step.TheVariants as step
use Rattle.rx_tree.specs.declared.tree.BinaryOp.{BinaryOp}
use Rattle.rx_tree.specs.Lists.{Every}
use Rattle.rx_typed.specs.declared.nodes.Node.{Node}
use Rattle.rx_typed.specs.declared.nodes.Site.{Site}
use Rattle.rx_typed.specs.declared.nodes.Use.{Use}
use Rattle.rx_typed.specs.Types as types
use Rattle.rx_typed.specs.Types.{Typ, integer, boolean, tuple_of, reference, outline, peeled, fields_declared, field_typ, copies}
use Rattle.rx_typed.specs.Named as named
use Rattle.rx_typed.specs.Named.{Written, Pattern, Exp, Exps, Else, Fields, Arms, Body, Statement, Statements, Parameter, Function, written_node, pattern_node, node_of, body_node, is_place, is_variable, root, never, body_never, else_never, some_diverges, whole_binding}
use Rattle.rx_typed.specs.Naming.{passed_on, initialiser_site}
use Rattle.rx_typed.specs.Elaborated as elaborated
use Rattle.rx_typed.specs.Elaborated.{Assigned, Coercion}
use Rattle.rx_typed.specs.Tree as tree
use Rattle.rx_typed.specs.Tree.{variable, Temporary, Place, temporary_of}
use Rattle.rx_lower_walks.specs.Matching.{PartTest, Binding, tests, bindings}
use Rattle.rx_lower_walks.specs.Actions.{Act, Read, in_place, in_temporary}
use Rattle.rx_lower_walks.specs.Actions as actions
use Rattle.rx_lower_walks.specs.Orders as order
use Rattle.rx_lower_walks.specs.Orders.{Order, order_all, order_scrutinee, order_arms, order_body, order_function, testing, binding, declaring, beginning}
use Rattle.rx_typed_declarations.specs.Sizes.{Sized}
use Rattle.rx_facts_tables.specs.Places as spot
use Rattle.rx_facts_tables.specs.Setting.{is_behind}
use Rattle.rx_typeck_solver.specs.declared.facts.Subject.{Subject}
use Rattle.rx_typeck_solver.specs.declared.facts.Subject.TheVariants as subject
use Rattle.rx_typeck_solver.specs.declared.facts.Passing.{Passing}
use Rattle.rx_typeck_solver.specs.declared.facts.Demand.{Demand}
use Rattle.rx_typeck_solver.specs.declared.facts.Op.TheVariants as op
use Rattle.rx_typeck_solver.specs.Facts.{Assignment, KnownItems, coerced, field_of, part_of, pointee, MeetsEach, is_mutable_reference}
use Rattle.rx_typeck_typed.specs.Asking.{Asking}
use Rattle.rx_typeck_typed.specs.Demands as rules
use Rattle.rx_hoist_naming.proofs.Claims.{Claims, IsPlaced}
use Rattle.rx_repair.proofs.Sites.{Sited, EachSited, ElseSited, FieldsSited, ArmsSited, BodySited, StatementSited, StatementsSited, branch_site}
use Rattle.rx_meaning_accepted.proofs.Placed as placing
use Rattle.rx_meaning_accepted.proofs.Holding.{Holds}
use Rattle.rx_meaning_accepted.proofs.Facts.{some_same, fixed_same, same_if_plain}
use Rattle.rx_meaning_accepted.proofs.Uses.{UsedExp, UsedExps, UsedElse, UsedFields, UsedArms, UsedBody, UsedStatement, UsedStatements, UsedFunction}
use Rattle.rx_meaning_accepted.proofs.Writing.{assignable_asks}
use Rattle.rx_meaning_accepted.proofs.Asking.{value_asks, Asks, NoPlace, no_if_place, asks_map, none, both, then_first, then_second, then_u, one_asked, quiet, whole_type_u, refused, never_asks, join_asks, own_asks, borrowed_asks, before_u, after_u, tested_u, printed_u, unit_u, not_never_u, operation_asks, negated_asks, inverted_asks, given_u, returns_u, branch_before_u, branch_after_asks, if_joins_asks, one_variable_u, evaluated_u, tail_before_u, tail_after_u, loop_asks, each_before_u, each_after_u, integer_asks, never_given_u, parameters_u, result_u}
use Rattle.rx_engine_initial_typed.specs.ByType.{MovesByType}
use Rattle.rx_engine_initial_reads.proofs.Kept.{IsValue, KeptAt, kept_asks, expected_one, goes_through}
use Rattle.rx_engine_initial_reads.proofs.Patterns as patterns

module _ (C : Claims) (M : ℕ → Type 0) (K : KnownItems) (A : Assignment) (P : ℕ → ℕ) (ts : List (Option Typ)) (Z : Sized K.items P) (variables : (x : ℕ) → C.variable x → slice_get ts x ≡ Some (Some (A (subject.Variable x)))) where
  abbrev T : Assigned
  T = patterns.T K A P ts Z

  abbrev At : Place → Typ → Type 0
  At p t = patterns.At K A P ts Z p t

  abbrev Wants : Type 0 → Asking → Type 0
  Wants R a = Asks K A R a

  abbrev U : Asking → Type 0
  U a = Wants (Unit {0}) a

  abbrev Typed : Node → Typ
  Typed n = A (subject.Node n.number)

  abbrev pub Able : Act → Type 0
  Able (Read m p d) = (x : ℕ) → p.root ≡ variable x → MovesByType (patterns.F K A P ts Z) p m
  Able _ = Unit {0}

  abbrev pub H : Order → Type 0
  H s = Holds Able s

  abbrev Whole : tree.Exp → Type 0
  Whole e = (d : Temporary) → H (order.order e d)

  abbrev Fine : actions.Subject → tree.Pattern → Type 0
  Fine S q = patterns.Fine K A P ts Z S [] q

  abbrev Based : rules.Matched → actions.Subject → Type 0
  Based s S = patterns.Based K A P ts Z s S

  -- ---- places and sites

  abbrev Fits : Node → Site → Type 0
  Fits n t = t ≡ Site.Initialises → coerced (A (subject.Node n.number)) (A (subject.Expected n.number)) ≡ A (subject.Node n.number)

  place_asks : (n : Node) (x : ℕ) (ps : List Passing) (t : Site) → Wants (Fits n t × KeptAt K A n ps t) (rules.place_in n x ps t)
  place_asks n x ps Site.Value = asks_map (λ k. (λ e. cc, k)) (kept_asks K A n x ps Site.Value)
  place_asks n x ps Site.Place = asks_map (λ k. (λ e. cc, k)) (kept_asks K A n x ps Site.Place)
  place_asks n x ps Site.Scrutinee = asks_map (λ k. (λ e. cc, k)) (kept_asks K A n x ps Site.Scrutinee)
  place_asks n x ps Site.Expects = asks_map (λ k. (λ e. cc, k)) (kept_asks K A n x ps Site.Expects)
  place_asks n x ps Site.Initialises = asks_map (λ h. (λ e. some_same _ _ h.0, λ v q r. absurd v)) (then_first (one_asked n _ _ _) (quiet n _ _ _))
  place_asks n x ps Site.Reborrows = asks_map (λ k. (λ e. cc, k)) (kept_asks K A n x ps Site.Reborrows)

  part_step : (p : Place) (t : Typ) (k : ℕ) (u : Typ) → At p t → part_of k t ≡ Some u → At (tree.under p (step.Field k ∷ [])) u
  part_step p (integer k) i u h e = absurd (cc)
  part_step p boolean i u h e = absurd (cc)
  part_step p (tuple_of us) i u h e = placing.at_part (patterns.F K A P ts Z) Z p us i u h e
  part_step p (reference m t) i u h e = absurd (cc)
  part_step p (types.named j) i u h e = absurd (cc)

  field_step : (p : Place) (t : Typ) (x : List ℕ) (u : Typ) → At p t → field_of (λ k. k) K.items x t ≡ Some u → At (tree.under p (step.Field (elaborated.field_in K.items t x) ∷ [])) u
  field_step p (integer k) x u h e = absurd (cc)
  field_step p boolean x u h e = absurd (cc)
  field_step p (tuple_of us) x u h e = absurd (cc)
  field_step p (reference m t) x u h e = absurd (cc)
  field_step p (types.named j) x u h e = placing.at_field (patterns.F K A P ts Z) Z p j x u h (fixed_same (field_typ (fields_declared (slice_get K.items j)) x) u e)

  peeled_step : (p : Place) (t : Typ) (ss : List Step) (u : Typ) → At p t → (At (tree.under p (elaborated.dereferences t)) (peeled t) → At (tree.under (tree.under p (elaborated.dereferences t)) ss) u) → At (tree.under p (elaborated.dereferences t ++ ss)) u
  peeled_step p t ss u h f = placing.regrouped (patterns.F K A P ts Z) Z p (elaborated.dereferences t) ss u (f (placing.peels (patterns.F K A P ts Z) Z p t h))

  dereferenced : (p : Place) (t u : Typ) → At p t → pointee t ≡ Some u → At (tree.under p (elaborated.dereference t)) u
  dereferenced p (integer k) u h e = absurd (cc)
  dereferenced p boolean u h e = absurd (cc)
  dereferenced p (tuple_of us) u h e = absurd (cc)
  dereferenced p (reference m t) u h e = placing.through (patterns.F K A P ts Z) Z p m [] (reference m t) u h
  dereferenced p (types.named j) u h e = absurd (cc)

  stays : (p : Place) (t : Typ) → At p t → At (tree.under p []) t
  stays p t h = placing.goes (patterns.F K A P ts Z) Z p [] t t h (placing.leads (patterns.F K A P ts Z) Z [] t t (λ n. refl))

  not_again : {X : Type 0} → elaborated.reborrow ≡ elaborated.plain → X
  not_again q = absurd (cc)

  not_shared : {X : Type 0} → elaborated.share ≡ elaborated.plain → X
  not_shared q = absurd (cc)

  reads : (n : Node) (w : Coercion) (p : Place) → At p (Typed n) → (w ≡ elaborated.plain → is_behind p.steps ≡ true → copies K.items (Typed n) ≡ true) → Whole (elaborated.read_as T n w p)
  reads n elaborated.plain p h c d = λ x q. record { behind = λ b. ap not (c refl b); itself = λ b. let z = h x q in (Typed n, z.1 ∙ ap spot.whole (z.2 b), refl) }
  reads n elaborated.reborrow p h c d = tt
  reads n elaborated.share p h c d = tt

  -- ---- what is matched

  at_site : (n : Node) (x : ℕ) (ps : List Passing) (t : Site) (S : actions.Subject)
      → patterns.Held K A P ts Z S ⊎ (patterns.PlacedAt K A P ts Z ps S × (t ≡ Site.Initialises → is_mutable_reference (outline (Typed n)) ≡ false)) → Based (rules.matched_in t n x ps) S
  at_site n x ps Site.Value S (inl h) = inl h
  at_site n x ps Site.Value S (inr h) = inr h.0
  at_site n x ps Site.Place S (inl h) = inl h
  at_site n x ps Site.Place S (inr h) = inr h.0
  at_site n x ps Site.Scrutinee S (inl h) = inl h
  at_site n x ps Site.Scrutinee S (inr h) = inr h.0
  at_site n x ps Site.Expects S (inl h) = inl h
  at_site n x ps Site.Expects S (inr h) = inr h.0
  at_site n x ps Site.Initialises S (inl h) = inl h
  at_site n x ps Site.Initialises S (inr h) = inr (h.0, h.1 refl)
  at_site n x ps Site.Reborrows S (inl h) = inl h
  at_site n x ps Site.Reborrows S (inr h) = inr h.0

  based : (e : Exp) (v : tree.Exp) → (is_place e ≡ true → Fits (node_of e) (node_of e).site) → Based (rules.matched e) (actions.subject (elaborated.matched T e v))
  based e v f = by (is_place e) refl (elaborated.coercion_at T (node_of e)) refl
    where
      by : (b : Bool) → is_place e ≡ b → (c : Coercion) → elaborated.coercion_at T (node_of e) ≡ c → Based (rules.matched_if b (node_of e) (root e).number (rules.through e)) (actions.subject (elaborated.matched_as T b c e v))
      by false i elaborated.plain q = (temporary_of v, refl)
      by false i elaborated.reborrow q = (temporary_of v, refl)
      by false i elaborated.share q = (temporary_of v, refl)
      by true i elaborated.reborrow q = at_site (node_of e) (root e).number (rules.through e) (node_of e).site (in_temporary (temporary_of v)) (inl (temporary_of v, refl))
      by true i elaborated.share q = at_site (node_of e) (root e).number (rules.through e) (node_of e).site (in_temporary (temporary_of v)) (inl (temporary_of v, refl))
      by true i elaborated.plain q = at_site (node_of e) (root e).number (rules.through e) (node_of e).site (in_place (elaborated.place T e)) (inr (
        (elaborated.place T e, refl, λ h. goes_through K A e h),
        λ s. expected_one (Typed (node_of e)) (A (subject.Expected (node_of e).number)) (f i s) (subst (λ (t : Site). elaborated.coercion_in T (node_of e).number t ≡ elaborated.plain) s q),
      ))

  matched_at : (b : Bool) (c : Coercion) (e : Exp) (v : tree.Exp) (u : Typ) → (b ≡ true → At (elaborated.place T e) (A (subject.Node (node_of e).number)))
      → (b ≡ true → c ≡ elaborated.plain → A (subject.Node (node_of e).number) ≡ u) → At (actions.part (actions.subject (elaborated.matched_as T b c e v)) []) u
  matched_at true elaborated.plain e v u h g = stays (elaborated.place T e) u (subst (λ (t : Typ). At (elaborated.place T e) t) (g refl refl) (h refl))
  matched_at true elaborated.reborrow e v u h g = placing.held_is (patterns.F K A P ts Z) Z (temporary_of v) [] u
  matched_at true elaborated.share e v u h g = placing.held_is (patterns.F K A P ts Z) Z (temporary_of v) [] u
  matched_at false elaborated.plain e v u h g = placing.held_is (patterns.F K A P ts Z) Z (temporary_of v) [] u
  matched_at false elaborated.reborrow e v u h g = placing.held_is (patterns.F K A P ts Z) Z (temporary_of v) [] u
  matched_at false elaborated.share e v u h g = placing.held_is (patterns.F K A P ts Z) Z (temporary_of v) [] u

  -- ---- pieces of orders

  testing_holds : (S : actions.Subject) (us : List PartTest) (rest : Order) → H rest → H (testing S us rest)
  testing_holds S [] rest g = g
  testing_holds S (t ∷ us) rest g = (tt, (testing_holds S us rest g, tt))

  perhaps_holds : (S : actions.Subject) (b : Binding) → patterns.BindingFine K A P ts Z S b → (m : tree.Mode) → m ≡ b.mode → H (order.perhaps b.node (actions.taking m S b.steps (tree.temporary_at b.node 0)))
  perhaps_holds S b h (tree.by_reference k) e = tt
  perhaps_holds (in_place p) b h (tree.by_value v) e = λ x q. h v (sym e) x q
  perhaps_holds (in_temporary d) b h (tree.by_value v) e = tt

  binding_holds : (S : actions.Subject) (bs : List Binding) (n : ℕ) (rest : Order) → Every (patterns.BindingFine K A P ts Z S) bs → H rest → H (binding S bs n rest)
  binding_holds S [] n rest h g = g
  binding_holds S (b ∷ bs) n rest h g = (perhaps_holds S b h.0 b.mode refl, (tt, (tt, (tt, binding_holds S bs n rest h.1 g))))

  declaring_holds : (s : ℕ) (xs : List ℕ) (n : ℕ) (rest : Order) → H rest → H (declaring s xs n rest)
  declaring_holds s [] n rest g = g
  declaring_holds s (x ∷ xs) n rest g = (tt, (tt, declaring_holds s xs n rest g))

  passes_on : (n : Node) (w : Coercion) (x : tree.Exp) → Whole x → Whole (elaborated.passed_as T n w x)
  passes_on n elaborated.plain x h d = h d
  passes_on n elaborated.reborrow x h d = h d
  passes_on n elaborated.share x h d = (h (tree.temporary_at n.number 1), tt)

  two : (n : Node) (o : BinaryOp) (a b : tree.Exp) → Whole a → Whole b → Whole (tree.build (elaborated.mark T n) (tree.operation o) (tree.operand_and 0 a (tree.operand_and 1 b tree.no_operand)))
  two n o a b g h d = ((g (temporary_of a), (h (temporary_of b), tt)), tt)

  lazily : (n : Node) (k : Bool) (a b : tree.Exp) → Whole a → Whole b → Whole (tree.lazily (elaborated.mark T n) k a b)
  lazily n k a b g h d = (g (temporary_of a), (tt, ((h (temporary_of b), tt), tt)))

  operates : (n : Node) (o : BinaryOp) (a b : tree.Exp) → Whole a → Whole b → Whole (elaborated.operated T n o a b)
  operates n BinaryOp.And a b g h = lazily n true a b g h
  operates n BinaryOp.Or a b g h = lazily n false a b g h
  operates n BinaryOp.Eq a b g h = two n BinaryOp.Eq a b g h
  operates n BinaryOp.Ne a b g h = two n BinaryOp.Ne a b g h
  operates n BinaryOp.Lt a b g h = two n BinaryOp.Lt a b g h
  operates n BinaryOp.Le a b g h = two n BinaryOp.Le a b g h
  operates n BinaryOp.Gt a b g h = two n BinaryOp.Gt a b g h
  operates n BinaryOp.Ge a b g h = two n BinaryOp.Ge a b g h
  operates n BinaryOp.Add a b g h = two n BinaryOp.Add a b g h
  operates n BinaryOp.Sub a b g h = two n BinaryOp.Sub a b g h
  operates n BinaryOp.Mul a b g h = two n BinaryOp.Mul a b g h
  operates n BinaryOp.Div a b g h = two n BinaryOp.Div a b g h
  operates n BinaryOp.Rem a b g h = two n BinaryOp.Rem a b g h

  tuples : (n : Node) (es : tree.Operands) → H (order_all es) → Whole (elaborated.tuple_of T n es)
  tuples n tree.no_operand h d = tt
  tuples n (tree.operand_and i e es) h d = (h, tt)

  one : (m : tree.Mark) (w : tree.Making) (e : tree.Exp) → Whole e → Whole (tree.build m w (elaborated.one_operand e))
  one m w e h d = ((h (temporary_of e), tt), tt)

  arm : (S : actions.Subject) (p : tree.Pattern) (e : tree.Exp) (d : Temporary) → Fine S p → Whole e → H (testing S (tests [] p) (binding S (bindings [] p) (tree.mark_of e).node (order.order e d)))
  arm S p e d f h = testing_holds S (tests [] p) _ (binding_holds S (bindings [] p) _ _ f (h d))

  two_ways : (S : actions.Subject) (p : tree.Pattern) (a b : tree.Exp) (d : Temporary) → Fine S p → Whole a → Whole b → H (order_arms S (tree.arm_and p a (tree.arm_and tree.any b tree.no_arm)) d)
  two_ways S p a b d f g h = (arm S p a d f g, (arm S tree.any b d tt h, tt))

  tests_hold : (n : Node) (c : tree.Exp) (m : tree.Mark) (a b : tree.Exp) → Whole c → Whole a → Whole b → Whole (elaborated.tests n c m a b)
  tests_hold n c m a b f g h d = (f (temporary_of c), two_ways (in_temporary (temporary_of c)) (tree.exactly n.number (tree.truth true)) a b d tt g h)

  looks_hold : (m : tree.Mark) (s : tree.Scrutinee) (p : tree.Pattern) (a b : tree.Exp) → H (order_scrutinee s) → Fine (actions.subject s) p → Whole a → Whole b → Whole (elaborated.looks m s p a b)
  looks_hold m s p a b s' f g h d = (s', two_ways (actions.subject s) p a b d f g h)

  scrutinee_holds : (b : Bool) (w : Coercion) (e : Exp) (x : tree.Exp) → ((b ≡ true → w ≡ elaborated.plain → ⊥) → Whole x) → H (order_scrutinee (elaborated.matched_as T b w e x))
  scrutinee_holds true elaborated.plain e x h = tt
  scrutinee_holds true elaborated.reborrow e x h = h (λ i q. not_again q) (temporary_of x)
  scrutinee_holds true elaborated.share e x h = h (λ i q. not_shared q) (temporary_of x)
  scrutinee_holds false elaborated.plain e x h = h (λ i q. absurd (true≢false (sym i))) (temporary_of x)
  scrutinee_holds false elaborated.reborrow e x h = h (λ i q. not_again q) (temporary_of x)
  scrutinee_holds false elaborated.share e x h = h (λ i q. not_shared q) (temporary_of x)

  -- ---- what expressions give: a place is read where it stands as a value

  abbrev ValueAt : Exp → Type 0
  ValueAt e = is_place e ≡ true → elaborated.coercion_at T (node_of e) ≡ elaborated.plain → IsValue (node_of e).site

  record Gives (e : Exp) : Type 0 where
    placed : IsPlaced e → is_place e ≡ true
    place : is_place e ≡ true → At (elaborated.place T e) (A (subject.Node (node_of e).number))
    fits : is_place e ≡ true → Fits (node_of e) (node_of e).site
    value : ValueAt e → Whole (elaborated.value T e)

  no_place : (e : Exp) → is_place e ≡ false → NoPlace (node_of e).site → Whole (elaborated.value T e) → Gives e
  no_place e is f h = record { placed = λ p. absurd (f p); place = λ q. absurd (cc); fits = λ q. absurd (cc); value = λ v. h }

  a_place : (e : Exp) (n : Node) → n ≡ node_of e → is_place e ≡ true → elaborated.value T e ≡ elaborated.place_value T n (elaborated.place T e) → At (elaborated.place T e) (A (subject.Node n.number))
      → Fits n n.site × KeptAt K A n (rules.through e) n.site → Gives e
  a_place e n i is same h f = record {
    placed = λ p. is;
    place = λ q. subst (λ (m : Node). At (elaborated.place T e) (A (subject.Node m.number))) i h;
    fits = λ q. subst (λ (m : Node). Fits m m.site) i f.0;
    value = λ v. subst Whole (sym same) (reads n (elaborated.coercion_at T n) (elaborated.place T e) h
        (λ q b. f.1 (subst (λ (m : Node). IsValue m.site) (sym i) (v is (subst (λ (m : Node). elaborated.coercion_at T m ≡ elaborated.plain) i q))) q (goes_through K A e b)));
  }

  -- where a place is wanted, and where a value is
  root_of : (e : Exp) → IsPlaced e → Gives e → At (elaborated.place T e) (A (subject.Node (node_of e).number))
  root_of e p g = g.place (g.placed p)

  valued : (e : Exp) → Gives e → (t : Site) → (node_of e).site ≡ t → IsValue t → Whole (elaborated.value T e)
  valued e g t s v = g.value (λ i q. subst IsValue (sym s) v)

  passed_value : (t : Site) → IsValue (passed_on t)
  passed_value Site.Value = tt
  passed_value Site.Place = tt
  passed_value Site.Scrutinee = tt
  passed_value Site.Expects = tt
  passed_value Site.Initialises = tt
  passed_value Site.Reborrows = tt

  branch_value : (t : Site) (o : Else) → IsValue (branch_site t o)
  branch_value t named.absent = tt
  branch_value t (named.present e) = passed_value t

  matched_gives : (e : Exp) → Gives e → H (order_scrutinee (elaborated.matched T e (elaborated.value T e)))
  matched_gives e g = scrutinee_holds (is_place e) (elaborated.coercion_at T (node_of e)) e (elaborated.value T e) (λ n. g.value (λ i q. absurd (n i q)))

  -- a pattern against what is matched
  pattern_gives : (e : Exp) (p : Pattern) (u : Typ) → Gives e → (is_place e ≡ true → elaborated.coercion_at T (node_of e) ≡ elaborated.plain → A (subject.Node (node_of e).number) ≡ u)
      → ((S : actions.Subject) → Based (rules.matched e) S → At (actions.part S []) u → Fine S (elaborated.pattern T None p)) → Fine (actions.subject (elaborated.matched T e (elaborated.value T e))) (elaborated.pattern T None p)
  pattern_gives e p u g s f = f (actions.subject (elaborated.matched T e (elaborated.value T e))) (based e (elaborated.value T e) g.fits)
      (matched_at (is_place e) (elaborated.coercion_at T (node_of e)) e (elaborated.value T e) u g.place s)

  whole : (s : rules.Matched) (x : Subject) (p : Pattern) → Wants ((S : actions.Subject) → Based s S → At (actions.part S []) (A x) → Fine S (elaborated.pattern T None p)) (rules.whole_pattern s x p)
  whole s x p = patterns.whole_asks K A P ts Z s x p

  abbrev GivesElse : Else → Type 0
  GivesElse named.absent = Unit {0}
  GivesElse (named.present e) = Whole (elaborated.value T e)

  otherwise_gives : (n : Node) (o : Else) → GivesElse o → Whole (elaborated.otherwise T n o)
  otherwise_gives n named.absent h d = tt
  otherwise_gives n (named.present e) h d = h d

  returned_gives : (n : Node) (o : Else) → GivesElse o → Whole (tree.give (elaborated.no_mark n) (elaborated.returned T n o))
  returned_gives n named.absent h d = (tt, (tt, tt))
  returned_gives n (named.present e) h d = (h (temporary_of (elaborated.value T e)), (tt, tt))

  tail_gives : (n : Node) (o : Else) → GivesElse o → Whole (elaborated.tail T n o)
  tail_gives n named.absent h d = tt
  tail_gives n (named.present e) h d = h d

  given_tail : (n : Node) (o : Else) → GivesElse o → Whole (tree.give (elaborated.no_mark n) (elaborated.tail T n o))
  given_tail n o h d = (tail_gives n o h (temporary_of (elaborated.tail T n o)), (tt, tt))

  record GivesBody (b : Body) : Type 0 where
    value : Whole (elaborated.body T b)
    whole : Whole (elaborated.function_body T b)

  abbrev GivesStatement : Statement → Type 0
  GivesStatement a = (rest : tree.Body) → ((n : ℕ) (d : Temporary) → H (order_body rest n d)) → (n : ℕ) (d : Temporary) → H (order_body (elaborated.statement T a rest) n d)

  abbrev GivesStatements : Statements → Type 0
  GivesStatements ss = (last : tree.Exp) → Whole last → (n : ℕ) (d : Temporary) → H (order_body (elaborated.nested T ss last) n d)

  abbrev GivesArms : rules.Matched → Node → Arms → Type 0
  GivesArms s m l = (S : actions.Subject) → Based s S → At (actions.part S []) (A (subject.Node m.number)) → (d : Temporary) → H (order_arms S (elaborated.arms T l) d)

  named_asks : (n : Node) (x : Use) (k : Bool) → Wants (A (subject.Variable x.number) ≡ A (subject.Node n.number)) (rules.named_at n x k)
  named_asks n x true = asks_map (λ h. some_same _ _ h.0) (one_asked n _ _ _)
  named_asks n x false = asks_map (λ h. absurd h) (refused n _)

  variable_at : (n : Node) (x : Use) → C.variable x.number → A (subject.Variable x.number) ≡ A (subject.Node n.number) → At (tree.own x.number) (A (subject.Node n.number))
  variable_at n x h e = subst (λ (t : Typ). At (tree.own x.number) t) e (placing.variable_is (patterns.F K A P ts Z) Z x.number (A (subject.Variable x.number)) (variables x.number h))

  -- what is changed is an integer
  place_goes_on : (p : Exp) → is_place p ≡ true → never p ≡ false
  place_goes_on (named.var n x) e = refl
  place_goes_on (named.field n e x) h = refl
  place_goes_on (named.part n e i) h = refl
  place_goes_on (named.deref n e) h = refl
  place_goes_on _ h = absurd (true≢false (sym h))

  updated_asks : (n a : Node) (x : Bool) (b : Node) (y : Bool) → Wants (x ≡ false → copies K.items (Typed a) ≡ true) (rules.updated n a x b y)
  updated_asks n a true b y = asks_map (λ h e. absurd (true≢false e)) (quiet n _ _ _)
  updated_asks n a false b y = asks_map (λ h e. ap (λ (t : Typ). copies K.items t) h.0.1) (one_asked n _ _ _)

  updates : (n : Node) (o : BinaryOp) (p : Place) (e : tree.Exp) (t : Typ) → At p t → copies K.items t ≡ true → Whole e → Whole (tree.update (elaborated.mark T n) o p e)
  updates n o p e t h c g d = (g (temporary_of e), (λ x q. record { behind = λ b. refl; itself = λ b. let z = h x q in (t, z.1 ∙ ap spot.whole (z.2 b), sym (ap not c)) }, (tt, tt)))

  -- the branches of an `if`
  record Branches (n : Node) (b : Body) (o : Else) : Type 0 where
    first : Whole (elaborated.body T b)
    second : GivesElse o
    outside : NoPlace n.site

  branches : (f : ℕ) (n : Node) (b : Body) (o : Else) → Wants (GivesBody b) (rules.of_body f b) → Wants (GivesElse o) (rules.of_else f n o) → Wants (Branches n b o) (rules.of_branches f n (b, o))
  branches f n b o x y =
      asks_map (λ h. record { first = h.0.value; second = h.1.1.0; outside = no_if_place n o h.1.0 h.1.1.1 })
      (then_second (branch_before_u n o b) (both x (both (branch_after_asks n o b) (both y (if_joins_asks n o (body_never b && else_never o))))))

  -- ---- `let`

  declared_u : (p : Pattern) (t : Option Written) → U (rules.declared p t)
  declared_u p None = one_variable_u (pattern_node p) (whole_binding p)
  declared_u p (Some t) = then_u (whole_type_u t) (whole rules.a_value _ p)

  -- what an initialiser is expected to be
  abbrev Expects : Option Written → Exp → Type 0
  Expects None e = Unit {0}
  Expects (Some t) e = A (subject.Node (written_node t).number) ≡ A (subject.Expected (node_of e).number)

  typed_before_asks : (t : Option Written) (e : Exp) → Wants (Expects t e) (rules.typed_before t e)
  typed_before_asks None e = none
  typed_before_asks (Some t) e = then_second (whole_type_u t) (asks_map (λ h. some_same _ _ h.0) (one_asked (node_of e) _ _ _))

  abbrev Scrutinised : Exp → Pattern → Type 0
  Scrutinised e p = Gives e → Fine (actions.subject (elaborated.matched T e (elaborated.value T e))) (elaborated.pattern T None p)

  -- what never goes on is no place
  never_place : (e : Exp) → never e ≡ true → is_place e ≡ false
  never_place (named.var n x) h = absurd (true≢false (sym h))
  never_place (named.field n e x) h = absurd (true≢false (sym h))
  never_place (named.part n e i) h = absurd (true≢false (sym h))
  never_place (named.deref n e) h = absurd (true≢false (sym h))
  never_place _ h = refl

  alone : (p : Pattern) (d : Temporary) → Wants (Fine (in_temporary d) (elaborated.pattern T None p)) (rules.one_variable p)
  alone (named.bind n x m) d = asks_map (λ _. ((λ v e y q. absurd (cc)), tt)) none
  alone (named.wild n) d = asks_map (λ g. absurd g) (refused n _)
  alone (named.whole_number n g v k) d = asks_map (λ g. absurd g) (refused n _)
  alone (named.truth n b) d = asks_map (λ g. absurd g) (refused n _)
  alone (named.tuple_pattern n ps) d = asks_map (λ g. absurd g) (refused n _)
  alone (named.variant_pattern n i v ps) d = asks_map (λ g. absurd g) (refused n _)
  alone (named.struct_pattern n i fs) d = asks_map (λ g. absurd g) (refused n _)

  held_there : (b : Bool) (c : Coercion) (e : Exp) (v : tree.Exp) → b ≡ false → actions.subject (elaborated.matched_as T b c e v) ≡ in_temporary (temporary_of v)
  held_there false elaborated.plain e v q = refl
  held_there false elaborated.reborrow e v q = refl
  held_there false elaborated.share e v q = refl
  held_there true c e v q = absurd (true≢false q)

  initialised_by_asks : (v : Bool) (p : Pattern) (e : Exp) → never e ≡ v → Wants (Scrutinised e p) (rules.initialised_by v p (rules.matched e) (node_of e))
  initialised_by_asks true p e n =
      asks_map (λ f g. subst (λ (S : actions.Subject). Fine S (elaborated.pattern T None p)) (sym (held_there (is_place e) (elaborated.coercion_at T (node_of e)) e (elaborated.value T e) (never_place e n))) f) (alone p (temporary_of (elaborated.value T e)))
  initialised_by_asks false p e n = asks_map (λ f g. pattern_gives e p (A (subject.Node (node_of e).number)) g (λ _ _. refl) f) (whole (rules.matched e) _ p)

  -- what stands where a type is written is of this type
  fitted : (n : Node) (t : Typ) → n.site ≡ Site.Initialises → Fits n n.site → t ≡ A (subject.Expected n.number) → elaborated.coercion_at T n ≡ elaborated.plain → A (subject.Node n.number) ≡ t
  fitted n t s f x c =
      same_if_plain (A (subject.Node n.number)) (A (subject.Expected n.number)) (sym (ap (λ (z : Site). elaborated.coercion_in T n.number z) s) ∙ c) (f s) ∙ sym x

  initialised_asks : (p : Pattern) (t : Option Written) (e : Exp) → (node_of e).site ≡ initialiser_site t → Wants (Expects t e → Scrutinised e p) (rules.initialised p t e)
  initialised_asks p None e s = asks_map (λ f x. f) (initialised_by_asks (never e) p e refl)
  initialised_asks p (Some t) e s =
      asks_map (λ f x g. pattern_gives e p (A (subject.Node (written_node t).number)) g (λ b c. fitted (node_of e) (A (subject.Node (written_node t).number)) s (g.fits b) x c) f) (whole (rules.matched e) _ p)

  mutual
    exp_asks : (f : ℕ) (e : Exp) → UsedExp C M e → Sited e → Wants (Gives e) (rules.of_exp f e)
    exp_asks f (named.int n m v k) h s = asks_map (λ p. no_place (named.int n m v k) refl p (λ d. (tt, tt))) (integer_asks n m v k)
    exp_asks f (named.bool n b) h s = asks_map (λ p. no_place (named.bool n b) refl p (λ d. (tt, tt))) (own_asks n op.Truth [])
    exp_asks f (named.tuple n es) h s =
        asks_map (λ g. no_place (named.tuple n es) refl g.1.0 (tuples n (elaborated.operands T 0 es) g.0)) (both (each_asks f rules.members 0 es h Site.Value s tt) (both (own_asks n op.Tuple _) (quiet n _ _ _)))
    exp_asks f (named.var n x) h s = asks_map (λ g. a_place (named.var n x) n refl refl refl (variable_at n x h.0 g.0) g.1) (both (named_asks n x x.known) (place_asks n _ _ n.site))
    exp_asks f (named.field n e x) h s =
        asks_map (λ g. a_place (named.field n e x) n refl refl refl
        (peeled_step (elaborated.place T e) (A (subject.Node (node_of e).number)) _ (A (subject.Node n.number)) (root_of e h.1 g.0) (λ q. field_step (tree.under (elaborated.place T e) (elaborated.dereferences (A (subject.Node (node_of e).number)))) (peeled (A (subject.Node (node_of e).number))) x (A (subject.Node n.number)) q g.1.0.0)) g.1.1)
        (both (exp_asks f e h.0 s.0) (both (one_asked n _ _ _) (place_asks n _ _ n.site)))
    exp_asks f (named.part n e i) h s =
        asks_map (λ g. a_place (named.part n e i) n refl refl refl
        (peeled_step (elaborated.place T e) (A (subject.Node (node_of e).number)) _ (A (subject.Node n.number)) (root_of e h.1 g.0) (λ q. part_step (tree.under (elaborated.place T e) (elaborated.dereferences (A (subject.Node (node_of e).number)))) (peeled (A (subject.Node (node_of e).number))) i (A (subject.Node n.number)) q g.1.0.0)) g.1.1)
        (both (exp_asks f e h.0 s.0) (both (one_asked n _ _ _) (place_asks n _ _ n.site)))
    exp_asks f (named.deref n e) h s =
        asks_map (λ g. a_place (named.deref n e) n refl refl refl (dereferenced (elaborated.place T e) (A (subject.Node (node_of e).number)) (A (subject.Node n.number)) (root_of e h.1 g.0) g.1.0.0) g.1.1)
        (both (exp_asks f e h.0 s.0) (both (one_asked n _ _ _) (place_asks n _ _ n.site)))
    exp_asks f (named.negate n e) h s = asks_map (λ g. no_place (named.negate n e) refl g.1 (one (elaborated.mark T n) tree.negation (elaborated.value T e) (valued e g.0 Site.Value s.1 tt))) (both (exp_asks f e h s.0) (negated_asks n (node_of e) (never e)))
    exp_asks f (named.invert n e) h s = asks_map (λ g. no_place (named.invert n e) refl g.1 (one (elaborated.mark T n) tree.inversion (elaborated.value T e) (valued e g.0 Site.Value s.1 tt))) (both (exp_asks f e h s.0) (inverted_asks n (node_of e) (never e)))
    exp_asks f (named.borrow n m e) h s =
        asks_map (λ g. no_place (named.borrow n m e) refl g.1 (passes_on n (elaborated.coercion_at T n) (tree.borrow (elaborated.mark T n) m (elaborated.place T e)) (λ d. tt))) (both (exp_asks f e h.0 s.0) (borrowed_asks n m (node_of e) (root e) _))
    exp_asks f (named.binary n o a b) h s =
        asks_map (λ g. no_place (named.binary n o a b) refl g.1.1 (operates n o (elaborated.value T a) (elaborated.value T b) (valued a g.0 Site.Value s.0.1 tt) (valued b g.1.0 Site.Value s.1.1 tt)))
        (both (exp_asks f a h.0 s.0.0) (both (exp_asks f b h.1 s.1.0) (operation_asks o n (node_of a) (never a) (node_of b) (never b))))
    exp_asks f (named.assign n p e) h s =
        asks_map (λ g. no_place (named.assign n p e) refl g.1.1.1.1 (λ d. (valued e g.1.1.0 Site.Expects s.1.1 tt (temporary_of (elaborated.value T e)), tt)))
        (both (exp_asks f p h.0.0 s.0.0) (both (quiet (node_of e) _ _ _) (both (exp_asks f e h.1 s.1.0) (both (assignable_asks K A n (is_variable p) (root p) (rules.through p)) (own_asks n op.Unit [])))))
    exp_asks f (named.gives n p x d e) h s =
        asks_map (λ g. no_place (named.gives n p x d e) refl g.1 (λ d. (valued e g.0 Site.Reborrows s.1 tt (temporary_of (elaborated.value T e)), tt)))
        (both (exp_asks f e h.1 s.0) (then_second (given_u n p x d (node_of e) (never e)) (own_asks n op.Unit [])))
    exp_asks f (named.update n o p e) h s =
        asks_map (λ g. no_place (named.update n o p e) refl g.1.1.1.1 (updates n (elaborated.operator o) (elaborated.place T p) (elaborated.value T e) (A (subject.Node (node_of p).number)) (root_of p h.0.1 g.0)
        (g.1.1.0 (place_goes_on p (g.0.placed h.0.1))) (valued e g.1.0 Site.Value s.1.1 tt)))
        (both (exp_asks f p h.0.0 s.0.0) (both (exp_asks f e h.1 s.1.0) (both (updated_asks n (node_of p) (never p) (node_of e) (never e)) (both (assignable_asks K A n (is_variable p) (root p) (rules.through p)) (own_asks n op.Unit [])))))
    exp_asks f (named.call n g es) h s =
        asks_map (λ x. no_place (named.call n g es) refl x.1.1 (passes_on n (elaborated.coercion_at T n) (tree.call (elaborated.mark T n) g (elaborated.operands T 0 es)) (λ d. (x.0, tt))))
        (then_second (quiet n _ _ _) (both (each_asks f (rules.parameters g) 0 es h Site.Expects s tt) (both (one_asked n _ _ _) (value_asks n n.site))))
    exp_asks f (named.hidden_call n es) h s = asks_map (λ g. absurd g) (then_first (refused n _) (each_asks f rules.values 0 es h Site.Value s tt))
    exp_asks f (named.next_input n) h s = asks_map (λ p. no_place (named.next_input n) refl p (λ d. tt)) (own_asks n (op.Integer Kind.I64) [])
    exp_asks f (named.variant n i v es) h s =
        asks_map (λ x. no_place (named.variant n i v es) refl x.1 (λ d. (x.0, tt))) (then_second (quiet n _ _ _) (both (each_asks f (rules.parts_of i v) 0 es h.1 Site.Expects s tt) (own_asks n (op.Item i) [])))
    exp_asks f (named.make n i fs) h s =
        asks_map (λ x. no_place (named.make n i fs) refl x.1 (λ d. (x.0, tt))) (then_second (quiet n _ _ _) (both (fields_asks f i fs h.1 s) (own_asks n (op.Item i) [])))
    exp_asks f (named.print n e) h s =
        asks_map (λ g. no_place (named.print n e) refl g.1 (λ d. (valued e g.0 Site.Value s.1 tt (temporary_of (elaborated.value T e)), tt))) (both (exp_asks f e h s.0) (then_second (printed_u (node_of e) (never e)) (own_asks n op.Unit [])))
    exp_asks f (named.block n b) h s =
        asks_map (λ g. no_place (named.block n b) refl g.1 g.0.value)
        (then_second (before_u n n.site (body_node b)) (both (body_asks f b h (passed_on n.site) s (passed_value n.site)) (then_second (after_u n n.site (body_never b) (body_node b)) (join_asks n (body_never b)))))
    exp_asks f (named.if n c b o) h s =
        asks_map (λ g. no_place (named.if n c b o) refl g.1.outside (tests_hold n (elaborated.value T c) (elaborated.mark_if T n (body_never b && else_never o)) (elaborated.body T b) (elaborated.otherwise T n o)
        (valued c g.0 Site.Value s.0.1 tt) g.1.first (otherwise_gives n o g.1.second)))
        (both (exp_asks f c h.0 s.0.0) (then_second (tested_u (node_of c) (never c)) (branches f n b o (body_asks f b h.1 (branch_site n.site o) s.1 (branch_value n.site o)) (else_asks f n o h.2 (passed_on n.site) s.2 (passed_value n.site)))))
    exp_asks f (named.if_let n p e b o) h s =
        asks_map (λ g. no_place (named.if_let n p e b o) refl g.1.1.outside (looks_hold (elaborated.mark_if T n (body_never b && else_never o)) (elaborated.matched T e (elaborated.value T e)) (elaborated.pattern T None p)
        (elaborated.body T b) (elaborated.otherwise T n o) (matched_gives e g.0) (pattern_gives e p (A (subject.Node (node_of e).number)) g.0 (λ _ _. refl) g.1.0) g.1.1.first (otherwise_gives n o g.1.1.second)))
        (both (exp_asks f e h.1 s.0.0) (then_second (not_never_u (node_of e) (never e)) (both (whole (rules.matched e) _ p) (branches f n b o (body_asks f b h.2 (branch_site n.site o) s.1 (branch_value n.site o)) (else_asks f n o h.3 (passed_on n.site) s.2 (passed_value n.site))))))
    exp_asks f (named.match n e l) h s =
        asks_map (λ g. no_place (named.match n e l) refl g.1.1 (λ d. (
          matched_gives e g.0,
          g.1.0 (actions.subject (elaborated.matched T e (elaborated.value T e))) (based e (elaborated.value T e) g.0.fits)
              (matched_at (is_place e) (elaborated.coercion_at T (node_of e)) e (elaborated.value T e) (A (subject.Node (node_of e).number)) g.0.place (λ _ _. refl)) d,
        )))
        (both (exp_asks f e h.0 s.0.0) (then_second (not_never_u (node_of e) (never e)) (both (arms_asks f n (rules.matched e) (node_of e) l h.1 (passed_on n.site) s.1 (passed_value n.site)) (join_asks n (named.all_never l)))))
    exp_asks f (named.loop n l k b) h s =
        asks_map (λ g. no_place (named.loop n l k b) refl g.1 (λ d. g.0.value (temporary_of (elaborated.body T b)))) (both (body_asks f b h Site.Value s tt) (then_second (unit_u (body_node b) (body_never b)) (loop_asks n k)))
    exp_asks f (named.while n l c b) h s =
        asks_map (λ g. let x = elaborated.tests n (elaborated.value T c) (elaborated.mark_if T (body_node b) (body_never b)) (elaborated.body T b) (elaborated.leaves n l) in
        no_place (named.while n l c b) refl g.1.1 (λ d. tests_hold n (elaborated.value T c) (elaborated.mark_if T (body_node b) (body_never b)) (elaborated.body T b) (elaborated.leaves n l) (valued c g.0 Site.Value s.0.1 tt) g.1.0.value (λ _. tt) (temporary_of x)))
        (both (exp_asks f c h.0 s.0.0) (then_second (tested_u (node_of c) (never c)) (both (body_asks f b h.1 Site.Value s.1 tt) (then_second (unit_u (body_node b) (body_never b)) (own_asks n op.Unit [])))))
    exp_asks f (named.while_let n l p e b) h s =
        asks_map (λ g. let x = elaborated.looks (elaborated.mark_if T (body_node b) (body_never b)) (elaborated.matched T e (elaborated.value T e)) (elaborated.pattern T None p) (elaborated.body T b) (elaborated.leaves n l) in
        no_place (named.while_let n l p e b) refl g.1.1.1 (λ d. looks_hold (elaborated.mark_if T (body_node b) (body_never b)) (elaborated.matched T e (elaborated.value T e)) (elaborated.pattern T None p)
        (elaborated.body T b) (elaborated.leaves n l) (matched_gives e g.0) (pattern_gives e p (A (subject.Node (node_of e).number)) g.0 (λ _ _. refl) g.1.0) g.1.1.0.value (λ _. tt) (temporary_of x)))
        (both (exp_asks f e h.1 s.0.0) (then_second (not_never_u (node_of e) (never e)) (both (whole (rules.matched e) _ p) (both (body_asks f b h.2 Site.Value s.1 tt) (then_second (unit_u (body_node b) (body_never b)) (own_asks n op.Unit []))))))
    exp_asks f (named.break n l) h s = asks_map (λ p. no_place (named.break n l) refl p (λ d. tt)) (never_asks n n.site)
    exp_asks f (named.continue n l) h s = asks_map (λ p. no_place (named.continue n l) refl p (λ d. tt)) (never_asks n n.site)
    exp_asks f (named.return n o) h s =
        asks_map (λ g. no_place (named.return n o) refl g.1 (returned_gives n o g.0)) (then_second (returns_u f n o) (both (returned_asks f o h Site.Expects s tt) (never_asks n n.site)))

    each_asks : (f : ℕ) (w : rules.Listed) (k : ℕ) (es : Exps) → UsedExps C M es → (t : Site) → EachSited t es → IsValue t → Wants (H (order_all (elaborated.operands T k es))) (rules.of_each f w k es)
    each_asks f w k named.no_exp h t s v = none
    each_asks f w k (named.exp_and e es) h t s v =
        asks_map (λ g. (valued e g.0 t s.0.1 v (temporary_of (elaborated.value T e)), g.1)) (then_second (each_before_u w k (node_of e)) (both (exp_asks f e h.0 s.0.0) (then_second (each_after_u w e) (each_asks f w (suc k) es h.1 t s.1 v))))

    fields_asks : (f i : ℕ) (fs : Fields) → UsedFields C M fs → FieldsSited fs → Wants (H (order_all (elaborated.fields T i fs))) (rules.of_fields f i fs)
    fields_asks f i named.no_field h s = none
    fields_asks f i (named.field_and x e fs) h s =
        asks_map (λ g. (valued e g.0 Site.Expects s.0.1 tt (temporary_of (elaborated.value T e)), g.1)) (then_second (quiet (node_of e) _ _ _) (both (exp_asks f e h.0 s.0.0) (fields_asks f i fs h.1 s.1)))

    else_asks : (f : ℕ) (n : Node) (o : Else) → UsedElse C M o → (t : Site) → ElseSited t o → IsValue t → Wants (GivesElse o) (rules.of_else f n o)
    else_asks f n named.absent h t s v = none
    else_asks f n (named.present e) h t s v = asks_map (λ g. valued e g t s.1 v) (then_second (before_u n n.site (node_of e)) (then_first (exp_asks f e h s.0) (after_u n n.site (never e) (node_of e))))

    returned_asks : (f : ℕ) (o : Else) → UsedElse C M o → (t : Site) → ElseSited t o → IsValue t → Wants (GivesElse o) (rules.of_returned f o)
    returned_asks f named.absent h t s v = none
    returned_asks f (named.present e) h t s v = asks_map (λ g. valued e g t s.1 v) (exp_asks f e h s.0)

    arms_asks : (f : ℕ) (n : Node) (x : rules.Matched) (m : Node) (l : Arms) → UsedArms C M l → (t : Site) → ArmsSited t l → IsValue t → Wants (GivesArms x m l) (rules.of_arms f n x m l)
    arms_asks f n x m named.no_arm h t s v = asks_map (λ _ S b g d. tt) none
    arms_asks f n x m (named.arm_and p e l) h t s v =
        asks_map (λ g S b k d. (arm S (elaborated.pattern T None p) (elaborated.value T e) d (g.0 S b k) (valued e g.1.0 t s.0.1 v), g.1.1 S b k d))
        (both (whole x _ p) (then_second (before_u n n.site (node_of e)) (both (exp_asks f e h.1 s.0.0) (then_second (after_u n n.site (never e) (node_of e)) (arms_asks f n x m l h.2 t s.1 v)))))

    body_asks : (f : ℕ) (b : Body) → UsedBody C M b → (t : Site) → BodySited t b → IsValue t → Wants (GivesBody b) (rules.of_body f b)
    body_asks f (named.body n ss o) h t s v =
        asks_map (λ g. record { value = g.0 (elaborated.tail T n o) (tail_gives n o g.1) n.number; whole = g.0 (tree.give (elaborated.no_mark n) (elaborated.tail T n o)) (given_tail n o g.1) n.number })
        (both (statements_asks f ss h.0 s.1) (then_second (tail_before_u n o) (then_first (returned_asks f o h.1 t s.2 v)
        (then_u (tail_after_u n (some_diverges ss) o) (join_asks n (named.tail_never (some_diverges ss) o))))))

    statement_asks : (f : ℕ) (x : Statement) → UsedStatement C M x → StatementSited x → Wants (GivesStatement x) (rules.of_statement f x)
    statement_asks f (named.declares n p t) h s = asks_map (λ _ rest r m d. declaring_holds n.number (elaborated.variables p) m (order_body rest m d) (r m d)) (declared_u p t)
    statement_asks f (named.lets n p t e) h s =
        asks_map (λ g rest r m d. (matched_gives e g.1.0, binding_holds (actions.subject (elaborated.matched T e (elaborated.value T e))) (bindings [] (elaborated.pattern T None p)) m (order_body rest m d) (g.1.1 g.0 g.1.0) (r m d)))
        (both (typed_before_asks t e) (both (exp_asks f e h.2 s.0) (initialised_asks p t e s.1)))
    statement_asks f (named.evaluates n e b) h s = asks_map (λ g rest r m d. (valued e g Site.Value s.1 tt (temporary_of (elaborated.value T e)), r m d)) (then_first (exp_asks f e h s.0) (evaluated_u b (node_of e) (never e)))

    statements_asks : (f : ℕ) (ss : Statements) → UsedStatements C M ss → StatementsSited ss → Wants (GivesStatements ss) (rules.of_statements f ss)
    statements_asks f named.no_statement h s = asks_map (λ _ last r m d. r d) none
    statements_asks f (named.statement_and a ss) h s = asks_map (λ g last r. g.0 (elaborated.nested T ss last) (g.1 last r)) (both (statement_asks f a h.0 s.0) (statements_asks f ss h.1 s.1))

  -- ---- functions

  function_asks : (f : Function) → UsedFunction C M f → BodySited Site.Expects f.body → Wants (GivesBody f.body) (rules.of_function f)
  function_asks f h s = then_second (parameters_u f.params) (then_second (result_u f.result) (then_second (quiet (body_node f.body) _ _ _) (then_first (body_asks f.item f.body h.body Site.Expects s tt) (never_given_u f.never_given))))

  begin_holds : (xs : List Parameter) (n : ℕ) (rest : Order) → H rest → H (beginning (elaborated.parameters xs) n rest)
  begin_holds [] n rest g = g
  begin_holds (x ∷ xs) n rest g = (tt, (tt, (tt, begin_holds xs n rest g)))

  pub function_holds : (f : Function) → UsedFunction C M f → BodySited Site.Expects f.body → MeetsEach K A (rules.demands f) → H (order_function (elaborated.elaborated T f))
  function_holds f h s met =
      let x = function_asks f h s in
      begin_holds f.params _ _ ((x.gives (subst (λ (l : List Demand). MeetsEach K A l) (x.adds []) met)).whole (temporary_of (elaborated.function_body T f.body)))
