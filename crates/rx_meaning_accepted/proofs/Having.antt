-- Of an elaborated tree whose function meets what the rules of types ask: each variable and each place that is looked at has a part, and what
-- is built of set values is set. One induction on the tree with numbers.
use Rattle.std.proofs.Common.{length, ◌≡◌, ℕ, suc, Bool, true, false, ◌&&◌, List, [], ◌∷◌, ◌++◌, Option, Some, None, slice_get, refl, sym, ap, ◌∙◌, subst, append_assoc}
use Rattle.std.specs.Prelude.{nat_eq, pos}
use Rattle.rx_core.specs.declared.types.Kind.{Kind}
use Rattle.rx_core.specs.declared.types.Step.{Step}
use Rattle.rx_core.specs.declared.types.Step.TheVariants as step
use Rattle.rx_tree.specs.declared.tree.BinaryOp.{BinaryOp}
use Rattle.rx_tree.specs.Lists.{Every}
use Rattle.rx_typed.specs.declared.nodes.Node.{Node}
use Rattle.rx_typed.specs.declared.nodes.Site.{Site}
use Rattle.rx_typed.specs.declared.nodes.Use.{Use}
use Rattle.rx_typed.specs.Types as types
use Rattle.rx_typed.specs.Types.{Shapes, Typ, integer, boolean, tuple_of, reference, no_shape, shape_and, shape_map, shapes_map, shapes_listed, outline, peeled, FieldDeclared, fields_declared, field_typ, field_number, variant_parts}
use Rattle.rx_typed.specs.Named as named
use Rattle.rx_typed.specs.Named.{Written, WrittenTypes, Pattern, Patterns, FieldPatterns, Exp, Exps, Else, Fields, Arms, Body, Statement, Statements, Parameter, Function, written_node, pattern_node, whole_binding, node_of, body_node, is_place, is_variable, root, never, body_never, else_never, some_diverges}
use Rattle.rx_typed.specs.Naming.{initialiser_site}
use Rattle.rx_typed.specs.Elaborated as elaborated
use Rattle.rx_typed.specs.Elaborated.{Assigned, Coercion, Met}
use Rattle.rx_typed.specs.Tree as tree
use Rattle.rx_typed.specs.Tree.{Temporary, Place, temporary_of, fields_of, temporaries_of}
use Rattle.rx_lower_walks.specs.Matching.{PartTest, Binding, tests, tests_in, tag_test, bindings, bindings_in}
use Rattle.rx_lower_walks.specs.Actions.{Act, Declare, Dead, Read, Write, Borrow, Test, Call, Build, Input, Print, Give, in_place, in_temporary}
use Rattle.rx_lower_walks.specs.Actions as actions
use Rattle.rx_lower_walks.specs.Orders as order
use Rattle.rx_lower_walks.specs.Walks.{actions_in, Among, IsWalk}
use Rattle.rx_lower_walks.specs.Orders.{Order, order_all, order_scrutinee, order_arms, order_body, order_function, testing, binding, declaring, beginning}
use Rattle.rx_typed_declarations.specs.Sizes.{Sized}
use Rattle.rx_facts_tables.specs.Places.{Frame}
use Rattle.rx_typeck_solver.specs.declared.facts.Broken.{Broken}
use Rattle.rx_typeck_solver.specs.declared.facts.Subject.{Subject}
use Rattle.rx_typeck_solver.specs.declared.facts.Subject.TheVariants as subject
use Rattle.rx_typeck_solver.specs.declared.facts.Op.TheVariants as op
use Rattle.rx_typeck_solver.specs.declared.facts.Test.TheVariants as test
use Rattle.rx_typeck_solver.specs.declared.facts.Passing.{Passing}
use Rattle.rx_typeck_solver.specs.declared.facts.Fact.TheVariants as fact
use Rattle.rx_typeck_solver.specs.declared.facts.Demand.{Demand}
use Rattle.rx_typeck_solver.specs.Facts.{MeetsAll, Assignment, KnownItems, coerced, field_of, part_of, pointee, names_of, exactly, MeetsEach}
use Rattle.rx_typeck_typed.specs.Asking.{Asking, asks}
use Rattle.rx_typeck_typed.specs.Demands as rules
use Rattle.rx_hoist_naming.proofs.Claims.{Claims, OfPattern, OfPatterns, OfFieldPatterns, IsPlaced, OfParameters}
use Rattle.rx_facts_tables.specs.Setting.{looked_at}
use Rattle.rx_facts_tables.specs.Wholes.{placed}
use Rattle.rx_meaning_keeping.specs.Ready.{HasPart, Ready}
use Rattle.rx_meaning_accepted.proofs.Holding.{Holds, of_walk, of_among}
use Rattle.rx_exits_plan.specs.Unmarked.{makes_mark, is_mark}
use Rattle.rx_exits_plan.specs.Coming.{HasNoMark}
use Rattle.rx_meaning_accepted.proofs.Making as making
use Rattle.rx_meaning_accepted.proofs.Making.{Has, Complete, Makes}
use Rattle.rx_meaning_accepted.proofs.Placed as placing
use Rattle.rx_meaning_accepted.proofs.Facts.{CallFits, call_fits, arguments_count, some_same, fixed_same, item_of, same_if_plain, fields_complete, operands_complete, every_both, NamedApart}
use Rattle.rx_meaning_accepted.proofs.Uses.{UsedExp, UsedExps, UsedElse, UsedFields, UsedArms, UsedBody, UsedStatement, UsedStatements, UsedFunction}
use Rattle.rx_meaning_accepted.proofs.Writing.{PartFits, whole_fits, assignable_asks, written_fits}
use Rattle.rx_meaning_accepted.proofs.Asking.{value_asks, Asks, NoPlace, no_if_place, asks_map, none, both, then_first, then_second, then_u, one_asked, quiet, whole_type_u, refused, never_asks, join_asks, own_asks, borrowed_asks, bound_u, literal_u, before_u, after_u, tested_u, printed_u, unit_u, not_never_u, operation_asks, updated_u, negated_asks, inverted_asks, given_u, returns_u, branch_before_u, branch_after_asks, if_joins_asks, one_variable_u, evaluated_u, tail_before_u, tail_after_u, loop_asks, each_before_u, each_after_u, integer_asks, never_given_u, parameters_u, result_u}

module _ (C : Claims) (M : ℕ → Type 0) (K : KnownItems) (A : Assignment) (P : ℕ → ℕ) (ts : List (Option Typ)) (Z : Sized K.items P) (apart : (i : ℕ) → NamedApart (fields_declared (slice_get K.items i)))
    (variables : (x : ℕ) → C.variable x → slice_get ts x ≡ Some (Some (A (subject.Variable x)))) where
  abbrev pub T : Assigned
  T = record { items = K.items; typ = λ n. A (subject.Node n); expected = λ n. A (subject.Expected n) }

  abbrev pub F : Frame
  F = record { declared = K.items; sizes = P; types = ts }

  abbrev At : Place → Typ → Type 0
  At p t = placing.IsAt F Z p t

  abbrev Looked : Place → Type 0
  Looked p = placing.Looked F Z p

  -- what is asked of each act
  abbrev pub Able : Act → Type 0
  Able (Declare x) = HasPart F x []
  Able (Dead x) = HasPart F x []
  Able (Read m p d) = Looked p
  Able (Borrow k p d) = Looked p
  Able (Test p c) = Looked p
  Able (Build m js ts d) = Makes m js ts × (makes_mark m js ts ≡ false) × making.OfNoField m js
  Able (Call g ts d) = CallFits K.items g ts
  Able (Write p t ss) = PartFits M p
  Able _ = Unit {0}

  abbrev pub H : Order → Type 0
  H s = Holds Able s

  -- ---- what is asked, and what holds where it is met

  -- ---- types

  -- ---- places and sites

  -- what holds where this is met, by the assignment
  abbrev Wants : Type 0 → Asking → Type 0
  Wants R a = Asks K A R a

  abbrev U : Asking → Type 0
  U a = Wants (Unit {0}) a

  -- at an initialiser's place the type is the expected one, before its coercion
  abbrev Fits : Node → Site → Type 0
  Fits n t = t ≡ Site.Initialises → coerced (A (subject.Node n.number)) (A (subject.Expected n.number)) ≡ A (subject.Node n.number)

  fits_asks : (n : Node) → Wants (coerced (A (subject.Node n.number)) (A (subject.Expected n.number)) ≡ A (subject.Node n.number)) (rules.coerces n)
  fits_asks n = asks_map (λ h. some_same _ _ h.0) (one_asked n _ _ _)

  place_asks : (n : Node) (x : ℕ) (ps : List Passing) (t : Site) → Wants (Fits n t) (rules.place_in n x ps t)
  place_asks n x ps Site.Value = asks_map (λ h e. cc) (quiet n _ _ _)
  place_asks n x ps Site.Place = asks_map (λ h e. cc) none
  place_asks n x ps Site.Scrutinee = asks_map (λ h e. cc) none
  place_asks n x ps Site.Expects = asks_map (λ h e. cc) (then_u (quiet n _ _ _) (then_u (quiet n _ _ _) (quiet n _ _ _)))
  place_asks n x ps Site.Initialises = asks_map (λ h e. h) (then_first (fits_asks n) (quiet n _ _ _))
  place_asks n x ps Site.Reborrows = asks_map (λ h e. cc) (then_u (quiet n _ _ _) (then_u (quiet n _ _ _) (quiet n _ _ _)))

  -- ---- variables and places

  has : (x : ℕ) → C.variable x → HasPart F x []
  has x h = placing.looked F Z (tree.own x) (A (subject.Variable x)) (placing.variable_is F Z x (A (subject.Variable x)) (variables x h)) x [] refl

  looks : (p : Place) (t : Typ) → At p t → Looked p
  looks p t h = placing.looked F Z p t h

  held_looks : (t : Temporary) (ss : List Step) → Looked (tree.under (tree.temporary_place t) ss)
  held_looks t ss = placing.nowhere_looked F Z (tree.under (tree.temporary_place t) ss) t refl

  stays : (p : Place) (t : Typ) → At p t → At (tree.under p []) t
  stays p t h = placing.goes F Z p [] t t h (placing.leads F Z [] t t (λ n. refl))

  part_step : (p : Place) (t : Typ) (k : ℕ) (u : Typ) → At p t → part_of k t ≡ Some u → At (tree.under p (step.Field k ∷ [])) u
  part_step p (integer k) i u h e = absurd (cc)
  part_step p boolean i u h e = absurd (cc)
  part_step p (tuple_of ts) i u h e = placing.at_part F Z p ts i u h e
  part_step p (reference m t) i u h e = absurd (cc)
  part_step p (types.named j) i u h e = absurd (cc)

  field_step : (p : Place) (t : Typ) (x : List ℕ) (u : Typ) → At p t → field_of (λ k. k) K.items x t ≡ Some u → At (tree.under p (step.Field (elaborated.field_in K.items t x) ∷ [])) u
  field_step p (integer k) x u h e = absurd (cc)
  field_step p boolean x u h e = absurd (cc)
  field_step p (tuple_of ts) x u h e = absurd (cc)
  field_step p (reference m t) x u h e = absurd (cc)
  field_step p (types.named j) x u h e = placing.at_field F Z p j x u h (fixed_same (field_typ (fields_declared (slice_get K.items j)) x) u e)

  -- a step from what references are gone through to
  peeled_step : (p : Place) (t : Typ) (ss : List Step) (u : Typ) → At p t → (At (tree.under p (elaborated.dereferences t)) (peeled t) → At (tree.under (tree.under p (elaborated.dereferences t)) ss) u) → At (tree.under p (elaborated.dereferences t ++ ss)) u
  peeled_step p t ss u h f = placing.regrouped F Z p (elaborated.dereferences t) ss u (f (placing.peels F Z p t h))

  dereferenced : (p : Place) (t u : Typ) → At p t → pointee t ≡ Some u → At (tree.under p (elaborated.dereference t)) u
  dereferenced p (integer k) u h e = absurd (cc)
  dereferenced p boolean u h e = absurd (cc)
  dereferenced p (tuple_of ts) u h e = absurd (cc)
  dereferenced p (reference m t) u h e = placing.through F Z p m [] (reference m t) u h
  dereferenced p (types.named j) u h e = absurd (cc)

  -- ---- patterns

  abbrev TestFine : actions.Subject → PartTest → Type 0
  TestFine S t = Looked (actions.part S t.steps)

  abbrev BindingFine : actions.Subject → Binding → Type 0
  BindingFine S b = HasPart F b.variable [] × Looked (actions.part S b.steps)

  abbrev Fine : actions.Subject → List Step → tree.Pattern → Type 0
  Fine S at q = Every (TestFine S) (tests at q) × Every (BindingFine S) (bindings at q)

  abbrev FineIn : actions.Subject → List Step → tree.Subpatterns → Type 0
  FineIn S at qs = Every (TestFine S) (tests_in at qs) × Every (BindingFine S) (bindings_in at qs)

  further : (S : actions.Subject) (at ss : List Step) (t : Typ) → At (tree.under (actions.part S at) ss) t → At (actions.part S (at ++ ss)) t
  further (in_place p) at ss t h = placing.regrouped F Z p at ss t h
  further (in_temporary d) at ss t h = placing.regrouped F Z (tree.temporary_place d) at ss t h

  behind_fine : (t : Typ) (q : tree.Pattern) (S : actions.Subject) (at : List Step) → At (actions.part S at) t → ((at : List Step) → At (actions.part S at) (peeled t) → Fine S at q) → Fine S at (elaborated.behind_all t q)
  behind_fine (integer k) q S at h f = f at h
  behind_fine boolean q S at h f = f at h
  behind_fine (tuple_of ts) q S at h f = f at h
  behind_fine (reference m t) q S at h f = behind_fine t q S (at ++ step.Deref m ∷ []) (further S at (step.Deref m ∷ []) t (placing.through F Z (actions.part S at) m [] (reference m t) t h)) f
  behind_fine (types.named i) q S at h f = f at h

  part_and_fine : (S : actions.Subject) (at : List Step) (k : ℕ) (q : tree.Pattern) (qs : tree.Subpatterns) → Fine S (at ++ step.Field k ∷ []) q → FineIn S at qs → FineIn S at (tree.part_and k q qs)
  part_and_fine S at k q qs h g = (
    every_both (TestFine S) (tests (at ++ step.Field k ∷ []) q) (tests_in at qs) h.0 g.0,
    every_both (BindingFine S) (bindings (at ++ step.Field k ∷ []) q) (bindings_in at qs) h.1 g.1,
  )

  tag_fine : (S : actions.Subject) (b : Bool) (n v : ℕ) (at : List Step) (t : Typ) → At (actions.part S at) t → Every (TestFine S) (tag_test b n at v)
  tag_fine S true n v at t h = (looks (actions.part S at) t h, tt)
  tag_fine S false n v at t h = tt

  exactly_fine : (n : Node) (c : tree.Constant) (S : actions.Subject) (at : List Step) → At (actions.part S at) (A (subject.Node n.number)) → Fine S at (elaborated.behind_all (A (subject.Node n.number)) (tree.exactly n.number c))
  exactly_fine n c S at h = behind_fine (A (subject.Node n.number)) (tree.exactly n.number c) S at h (λ at g. ((looks (actions.part S at) (peeled (A (subject.Node n.number))) g, tt), tt))

  in_variant : (S : actions.Subject) (at : List Step) (i v k : ℕ) (u : Typ) → At (actions.part S at) (types.named i) → slice_get (variant_parts K.items i v) k ≡ Some u → At (actions.part S ((at ++ step.Variant v ∷ []) ++ step.Field k ∷ [])) u
  in_variant S at i v k u h e =
      subst (λ (ss : List Step). At (actions.part S ss) u) (sym (append_assoc at (step.Variant v ∷ []) (step.Field k ∷ [])))
      (further S at (step.Variant v ∷ step.Field k ∷ []) u (placing.at_variant F Z (actions.part S at) i v k u h e))

  -- where a pattern is matched against a place of its type, so are its parts
  abbrev FineAt : Typ → ((Met → tree.Pattern)) → Type 0
  FineAt t q = (r : Met) (S : actions.Subject) (at : List Step) → At (actions.part S at) t → Fine S at (q r)

  is_item_asks : (n : Node) (i : ℕ) → Wants (peeled (A (subject.Node n.number)) ≡ types.named i) (rules.pattern_is n (test.ItemBehind i))
  is_item_asks n i = asks_map (λ h. item_of i (A (subject.Node n.number)) h.0) (one_asked n _ _ _)

  mutual
    pattern_asks : (s : rules.Matched) (anc : List Passing) (p : Pattern) → OfPattern C p → Wants (FineAt (A (subject.Node (pattern_node p).number)) (λ r. elaborated.pattern T r p)) (rules.of_pattern s anc p)
    pattern_asks s anc (named.wild n) h = asks_map (λ _ r S at g. (tt, tt)) none
    pattern_asks s anc (named.bind n x m) h = asks_map (λ _ r S at g. (tt, ((has x h, looks (actions.part S at) (A (subject.Node n.number)) g), tt))) (bound_u s anc n x m)
    pattern_asks s anc (named.whole_number n g v k) h = asks_map (λ _ r S at f. exactly_fine n _ S at f) (literal_u n g v k)
    pattern_asks s anc (named.truth n b) h = asks_map (λ _ r S at f. exactly_fine n _ S at f) (quiet n _ _ _)
    pattern_asks s anc (named.tuple_pattern n ps) h =
        asks_map (λ f r S at g. behind_fine (A (subject.Node n.number)) (tree.parts (elaborated.subpatterns T (elaborated.met (A (subject.Node n.number)) r) 0 ps)) S at g (λ at k. f (elaborated.met (A (subject.Node n.number)) r) S at k))
        (then_second (quiet n _ _ _) (parts_asks s _ n 0 ps h))
    pattern_asks s anc (named.variant_pattern n i v ps) h =
        asks_map (λ f r S at g. behind_fine (A (subject.Node n.number)) (tree.variant n.number i (elaborated.has_several K.items i) v (elaborated.subpatterns T (elaborated.met (A (subject.Node n.number)) r) 0 ps)) S at g
        (λ at k. let l = subst (λ (t : Typ). At (actions.part S at) t) f.0 k in let z = f.1 (elaborated.met (A (subject.Node n.number)) r) S at l in (
          every_both (TestFine S) (tag_test (elaborated.has_several K.items i) n.number at v) _ (tag_fine S (elaborated.has_several K.items i) n.number v at (types.named i) l) z.0,
          z.1,
        )))
        (both (is_item_asks n i) (then_second (quiet n _ _ _) (variant_parts_asks s _ i v 0 ps h.1)))
    pattern_asks s anc (named.struct_pattern n i fs) h =
        asks_map (λ f r S at g. behind_fine (A (subject.Node n.number)) (tree.parts (elaborated.field_patterns T (elaborated.met (A (subject.Node n.number)) r) i fs)) S at g
        (λ at k. f.1 (elaborated.met (A (subject.Node n.number)) r) S at (subst (λ (t : Typ). At (actions.part S at) t) f.0 k)))
        (both (is_item_asks n i) (then_second (quiet n _ _ _) (field_patterns_asks s _ i fs h.1)))

    parts_asks : (s : rules.Matched) (anc : List Passing) (n : Node) (k : ℕ) (ps : Patterns) → OfPatterns C ps
        → Wants ((r : Met) (S : actions.Subject) (at : List Step) → At (actions.part S at) (peeled (A (subject.Node n.number))) → FineIn S at (elaborated.subpatterns T r k ps)) (rules.of_parts s anc n k ps)
    parts_asks s anc n k named.no_pattern h = asks_map (λ _ r S at g. (tt, tt)) none
    parts_asks s anc n k (named.pattern_and p ps) h =
        asks_map (λ f r S at g. part_and_fine S at k (elaborated.pattern T r p) (elaborated.subpatterns T r (suc k) ps)
        (f.1.0 r S (at ++ step.Field k ∷ []) (further S at (step.Field k ∷ []) _ (part_step (actions.part S at) (peeled (A (subject.Node n.number))) k (A (subject.Node (pattern_node p).number)) g f.0.0))) (f.1.1 r S at g))
        (both (one_asked (pattern_node p) _ _ _) (both (pattern_asks s anc p h.0) (parts_asks s anc n (suc k) ps h.1)))

    variant_parts_asks : (s : rules.Matched) (anc : List Passing) (i v k : ℕ) (ps : Patterns) → OfPatterns C ps
        → Wants ((r : Met) (S : actions.Subject) (at : List Step) → At (actions.part S at) (types.named i) → FineIn S (at ++ step.Variant v ∷ []) (elaborated.subpatterns T r k ps)) (rules.of_variant_parts s anc i v k ps)
    variant_parts_asks s anc i v k named.no_pattern h = asks_map (λ _ r S at g. (tt, tt)) none
    variant_parts_asks s anc i v k (named.pattern_and p ps) h =
        asks_map (λ f r S at g. part_and_fine S (at ++ step.Variant v ∷ []) k (elaborated.pattern T r p) (elaborated.subpatterns T r (suc k) ps)
        (f.1.0 r S ((at ++ step.Variant v ∷ []) ++ step.Field k ∷ []) (in_variant S at i v k (A (subject.Node (pattern_node p).number)) g (fixed_same (slice_get (variant_parts K.items i v) k) (A (subject.Node (pattern_node p).number)) f.0.0))) (f.1.1 r S at g))
        (both (one_asked (pattern_node p) _ _ _) (both (pattern_asks s anc p h.0) (variant_parts_asks s anc i v (suc k) ps h.1)))

    field_patterns_asks : (s : rules.Matched) (anc : List Passing) (i : ℕ) (fs : FieldPatterns) → OfFieldPatterns C fs
        → Wants ((r : Met) (S : actions.Subject) (at : List Step) → At (actions.part S at) (types.named i) → FineIn S at (elaborated.field_patterns T r i fs)) (rules.of_field_patterns s anc i fs)
    field_patterns_asks s anc i named.no_field_pattern h = asks_map (λ _ r S at g. (tt, tt)) none
    field_patterns_asks s anc i (named.field_pattern_and x p fs) h =
        asks_map (λ f r S at g. let k = elaborated.field_in K.items (types.named i) x in part_and_fine S at k (elaborated.pattern T r p) (elaborated.field_patterns T r i fs)
        (f.1.0 r S (at ++ step.Field k ∷ []) (further S at (step.Field k ∷ []) _ (field_step (actions.part S at) (types.named i) x (A (subject.Node (pattern_node p).number)) g f.0.0))) (f.1.1 r S at g))
        (both (one_asked (pattern_node p) _ _ _) (both (pattern_asks s anc p h.0) (field_patterns_asks s anc i fs h.1)))

  -- a whole pattern, where what is matched has the type of a subject
  whole_asks : (s : rules.Matched) (x : Subject) (p : Pattern) → OfPattern C p → Wants ((S : actions.Subject) → At (actions.part S []) (A x) → Fine S [] (elaborated.pattern T None p)) (rules.whole_pattern s x p)
  whole_asks s x p h =
      asks_map (λ f S g. f.1 None S [] (subst (λ (t : Typ). At (actions.part S []) t) (some_same (A x) (A (subject.Node (pattern_node p).number)) f.0.0) g))
      (both (one_asked (pattern_node p) _ _ _) (pattern_asks s [] p h))

  matched_at : (b : Bool) (c : Coercion) (e : Exp) (v : tree.Exp) (u : Typ) → (b ≡ true → At (elaborated.place T e) (A (subject.Node (node_of e).number)))
      → (b ≡ true → c ≡ elaborated.plain → A (subject.Node (node_of e).number) ≡ u) → At (actions.part (actions.subject (elaborated.matched_as T b c e v)) []) u
  matched_at true elaborated.plain e v u h g = stays (elaborated.place T e) u (subst (λ (t : Typ). At (elaborated.place T e) t) (g refl refl) (h refl))
  matched_at true elaborated.reborrow e v u h g = placing.held_is F Z (temporary_of v) [] u
  matched_at true elaborated.share e v u h g = placing.held_is F Z (temporary_of v) [] u
  matched_at false elaborated.plain e v u h g = placing.held_is F Z (temporary_of v) [] u
  matched_at false elaborated.reborrow e v u h g = placing.held_is F Z (temporary_of v) [] u
  matched_at false elaborated.share e v u h g = placing.held_is F Z (temporary_of v) [] u

  -- ---- pieces of expressions

  declared_u : (p : Pattern) (t : Option Written) → OfPattern C p → U (rules.declared p t)
  declared_u p None h = one_variable_u (pattern_node p) (whole_binding p)
  declared_u p (Some t) h = then_u (whole_type_u t) (whole_asks rules.a_value _ p h)

  -- what an initialiser is expected to be
  abbrev Expects : Option Written → Exp → Type 0
  Expects None e = Unit {0}
  Expects (Some t) e = A (subject.Node (written_node t).number) ≡ A (subject.Expected (node_of e).number)

  typed_before_asks : (t : Option Written) (e : Exp) → Wants (Expects t e) (rules.typed_before t e)
  typed_before_asks None e = none
  typed_before_asks (Some t) e = then_second (whole_type_u t) (asks_map (λ h. some_same _ _ h.0) (one_asked (node_of e) _ _ _))

  -- what is matched has the type of the pattern, where it is a place that isn't coerced; or one variable is declared
  abbrev Starts : Exp → Typ → Type 0
  Starts e u = is_place e ≡ true → elaborated.coercion_at T (node_of e) ≡ elaborated.plain → A (subject.Node (node_of e).number) ≡ u

  abbrev Scrutinised : Exp → Pattern → Type 0
  Scrutinised e p = (is_place e ≡ true → At (elaborated.place T e) (A (subject.Node (node_of e).number))) → Fine (actions.subject (elaborated.matched T e (elaborated.value T e))) [] (elaborated.pattern T None p)

  scrutinised : (e : Exp) (p : Pattern) (u : Typ) → Starts e u → ((S : actions.Subject) → At (actions.part S []) u → Fine S [] (elaborated.pattern T None p)) → Scrutinised e p
  scrutinised e p u s f h = f (actions.subject (elaborated.matched T e (elaborated.value T e))) (matched_at (is_place e) (elaborated.coercion_at T (node_of e)) e (elaborated.value T e) u h s)

  alone : (p : Pattern) (S : actions.Subject) (u : Typ) → OfPattern C p → Wants (At (actions.part S []) u → Fine S [] (elaborated.pattern T None p)) (rules.one_variable p)
  alone (named.bind n x m) S u h = asks_map (λ _ g. (tt, ((has x h, looks (actions.part S []) u g), tt))) none
  alone (named.wild n) S u h = asks_map (λ g. absurd g) (refused n _)
  alone (named.whole_number n g v k) S u h = asks_map (λ g. absurd g) (refused n _)
  alone (named.truth n b) S u h = asks_map (λ g. absurd g) (refused n _)
  alone (named.tuple_pattern n ps) S u h = asks_map (λ g. absurd g) (refused n _)
  alone (named.variant_pattern n i v ps) S u h = asks_map (λ g. absurd g) (refused n _)
  alone (named.struct_pattern n i fs) S u h = asks_map (λ g. absurd g) (refused n _)

  initialised_by_asks : (v : Bool) (p : Pattern) (e : Exp) → OfPattern C p → Wants (Scrutinised e p) (rules.initialised_by v p (rules.matched e) (node_of e))
  initialised_by_asks true p e h =
      let S = actions.subject (elaborated.matched T e (elaborated.value T e)) in let u = A (subject.Node (node_of e).number) in
      asks_map (λ f g. f (matched_at (is_place e) (elaborated.coercion_at T (node_of e)) e (elaborated.value T e) u g (λ _ _. refl))) (alone p S u h)
  initialised_by_asks false p e h = asks_map (λ f. scrutinised e p (A (subject.Node (node_of e).number)) (λ _ _. refl) f) (whole_asks (rules.matched e) _ p h)

  -- what stands where a type is written is of this type
  fitted : (n : Node) (t : Typ) → n.site ≡ Site.Initialises → Fits n n.site → t ≡ A (subject.Expected n.number) → elaborated.coercion_at T n ≡ elaborated.plain → A (subject.Node n.number) ≡ t
  fitted n t s f x c =
      same_if_plain (A (subject.Node n.number)) (A (subject.Expected n.number)) (sym (ap (λ (z : Site). elaborated.coercion_in T n.number z) s) ∙ c) (f s) ∙ sym x

  initialised_asks : (p : Pattern) (t : Option Written) (e : Exp) → OfPattern C p → (node_of e).site ≡ initialiser_site t → Wants (Expects t e → (is_place e ≡ true → Fits (node_of e) (node_of e).site) → Scrutinised e p) (rules.initialised p t e)
  initialised_asks p None e h s = asks_map (λ f x g. f) (initialised_by_asks (never e) p e h)
  initialised_asks p (Some t) e h s =
      asks_map (λ f x g. scrutinised e p (A (subject.Node (written_node t).number)) (λ b c. fitted (node_of e) (A (subject.Node (written_node t).number)) s (g b) x c) f) (whole_asks (rules.matched e) _ p h)

  -- ---- orders

  testing_holds : (S : actions.Subject) (ts : List PartTest) (rest : Order) → Every (TestFine S) ts → H rest → H (testing S ts rest)
  testing_holds S [] rest h g = g
  testing_holds S (t ∷ ts) rest h g = (h.0, (testing_holds S ts rest h.1 g, tt))

  perhaps_holds : (S : actions.Subject) (b : Binding) → Looked (actions.part S b.steps) → (m : tree.Mode) → m ≡ b.mode → H (order.perhaps b.node (actions.taking m S b.steps (tree.temporary_at b.node 0)))
  perhaps_holds S b h (tree.by_reference k) e = h
  perhaps_holds (in_place p) b h (tree.by_value v) e = h
  perhaps_holds (in_temporary d) b h (tree.by_value v) e = tt

  binding_holds : (S : actions.Subject) (bs : List Binding) (n : ℕ) (rest : Order) → Every (BindingFine S) bs → H rest → H (binding S bs n rest)
  binding_holds S [] n rest h g = g
  binding_holds S (b ∷ bs) n rest h g = (perhaps_holds S b h.0.1 b.mode refl, (h.0.0, (whole_fits M (tree.own b.variable) refl, (h.0.0, binding_holds S bs n rest h.1 g))))

  declaring_holds : (s : ℕ) (xs : List ℕ) (n : ℕ) (rest : Order) → Every (λ (x : ℕ). HasPart F x []) xs → H rest → H (declaring s xs n rest)
  declaring_holds s [] n rest h g = g
  declaring_holds s (x ∷ xs) n rest h g = (h.0, (h.0, declaring_holds s xs n rest h.1 g))

  -- the variables of a pattern that is matched with nothing
  mutual
    begins : (p : Pattern) → OfPattern C p → Every (λ (x : ℕ). HasPart F x []) (elaborated.variables p)
    begins (named.wild n) h = tt
    begins (named.bind n x m) h = (has x h, tt)
    begins (named.whole_number n g v k) h = tt
    begins (named.truth n b) h = tt
    begins (named.tuple_pattern n ps) h = begins_in ps h
    begins (named.variant_pattern n i v ps) h = begins_in ps h.1
    begins (named.struct_pattern n i fs) h = begins_fields fs h.1

    begins_in : (ps : Patterns) → OfPatterns C ps → Every (λ (x : ℕ). HasPart F x []) (elaborated.variables_in ps)
    begins_in named.no_pattern h = tt
    begins_in (named.pattern_and p ps) h = every_both (λ (x : ℕ). HasPart F x []) (elaborated.variables p) (elaborated.variables_in ps) (begins p h.0) (begins_in ps h.1)

    begins_fields : (fs : FieldPatterns) → OfFieldPatterns C fs → Every (λ (x : ℕ). HasPart F x []) (elaborated.variables_in_fields fs)
    begins_fields named.no_field_pattern h = tt
    begins_fields (named.field_pattern_and x p fs) h = every_both (λ (x : ℕ). HasPart F x []) (elaborated.variables p) (elaborated.variables_in_fields fs) (begins p h.0) (begins_fields fs h.1)

  -- ---- values as they are put together

  -- wherever its value goes
  abbrev Whole : tree.Exp → Type 0
  Whole e = (d : Temporary) → H (order.order e d)

  reads : (n : Node) (w : Coercion) (p : Place) (t : Typ) → At p t → Whole (elaborated.read_as T n w p)
  reads n elaborated.plain p t h d = looks p t h
  reads n elaborated.reborrow p t h d = looks (tree.under p (step.Deref true ∷ [])) t (placing.through F Z p true [] t t h)
  reads n elaborated.share p t h d = looks (tree.under p (step.Deref true ∷ [])) t (placing.through F Z p true [] t t h)

  passes_on : (n : Node) (w : Coercion) (x : tree.Exp) → Whole x → Whole (elaborated.passed_as T n w x)
  passes_on n elaborated.plain x h d = h d
  passes_on n elaborated.reborrow x h d = h d
  passes_on n elaborated.share x h d = (h (tree.temporary_at n.number 1), held_looks (tree.temporary_at n.number 1) (step.Deref true ∷ []))

  simple : (m : tree.Making) (js : List ℕ) (ts : List Temporary) → making.IsSimple m → making.OfNoField m js → Makes m js ts × (makes_mark m js ts ≡ false) × making.OfNoField m js
  simple m js ts s n = (making.simple_makes m js ts s, making.simple_no_mark m js ts s, n)

  two : (n : Node) (o : BinaryOp) (a b : tree.Exp) → Whole a → Whole b → Whole (tree.build (elaborated.mark T n) (tree.operation o) (tree.operand_and 0 a (tree.operand_and 1 b tree.no_operand)))
  two n o a b g h d = ((g (temporary_of a), (h (temporary_of b), tt)), simple (tree.operation o) (0 ∷ 1 ∷ []) (temporary_of a ∷ temporary_of b ∷ []) tt tt)

  lazily : (n : Node) (k : Bool) (a b : tree.Exp) → Whole a → Whole b → Whole (tree.lazily (elaborated.mark T n) k a b)
  lazily n k a b g h d = (g (temporary_of a), (held_looks (temporary_of a) [], ((h (temporary_of b), tt), simple tree.lazy [] _ tt refl)))

  operates : (n : Node) (o : BinaryOp) (a b : tree.Exp) → Whole a → Whole b → Whole (elaborated.operated T n o a b)
  operates n BinaryOp.And a b g h = lazily n true a b g h
  operates n BinaryOp.Or a b g h = lazily n false a b g h
  operates n BinaryOp.Eq a b g h = two n BinaryOp.Eq a b g h
  operates n BinaryOp.Ne a b g h = two n BinaryOp.Ne a b g h
  operates n BinaryOp.Lt a b g h = two n BinaryOp.Lt a b g h
  operates n BinaryOp.Le a b g h = two n BinaryOp.Le a b g h
  operates n BinaryOp.Gt a b g h = two n BinaryOp.Gt a b g h
  operates n BinaryOp.Ge a b g h = two n BinaryOp.Ge a b g h
  operates n BinaryOp.Add a b g h = two n BinaryOp.Add a b g h
  operates n BinaryOp.Sub a b g h = two n BinaryOp.Sub a b g h
  operates n BinaryOp.Mul a b g h = two n BinaryOp.Mul a b g h
  operates n BinaryOp.Div a b g h = two n BinaryOp.Div a b g h
  operates n BinaryOp.Rem a b g h = two n BinaryOp.Rem a b g h

  tuples : (n : Node) (es : tree.Operands) → Complete (fields_of es) → H (order_all es) → Whole (elaborated.tuple_of T n es)
  tuples n tree.no_operand c h d = tt
  tuples n (tree.operand_and i e es) c h d = (h, (making.tuple_makes (fields_of (tree.operand_and i e es)) (temporaries_of (tree.operand_and i e es)) c (making.as_many (tree.operand_and i e es)), refl, tt))

  one : (m : tree.Mark) (w : tree.Making) (e : tree.Exp) → making.IsSimple w → making.OfNoField w (0 ∷ []) → Whole e → Whole (tree.build m w (elaborated.one_operand e))
  one m w e s n h d = ((h (temporary_of e), tt), simple w _ _ s n)

  arm : (S : actions.Subject) (p : tree.Pattern) (e : tree.Exp) (d : Temporary) → Fine S [] p → Whole e → H (testing S (tests [] p) (binding S (bindings [] p) (tree.mark_of e).node (order.order e d)))
  arm S p e d f h = testing_holds S (tests [] p) _ f.0 (binding_holds S (bindings [] p) _ _ f.1 (h d))

  two_ways : (S : actions.Subject) (p : tree.Pattern) (a b : tree.Exp) (d : Temporary) → Fine S [] p → Whole a → Whole b → H (order_arms S (tree.arm_and p a (tree.arm_and tree.any b tree.no_arm)) d)
  two_ways S p a b d f g h = (arm S p a d f g, (arm S tree.any b d (tt, tt) h, tt))

  tests_hold : (n : Node) (c : tree.Exp) (m : tree.Mark) (a b : tree.Exp) → Whole c → Whole a → Whole b → Whole (elaborated.tests n c m a b)
  tests_hold n c m a b f g h d = (f (temporary_of c), two_ways (in_temporary (temporary_of c)) (tree.exactly n.number (tree.truth true)) a b d ((held_looks (temporary_of c) [], tt), tt) g h)

  looks_hold : (m : tree.Mark) (s : tree.Scrutinee) (p : tree.Pattern) (a b : tree.Exp) → H (order_scrutinee s) → Fine (actions.subject s) [] p → Whole a → Whole b → Whole (elaborated.looks m s p a b)
  looks_hold m s p a b s' f g h d = (s', two_ways (actions.subject s) p a b d f g h)

  scrutinee_holds : (b : Bool) (w : Coercion) (e : Exp) (x : tree.Exp) → Whole x → H (order_scrutinee (elaborated.matched_as T b w e x))
  scrutinee_holds true elaborated.plain e x h = tt
  scrutinee_holds true elaborated.reborrow e x h = h (temporary_of x)
  scrutinee_holds true elaborated.share e x h = h (temporary_of x)
  scrutinee_holds false elaborated.plain e x h = h (temporary_of x)
  scrutinee_holds false elaborated.reborrow e x h = h (temporary_of x)
  scrutinee_holds false elaborated.share e x h = h (temporary_of x)

  -- ---- what expressions give

  pub record Gives (e : Exp) : Type 0 where
    pub placed : IsPlaced e → is_place e ≡ true
    pub place : is_place e ≡ true → At (elaborated.place T e) (A (subject.Node (node_of e).number))
    pub fits : is_place e ≡ true → Fits (node_of e) (node_of e).site
    pub value : Whole (elaborated.value T e)

  no_place : (e : Exp) → is_place e ≡ false → NoPlace (node_of e).site → Whole (elaborated.value T e) → Gives e
  no_place e is f h = record { placed = λ p. absurd (f p); place = λ q. absurd (cc); fits = λ q. absurd (cc); value = h }

  a_place : (e : Exp) (n : Node) → n ≡ node_of e → is_place e ≡ true → elaborated.value T e ≡ elaborated.place_value T n (elaborated.place T e) → At (elaborated.place T e) (A (subject.Node (node_of e).number)) → Fits (node_of e) (node_of e).site → Gives e
  a_place e n i is same h f = record {
    placed = λ p. is;
    place = λ q. h;
    fits = λ q. f;
    value = subst Whole (sym same) (reads n (elaborated.coercion_at T n) (elaborated.place T e) (A (subject.Node (node_of e).number)) h);
  }

  -- where a place is wanted
  root_of : (e : Exp) → IsPlaced e → Gives e → At (elaborated.place T e) (A (subject.Node (node_of e).number))
  root_of e p g = g.place (g.placed p)

  abbrev pub GivesElse : Else → Type 0
  GivesElse named.absent = Unit {0}
  GivesElse (named.present e) = Whole (elaborated.value T e)

  otherwise_gives : (n : Node) (o : Else) → GivesElse o → Whole (elaborated.otherwise T n o)
  otherwise_gives n named.absent h d = tt
  otherwise_gives n (named.present e) h d = h d

  returned_gives : (n : Node) (o : Else) → GivesElse o → Whole (tree.give (elaborated.no_mark n) (elaborated.returned T n o))
  returned_gives n named.absent h d = (tt, (tt, tt))
  returned_gives n (named.present e) h d = (h (temporary_of (elaborated.value T e)), (tt, tt))

  tail_gives : (n : Node) (o : Else) → GivesElse o → Whole (elaborated.tail T n o)
  tail_gives n named.absent h d = tt
  tail_gives n (named.present e) h d = h d

  given_tail : (n : Node) (o : Else) → GivesElse o → Whole (tree.give (elaborated.no_mark n) (elaborated.tail T n o))
  given_tail n o h d = (tail_gives n o h (temporary_of (elaborated.tail T n o)), (tt, tt))

  pub record GivesBody (b : Body) : Type 0 where
    pub value : Whole (elaborated.body T b)
    pub whole : Whole (elaborated.function_body T b)

  abbrev GivesStatement : Statement → Type 0
  GivesStatement a = (rest : tree.Body) → ((n : ℕ) (d : Temporary) → H (order_body rest n d)) → (n : ℕ) (d : Temporary) → H (order_body (elaborated.statement T a rest) n d)

  abbrev GivesStatements : Statements → Type 0
  GivesStatements ss = (last : tree.Exp) → Whole last → (n : ℕ) (d : Temporary) → H (order_body (elaborated.nested T ss last) n d)

  matched_gives : (e : Exp) → Gives e → H (order_scrutinee (elaborated.matched T e (elaborated.value T e)))
  matched_gives e g = scrutinee_holds (is_place e) (elaborated.coercion_at T (node_of e)) e (elaborated.value T e) g.value

  -- a pattern against what is matched
  pattern_gives : (e : Exp) (p : Pattern) → Gives e → ((S : actions.Subject) → At (actions.part S []) (A (subject.Node (node_of e).number)) → Fine S [] (elaborated.pattern T None p)) → Fine (actions.subject (elaborated.matched T e (elaborated.value T e))) [] (elaborated.pattern T None p)
  pattern_gives e p g f = scrutinised e p (A (subject.Node (node_of e).number)) (λ _ _. refl) f g.place

  -- the branches of an `if`
  record Branches (n : Node) (b : Body) (o : Else) : Type 0 where
    first : Whole (elaborated.body T b)
    second : GivesElse o
    outside : NoPlace n.site

  branches : (f : ℕ) (n : Node) (b : Body) (o : Else) → Wants (GivesBody b) (rules.of_body f b) → Wants (GivesElse o) (rules.of_else f n o) → Wants (Branches n b o) (rules.of_branches f n (b, o))
  branches f n b o x y =
      asks_map (λ h. record { first = h.0.value; second = h.1.1.0; outside = no_if_place n o h.1.0 h.1.1.1 })
      (then_second (branch_before_u n o b) (both x (both (branch_after_asks n o b) (both y (if_joins_asks n o (body_never b && else_never o))))))

  -- what each arm's pattern is matched against has the type of the node
  abbrev GivesArms : Node → Arms → Type 0
  GivesArms m l = (S : actions.Subject) → At (actions.part S []) (A (subject.Node m.number)) → (d : Temporary) → H (order_arms S (elaborated.arms T l) d)

  named_asks : (n : Node) (x : Use) (k : Bool) → Wants (A (subject.Variable x.number) ≡ A (subject.Node n.number)) (rules.named_at n x k)
  named_asks n x true = asks_map (λ h. some_same _ _ h.0) (one_asked n _ _ _)
  named_asks n x false = asks_map (λ h. absurd h) (refused n _)

  variable_at : (n : Node) (x : Use) → C.variable x.number → A (subject.Variable x.number) ≡ A (subject.Node n.number) → At (tree.own x.number) (A (subject.Node n.number))
  variable_at n x h e = subst (λ (t : Typ). At (tree.own x.number) t) e (placing.variable_is F Z x.number (A (subject.Variable x.number)) (variables x.number h))

  has_fields_asks : (n : Node) (b : Broken) (i : ℕ) (xs : List (List ℕ)) → Wants (exactly (names_of (fields_declared (slice_get K.items i))) xs ≡ true) (asks n b false (fact.Passes (test.HasFields i xs) [] [] [] ∷ []))
  has_fields_asks n b i xs = asks_map (λ h. h.0) (one_asked n b false _)

  takes_asks : (n : Node) (b : Broken) (g k : ℕ) → Wants (nat_eq (length (types.parameters_declared (slice_get K.items g))) k ≡ true) (asks n b false (fact.Passes (test.Takes g k) [] [] [] ∷ []))
  takes_asks n b g k = asks_map (λ h. h.0) (one_asked n b false _)

  calls : (g : ℕ) (n : Node) (es : Exps) → nat_eq (length (types.parameters_declared (slice_get K.items g))) (rules.argument_count es) ≡ true → MeetsAll K A (fact.Equals (subject.Node n.number) (op.Result g) [] [] ∷ [])
      → CallFits K.items g (temporaries_of (elaborated.operands T 0 es))
  calls g n es c r = call_fits K.items g (rules.argument_count es) (A (subject.Node n.number)) (temporaries_of (elaborated.operands T 0 es)) c r.0 (arguments_count T 0 es)

  made_of : (n : Node) (i : ℕ) (fs : Fields) → exactly (names_of (fields_declared (slice_get K.items i))) (rules.names_given fs) ≡ true → H (order_all (elaborated.fields T i fs)) → Whole (tree.build (elaborated.mark T n) (tree.struct i) (elaborated.fields T i fs))
  made_of n i fs e h d = (h, (making.struct_makes i (fields_of (elaborated.fields T i fs)) (temporaries_of (elaborated.fields T i fs)) (fields_complete T i fs (apart i) e) (making.as_many (elaborated.fields T i fs)), refl, tt))

  varied : (n : Node) (i v : ℕ) (es : Exps) → H (order_all (elaborated.operands T 0 es)) → Whole (tree.build (elaborated.mark T n) (tree.variant_of i v) (elaborated.operands T 0 es))
  varied n i v es h d = (h, (making.variant_makes i v (fields_of (elaborated.operands T 0 es)) (temporaries_of (elaborated.operands T 0 es)) (operands_complete T es) (making.as_many (elaborated.operands T 0 es)), refl, tt))

  updates : (n : Node) (o : BinaryOp) (p : Place) (e : tree.Exp) (t : Typ) → At p t → PartFits M p → Whole e → Whole (tree.update (elaborated.mark T n) o p e)
  updates n o p e t h w g d = (g (temporary_of e), (looks p t h, (simple (tree.operation o) [] _ tt tt, w)))

  mutual
    exp_asks : (f : ℕ) (e : Exp) → UsedExp C M e → Wants (Gives e) (rules.of_exp f e)
    exp_asks f (named.int n m v k) h = asks_map (λ p. no_place (named.int n m v k) refl p (λ d. (tt, simple (tree.constant (tree.whole_number (elaborated.kind_in (A (subject.Node n.number))) (pos v))) [] [] tt tt))) (integer_asks n m v k)
    exp_asks f (named.bool n b) h = asks_map (λ p. no_place (named.bool n b) refl p (λ d. (tt, simple (tree.constant (tree.truth b)) [] [] tt tt))) (own_asks n op.Truth [])
    exp_asks f (named.tuple n es) h =
        asks_map (λ g. no_place (named.tuple n es) refl g.1.0 (tuples n (elaborated.operands T 0 es) (operands_complete T es) g.0))
        (both (each_asks f rules.members 0 es h) (both (own_asks n op.Tuple _) (quiet n _ _ _)))
    exp_asks f (named.var n x) h = asks_map (λ g. a_place (named.var n x) n refl refl refl (variable_at n x h.0 g.0) g.1) (both (named_asks n x x.known) (place_asks n _ _ n.site))
    exp_asks f (named.field n e x) h =
        asks_map (λ g. a_place (named.field n e x) n refl refl refl
        (peeled_step (elaborated.place T e) (A (subject.Node (node_of e).number)) _ (A (subject.Node n.number)) (root_of e h.1 g.0) (λ q. field_step (tree.under (elaborated.place T e) (elaborated.dereferences (A (subject.Node (node_of e).number)))) (peeled (A (subject.Node (node_of e).number))) x (A (subject.Node n.number)) q g.1.0.0)) g.1.1)
        (both (exp_asks f e h.0) (both (one_asked n _ _ _) (place_asks n _ _ n.site)))
    exp_asks f (named.part n e i) h =
        asks_map (λ g. a_place (named.part n e i) n refl refl refl
        (peeled_step (elaborated.place T e) (A (subject.Node (node_of e).number)) _ (A (subject.Node n.number)) (root_of e h.1 g.0) (λ q. part_step (tree.under (elaborated.place T e) (elaborated.dereferences (A (subject.Node (node_of e).number)))) (peeled (A (subject.Node (node_of e).number))) i (A (subject.Node n.number)) q g.1.0.0)) g.1.1)
        (both (exp_asks f e h.0) (both (one_asked n _ _ _) (place_asks n _ _ n.site)))
    exp_asks f (named.deref n e) h =
        asks_map (λ g. a_place (named.deref n e) n refl refl refl (dereferenced (elaborated.place T e) (A (subject.Node (node_of e).number)) (A (subject.Node n.number)) (root_of e h.1 g.0) g.1.0.0) g.1.1)
        (both (exp_asks f e h.0) (both (one_asked n _ _ _) (place_asks n _ _ n.site)))
    exp_asks f (named.negate n e) h = asks_map (λ g. no_place (named.negate n e) refl g.1 (one (elaborated.mark T n) tree.negation (elaborated.value T e) tt tt g.0.value)) (both (exp_asks f e h) (negated_asks n (node_of e) (never e)))
    exp_asks f (named.invert n e) h = asks_map (λ g. no_place (named.invert n e) refl g.1 (one (elaborated.mark T n) tree.inversion (elaborated.value T e) tt tt g.0.value)) (both (exp_asks f e h) (inverted_asks n (node_of e) (never e)))
    exp_asks f (named.borrow n m e) h =
        asks_map (λ g. no_place (named.borrow n m e) refl g.1 (passes_on n (elaborated.coercion_at T n) (tree.borrow (elaborated.mark T n) m (elaborated.place T e)) (λ d. looks (elaborated.place T e) (A (subject.Node (node_of e).number)) (root_of e h.1 g.0))))
        (both (exp_asks f e h.0) (borrowed_asks n m (node_of e) (root e) _))
    exp_asks f (named.binary n o a b) h =
        asks_map (λ g. no_place (named.binary n o a b) refl g.1.1 (operates n o (elaborated.value T a) (elaborated.value T b) g.0.value g.1.0.value))
        (both (exp_asks f a h.0) (both (exp_asks f b h.1) (operation_asks o n (node_of a) (never a) (node_of b) (never b))))
    exp_asks f (named.assign n p e) h =
        asks_map (λ g. no_place (named.assign n p e) refl g.1.1.1.1 (λ d. (g.1.1.0.value (temporary_of (elaborated.value T e)), written_fits K A C M p h.0.0 g.1.1.1.0)))
        (both (exp_asks f p h.0.0) (both (quiet (node_of e) _ _ _) (both (exp_asks f e h.1) (both (assignable_asks K A n (is_variable p) (root p) (rules.through p)) (own_asks n op.Unit [])))))
    exp_asks f (named.gives n p x d e) h =
        asks_map (λ g. no_place (named.gives n p x d e) refl g.1 (λ d. (g.0.value (temporary_of (elaborated.value T e)), whole_fits M (tree.own x.number) refl)))
        (both (exp_asks f e h.1) (then_second (given_u n p x d (node_of e) (never e)) (own_asks n op.Unit [])))
    exp_asks f (named.update n o p e) h =
        asks_map (λ g. no_place (named.update n o p e) refl g.1.1.1 (updates n (elaborated.operator o) (elaborated.place T p) (elaborated.value T e) (A (subject.Node (node_of p).number)) (root_of p h.0.1 g.0)
        (written_fits K A C M p h.0.0 g.1.1.0) g.1.0.value))
        (both (exp_asks f p h.0.0) (both (exp_asks f e h.1) (then_second (updated_u n (node_of p) (never p) (node_of e) (never e)) (both (assignable_asks K A n (is_variable p) (root p) (rules.through p)) (own_asks n op.Unit [])))))
    exp_asks f (named.call n g es) h =
        asks_map (λ x. no_place (named.call n g es) refl x.1.1.1 (passes_on n (elaborated.coercion_at T n) (tree.call (elaborated.mark T n) g (elaborated.operands T 0 es)) (λ d. (x.1.0, calls g n es x.0 x.1.1.0))))
        (both (takes_asks n _ g (rules.argument_count es)) (both (each_asks f (rules.parameters g) 0 es h) (both (one_asked n _ _ _) (value_asks n n.site))))
    exp_asks f (named.hidden_call n es) h = asks_map (λ g. absurd g) (then_first (refused n _) (each_asks f rules.values 0 es h))
    exp_asks f (named.next_input n) h = asks_map (λ p. no_place (named.next_input n) refl p (λ d. tt)) (own_asks n (op.Integer Kind.I64) [])
    exp_asks f (named.variant n i v es) h =
        asks_map (λ x. no_place (named.variant n i v es) refl x.1 (varied n i v es x.0))
        (then_second (quiet n _ _ _) (both (each_asks f (rules.parts_of i v) 0 es h.1) (own_asks n (op.Item i) [])))
    exp_asks f (named.make n i fs) h =
        asks_map (λ x. no_place (named.make n i fs) refl x.1.1 (made_of n i fs x.0 x.1.0))
        (both (has_fields_asks n _ i (rules.names_given fs)) (both (fields_asks f i fs h.1) (own_asks n (op.Item i) [])))
    exp_asks f (named.print n e) h =
        asks_map (λ g. no_place (named.print n e) refl g.1 (λ d. (g.0.value (temporary_of (elaborated.value T e)), tt))) (both (exp_asks f e h) (then_second (printed_u (node_of e) (never e)) (own_asks n op.Unit [])))
    exp_asks f (named.block n b) h =
        asks_map (λ g. no_place (named.block n b) refl g.1 g.0.value)
        (then_second (before_u n n.site (body_node b)) (both (body_asks f b h) (then_second (after_u n n.site (body_never b) (body_node b)) (join_asks n (body_never b)))))
    exp_asks f (named.if n c b o) h =
        asks_map (λ g. no_place (named.if n c b o) refl g.1.outside (tests_hold n (elaborated.value T c) (elaborated.mark_if T n (body_never b && else_never o)) (elaborated.body T b) (elaborated.otherwise T n o)
        g.0.value g.1.first (otherwise_gives n o g.1.second)))
        (both (exp_asks f c h.0) (then_second (tested_u (node_of c) (never c)) (branches f n b o (body_asks f b h.1) (else_asks f n o h.2))))
    exp_asks f (named.if_let n p e b o) h =
        asks_map (λ g. no_place (named.if_let n p e b o) refl g.1.1.outside (looks_hold (elaborated.mark_if T n (body_never b && else_never o)) (elaborated.matched T e (elaborated.value T e)) (elaborated.pattern T None p)
        (elaborated.body T b) (elaborated.otherwise T n o) (matched_gives e g.0) (pattern_gives e p g.0 g.1.0) g.1.1.first (otherwise_gives n o g.1.1.second)))
        (both (exp_asks f e h.1) (then_second (not_never_u (node_of e) (never e)) (both (whole_asks (rules.matched e) _ p h.0) (branches f n b o (body_asks f b h.2) (else_asks f n o h.3)))))
    exp_asks f (named.match n e l) h =
        asks_map (λ g. no_place (named.match n e l) refl g.1.1 (λ d. (
          matched_gives e g.0,
          g.1.0 (actions.subject (elaborated.matched T e (elaborated.value T e)))
              (matched_at (is_place e) (elaborated.coercion_at T (node_of e)) e (elaborated.value T e) (A (subject.Node (node_of e).number)) g.0.place (λ _ _. refl)) d,
        )))
        (both (exp_asks f e h.0) (then_second (not_never_u (node_of e) (never e)) (both (arms_asks f n (rules.matched e) (node_of e) l h.1) (join_asks n (named.all_never l)))))
    exp_asks f (named.loop n l k b) h =
        asks_map (λ g. no_place (named.loop n l k b) refl g.1 (λ d. g.0.value (temporary_of (elaborated.body T b)))) (both (body_asks f b h) (then_second (unit_u (body_node b) (body_never b)) (loop_asks n k)))
    exp_asks f (named.while n l c b) h =
        asks_map (λ g. let x = elaborated.tests n (elaborated.value T c) (elaborated.mark_if T (body_node b) (body_never b)) (elaborated.body T b) (elaborated.leaves n l) in
        no_place (named.while n l c b) refl g.1.1 (λ d. tests_hold n (elaborated.value T c) (elaborated.mark_if T (body_node b) (body_never b)) (elaborated.body T b) (elaborated.leaves n l) g.0.value g.1.0.value (λ _. tt) (temporary_of x)))
        (both (exp_asks f c h.0) (then_second (tested_u (node_of c) (never c)) (both (body_asks f b h.1) (then_second (unit_u (body_node b) (body_never b)) (own_asks n op.Unit [])))))
    exp_asks f (named.while_let n l p e b) h =
        asks_map (λ g. let x = elaborated.looks (elaborated.mark_if T (body_node b) (body_never b)) (elaborated.matched T e (elaborated.value T e)) (elaborated.pattern T None p) (elaborated.body T b) (elaborated.leaves n l) in
        no_place (named.while_let n l p e b) refl g.1.1.1 (λ d. looks_hold (elaborated.mark_if T (body_node b) (body_never b)) (elaborated.matched T e (elaborated.value T e)) (elaborated.pattern T None p)
        (elaborated.body T b) (elaborated.leaves n l) (matched_gives e g.0) (pattern_gives e p g.0 g.1.0) g.1.1.0.value (λ _. tt) (temporary_of x)))
        (both (exp_asks f e h.1) (then_second (not_never_u (node_of e) (never e)) (both (whole_asks (rules.matched e) _ p h.0) (both (body_asks f b h.2) (then_second (unit_u (body_node b) (body_never b)) (own_asks n op.Unit []))))))
    exp_asks f (named.break n l) h = asks_map (λ p. no_place (named.break n l) refl p (λ d. tt)) (never_asks n n.site)
    exp_asks f (named.continue n l) h = asks_map (λ p. no_place (named.continue n l) refl p (λ d. tt)) (never_asks n n.site)
    exp_asks f (named.return n o) h =
        asks_map (λ g. no_place (named.return n o) refl g.1 (returned_gives n o g.0)) (then_second (returns_u f n o) (both (returned_asks f o h) (never_asks n n.site)))

    each_asks : (f : ℕ) (w : rules.Listed) (k : ℕ) (es : Exps) → UsedExps C M es → Wants (H (order_all (elaborated.operands T k es))) (rules.of_each f w k es)
    each_asks f w k named.no_exp h = none
    each_asks f w k (named.exp_and e es) h =
        asks_map (λ g. (g.0.value (temporary_of (elaborated.value T e)), g.1))
        (then_second (each_before_u w k (node_of e)) (both (exp_asks f e h.0) (then_second (each_after_u w e) (each_asks f w (suc k) es h.1))))

    fields_asks : (f i : ℕ) (fs : Fields) → UsedFields C M fs → Wants (H (order_all (elaborated.fields T i fs))) (rules.of_fields f i fs)
    fields_asks f i named.no_field h = none
    fields_asks f i (named.field_and x e fs) h =
        asks_map (λ g. (g.0.value (temporary_of (elaborated.value T e)), g.1))
        (then_second (quiet (node_of e) _ _ _) (both (exp_asks f e h.0) (fields_asks f i fs h.1)))

    else_asks : (f : ℕ) (n : Node) (o : Else) → UsedElse C M o → Wants (GivesElse o) (rules.of_else f n o)
    else_asks f n named.absent h = none
    else_asks f n (named.present e) h = asks_map (λ g. g.value) (then_second (before_u n n.site (node_of e)) (then_first (exp_asks f e h) (after_u n n.site (never e) (node_of e))))

    returned_asks : (f : ℕ) (o : Else) → UsedElse C M o → Wants (GivesElse o) (rules.of_returned f o)
    returned_asks f named.absent h = none
    returned_asks f (named.present e) h = asks_map (λ g. g.value) (exp_asks f e h)

    arms_asks : (f : ℕ) (n : Node) (s : rules.Matched) (m : Node) (l : Arms) → UsedArms C M l → Wants (GivesArms m l) (rules.of_arms f n s m l)
    arms_asks f n s m named.no_arm h = asks_map (λ _ S g d. tt) none
    arms_asks f n s m (named.arm_and p e l) h =
        asks_map (λ g S k d. (arm S (elaborated.pattern T None p) (elaborated.value T e) d (g.0 S k) g.1.0.value, g.1.1 S k d))
        (both (whole_asks s _ p h.0) (then_second (before_u n n.site (node_of e)) (both (exp_asks f e h.1) (then_second (after_u n n.site (never e) (node_of e)) (arms_asks f n s m l h.2)))))

    pub body_asks : (f : ℕ) (b : Body) → UsedBody C M b → Wants (GivesBody b) (rules.of_body f b)
    body_asks f (named.body n ss o) h =
        asks_map (λ g. record { value = g.0 (elaborated.tail T n o) (tail_gives n o g.1) n.number; whole = g.0 (tree.give (elaborated.no_mark n) (elaborated.tail T n o)) (given_tail n o g.1) n.number })
        (both (statements_asks f ss h.0) (then_second (tail_before_u n o) (then_first (returned_asks f o h.1)
        (then_u (tail_after_u n (some_diverges ss) o) (join_asks n (named.tail_never (some_diverges ss) o))))))

    statement_asks : (f : ℕ) (x : Statement) → UsedStatement C M x → Wants (GivesStatement x) (rules.of_statement f x)
    statement_asks f (named.declares n p t) h =
        asks_map (λ _ rest r m d. declaring_holds n.number (elaborated.variables p) m (order_body rest m d) (begins p h.0) (r m d)) (declared_u p t h.0)
    statement_asks f (named.lets n p t e) h =
        asks_map (λ g rest r m d. (matched_gives e g.1.0, binding_holds (actions.subject (elaborated.matched T e (elaborated.value T e))) (bindings [] (elaborated.pattern T None p)) m (order_body rest m d) (g.1.1 g.0 g.1.0.fits g.1.0.place).1 (r m d)))
        (both (typed_before_asks t e) (both (exp_asks f e h.2) (initialised_asks p t e h.0 h.3)))
    statement_asks f (named.evaluates n e s) h = asks_map (λ g rest r m d. (g.value (temporary_of (elaborated.value T e)), r m d)) (then_first (exp_asks f e h) (evaluated_u s (node_of e) (never e)))

    statements_asks : (f : ℕ) (ss : Statements) → UsedStatements C M ss → Wants (GivesStatements ss) (rules.of_statements f ss)
    statements_asks f named.no_statement h = asks_map (λ _ last r m d. r d) none
    statements_asks f (named.statement_and a ss) h = asks_map (λ g last r. g.0 (elaborated.nested T ss last) (g.1 last r)) (both (statement_asks f a h.0) (statements_asks f ss h.1))

  -- ---- functions

  function_asks : (f : Function) → UsedFunction C M f → Wants (GivesBody f.body) (rules.of_function f)
  function_asks f h = then_second (parameters_u f.params) (then_second (result_u f.result) (then_second (quiet (body_node f.body) _ _ _) (then_first (body_asks f.item f.body h.body) (never_given_u f.never_given))))

  begin_holds : (xs : List Parameter) (n : ℕ) (rest : Order) → OfParameters C xs → H rest → H (beginning (elaborated.parameters xs) n rest)
  begin_holds [] n rest h g = g
  begin_holds (x ∷ xs) n rest h g = (has x.variable h.0.0, (whole_fits M (tree.own x.variable) refl, (has x.variable h.0.0, begin_holds xs n rest h.1 g)))

  pub function_holds : (f : Function) → UsedFunction C M f → MeetsEach K A (rules.demands f) → H (order_function (elaborated.elaborated T f))
  function_holds f h met =
      let x = function_asks f h in
      begin_holds f.params _ _ h.params ((x.gives (subst (λ (l : List Demand). MeetsEach K A l) (x.adds []) met)).whole (temporary_of (elaborated.function_body T f.body)))

  -- ---- what is asked of its walks

  seen : (a : Act) (p : Place) → Able a → looked_at a ≡ Some p → Looked p
  seen (Read m q d) p h e = subst Looked (let r : q ≡ p = cc in r) h
  seen (Borrow k q d) p h e = subst Looked (let r : q ≡ p = cc in r) h
  seen (Test q c) p h e = subst Looked (let r : q ≡ p = cc in r) h
  seen (Declare x) p h e = absurd (cc)
  seen (Dead x) p h e = absurd (cc)
  seen (Write q t ss) p h e = absurd (cc)
  seen (Call g ts d) p h e = absurd (cc)
  seen (Build m js ts d) p h e = absurd (cc)
  seen (Input d) p h e = absurd (cc)
  seen (Print t) p h e = absurd (cc)
  seen (Give t) p h e = absurd (cc)

  pub ready_if : (f : tree.Function) → H (order_function f) → Ready F f
  ready_if f h = record {
    begins = λ w n x is. of_walk Able f h w (actions.does n (Declare x)) is;
    ends = λ w n x is. of_walk Able f h w (actions.does n (Dead x)) is;
    places = λ w a x ss is e b. seen a.act (placed x ss) (of_walk Able f h w a is) e x ss refl;
    makes = λ w n m js ts d is vs v pr s e. (of_walk Able f h w (actions.does n (Build m js ts d)) is).0 vs v pr s e;
  }

  -- also where it is behind a reference
  pub places_have_parts : (f : tree.Function) → H (order_function f) → (w : List actions.Action) (a : actions.Action) (x : ℕ) (ss : List Step) → IsWalk f (w ++ a ∷ [])
      → looked_at a.act ≡ Some (placed x ss) → HasPart F x ss
  places_have_parts f h w a x ss is e = seen a.act (placed x ss) (of_walk Able f h w a is) e x ss refl

  -- what is built is no tuple of nothing: the unit is no action
  unmarked : (a : Act) → Able a → is_mark a ≡ false
  unmarked (Build m js ts d) h = h.1
  unmarked (Read m q d) h = refl
  unmarked (Borrow k q d) h = refl
  unmarked (Test q c) h = refl
  unmarked (Declare x) h = refl
  unmarked (Dead x) h = refl
  unmarked (Write q t ss) h = refl
  unmarked (Call g ts d) h = refl
  unmarked (Input d) h = refl
  unmarked (Print t) h = refl
  unmarked (Give t) h = refl

  pub no_mark : (f : tree.Function) → H (order_function f) → HasNoMark (order_function f)
  no_mark f h = record { none = λ a i. unmarked a.act (of_among Able (order_function f) h a i) }

  -- what `&&` and `||` give is of no field
  pub of_no_field : (f : tree.Function) → H (order_function f) → (a : actions.Action) (js : List ℕ) (us : List Temporary) (d : Temporary) → Among a (actions_in (order_function f)) → a.act ≡ Build tree.lazy js us d → js ≡ []
  of_no_field f h a js us d i e = (subst Able e (of_among Able (order_function f) h a i)).2

  pub parts_fit : (f : tree.Function) → H (order_function f) → (a : actions.Action) (p : Place) (t : Temporary) (ss : List Step) → Among a (actions_in (order_function f)) → a.act ≡ Write p t ss → PartFits M p
  parts_fit f h a p t ss i e = subst Able e (of_among Able (order_function f) h a i)

  pub variable_has : (x : ℕ) → C.variable x → HasPart F x []
  variable_has x h = has x h

  pub calls_fit : (f : tree.Function) → H (order_function f) → (w : List actions.Action) (n g : ℕ) (us : List Temporary) (d : Temporary) → IsWalk f (w ++ actions.does n (Call g us d) ∷ []) → CallFits K.items g us
  calls_fit f h w n g us d is = of_walk Able f h w (actions.does n (Call g us d)) is
