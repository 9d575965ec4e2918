-- Of a pattern that is matched against what has its type: what it tests is of a type that is tested so, and what a variable of it takes is of
-- the variable's type. And what is asked of each act of a function, by the types of its temporaries.
use Rattle.std.proofs.Common.{◌≡◌, ℕ, suc, Bool, true, false, ◌&&◌, List, [], ◌∷◌, ◌++◌, Option, Some, None, slice_get, refl, sym, ap, ◌∙◌, subst, append_assoc}
use Rattle.std.specs.Prelude.{IsTrue}
use Rattle.std.proofs.lemmas.Bool.{eqb-true}
use Rattle.rx_core.specs.declared.types.Kind.{Kind}
use Rattle.rx_core.specs.declared.types.Step.{Step}
use Rattle.rx_core.specs.declared.types.Step.TheVariants as step
use Rattle.rx_tree.specs.Lists.{Every}
use Rattle.rx_typed.specs.declared.nodes.Node.{Node}
use Rattle.rx_typed.specs.Types as types
use Rattle.rx_typed.specs.Types.{Typ, integer, boolean, tuple_of, reference, peeled, outline, references, Declared, rt_declared, struct_declared, enum_declared, function_declared, variants_declared, VariantDeclared}
use Rattle.rx_typed.specs.Named as named
use Rattle.rx_typed.specs.Named.{Pattern, Patterns, FieldPatterns, pattern_node}
use Rattle.rx_typed.specs.Elaborated as elaborated
use Rattle.rx_typed.specs.Elaborated.{Met, meet, met, kind_in, has_several, is_several}
use Rattle.rx_typed.specs.Tree as tree
use Rattle.rx_typed.specs.Tree.{Temporary, Place, temporary_at}
use Rattle.rx_lower_walks.specs.Matching.{PartTest, Binding, tests, tests_in, tag_test, bindings, bindings_in}
use Rattle.rx_lower_walks.specs.Actions.{Act, in_place, in_temporary}
use Rattle.rx_lower_walks.specs.Actions as actions
use Rattle.rx_lower_walks.specs.Orders as order
use Rattle.rx_lower_walks.specs.Orders.{Order}
use Rattle.rx_typeck_solver.specs.declared.facts.Subject.{Subject}
use Rattle.rx_typeck_solver.specs.declared.facts.Subject.TheVariants as subject
use Rattle.rx_typeck_solver.specs.declared.facts.Test.TheVariants as test
use Rattle.rx_typeck_solver.specs.declared.facts.Passing.{Passing as Gone}
use Rattle.rx_typeck_solver.specs.Facts.{Assignment, KnownItems, passed, gone_through, bound, all_mutable, is_item, is_integer, is_truth}
use Rattle.rx_typeck_typed.specs.Asking.{Asking}
use Rattle.rx_typeck_typed.specs.Demands as rules
use Rattle.rx_meaning_typed.specs.TypedActs.{Typing, typ_along, root_typ, place_typ, IsEnum, constant_typ, ActTyped}
use Rattle.rx_repair.specs.TemporaryTypes as given_types
use Rattle.rx_repair.specs.TemporaryTypes.{Entry}
use Rattle.rx_repair.proofs.Entries.{Found}
use Rattle.rx_repair.proofs.Asking.{Asks, asks_map, none, both, then_first, then_second, then_u, one_asked, quiet, when_u, binding_u}
use Rattle.rx_repair.proofs.Places.{some_same}
use Rattle.rx_repair.proofs.Patterns.{every_front, every_behind, every_both}
use Rattle.rx_repair.proofs.Pieces.{T, own}
use Rattle.rx_meaning_accepted.proofs.Walking.{Holds}
use Rattle.rx_meaning_accepted.proofs.Steps.{along_append, along_one, part_is, field_is, variant_part_is}

-- ---- binding modes

-- by reference exactly where references are gone through, and mutable where all of them are
abbrev pub MetIs : Met → List Bool → Type 0
MetIs None [] = Unit {0}
MetIs None (m ∷ ms) = ⊥
MetIs (Some k) [] = ⊥
MetIs (Some k) (m ∷ ms) = k ≡ (m && all_mutable ms)

swapped : (k m a : Bool) → (k && (m && a)) ≡ (m && (k && a))
swapped true m a = refl
swapped false true a = refl
swapped false false a = refl

mutable_last : (ms : List Bool) (m : Bool) → all_mutable (ms ++ m ∷ []) ≡ (m && all_mutable ms)
mutable_last [] m = refl
mutable_last (k ∷ ms) m = ap (λ (b : Bool). k && b) (mutable_last ms m) ∙ swapped k m (all_mutable ms)

and_true : (m : Bool) → m ≡ (m && true)
and_true true = refl
and_true false = refl

met_one : (m : Bool) (r : Met) (ms : List Bool) → MetIs r ms → MetIs (meet m r) (ms ++ m ∷ [])
met_one m None [] h = and_true m
met_one m None (k ∷ ms) h = absurd h
met_one m (Some j) [] h = absurd h
met_one m (Some j) (k ∷ ms) h = ap (λ (b : Bool). m && b) h ∙ sym (ap (λ (b : Bool). k && b) (mutable_last ms m) ∙ swapped k m (all_mutable ms))

met_none : (r : Met) (ms : List Bool) → MetIs r ms → MetIs r (ms ++ ([] ++ []))
met_none r ms h = subst (λ (l : List Bool). MetIs r l) (sym (none_more ms)) h
  where
    none_more : (ms : List Bool) → ms ++ [] ≡ ms
    none_more [] = refl
    none_more (m ∷ ms) = ap (λ (l : List Bool). m ∷ l) (none_more ms)

met_is : (t : Typ) (r : Met) (ms : List Bool) → MetIs r ms → MetIs (met t r) (ms ++ (references t ++ []))
met_is (integer k) r ms h = met_none r ms h
met_is boolean r ms h = met_none r ms h
met_is (tuple_of ts) r ms h = met_none r ms h
met_is (reference m t) r ms h = subst (λ (l : List Bool). MetIs (met t (meet m r)) l) (append_assoc ms (m ∷ []) (references t ++ [])) (met_is t (meet m r) (ms ++ m ∷ []) (met_one m r ms h))
met_is (types.named i) r ms h = met_none r ms h

-- ---- what is tested

integer_behind : (t : Typ) → is_integer (peeled (outline t)) ≡ true → peeled t ≡ integer (kind_in (peeled t))
integer_behind (integer k) e = refl
integer_behind boolean e = absurd (cc)
integer_behind (tuple_of ts) e = absurd (cc)
integer_behind (reference m t) e = integer_behind t e
integer_behind (types.named i) e = absurd (cc)

pub truth_behind : (t : Typ) → is_truth (peeled (outline t)) ≡ true → peeled t ≡ boolean
truth_behind (integer k) e = absurd (cc)
truth_behind boolean e = refl
truth_behind (tuple_of ts) e = absurd (cc)
truth_behind (reference m t) e = truth_behind t e
truth_behind (types.named i) e = absurd (cc)

pub item_behind : (i : ℕ) (t : Typ) → is_item i (peeled (outline t)) ≡ true → peeled t ≡ types.named i
item_behind i (integer k) e = absurd (cc)
item_behind i boolean e = absurd (cc)
item_behind i (tuple_of ts) e = absurd (cc)
item_behind i (reference m t) e = item_behind i t e
item_behind i (types.named j) e = ap types.named (sym (eqb-true i j e))

-- what has several variants is an enum
several_is_enum : (o : Option Declared) → is_several (variants_declared o) ≡ true → IsEnum o
several_is_enum None e = absurd (cc)
several_is_enum (Some rt_declared) e = absurd (cc)
several_is_enum (Some (struct_declared c l fs)) e = absurd (cc)
several_is_enum (Some (enum_declared c l vs)) e = tt
several_is_enum (Some (function_declared ps t)) e = absurd (cc)

-- ---- of a function

module _ (K : KnownItems) (A : Assignment) (U : Temporary → Typ) (R : Typ) where
  abbrev pub V : ℕ → Typ
  V x = A (subject.Variable x)

  abbrev pub Ty : Typing
  Ty = record { declared = K.items; variables = V; temporaries = U; result = R }

  abbrev Wants : Type 0 → Asking → Type 0
  Wants r a = Asks K A r a

  abbrev OfNode : Node → Typ
  OfNode n = own K A n

  -- what is asked of each act
  abbrev pub Q : Act → Type 0
  Q a = ActTyped Ty a

  abbrev pub H : Order → Type 0
  H s = Holds Q s

  abbrev pub F : Entry → Type 0
  F e = Found U e

  -- ---- places

  -- a place has this type
  abbrev pub Reads : Place → Typ → Type 0
  Reads p t = place_typ Ty p ≡ Some t

  pub reads_as : (p : Place) (t u : Typ) → t ≡ u → Reads p t → Reads p u
  reads_as p t u e h = h ∙ ap (λ (z : Typ). Some z) e

  pub reads_under : (p : Place) (t : Typ) (ss : List Step) (u : Typ) → typ_along K.items t ss ≡ Some u → Reads p t → Reads (tree.under p ss) u
  reads_under p t ss u e h = along_append K.items (root_typ Ty p.root) t p.steps ss h ∙ e

  -- ---- patterns

  abbrev pub TestFine : actions.Subject → PartTest → Type 0
  TestFine S t = Q (actions.test_of S t).act

  abbrev pub BindingFine : actions.Subject → Binding → Type 0
  BindingFine S b = H (order.perhaps b.node (actions.taken S b)) × Q (actions.written S b).act

  abbrev pub Fine : actions.Subject → List Step → tree.Pattern → Type 0
  Fine S at q = Every (TestFine S) (tests at q) × Every (BindingFine S) (bindings at q)

  abbrev FineIn : actions.Subject → List Step → tree.Subpatterns → Type 0
  FineIn S at qs = Every (TestFine S) (tests_in at qs) × Every (BindingFine S) (bindings_in at qs)

  -- what is matched has this type there
  abbrev pub At : actions.Subject → List Step → Typ → Type 0
  At S at t = Reads (actions.part S at) t

  further : (S : actions.Subject) (at ss : List Step) (t u : Typ) → typ_along K.items t ss ≡ Some u → At S at t → At S (at ++ ss) u
  further (in_place p) at ss t u e h = subst (λ (l : List Step). typ_along K.items (root_typ Ty p.root) l ≡ Some u) (append_assoc p.steps at ss) (along_append K.items (root_typ Ty p.root) t (p.steps ++ at) ss h ∙ e)
  further (in_temporary d) at ss t u e h = along_append K.items (U d) t at ss h ∙ e

  behind_fine : (t : Typ) (q : tree.Pattern) (S : actions.Subject) (at : List Step) → At S at t → ((at : List Step) → At S at (peeled t) → Fine S at q) → Fine S at (elaborated.behind_all t q)
  behind_fine (integer k) q S at h f = f at h
  behind_fine boolean q S at h f = f at h
  behind_fine (tuple_of ts) q S at h f = f at h
  behind_fine (reference m t) q S at h f = behind_fine t q S (at ++ step.Deref m ∷ []) (further S at (step.Deref m ∷ []) (reference m t) t refl h) f
  behind_fine (types.named i) q S at h f = f at h

  exactly_fine : (n : Node) (c : tree.Constant) (S : actions.Subject) (at : List Step) → peeled (OfNode n) ≡ constant_typ c → At S at (OfNode n) → Fine S at (elaborated.behind_all (OfNode n) (tree.exactly n.number c))
  exactly_fine n c S at e h = behind_fine (OfNode n) (tree.exactly n.number c) S at h (λ at g. (((peeled (OfNode n), g, e), tt), tt))

  part_and_fine : (S : actions.Subject) (at : List Step) (k : ℕ) (q : tree.Pattern) (qs : tree.Subpatterns) → Fine S (at ++ step.Field k ∷ []) q → FineIn S at qs → FineIn S at (tree.part_and k q qs)
  part_and_fine S at k q qs h g = (
    every_both (TestFine S) (tests (at ++ step.Field k ∷ []) q) (tests_in at qs) h.0 g.0,
    every_both (BindingFine S) (bindings (at ++ step.Field k ∷ []) q) (bindings_in at qs) h.1 g.1,
  )

  tag_fine : (S : actions.Subject) (b : Bool) (n i v : ℕ) (at : List Step) → has_several K.items i ≡ b → At S at (types.named i) → Every (TestFine S) (tag_test b n at v)
  tag_fine S true n i v at e h = ((types.named i, h, several_is_enum (slice_get K.items i) e), tt)
  tag_fine S false n i v at e h = tt

  in_variant : (S : actions.Subject) (at : List Step) (i v k : ℕ) (u : Typ) → typ_along K.items (types.named i) (step.Variant v ∷ step.Field k ∷ []) ≡ Some u → At S at (types.named i) → At S ((at ++ step.Variant v ∷ []) ++ step.Field k ∷ []) u
  in_variant S at i v k u e h =
      subst (λ (ss : List Step). At S ss u) (sym (append_assoc at (step.Variant v ∷ []) (step.Field k ∷ []))) (further S at (step.Variant v ∷ step.Field k ∷ []) (types.named i) u e h)

  -- a variable that is bound: by value or by reference
  bound_fine : (n : Node) (x : ℕ) (c : Bool) (r : Met) (ms : List Bool) → MetIs r ms → bound ms (OfNode n) ≡ V x → U (temporary_at n.number 0) ≡ V x
      → (S : actions.Subject) (at : List Step) → At S at (OfNode n) → BindingFine S (record { node = n.number; variable = x; steps = at; mode = elaborated.mode_of c r })
  bound_fine n x c None [] m b u (in_place p) at h = (reads_as (tree.under p at) (OfNode n) (U (temporary_at n.number 0)) (b ∙ sym u) h, (V x, refl, ap (λ (z : Typ). Some z) u))
  bound_fine n x c None [] m b u (in_temporary d) at h = (tt, (V x, refl, reads_as (tree.under (tree.temporary_place d) at) (OfNode n) (V x) b h))
  bound_fine n x c None (k ∷ ms) m b u S at h = absurd m
  bound_fine n x c (Some j) [] m b u S at h = absurd m
  bound_fine n x c (Some j) (k ∷ ms) m b u (in_place p) at h =
      ((OfNode n, h, u ∙ (sym b ∙ ap (λ (z : Bool). reference z (OfNode n)) (sym m))), (V x, refl, ap (λ (z : Typ). Some z) u))
  bound_fine n x c (Some j) (k ∷ ms) m b u (in_temporary d) at h =
      ((OfNode n, h, u ∙ (sym b ∙ ap (λ (z : Bool). reference z (OfNode n)) (sym m))), (V x, refl, ap (λ (z : Typ). Some z) u))

  abbrev Front : Gone → List Bool
  Front p = gone_through p.all (A (subject.Node p.node))

  passed_append : (ps qs : List Gone) → passed A (ps ++ qs) ≡ passed A ps ++ passed A qs
  passed_append [] qs = refl
  passed_append (p ∷ ps) qs = ap (λ (l : List Bool). Front p ++ l) (passed_append ps qs) ∙ sym (append_assoc (Front p) (passed A ps) (passed A qs))

  inside : (n : Node) (anc : List Gone) (r : Met) → MetIs r (passed A anc) → MetIs (elaborated.met (OfNode n) r) (passed A (rules.under n anc))
  inside n anc r h =
      subst (λ (l : List Bool). MetIs (elaborated.met (OfNode n) r) l) (sym (passed_append anc (record { node = n.number; all = true } ∷ []))) (met_is (OfNode n) r (passed A anc) h)

  abbrev FineAt : List Gone → Typ → (Met → tree.Pattern) → Type 0
  FineAt anc t q = (r : Met) → MetIs r (passed A anc) → (S : actions.Subject) (at : List Step) → At S at t → Fine S at (q r)

  abbrev FineParts : List Gone → (List Step → List Step) → Typ → (Met → tree.Subpatterns) → Type 0
  FineParts anc go t qs = (r : Met) → MetIs r (passed A anc) → (S : actions.Subject) (at : List Step) → At S at t → FineIn S (go at) (qs r)

  pub is_item_asks : (n : Node) (i : ℕ) → Wants (peeled (OfNode n) ≡ types.named i) (rules.pattern_is n (test.ItemBehind i))
  is_item_asks n i = asks_map (λ h. item_behind i (OfNode n) h.0) (one_asked n _ _ _)

  pub bound_given : (s : rules.Matched) (anc : List Gone) (n : Node) (x : ℕ) (m : Bool) → Wants (bound (passed A anc) (OfNode n) ≡ V x) (rules.bound_at s anc n x m)
  bound_given s anc n x m =
      asks_map (λ h. some_same _ _ h.0) (then_first (one_asked n _ _ _) (then_u (quiet n _ _ _) (then_u (when_u m _ (quiet n _ _ _)) (binding_u n anc s))))

  pub literal_given : (n : Node) (g : Bool) (v : ℕ) (k : Option Kind) → Wants (peeled (OfNode n) ≡ integer (kind_in (peeled (OfNode n)))) (rules.literal_at n g v k)
  literal_given n g v k = asks_map (λ h. integer_behind (OfNode n) h.0) (then_first (one_asked n _ _ _) (then_u (when_u g _ (quiet n _ _ _)) (then_u (quiet n _ _ _) (quiet n _ _ _))))

  mutual
    pattern_asks : (s : rules.Matched) (anc : List Gone) (p : Pattern) → Every F (given_types.pattern_entries (T K A) V p) → Wants (FineAt anc (OfNode (pattern_node p)) (λ r. elaborated.pattern (T K A) r p)) (rules.of_pattern s anc p)
    pattern_asks s anc (named.wild n) u = asks_map (λ _ r q S at g. (tt, tt)) none
    pattern_asks s anc (named.bind n x m) u =
        asks_map (λ b r q S at g. (tt, (bound_fine n x (types.copies K.items (OfNode n)) r (passed A anc) q b (u.0 0) S at g, tt))) (bound_given s anc n x m)
    pattern_asks s anc (named.whole_number n g v k) u = asks_map (λ e r q S at f. exactly_fine n (tree.whole_number (kind_in (peeled (OfNode n))) (elaborated.with_sign g v)) S at e f) (literal_given n g v k)
    pattern_asks s anc (named.truth n b) u = asks_map (λ h r q S at f. exactly_fine n (tree.truth b) S at (truth_behind (OfNode n) h.0) f) (one_asked n _ _ _)
    pattern_asks s anc (named.tuple_pattern n ps) u =
        asks_map (λ f r q S at g. behind_fine (OfNode n) (tree.parts (elaborated.subpatterns (T K A) (elaborated.met (OfNode n) r) 0 ps)) S at g (λ at k. f (elaborated.met (OfNode n) r) (inside n anc r q) S at k))
        (then_second (quiet n _ _ _) (parts_asks s (rules.under n anc) n 0 ps u.1))
    pattern_asks s anc (named.variant_pattern n i v ps) u =
        asks_map (λ f r q S at g. behind_fine (OfNode n) (tree.variant n.number i (elaborated.has_several K.items i) v (elaborated.subpatterns (T K A) (elaborated.met (OfNode n) r) 0 ps)) S at g
        (λ at k. let l = subst (λ (t : Typ). At S at t) f.0 k in let z = f.1 (elaborated.met (OfNode n) r) (inside n anc r q) S at l in (
          every_both (TestFine S) (tag_test (elaborated.has_several K.items i) n.number at v) _ (tag_fine S (elaborated.has_several K.items i) n.number i v at refl l) z.0,
          z.1,
        )))
        (both (is_item_asks n i) (then_second (quiet n _ _ _) (variant_parts_asks s (rules.under n anc) i v 0 ps u.1)))
    pattern_asks s anc (named.struct_pattern n i fs) u =
        asks_map (λ f r q S at g. behind_fine (OfNode n) (tree.parts (elaborated.field_patterns (T K A) (elaborated.met (OfNode n) r) i fs)) S at g
        (λ at k. f.1 (elaborated.met (OfNode n) r) (inside n anc r q) S at (subst (λ (t : Typ). At S at t) f.0 k)))
        (both (is_item_asks n i) (then_second (quiet n _ _ _) (field_patterns_asks s (rules.under n anc) i fs u.1)))

    parts_asks : (s : rules.Matched) (anc : List Gone) (n : Node) (k : ℕ) (ps : Patterns) → Every F (given_types.patterns_entries (T K A) V ps)
        → Wants (FineParts anc (λ at. at) (peeled (OfNode n)) (λ r. elaborated.subpatterns (T K A) r k ps)) (rules.of_parts s anc n k ps)
    parts_asks s anc n k named.no_pattern u = asks_map (λ _ r q S at g. (tt, tt)) none
    parts_asks s anc n k (named.pattern_and p ps) u =
        asks_map (λ f r q S at g. part_and_fine S at k (elaborated.pattern (T K A) r p) (elaborated.subpatterns (T K A) r (suc k) ps)
        (f.1.0 r q S (at ++ step.Field k ∷ []) (further S at (step.Field k ∷ []) (peeled (OfNode n)) (OfNode (pattern_node p))
        (along_one K.items (peeled (OfNode n)) (OfNode (pattern_node p)) (step.Field k) (part_is K.items (peeled (OfNode n)) k (OfNode (pattern_node p)) f.0.0)) g)) (f.1.1 r q S at g))
        (both (one_asked (pattern_node p) _ _ _)
        (both (pattern_asks s anc p (every_front F (given_types.pattern_entries (T K A) V p) _ u)) (parts_asks s anc n (suc k) ps (every_behind F (given_types.pattern_entries (T K A) V p) _ u))))

    variant_parts_asks : (s : rules.Matched) (anc : List Gone) (i v k : ℕ) (ps : Patterns) → Every F (given_types.patterns_entries (T K A) V ps)
        → Wants (FineParts anc (λ at. at ++ step.Variant v ∷ []) (types.named i) (λ r. elaborated.subpatterns (T K A) r k ps)) (rules.of_variant_parts s anc i v k ps)
    variant_parts_asks s anc i v k named.no_pattern u = asks_map (λ _ r q S at g. (tt, tt)) none
    variant_parts_asks s anc i v k (named.pattern_and p ps) u =
        asks_map (λ f r q S at g. part_and_fine S (at ++ step.Variant v ∷ []) k (elaborated.pattern (T K A) r p) (elaborated.subpatterns (T K A) r (suc k) ps)
        (f.1.0 r q S ((at ++ step.Variant v ∷ []) ++ step.Field k ∷ []) (in_variant S at i v k (OfNode (pattern_node p)) (variant_part_is K.items i v k (OfNode (pattern_node p)) f.0.0) g)) (f.1.1 r q S at g))
        (both (one_asked (pattern_node p) _ _ _)
        (both (pattern_asks s anc p (every_front F (given_types.pattern_entries (T K A) V p) _ u)) (variant_parts_asks s anc i v (suc k) ps (every_behind F (given_types.pattern_entries (T K A) V p) _ u))))

    field_patterns_asks : (s : rules.Matched) (anc : List Gone) (i : ℕ) (fs : FieldPatterns) → Every F (given_types.field_patterns_entries (T K A) V fs)
        → Wants (FineParts anc (λ at. at) (types.named i) (λ r. elaborated.field_patterns (T K A) r i fs)) (rules.of_field_patterns s anc i fs)
    field_patterns_asks s anc i named.no_field_pattern u = asks_map (λ _ r q S at g. (tt, tt)) none
    field_patterns_asks s anc i (named.field_pattern_and x p fs) u =
        asks_map (λ f r q S at g. let k = elaborated.field_in K.items (types.named i) x in part_and_fine S at k (elaborated.pattern (T K A) r p) (elaborated.field_patterns (T K A) r i fs)
        (f.1.0 r q S (at ++ step.Field k ∷ []) (further S at (step.Field k ∷ []) (types.named i) (OfNode (pattern_node p))
        (along_one K.items (types.named i) (OfNode (pattern_node p)) (step.Field k) (field_is K.items (types.named i) x (OfNode (pattern_node p)) f.0.0)) g)) (f.1.1 r q S at g))
        (both (one_asked (pattern_node p) _ _ _)
        (both (pattern_asks s anc p (every_front F (given_types.pattern_entries (T K A) V p) _ u)) (field_patterns_asks s anc i fs (every_behind F (given_types.pattern_entries (T K A) V p) _ u))))

  abbrev pub FineWhole : Typ → Pattern → Type 0
  FineWhole t p = (S : actions.Subject) → At S [] t → Fine S [] (elaborated.pattern (T K A) None p)

  -- a whole pattern, where what is matched has the type of a subject
  pub whole_asks : (s : rules.Matched) (x : Subject) (p : Pattern) → Every F (given_types.pattern_entries (T K A) V p) → Wants (FineWhole (A x) p) (rules.whole_pattern s x p)
  whole_asks s x p u =
      asks_map (λ f S g. f.1 None tt S [] (subst (λ (t : Typ). At S [] t) (some_same (A x) (OfNode (pattern_node p)) f.0.0) g))
      (both (one_asked (pattern_node p) _ _ _) (pattern_asks s [] p u))
