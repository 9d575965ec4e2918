-- Of a pattern that is matched with a place of its type: what is read or borrowed for a variable is of the variable's type. And what is
-- asked of each act of a function, by the types of its temporaries.
use Rattle.std.proofs.Common.{◌≡◌, ℕ, suc, Bool, true, List, [], ◌∷◌, ◌++◌, Some, None, slice_get, refl, sym, ap, ◌∙◌, subst, append_assoc}
use Rattle.std.proofs.lemmas.Bool.{eqb-true}
use Rattle.rx_core.specs.declared.types.Step.{Step}
use Rattle.rx_core.specs.declared.types.Step.TheVariants as step
use Rattle.rx_tree.specs.Lists.{Every}
use Rattle.rx_typed.specs.declared.nodes.Node.{Node}
use Rattle.rx_typed.specs.Types as types
use Rattle.rx_typed.specs.Types.{Typ, integer, boolean, tuple_of, reference, unit_shape, peeled, outline, result_declared, references}
use Rattle.rx_typed.specs.Named as named
use Rattle.rx_typed.specs.Named.{Written, Pattern, Patterns, FieldPatterns, Exp, Exps, Else, Fields, Arms, Body, Statement, Statements, Parameter, Function, written_node, pattern_node, whole_binding, node_of, body_node, is_place, is_variable, root, never, body_never, else_never, some_diverges}
use Rattle.rx_typed.specs.Elaborated as elaborated
use Rattle.rx_typed.specs.Elaborated.{Coercion, Met}
use Rattle.rx_typed.specs.Tree as tree
use Rattle.rx_typed.specs.Tree.{Temporary, Place, Making, mark_of, temporary_of, temporary_at}
use Rattle.rx_lower_walks.specs.Matching.{Binding, bindings, bindings_in}
use Rattle.rx_lower_walks.specs.Actions.{Act, Read, Write, Borrow, Test, Call, Build, Input, in_place, in_temporary}
use Rattle.rx_lower_walks.specs.Actions as actions
use Rattle.rx_lower_walks.specs.Orders as order
use Rattle.rx_lower_walks.specs.Orders.{Order, order_all, order_scrutinee, order_arms, order_body, order_function, testing, binding, declaring, beginning}
use Rattle.rx_typeck_solver.specs.declared.facts.Subject.{Subject}
use Rattle.rx_typeck_solver.specs.declared.facts.Subject.TheVariants as subject
use Rattle.rx_typeck_solver.specs.declared.facts.Test.TheVariants as test
use Rattle.rx_typeck_solver.specs.declared.facts.Passing.{Passing as Gone}
use Rattle.rx_typeck_solver.specs.Facts.{Assignment, KnownItems, passed, gone_through, bound, is_item}
use Rattle.rx_typeck_typed.specs.Asking.{Asking}
use Rattle.rx_typeck_typed.specs.Demands as rules
use Rattle.rx_repair.specs.TemporaryTypes as given_types
use Rattle.rx_repair.specs.TemporaryTypes.{Entry, silent, at_site, own_or}
use Rattle.rx_repair.proofs.Entries.{Found}
use Rattle.rx_repair.proofs.Asking.{Asks, asks_map, none, both, then_first, then_second, then_u, one_asked, quiet, literal_u, when_u, binding_u}
use Rattle.rx_repair.proofs.Places.{along, along_append, some_same, part_is, field_is, variant_part_is}
use Rattle.rx_repair.proofs.Settling.{NoItem, MetAs, met_as}
use Rattle.rx_repair.proofs.Pieces.{T, own}

-- ---- lists

pub every_front : {E : Type 0} (P : E → Type 0) (a b : List E) → Every P (a ++ b) → Every P a
every_front P [] b h = tt
every_front P (x ∷ a) b h = (h.0, every_front P a b h.1)

pub every_behind : {E : Type 0} (P : E → Type 0) (a b : List E) → Every P (a ++ b) → Every P b
every_behind P [] b h = h
every_behind P (x ∷ a) b h = every_behind P a b h.1

pub every_both : {E : Type 0} (P : E → Type 0) (a b : List E) → Every P a → Every P b → Every P (a ++ b)
every_both P [] b g h = h
every_both P (x ∷ a) b g h = (g.0, every_both P a b g.1 h)

-- ---- what holds of each act of a part

module _ (Q : Act → Type 0) where
  abbrev pub Holds : Order → Type 0
  Holds order.nothing = Unit {0}
  Holds order.nowhere = Unit {0}
  Holds (order.act a) = Q a.act
  Holds (order.then s t) = Holds s × Holds t
  Holds (order.or s t) = Holds s × Holds t
  Holds (order.leave x) = Unit {0}
  Holds order.fail = Unit {0}
  Holds (order.otherwise s t) = Holds s × Holds t
  Holds (order.ending n x s) = Holds s
  Holds (order.passes l s) = Holds s

module _ (K : KnownItems) (A : Assignment) (U : Temporary → Typ) where
  abbrev pub V : ℕ → Typ
  V x = A (subject.Variable x)

  abbrev Wants : Type 0 → Asking → Type 0
  Wants R a = Asks K A R a

  abbrev OfNode : Node → Typ
  OfNode n = own K A n

  -- ---- what is asked of each act

  -- a place of a variable, by its type
  abbrev pub Reads : Place → Typ → Type 0
  Reads p t = (x : ℕ) × (p.root ≡ tree.variable x) × (along K.items (V x) p.steps ≡ t)

  abbrev pub Gets : Making → Typ → Type 0
  Gets (tree.struct i) t = t ≡ types.named i
  Gets (tree.variant_of i v) t = t ≡ types.named i
  Gets _ t = NoItem t

  abbrev pub Fills : Act → Type 0
  Fills (Read m p d) = Reads p (U d)
  Fills (Borrow k p d) = NoItem (U d)
  Fills (Call g ts d) = result_declared (slice_get K.items g) ≡ Some (U d)
  Fills (Build w js ts d) = Gets w (U d)
  Fills (Input d) = NoItem (U d)
  Fills _ = Unit {0}

  abbrev pub H : Order → Type 0
  H s = Holds Fills s

  abbrev pub F : Entry → Type 0
  F e = Found U e

  -- ---- places

  pub reads_as : (p : Place) (t u : Typ) → t ≡ u → Reads p t → Reads p u
  reads_as p t u e h = (h.0, h.1, h.2 ∙ e)

  pub reads_under : (p : Place) (t : Typ) (ss : List Step) (u : Typ) → along K.items t ss ≡ u → Reads p t → Reads (tree.under p ss) u
  reads_under p t ss u e h = (h.0, h.1, along_append K.items (V h.0) p.steps ss ∙ (ap (λ (z : Typ). along K.items z ss) h.2 ∙ e))

  -- ---- patterns

  abbrev pub BindingFine : actions.Subject → Binding → Type 0
  BindingFine S b = H (order.perhaps b.node (actions.taken S b))

  abbrev pub Fine : actions.Subject → List Step → tree.Pattern → Type 0
  Fine S at q = Every (BindingFine S) (bindings at q)

  abbrev FineIn : actions.Subject → List Step → tree.Subpatterns → Type 0
  FineIn S at qs = Every (BindingFine S) (bindings_in at qs)

  -- a place that is matched has this type
  abbrev pub At : actions.Subject → List Step → Typ → Type 0
  At (in_place p) at t = Reads (tree.under p at) t
  At (in_temporary d) at t = Unit {0}

  further : (S : actions.Subject) (at ss : List Step) (t u : Typ) → along K.items t ss ≡ u → At S at t → At S (at ++ ss) u
  further (in_place p) at ss t u e h =
      let x = reads_under (tree.under p at) t ss u e h in (x.0, x.1, subst (λ (l : List Step). along K.items (V x.0) l ≡ u) (append_assoc p.steps at ss) x.2)
  further (in_temporary d) at ss t u e h = tt

  behind_fine : (t : Typ) (q : tree.Pattern) (S : actions.Subject) (at : List Step) → At S at t → ((at : List Step) → At S at (peeled t) → Fine S at q) → Fine S at (elaborated.behind_all t q)
  behind_fine (integer k) q S at h f = f at h
  behind_fine boolean q S at h f = f at h
  behind_fine (tuple_of ts) q S at h f = f at h
  behind_fine (reference m t) q S at h f = behind_fine t q S (at ++ step.Deref m ∷ []) (further S at (step.Deref m ∷ []) (reference m t) t refl h) f
  behind_fine (types.named i) q S at h f = f at h

  exactly_fine : (t : Typ) (n : ℕ) (c : tree.Constant) (S : actions.Subject) (at : List Step) → Fine S at (elaborated.behind_all t (tree.exactly n c))
  exactly_fine (integer k) n c S at = tt
  exactly_fine boolean n c S at = tt
  exactly_fine (tuple_of ts) n c S at = tt
  exactly_fine (reference m t) n c S at = exactly_fine t n c S (at ++ step.Deref m ∷ [])
  exactly_fine (types.named i) n c S at = tt

  part_and_fine : (S : actions.Subject) (at : List Step) (k : ℕ) (q : tree.Pattern) (qs : tree.Subpatterns) → Fine S (at ++ step.Field k ∷ []) q → FineIn S at qs → FineIn S at (tree.part_and k q qs)
  part_and_fine S at k q qs h g = every_both (BindingFine S) (bindings (at ++ step.Field k ∷ []) q) (bindings_in at qs) h g

  in_variant : (S : actions.Subject) (at : List Step) (i v k : ℕ) (u : Typ) → along K.items (types.named i) (step.Variant v ∷ step.Field k ∷ []) ≡ u → At S at (types.named i) → At S ((at ++ step.Variant v ∷ []) ++ step.Field k ∷ []) u
  in_variant S at i v k u e h =
      subst (λ (ss : List Step). At S ss u) (sym (append_assoc at (step.Variant v ∷ []) (step.Field k ∷ []))) (further S at (step.Variant v ∷ step.Field k ∷ []) (types.named i) u e h)

  -- a variable that is bound: by value or by reference
  bound_fine : (n : Node) (x : ℕ) (c : Bool) (r : Met) (ms : List Bool) → MetAs r ms → bound ms (OfNode n) ≡ V x → U (temporary_at n.number 0) ≡ V x
      → (S : actions.Subject) (at : List Step) → At S at (OfNode n) → BindingFine S (record { node = n.number; variable = x; steps = at; mode = elaborated.mode_of c r })
  bound_fine n x c None [] m b u (in_place p) at h = reads_as (tree.under p at) (OfNode n) (U (temporary_at n.number 0)) (b ∙ sym u) h
  bound_fine n x c None [] m b u (in_temporary d) at h = tt
  bound_fine n x c None (k ∷ ms) m b u S at h = absurd m
  bound_fine n x c (Some j) [] m b u S at h = absurd m
  bound_fine n x c (Some j) (k ∷ ms) m b u (in_place p) at h = subst NoItem (b ∙ sym u) tt
  bound_fine n x c (Some j) (k ∷ ms) m b u (in_temporary d) at h = subst NoItem (b ∙ sym u) tt

  abbrev Front : Gone → List Bool
  Front p = gone_through p.all (A (subject.Node p.node))

  passed_append : (ps qs : List Gone) → passed A (ps ++ qs) ≡ passed A ps ++ passed A qs
  passed_append [] qs = refl
  passed_append (p ∷ ps) qs = ap (λ (l : List Bool). Front p ++ l) (passed_append ps qs) ∙ sym (append_assoc (Front p) (passed A ps) (passed A qs))

  inside : (n : Node) (anc : List Gone) (r : Met) → MetAs r (passed A anc) → MetAs (elaborated.met (OfNode n) r) (passed A (rules.under n anc))
  inside n anc r h =
      subst (λ (l : List Bool). MetAs (elaborated.met (OfNode n) r) l) (sym (passed_append anc (record { node = n.number; all = true } ∷ []))) (met_as (OfNode n) r (passed A anc) h)

  abbrev FineAt : List Gone → Typ → (Met → tree.Pattern) → Type 0
  FineAt anc t q = (r : Met) → MetAs r (passed A anc) → (S : actions.Subject) (at : List Step) → At S at t → Fine S at (q r)

  abbrev FineParts : List Gone → (List Step → List Step) → Typ → (Met → tree.Subpatterns) → Type 0
  FineParts anc go t qs = (r : Met) → MetAs r (passed A anc) → (S : actions.Subject) (at : List Step) → At S at t → FineIn S (go at) (qs r)

  is_item_asks : (n : Node) (i : ℕ) → Wants (peeled (OfNode n) ≡ types.named i) (rules.pattern_is n (test.ItemBehind i))
  is_item_asks n i = asks_map (λ h. item_of i (OfNode n) h.0) (one_asked n _ _ _)
    where
      item_of : (i : ℕ) (t : Typ) → is_item i (peeled (outline t)) ≡ true → peeled t ≡ types.named i
      item_of i (integer k) e = absurd (cc)
      item_of i boolean e = absurd (cc)
      item_of i (tuple_of ts) e = absurd (cc)
      item_of i (reference m t) e = item_of i t e
      item_of i (types.named j) e = ap types.named (sym (eqb-true i j e))

  bound_given : (s : rules.Matched) (anc : List Gone) (n : Node) (x : ℕ) (m : Bool) → Wants (bound (passed A anc) (OfNode n) ≡ V x) (rules.bound_at s anc n x m)
  bound_given s anc n x m =
      asks_map (λ h. some_same _ _ h.0) (then_first (one_asked n _ _ _) (then_u (quiet n _ _ _) (then_u (when_u m _ (quiet n _ _ _)) (binding_u n anc s))))

  mutual
    pattern_asks : (s : rules.Matched) (anc : List Gone) (p : Pattern) → Every F (given_types.pattern_entries (T K A) V p) → Wants (FineAt anc (OfNode (pattern_node p)) (λ r. elaborated.pattern (T K A) r p)) (rules.of_pattern s anc p)
    pattern_asks s anc (named.wild n) u = asks_map (λ _ r q S at g. tt) none
    pattern_asks s anc (named.bind n x m) u =
        asks_map (λ b r q S at g. (bound_fine n x (types.copies K.items (OfNode n)) r (passed A anc) q b (u.0 0) S at g, tt)) (bound_given s anc n x m)
    pattern_asks s anc (named.whole_number n g v k) u = asks_map (λ _ r q S at f. exactly_fine (OfNode n) n.number _ S at) (literal_u n g v k)
    pattern_asks s anc (named.truth n b) u = asks_map (λ _ r q S at f. exactly_fine (OfNode n) n.number _ S at) (quiet n _ _ _)
    pattern_asks s anc (named.tuple_pattern n ps) u =
        asks_map (λ f r q S at g. behind_fine (OfNode n) (tree.parts (elaborated.subpatterns (T K A) (elaborated.met (OfNode n) r) 0 ps)) S at g (λ at k. f (elaborated.met (OfNode n) r) (inside n anc r q) S at k))
        (then_second (quiet n _ _ _) (parts_asks s (rules.under n anc) n 0 ps u.1))
    pattern_asks s anc (named.variant_pattern n i v ps) u =
        asks_map (λ f r q S at g. behind_fine (OfNode n) (tree.variant n.number i (elaborated.has_several K.items i) v (elaborated.subpatterns (T K A) (elaborated.met (OfNode n) r) 0 ps)) S at g
        (λ at k. f.1 (elaborated.met (OfNode n) r) (inside n anc r q) S at (subst (λ (t : Typ). At S at t) f.0 k)))
        (both (is_item_asks n i) (then_second (quiet n _ _ _) (variant_parts_asks s (rules.under n anc) i v 0 ps u.1)))
    pattern_asks s anc (named.struct_pattern n i fs) u =
        asks_map (λ f r q S at g. behind_fine (OfNode n) (tree.parts (elaborated.field_patterns (T K A) (elaborated.met (OfNode n) r) i fs)) S at g
        (λ at k. f.1 (elaborated.met (OfNode n) r) (inside n anc r q) S at (subst (λ (t : Typ). At S at t) f.0 k)))
        (both (is_item_asks n i) (then_second (quiet n _ _ _) (field_patterns_asks s (rules.under n anc) i fs u.1)))

    parts_asks : (s : rules.Matched) (anc : List Gone) (n : Node) (k : ℕ) (ps : Patterns) → Every F (given_types.patterns_entries (T K A) V ps)
        → Wants (FineParts anc (λ at. at) (peeled (OfNode n)) (λ r. elaborated.subpatterns (T K A) r k ps)) (rules.of_parts s anc n k ps)
    parts_asks s anc n k named.no_pattern u = asks_map (λ _ r q S at g. tt) none
    parts_asks s anc n k (named.pattern_and p ps) u =
        asks_map (λ f r q S at g. part_and_fine S at k (elaborated.pattern (T K A) r p) (elaborated.subpatterns (T K A) r (suc k) ps)
        (f.1.0 r q S (at ++ step.Field k ∷ []) (further S at (step.Field k ∷ []) (peeled (OfNode n)) (OfNode (pattern_node p)) (part_is K.items (peeled (OfNode n)) k (OfNode (pattern_node p)) f.0.0) g)) (f.1.1 r q S at g))
        (both (one_asked (pattern_node p) _ _ _)
        (both (pattern_asks s anc p (every_front F (given_types.pattern_entries (T K A) V p) _ u)) (parts_asks s anc n (suc k) ps (every_behind F (given_types.pattern_entries (T K A) V p) _ u))))

    variant_parts_asks : (s : rules.Matched) (anc : List Gone) (i v k : ℕ) (ps : Patterns) → Every F (given_types.patterns_entries (T K A) V ps)
        → Wants (FineParts anc (λ at. at ++ step.Variant v ∷ []) (types.named i) (λ r. elaborated.subpatterns (T K A) r k ps)) (rules.of_variant_parts s anc i v k ps)
    variant_parts_asks s anc i v k named.no_pattern u = asks_map (λ _ r q S at g. tt) none
    variant_parts_asks s anc i v k (named.pattern_and p ps) u =
        asks_map (λ f r q S at g. part_and_fine S (at ++ step.Variant v ∷ []) k (elaborated.pattern (T K A) r p) (elaborated.subpatterns (T K A) r (suc k) ps)
        (f.1.0 r q S ((at ++ step.Variant v ∷ []) ++ step.Field k ∷ []) (in_variant S at i v k (OfNode (pattern_node p)) (variant_part_is K.items i v k (OfNode (pattern_node p)) f.0.0) g)) (f.1.1 r q S at g))
        (both (one_asked (pattern_node p) _ _ _)
        (both (pattern_asks s anc p (every_front F (given_types.pattern_entries (T K A) V p) _ u)) (variant_parts_asks s anc i v (suc k) ps (every_behind F (given_types.pattern_entries (T K A) V p) _ u))))

    field_patterns_asks : (s : rules.Matched) (anc : List Gone) (i : ℕ) (fs : FieldPatterns) → Every F (given_types.field_patterns_entries (T K A) V fs)
        → Wants (FineParts anc (λ at. at) (types.named i) (λ r. elaborated.field_patterns (T K A) r i fs)) (rules.of_field_patterns s anc i fs)
    field_patterns_asks s anc i named.no_field_pattern u = asks_map (λ _ r q S at g. tt) none
    field_patterns_asks s anc i (named.field_pattern_and x p fs) u =
        asks_map (λ f r q S at g. let k = elaborated.field_in K.items (types.named i) x in part_and_fine S at k (elaborated.pattern (T K A) r p) (elaborated.field_patterns (T K A) r i fs)
        (f.1.0 r q S (at ++ step.Field k ∷ []) (further S at (step.Field k ∷ []) (types.named i) (OfNode (pattern_node p)) (field_is K.items (types.named i) x (OfNode (pattern_node p)) f.0.0) g)) (f.1.1 r q S at g))
        (both (one_asked (pattern_node p) _ _ _)
        (both (pattern_asks s anc p (every_front F (given_types.pattern_entries (T K A) V p) _ u)) (field_patterns_asks s anc i fs (every_behind F (given_types.pattern_entries (T K A) V p) _ u))))

  abbrev pub FineWhole : Typ → Pattern → Type 0
  FineWhole t p = (S : actions.Subject) → At S [] t → Fine S [] (elaborated.pattern (T K A) None p)

  -- a whole pattern, where what is matched has the type of a subject
  pub whole_asks : (s : rules.Matched) (x : Subject) (p : Pattern) → Every F (given_types.pattern_entries (T K A) V p) → Wants (FineWhole (A x) p) (rules.whole_pattern s x p)
  whole_asks s x p u =
      asks_map (λ f S g. f.1 None tt S [] (subst (λ (t : Typ). At S [] t) (some_same (A x) (OfNode (pattern_node p)) f.0.0) g))
      (both (one_asked (pattern_node p) _ _ _) (pattern_asks s [] p u))
