-- What a pattern binds by value moves where its type isn't Copy, and nothing from behind a reference.
use Rattle.std.proofs.Common.{◌≡◌, ◌⊎◌, inl, inr, ℕ, suc, Bool, true, false, not, List, [], ◌∷◌, ◌++◌, Option, Some, None, slice_get, refl, sym, ap, ◌∙◌, subst, append_assoc, true≢false}
use Rattle.rx_core.specs.declared.types.Step.{Step}
use Rattle.rx_core.specs.declared.types.Step.TheVariants as step
use Rattle.rx_tree.specs.Lists.{Every}
use Rattle.rx_typed.specs.declared.nodes.Node.{Node}
use Rattle.rx_typed.specs.Types as types
use Rattle.rx_typed.specs.Types.{Typ, integer, boolean, tuple_of, reference, references, peeled, outline, fields_declared, field_typ, variant_parts, copies}
use Rattle.rx_typed.specs.Named as named
use Rattle.rx_typed.specs.Named.{Pattern, Patterns, FieldPatterns, pattern_node}
use Rattle.rx_typed.specs.Elaborated as elaborated
use Rattle.rx_typed.specs.Elaborated.{Assigned, Met}
use Rattle.rx_typed.specs.Tree as tree
use Rattle.rx_typed.specs.Tree.{variable, Temporary, Place}
use Rattle.rx_lower_walks.specs.Matching.{Binding, bindings, bindings_in}
use Rattle.rx_lower_walks.specs.Actions.{in_place, in_temporary}
use Rattle.rx_lower_walks.specs.Actions as actions
use Rattle.rx_typed_declarations.specs.Sizes.{Sized}
use Rattle.rx_facts_tables.specs.Places.{Frame, whole}
use Rattle.rx_facts_tables.specs.Setting.{is_behind}
use Rattle.rx_typeck_solver.specs.declared.facts.Subject.{Subject}
use Rattle.rx_typeck_solver.specs.declared.facts.Subject.TheVariants as subject
use Rattle.rx_typeck_solver.specs.declared.facts.Test.TheVariants as test
use Rattle.rx_typeck_solver.specs.declared.facts.Passing.{Passing}
use Rattle.rx_typeck_solver.specs.Facts.{Assignment, KnownItems, field_of, part_of, passed, is_none, is_mutable_reference}
use Rattle.rx_typeck_typed.specs.Asking.{Asking}
use Rattle.rx_typeck_typed.specs.Demands as rules
use Rattle.rx_meaning_accepted.proofs.Placed as placing
use Rattle.rx_meaning_accepted.proofs.Facts.{some_same, fixed_same, item_of, every_both}
use Rattle.rx_meaning_accepted.proofs.Asking.{Asks, asks_map, none, both, then_second, one_asked, quiet, when_u, literal_u}
use Rattle.rx_engine_initial_typed.specs.ByType.{MovesByType}
use Rattle.rx_engine_initial_reads.proofs.Kept.{either_behind, not_behind, met_none, meets_some, KeptBinding, binding_asks, none_passed}

module _ (K : KnownItems) (A : Assignment) (P : ℕ → ℕ) (ts : List (Option Typ)) (Z : Sized K.items P) where
  abbrev pub T : Assigned
  T = record { items = K.items; typ = λ n. A (subject.Node n); expected = λ n. A (subject.Expected n) }

  abbrev pub F : Frame
  F = record { declared = K.items; sizes = P; types = ts }

  abbrev pub At : Place → Typ → Type 0
  At p t = placing.IsAt F Z p t

  abbrev Wants : Type 0 → Asking → Type 0
  Wants R a = Asks K A R a

  abbrev Typed : Node → Typ
  Typed n = A (subject.Node n.number)

  -- ---- steps, as in the typed tree

  part_step : (p : Place) (t : Typ) (k : ℕ) (u : Typ) → At p t → part_of k t ≡ Some u → At (tree.under p (step.Field k ∷ [])) u
  part_step p (integer k) i u h e = absurd (cc)
  part_step p boolean i u h e = absurd (cc)
  part_step p (tuple_of us) i u h e = placing.at_part F Z p us i u h e
  part_step p (reference m t) i u h e = absurd (cc)
  part_step p (types.named j) i u h e = absurd (cc)

  field_step : (p : Place) (t : Typ) (x : List ℕ) (u : Typ) → At p t → field_of (λ k. k) K.items x t ≡ Some u → At (tree.under p (step.Field (elaborated.field_in K.items t x) ∷ [])) u
  field_step p (integer k) x u h e = absurd (cc)
  field_step p boolean x u h e = absurd (cc)
  field_step p (tuple_of us) x u h e = absurd (cc)
  field_step p (reference m t) x u h e = absurd (cc)
  field_step p (types.named j) x u h e = placing.at_field F Z p j x u h (fixed_same (field_typ (fields_declared (slice_get K.items j)) x) u e)

  further : (S : actions.Subject) (at ss : List Step) (t : Typ) → At (tree.under (actions.part S at) ss) t → At (actions.part S (at ++ ss)) t
  further (in_place p) at ss t h = placing.regrouped F Z p at ss t h
  further (in_temporary d) at ss t h = placing.regrouped F Z (tree.temporary_place d) at ss t h

  in_variant : (S : actions.Subject) (at : List Step) (i v k : ℕ) (u : Typ) → At (actions.part S at) (types.named i) → slice_get (variant_parts K.items i v) k ≡ Some u → At (actions.part S ((at ++ step.Variant v ∷ []) ++ step.Field k ∷ [])) u
  in_variant S at i v k u h e =
      subst (λ (ss : List Step). At (actions.part S ss) u) (sym (append_assoc at (step.Variant v ∷ []) (step.Field k ∷ [])))
      (further S at (step.Variant v ∷ step.Field k ∷ []) u (placing.at_variant F Z (actions.part S at) i v k u h e))

  -- ---- what is matched, and the references gone through

  abbrev pub Held : actions.Subject → Type 0
  Held S = (d : Temporary) × (S ≡ in_temporary d)

  abbrev pub PlacedAt : List Passing → actions.Subject → Type 0
  PlacedAt qs S = (p : Place) × (S ≡ in_place p) × (is_behind p.steps ≡ true → is_none (passed A qs) ≡ false)

  abbrev pub Based : rules.Matched → actions.Subject → Type 0
  Based rules.a_value S = Held S
  Based (rules.a_place x qs) S = Held S ⊎ PlacedAt qs S
  Based (rules.an_initialiser e x qs) S = Held S ⊎ (PlacedAt qs S × (is_mutable_reference (outline (Typed e)) ≡ false))

  -- the pattern has gone through no reference so far
  abbrev Ctx : Met → List Passing → List Step → Type 0
  Ctx r anc at = r ≡ None → (is_none (passed A anc) ≡ true) × (is_behind at ≡ false)

  abbrev pub BindingFine : actions.Subject → Binding → Type 0
  BindingFine S b = (v : Bool) → b.mode ≡ tree.by_value v → (x : ℕ) → (actions.part S b.steps).root ≡ variable x → MovesByType F (actions.part S b.steps) v

  abbrev pub Fine : actions.Subject → List Step → tree.Pattern → Type 0
  Fine S at q = Every (BindingFine S) (bindings at q)

  abbrev FineIn : actions.Subject → List Step → tree.Subpatterns → Type 0
  FineIn S at qs = Every (BindingFine S) (bindings_in at qs)

  -- ---- one binding

  value_of : (c v : Bool) (r : Met) → elaborated.mode_of c r ≡ tree.by_value v → (r ≡ None) × (v ≡ not c)
  value_of c v None e = (refl, cc)
  value_of c v (Some m) e = absurd (cc)

  held_binds : {X : Type 0} (S : actions.Subject) (at : List Step) (x : ℕ) → Held S → (actions.part S at).root ≡ variable x → X
  held_binds {X = X} S at x (d, e) q = clash (subst (λ (Y : actions.Subject). (actions.part Y at).root ≡ variable x) e q)
    where
      clash : tree.temporary d ≡ variable x → X
      clash z = absurd (cc)

  bound_fine : (s : rules.Matched) (anc : List Passing) (n : Node) (x : ℕ) (r : Met) (S : actions.Subject) (at : List Step) → Based s S → Ctx r anc at → KeptBinding K A s anc n → At (actions.part S at) (Typed n)
      → Fine S at (tree.bind n.number x (elaborated.mode_of (copies K.items (Typed n)) r))
  bound_fine s anc n x r S at base ctx kept h = ((λ v e y q. moves v (value_of (copies K.items (Typed n)) v r e) y q), tt)
    where
      placed_behind : (qs : List Passing) → PlacedAt qs S → is_behind at ≡ false → is_behind (actions.part S at).steps ≡ true → is_none (passed A qs) ≡ false
      placed_behind qs (p, i, g) f b = by (either_behind p.steps at (subst (λ (Y : actions.Subject). is_behind (actions.part Y at).steps ≡ true) i b))
        where
          by : (is_behind p.steps ≡ true) ⊎ (is_behind at ≡ true) → is_none (passed A qs) ≡ false
          by (inl z) = g z
          by (inr z) = absurd (true≢false (sym z ∙ f))

      copied : r ≡ None → (y : ℕ) → (actions.part S at).root ≡ variable y → is_behind (actions.part S at).steps ≡ true → copies K.items (Typed n) ≡ true
      copied e y q b = by s base kept
        where
          by : (w : rules.Matched) → Based w S → KeptBinding K A w anc n → copies K.items (Typed n) ≡ true
          by rules.a_value g k = held_binds S at y g q
          by (rules.a_place z qs) (inl g) k = held_binds S at y g q
          by (rules.a_place z qs) (inr g) k = k (ctx e).0 (placed_behind qs g (ctx e).1 b)
          by (rules.an_initialiser m z qs) (inl g) k = held_binds S at y g q
          by (rules.an_initialiser m z qs) (inr g) k = k g.1 (ctx e).0 (placed_behind qs g.0 (ctx e).1 b)

      moves : (v : Bool) → (r ≡ None) × (v ≡ not (copies K.items (Typed n))) → (y : ℕ) → (actions.part S at).root ≡ variable y → MovesByType F (actions.part S at) v
      moves v (e, i) y q = record {
        behind = λ b. i ∙ ap not (copied e y q b);
        itself = λ b. let z = h y q in (Typed n, z.1 ∙ ap whole (z.2 b), i);
      }

  -- ---- a pattern, through the references of its type

  behind_fine : (t : Typ) (q : tree.Pattern) (S : actions.Subject) (at : List Step) (r : Met) → (r ≡ None → is_behind at ≡ false) → At (actions.part S at) t
      → ((at : List Step) → (elaborated.met t r ≡ None → is_behind at ≡ false) → At (actions.part S at) (peeled t) → Fine S at q) → Fine S at (elaborated.behind_all t q)
  behind_fine (integer k) q S at r c h f = f at c h
  behind_fine boolean q S at r c h f = f at c h
  behind_fine (tuple_of us) q S at r c h f = f at c h
  behind_fine (reference m t) q S at r c h f =
      behind_fine t q S (at ++ step.Deref m ∷ []) (elaborated.meet m r) (λ e. meets_some m r e) (further S at (step.Deref m ∷ []) t (placing.through F Z (actions.part S at) m [] (reference m t) t h)) f
  behind_fine (types.named i) q S at r c h f = f at c h

  part_and_fine : (S : actions.Subject) (at : List Step) (k : ℕ) (q : tree.Pattern) (qs : tree.Subpatterns) → Fine S (at ++ step.Field k ∷ []) q → FineIn S at qs → FineIn S at (tree.part_and k q qs)
  part_and_fine S at k q qs h g = every_both (BindingFine S) (bindings (at ++ step.Field k ∷ []) q) (bindings_in at qs) h g

  -- inside of a pattern
  inside : (n : Node) (r : Met) (anc : List Passing) (at at' : List Step) → Ctx r anc at → (elaborated.met (Typed n) r ≡ None → is_behind at' ≡ false) → Ctx (elaborated.met (Typed n) r) (rules.under n anc) at'
  inside n r anc at at' c d e = let z = met_none (Typed n) r e in (none_passed K A anc n (c z.0).0 z.1, d e)

  one_further : (r : Met) (anc : List Passing) (at : List Step) (s : Step) → is_behind (s ∷ []) ≡ false → Ctx r anc at → Ctx r anc (at ++ s ∷ [])
  one_further r anc at s f c e = let z = c e in (z.0, not_behind at (s ∷ []) z.1 f)

  abbrev FineAt : rules.Matched → List Passing → Typ → (Met → tree.Pattern) → Type 0
  FineAt s anc t q = (r : Met) (S : actions.Subject) (at : List Step) → Based s S → Ctx r anc at → At (actions.part S at) t → Fine S at (q r)

  bound_asks : (s : rules.Matched) (anc : List Passing) (n : Node) (x : ℕ) (m : Bool) → Wants (KeptBinding K A s anc n) (rules.bound_at s anc n x m)
  bound_asks s anc n x m = then_second (quiet n _ _ _) (then_second (quiet n _ _ _) (then_second (when_u m _ (quiet n _ _ _)) (binding_asks K A s anc n)))

  is_item_asks : (n : Node) (i : ℕ) → Wants (peeled (Typed n) ≡ types.named i) (rules.pattern_is n (test.ItemBehind i))
  is_item_asks n i = asks_map (λ h. item_of i (Typed n) h.0) (one_asked n _ _ _)

  exactly_fine : (n : Node) (c : tree.Constant) (r : Met) (anc : List Passing) (S : actions.Subject) (at : List Step) → Ctx r anc at → At (actions.part S at) (Typed n) → Fine S at (elaborated.behind_all (Typed n) (tree.exactly n.number c))
  exactly_fine n c r anc S at d h = behind_fine (Typed n) (tree.exactly n.number c) S at r (λ e. (d e).1) h (λ at e g. tt)

  mutual
    pub pattern_asks : (s : rules.Matched) (anc : List Passing) (p : Pattern) → Wants (FineAt s anc (A (subject.Node (pattern_node p).number)) (λ r. elaborated.pattern T r p)) (rules.of_pattern s anc p)
    pattern_asks s anc (named.wild n) = asks_map (λ _ r S at b c g. tt) none
    pattern_asks s anc (named.bind n x m) = asks_map (λ k r S at b c g. bound_fine s anc n x r S at b c k g) (bound_asks s anc n x m)
    pattern_asks s anc (named.whole_number n g v k) = asks_map (λ _ r S at b c f. exactly_fine n _ r anc S at c f) (literal_u n g v k)
    pattern_asks s anc (named.truth n b) = asks_map (λ _ r S at b c f. exactly_fine n _ r anc S at c f) (quiet n _ _ _)
    pattern_asks s anc (named.tuple_pattern n ps) =
        asks_map (λ f r S at b c g. behind_fine (Typed n) (tree.parts (elaborated.subpatterns T (elaborated.met (Typed n) r) 0 ps)) S at r (λ e. (c e).1) g (λ at' d k. f (elaborated.met (Typed n) r) S at' b (inside n r anc at at' c d) k))
        (then_second (quiet n _ _ _) (parts_asks s (rules.under n anc) n 0 ps))
    pattern_asks s anc (named.variant_pattern n i v ps) =
        asks_map (λ f r S at b c g. behind_fine (Typed n) (tree.variant n.number i (elaborated.has_several K.items i) v (elaborated.subpatterns T (elaborated.met (Typed n) r) 0 ps)) S at r (λ e. (c e).1) g
        (λ at' d k. f.1 (elaborated.met (Typed n) r) S at' b (inside n r anc at at' c d) (subst (λ (t : Typ). At (actions.part S at') t) f.0 k)))
        (both (is_item_asks n i) (then_second (quiet n _ _ _) (variant_parts_asks s (rules.under n anc) i v 0 ps)))
    pattern_asks s anc (named.struct_pattern n i fs) =
        asks_map (λ f r S at b c g. behind_fine (Typed n) (tree.parts (elaborated.field_patterns T (elaborated.met (Typed n) r) i fs)) S at r (λ e. (c e).1) g
        (λ at' d k. f.1 (elaborated.met (Typed n) r) S at' b (inside n r anc at at' c d) (subst (λ (t : Typ). At (actions.part S at') t) f.0 k)))
        (both (is_item_asks n i) (then_second (quiet n _ _ _) (field_patterns_asks s (rules.under n anc) i fs)))

    parts_asks : (s : rules.Matched) (anc : List Passing) (n : Node) (k : ℕ) (ps : Patterns)
        → Wants ((r : Met) (S : actions.Subject) (at : List Step) → Based s S → Ctx r anc at → At (actions.part S at) (peeled (Typed n)) → FineIn S at (elaborated.subpatterns T r k ps)) (rules.of_parts s anc n k ps)
    parts_asks s anc n k named.no_pattern = asks_map (λ _ r S at b c g. tt) none
    parts_asks s anc n k (named.pattern_and p ps) =
        asks_map (λ f r S at b c g. part_and_fine S at k (elaborated.pattern T r p) (elaborated.subpatterns T r (suc k) ps)
        (f.1.0 r S (at ++ step.Field k ∷ []) b (one_further r anc at (step.Field k) refl c) (further S at (step.Field k ∷ []) _ (part_step (actions.part S at) (peeled (Typed n)) k (Typed (pattern_node p)) g f.0.0))) (f.1.1 r S at b c g))
        (both (one_asked (pattern_node p) _ _ _) (both (pattern_asks s anc p) (parts_asks s anc n (suc k) ps)))

    variant_parts_asks : (s : rules.Matched) (anc : List Passing) (i v k : ℕ) (ps : Patterns)
        → Wants ((r : Met) (S : actions.Subject) (at : List Step) → Based s S → Ctx r anc at → At (actions.part S at) (types.named i) → FineIn S (at ++ step.Variant v ∷ []) (elaborated.subpatterns T r k ps)) (rules.of_variant_parts s anc i v k ps)
    variant_parts_asks s anc i v k named.no_pattern = asks_map (λ _ r S at b c g. tt) none
    variant_parts_asks s anc i v k (named.pattern_and p ps) =
        asks_map (λ f r S at b c g. part_and_fine S (at ++ step.Variant v ∷ []) k (elaborated.pattern T r p) (elaborated.subpatterns T r (suc k) ps)
        (f.1.0 r S ((at ++ step.Variant v ∷ []) ++ step.Field k ∷ []) b (one_further r anc (at ++ step.Variant v ∷ []) (step.Field k) refl (one_further r anc at (step.Variant v) refl c))
        (in_variant S at i v k (Typed (pattern_node p)) g (fixed_same (slice_get (variant_parts K.items i v) k) (Typed (pattern_node p)) f.0.0))) (f.1.1 r S at b c g))
        (both (one_asked (pattern_node p) _ _ _) (both (pattern_asks s anc p) (variant_parts_asks s anc i v (suc k) ps)))

    field_patterns_asks : (s : rules.Matched) (anc : List Passing) (i : ℕ) (fs : FieldPatterns)
        → Wants ((r : Met) (S : actions.Subject) (at : List Step) → Based s S → Ctx r anc at → At (actions.part S at) (types.named i) → FineIn S at (elaborated.field_patterns T r i fs)) (rules.of_field_patterns s anc i fs)
    field_patterns_asks s anc i named.no_field_pattern = asks_map (λ _ r S at b c g. tt) none
    field_patterns_asks s anc i (named.field_pattern_and x p fs) =
        asks_map (λ f r S at b c g. let k = elaborated.field_in K.items (types.named i) x in part_and_fine S at k (elaborated.pattern T r p) (elaborated.field_patterns T r i fs)
        (f.1.0 r S (at ++ step.Field k ∷ []) b (one_further r anc at (step.Field k) refl c) (further S at (step.Field k ∷ []) _ (field_step (actions.part S at) (types.named i) x (Typed (pattern_node p)) g f.0.0))) (f.1.1 r S at b c g))
        (both (one_asked (pattern_node p) _ _ _) (both (pattern_asks s anc p) (field_patterns_asks s anc i fs)))

  -- a whole pattern, where what is matched has the type of a subject
  pub whole_asks : (s : rules.Matched) (x : Subject) (p : Pattern) → Wants ((S : actions.Subject) → Based s S → At (actions.part S []) (A x) → Fine S [] (elaborated.pattern T None p)) (rules.whole_pattern s x p)
  whole_asks s x p =
      asks_map (λ f S b g. f.1 None S [] b (λ e. (refl, refl)) (subst (λ (t : Typ). At (actions.part S []) t) (some_same (A x) (A (subject.Node (pattern_node p).number)) f.0.0) g))
      (both (one_asked (pattern_node p) _ _ _) (pattern_asks s [] p))
