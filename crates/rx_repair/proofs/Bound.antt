-- The types of the variables that a pattern binds, by the type that it is matched with: as the rules give them, and as they are told with
-- lifetimes. The numbers of nodes don't matter to them.
use Rattle.std.proofs.Common.{◌≡◌, ℕ, suc, Bool, true, false, ◌&&◌, List, [], ◌∷◌, ◌++◌, Option, Some, None, refl, sym, ap, ◌∙◌, subst, append_assoc, append-nil}
use Rattle.std.proofs.lemmas.Bool.{eqb-true}
use Rattle.rx_core.specs.declared.types.Step.TheVariants as step
use Rattle.rx_tree.specs.Lists.{Every}
use Rattle.rx_tree.specs.Plain as plain
use Rattle.rx_tree.specs.Plain.{TypeTree, PatternTree, PatternTrees}
use Rattle.rx_typed.specs.declared.declarations.Decl.{Decl}
use Rattle.rx_typed.specs.declared.nodes.Node.{Node}
use Rattle.rx_typed.specs.declared.nodes.Site.{Site}
use Rattle.rx_typed.specs.Types as types
use Rattle.rx_typed.specs.Types.{Typ, integer, boolean, tuple_of, reference, peeled, outline, references, Declarations}
use Rattle.rx_typed.specs.PlainTypes.{declarations}
use Rattle.rx_typed.specs.Regions.{RegionTyp, region_integer, region_boolean, region_tuple, region_reference, region_named, erased}
use Rattle.rx_typed.specs.Named as named
use Rattle.rx_typed.specs.Named.{Written, Pattern, Patterns, FieldPatterns, pattern_node, written_node}
use Rattle.rx_typed.specs.Naming as naming
use Rattle.rx_typed.specs.Naming.{Cursor, a_node, an_entry, of_type, of_types, of_pattern, of_patterns, of_field_patterns}
use Rattle.rx_typed.specs.Elaborated as elaborated
use Rattle.rx_typed.specs.Elaborated.{Met, meet, met}
use Rattle.rx_typeck_typed.specs.Bindings as bindings
use Rattle.rx_typeck_solver.specs.declared.facts.Subject.{Subject}
use Rattle.rx_typeck_solver.specs.declared.facts.Subject.TheVariants as subject
use Rattle.rx_typeck_solver.specs.declared.facts.Test.TheVariants as test
use Rattle.rx_typeck_solver.specs.declared.facts.Passing.{Passing as Gone}
use Rattle.rx_typeck_solver.specs.Facts.{Assignment, KnownItems, passed, gone_through, bound, all_mutable, is_item}
use Rattle.rx_typeck_typed.specs.Asking.{Asking}
use Rattle.rx_typeck_typed.specs.Demands as rules
use Rattle.rx_repair.proofs.Asking.{Asks, asks_map, none, both, then_first, then_second, then_u, one_asked, quiet, literal_u, when_u, binding_u}
use Rattle.rx_repair.proofs.Places.{along, some_same, part_is, field_is, variant_part_is}
use Rattle.rx_repair.proofs.Pieces.{own}
use Rattle.rx_repair.proofs.Erasing.{place_erased}
use Rattle.rx_repair.proofs.Noting.{Level, node_level, entry_level, pattern_level, entry_numbers_same}

-- ---- binding modes

-- the references that were gone through
abbrev pub met_of : List Bool → Met
met_of [] = None
met_of (m ∷ ms) = Some (m && all_mutable ms)

abbrev pub bound_of : Met → Typ → Typ
bound_of None t = t
bound_of (Some k) t = reference k t

bound_same : (ms : List Bool) (t : Typ) → bound ms t ≡ bound_of (met_of ms) t
bound_same [] t = refl
bound_same (m ∷ ms) t = refl

true_right : (a : Bool) → (a && true) ≡ a
true_right true = refl
true_right false = refl

and_turn : (m k a : Bool) → (m && (k && a)) ≡ (k && (a && m))
and_turn true true a = sym (true_right a)
and_turn true false a = refl
and_turn false true true = refl
and_turn false true false = refl
and_turn false false a = refl

all_last : (ks : List Bool) (m : Bool) → all_mutable (ks ++ m ∷ []) ≡ (all_mutable ks && m)
all_last [] m = true_right m
all_last (k ∷ ks) m = ap (λ (b : Bool). k && b) (all_last ks m) ∙ and_assoc k (all_mutable ks) m
  where
    and_assoc : (a b c : Bool) → (a && (b && c)) ≡ ((a && b) && c)
    and_assoc true b c = refl
    and_assoc false b c = refl

meet_last : (m : Bool) (ms : List Bool) → meet m (met_of ms) ≡ met_of (ms ++ m ∷ [])
meet_last m [] = ap (λ (b : Bool). Some b) (sym (true_right m))
meet_last m (k ∷ ks) = ap (λ (b : Bool). Some b) (and_turn m k (all_mutable ks) ∙ ap (λ (b : Bool). k && b) (sym (all_last ks m)))

met_none : (ms : List Bool) → met_of ms ≡ met_of (ms ++ ([] ++ []))
met_none ms = ap met_of (sym (append-nil ms))

met_more : (t : Typ) (ms : List Bool) → met t (met_of ms) ≡ met_of (ms ++ (references t ++ []))
met_more (integer k) ms = met_none ms
met_more boolean ms = met_none ms
met_more (tuple_of ts) ms = met_none ms
met_more (reference m t) ms = ap (λ (r : Met). met t r) (meet_last m ms) ∙ (met_more t (ms ++ m ∷ []) ∙ ap met_of (append_assoc ms (m ∷ []) (references t ++ [])))
met_more (types.named i) ms = met_none ms

-- ---- what a pattern binds

module _ (D : Declarations) (V : ℕ → Typ) where
  abbrev pub part_typ : Option ℕ → ℕ → Typ → Typ
  part_typ v k t = along D t (bindings.way v ++ step.Field k ∷ [])

  abbrev mutual
    pub BindsAs : Met → Pattern → Typ → Type 0
    BindsAs r (named.wild n) t = Unit {0}
    BindsAs r (named.bind n x m) t = bound_of r t ≡ V x
    BindsAs r (named.whole_number n g v k) t = Unit {0}
    BindsAs r (named.truth n b) t = Unit {0}
    BindsAs r (named.tuple_pattern n ps) t = PartsAs (met t r) None 0 ps (peeled t)
    BindsAs r (named.variant_pattern n i v ps) t = PartsAs (met t r) (Some v) 0 ps (peeled t)
    BindsAs r (named.struct_pattern n i fs) t = FieldsAs (met t r) i fs (peeled t)

    pub PartsAs : Met → Option ℕ → ℕ → Patterns → Typ → Type 0
    PartsAs r v k named.no_pattern t = Unit {0}
    PartsAs r v k (named.pattern_and p ps) t = BindsAs r p (part_typ v k t) × PartsAs r v (suc k) ps t

    pub FieldsAs : Met → ℕ → FieldPatterns → Typ → Type 0
    FieldsAs r i named.no_field_pattern t = Unit {0}
    FieldsAs r i (named.field_pattern_and x p fs) t = BindsAs r p (part_typ None (elaborated.field_in D (types.named i) x) t) × FieldsAs r i fs t

  -- whatever the numbers of nodes
  mutual
    pub binds_same : (p : PatternTree) (c d : Cursor) → Level c d → (r : Met) (t : Typ) → BindsAs r (of_pattern p c).0 t → BindsAs r (of_pattern p d).0 t
    binds_same (plain.wild s) c d e r t h = tt
    binds_same (plain.bind s x m) c d e r t h = h ∙ ap V (entry_level (a_node s Site.Value c).1 (a_node s Site.Value d).1 (node_level s c d e)).next
    binds_same (plain.int_pattern s g v k) c d e r t h = tt
    binds_same (plain.bool_pattern s b) c d e r t h = tt
    binds_same (plain.tuple_pattern s ps) c d e r t h = parts_same ps (a_node s Site.Value c).1 (a_node s Site.Value d).1 (node_level s c d e) (met t r) None 0 (peeled t) h
    binds_same (plain.variant_pattern s a v ps) c d e r t h =
        let c1 = (a_node s Site.Value c).1 in let d1 = (a_node s Site.Value d).1 in let l = node_level s c d e in
        parts_same ps (an_entry c1).1 (an_entry d1).1 (entry_level c1 d1 l) (met t r) (Some (naming.second (an_entry d1).0.0)) 0 (peeled t)
        (subst (λ (ns : List ℕ). PartsAs (met t r) (Some (naming.second ns)) 0 (of_patterns ps (an_entry c1).1).0 (peeled t)) (entry_numbers_same c1 d1 l) h)
    binds_same (plain.make_pattern s x fs) c d e r t h =
        let c1 = (a_node s Site.Value c).1 in let d1 = (a_node s Site.Value d).1 in let l = node_level s c d e in
        fields_same fs (an_entry c1).1 (an_entry d1).1 (entry_level c1 d1 l) (met t r) (naming.first (an_entry d1).0.0) (peeled t)
        (subst (λ (ns : List ℕ). FieldsAs (met t r) (naming.first ns) (of_field_patterns fs (an_entry c1).1).0 (peeled t)) (entry_numbers_same c1 d1 l) h)

    parts_same : (ps : PatternTrees) (c d : Cursor) → Level c d → (r : Met) (v : Option ℕ) (k : ℕ) (t : Typ) → PartsAs r v k (of_patterns ps c).0 t → PartsAs r v k (of_patterns ps d).0 t
    parts_same plain.no_pattern c d e r v k t h = tt
    parts_same (plain.pattern_and p ps) c d e r v k t h = (binds_same p c d e r (part_typ v k t) h.0, parts_same ps (of_pattern p c).1 (of_pattern p d).1 (pattern_level p c d e) r v (suc k) t h.1)

    fields_same : (fs : plain.FieldPatterns) (c d : Cursor) → Level c d → (r : Met) (i : ℕ) (t : Typ) → FieldsAs r i (of_field_patterns fs c).0 t → FieldsAs r i (of_field_patterns fs d).0 t
    fields_same plain.no_field_pattern c d e r i t h = tt
    fields_same (plain.field_pattern_and x p fs) c d e r i t h =
        (binds_same p c d e r (part_typ None (elaborated.field_in D (types.named i) x.name) t) h.0, fields_same fs (of_pattern p c).1 (of_pattern p d).1 (pattern_level p c d e) r i t h.1)

-- ---- as the rules give them

module _ (K : KnownItems) (A : Assignment) where
  abbrev V : ℕ → Typ
  V x = A (subject.Variable x)

  abbrev Wants : Type 0 → Asking → Type 0
  Wants R a = Asks K A R a

  abbrev Front : Gone → List Bool
  Front p = gone_through p.all (A (subject.Node p.node))

  passed_append : (ps qs : List Gone) → passed A (ps ++ qs) ≡ passed A ps ++ passed A qs
  passed_append [] qs = refl
  passed_append (p ∷ ps) qs = ap (λ (l : List Bool). Front p ++ l) (passed_append ps qs) ∙ sym (append_assoc (Front p) (passed A ps) (passed A qs))

  inside : (n : Node) (anc : List Gone) → met_of (passed A (rules.under n anc)) ≡ met (own K A n) (met_of (passed A anc))
  inside n anc = ap met_of (passed_append anc (record { node = n.number; all = true } ∷ [])) ∙ sym (met_more (own K A n) (passed A anc))

  is_item_asks : (n : Node) (i : ℕ) → Wants (peeled (own K A n) ≡ types.named i) (rules.pattern_is n (test.ItemBehind i))
  is_item_asks n i = asks_map (λ h. item_of i (own K A n) h.0) (one_asked n _ _ _)
    where
      item_of : (i : ℕ) (t : Typ) → is_item i (peeled (outline t)) ≡ true → peeled t ≡ types.named i
      item_of i (integer k) e = absurd (cc)
      item_of i boolean e = absurd (cc)
      item_of i (tuple_of ts) e = absurd (cc)
      item_of i (reference m t) e = item_of i t e
      item_of i (types.named j) e = ap types.named (sym (eqb-true i j e))

  bound_given : (s : rules.Matched) (anc : List Gone) (n : Node) (x : ℕ) (m : Bool) → Wants (bound (passed A anc) (own K A n) ≡ V x) (rules.bound_at s anc n x m)
  bound_given s anc n x m =
      asks_map (λ h. some_same _ _ h.0) (then_first (one_asked n _ _ _) (then_u (quiet n _ _ _) (then_u (when_u m _ (quiet n _ _ _)) (binding_u n anc s))))

  part_binds : (r : Met) (p : Pattern) (t u : Typ) → u ≡ t → BindsAs K.items V r p t → BindsAs K.items V r p u
  part_binds r p t u e h = subst (λ (z : Typ). BindsAs K.items V r p z) (sym e) h

  abbrev Inside : Node → List Gone → Met
  Inside n anc = met (own K A n) (met_of (passed A anc))

  mutual
    pattern_binds : (s : rules.Matched) (anc : List Gone) (p : Pattern) → Wants (BindsAs K.items V (met_of (passed A anc)) p (own K A (pattern_node p))) (rules.of_pattern s anc p)
    pattern_binds s anc (named.wild n) = none
    pattern_binds s anc (named.bind n x m) = asks_map (λ b. sym (bound_same (passed A anc) (own K A n)) ∙ b) (bound_given s anc n x m)
    pattern_binds s anc (named.whole_number n g v k) = literal_u n g v k
    pattern_binds s anc (named.truth n b) = quiet n _ _ _
    pattern_binds s anc (named.tuple_pattern n ps) =
        asks_map (λ h. subst (λ (r : Met). PartsAs K.items V r None 0 ps (peeled (own K A n))) (inside n anc) h) (then_second (quiet n _ _ _) (parts_bind s (rules.under n anc) n 0 ps))
    pattern_binds s anc (named.variant_pattern n i v ps) =
        asks_map (λ h. subst (λ (r : Met). PartsAs K.items V r (Some v) 0 ps (peeled (own K A n))) (inside n anc) (subst (λ (t : Typ). PartsAs K.items V (met_of (passed A (rules.under n anc))) (Some v) 0 ps t) (sym h.0) h.1))
        (both (is_item_asks n i) (then_second (quiet n _ _ _) (variant_parts_bind s (rules.under n anc) i v 0 ps)))
    pattern_binds s anc (named.struct_pattern n i fs) =
        asks_map (λ h. subst (λ (r : Met). FieldsAs K.items V r i fs (peeled (own K A n))) (inside n anc) (subst (λ (t : Typ). FieldsAs K.items V (met_of (passed A (rules.under n anc))) i fs t) (sym h.0) h.1))
        (both (is_item_asks n i) (then_second (quiet n _ _ _) (fields_bind s (rules.under n anc) i fs)))

    parts_bind : (s : rules.Matched) (anc : List Gone) (n : Node) (k : ℕ) (ps : Patterns) → Wants (PartsAs K.items V (met_of (passed A anc)) None k ps (peeled (own K A n))) (rules.of_parts s anc n k ps)
    parts_bind s anc n k named.no_pattern = none
    parts_bind s anc n k (named.pattern_and p ps) =
        asks_map (λ h. (part_binds (met_of (passed A anc)) p (own K A (pattern_node p)) (part_typ K.items V None k (peeled (own K A n))) (part_is K.items (peeled (own K A n)) k (own K A (pattern_node p)) h.0.0) h.1.0, h.1.1))
        (both (one_asked (pattern_node p) _ _ _) (both (pattern_binds s anc p) (parts_bind s anc n (suc k) ps)))

    variant_parts_bind : (s : rules.Matched) (anc : List Gone) (i v k : ℕ) (ps : Patterns) → Wants (PartsAs K.items V (met_of (passed A anc)) (Some v) k ps (types.named i)) (rules.of_variant_parts s anc i v k ps)
    variant_parts_bind s anc i v k named.no_pattern = none
    variant_parts_bind s anc i v k (named.pattern_and p ps) =
        asks_map (λ h. (part_binds (met_of (passed A anc)) p (own K A (pattern_node p)) (part_typ K.items V (Some v) k (types.named i)) (variant_part_is K.items i v k (own K A (pattern_node p)) h.0.0) h.1.0, h.1.1))
        (both (one_asked (pattern_node p) _ _ _) (both (pattern_binds s anc p) (variant_parts_bind s anc i v (suc k) ps)))

    fields_bind : (s : rules.Matched) (anc : List Gone) (i : ℕ) (fs : FieldPatterns) → Wants (FieldsAs K.items V (met_of (passed A anc)) i fs (types.named i)) (rules.of_field_patterns s anc i fs)
    fields_bind s anc i named.no_field_pattern = none
    fields_bind s anc i (named.field_pattern_and x p fs) =
        asks_map (λ h. (part_binds (met_of (passed A anc)) p (own K A (pattern_node p)) (part_typ K.items V None (elaborated.field_in K.items (types.named i) x) (types.named i)) (field_is K.items (types.named i) x (own K A (pattern_node p)) h.0.0) h.1.0, h.1.1))
        (both (one_asked (pattern_node p) _ _ _) (both (pattern_binds s anc p) (fields_bind s anc i fs)))

  pub whole_binds : (s : rules.Matched) (x : Subject) (p : Pattern) → Wants (BindsAs K.items V None p (A x)) (rules.whole_pattern s x p)
  whole_binds s x p = asks_map (λ h. part_binds None p (own K A (pattern_node p)) (A x) (some_same _ _ h.0.0) h.1) (both (one_asked (pattern_node p) _ _ _) (pattern_binds s [] p))

-- ---- as they are told with lifetimes

peeled_erased : (t : RegionTyp) → erased (bindings.peeled t) ≡ peeled (erased t)
peeled_erased (region_integer k) = refl
peeled_erased region_boolean = refl
peeled_erased (region_tuple ts) = refl
peeled_erased (region_reference m l t) = peeled_erased t
peeled_erased (region_named i ls) = refl

module _ (D : List Decl) (V : ℕ → Typ) (free : ℕ) where
  abbrev E : Declarations
  E = declarations D

  abbrev pub Told : ℕ × RegionTyp → Type 0
  Told x = erased x.1 ≡ V x.0

  every_both : (a b : List (ℕ × RegionTyp)) → Every Told a → Every Told b → Every Told (a ++ b)
  every_both [] b g h = h
  every_both (x ∷ a) b g h = (g.0, every_both a b g.1 h)

  bound_told : (r : Met) (t : RegionTyp) → erased (bindings.bound free r t) ≡ bound_of r (erased t)
  bound_told None t = refl
  bound_told (Some m) t = refl

  part_told : (v : Option ℕ) (k : ℕ) (t : RegionTyp) (u : Typ) → erased t ≡ u → erased (bindings.part D v k t) ≡ part_typ E V v k u
  part_told v k t u e = place_erased D t (bindings.way v ++ step.Field k ∷ []) ∙ ap (λ (z : Typ). part_typ E V v k z) e

  mutual
    pub bindings_told : (r : Met) (p : Pattern) (t : RegionTyp) (u : Typ) → erased t ≡ u → BindsAs E V r p u → Every Told (bindings.bindings D free r p t)
    bindings_told r (named.wild n) t u e h = tt
    bindings_told r (named.bind n x m) t u e h = (bound_told r t ∙ (ap (bound_of r) e ∙ h), tt)
    bindings_told r (named.whole_number n g v k) t u e h = tt
    bindings_told r (named.truth n b) t u e h = tt
    bindings_told r (named.tuple_pattern n ps) t u e h =
        parts_told (met (erased t) r) None 0 ps (bindings.peeled t) (peeled u) (peeled_erased t ∙ ap peeled e) (subst (λ (z : Typ). PartsAs E V (met z r) None 0 ps (peeled u)) (sym e) h)
    bindings_told r (named.variant_pattern n i v ps) t u e h =
        parts_told (met (erased t) r) (Some v) 0 ps (bindings.peeled t) (peeled u) (peeled_erased t ∙ ap peeled e) (subst (λ (z : Typ). PartsAs E V (met z r) (Some v) 0 ps (peeled u)) (sym e) h)
    bindings_told r (named.struct_pattern n i fs) t u e h =
        fields_told (met (erased t) r) i fs (bindings.peeled t) (peeled u) (peeled_erased t ∙ ap peeled e) (subst (λ (z : Typ). FieldsAs E V (met z r) i fs (peeled u)) (sym e) h)

    parts_told : (r : Met) (v : Option ℕ) (k : ℕ) (ps : Patterns) (t : RegionTyp) (u : Typ) → erased t ≡ u → PartsAs E V r v k ps u → Every Told (bindings.parts D free r v k ps t)
    parts_told r v k named.no_pattern t u e h = tt
    parts_told r v k (named.pattern_and p ps) t u e h =
        every_both (bindings.bindings D free r p (bindings.part D v k t)) (bindings.parts D free r v (suc k) ps t)
        (bindings_told r p (bindings.part D v k t) (part_typ E V v k u) (part_told v k t u e) h.0) (parts_told r v (suc k) ps t u e h.1)

    fields_told : (r : Met) (i : ℕ) (fs : FieldPatterns) (t : RegionTyp) (u : Typ) → erased t ≡ u → FieldsAs E V r i fs u → Every Told (bindings.fields D free r i fs t)
    fields_told r i named.no_field_pattern t u e h = tt
    fields_told r i (named.field_pattern_and x p fs) t u e h =
        let k = elaborated.field_in E (types.named i) x in
        every_both (bindings.bindings D free r p (bindings.part D None k t)) (bindings.fields D free r i fs t)
        (bindings_told r p (bindings.part D None k t) (part_typ E V None k u) (part_told None k t u e) h.0) (fields_told r i fs t u e h.1)
