-- A pattern that the rules of types accept fits the type of what it is matched against.
use Rattle.std.proofs.Common.{◌≡◌, inl, inr, ℕ, zero, suc, ◌+◌, arith, Bool, true, false, ◌&&◌, ◌||◌, if◌then◌else◌, List, [], ◌∷◌, length, Option, Some, None, slice_get, refl, sym, ap, ◌∙◌, subst}
use Rattle.std.specs.Prelude.{nat_eq}
use Rattle.std.specs.Str.{bytes_eq}
use Rattle.std.proofs.lemmas.Bool.{eqb-true}
use Rattle.std.proofs.lemmas.Slice.Eq.{bytes_eq-Decides}
use Rattle.rx_core.specs.declared.types.Kind.{Kind}
use Rattle.rx_core.specs.declared.types.Step.TheVariants as step
use Rattle.rx_typed.specs.declared.nodes.Node.{Node}
use Rattle.rx_typed.specs.Types as types
use Rattle.rx_typed.specs.Types.{Typ, integer, boolean, tuple_of, reference, peeled, shapes_of, fields_declared, field_typ, field_number, FieldDeclared, VariantDeclared, Declared, Declarations, enum_declared}
use Rattle.rx_typed.specs.Named as named
use Rattle.rx_typed.specs.Named.{Pattern, Patterns, FieldPatterns, pattern_node}
use Rattle.rx_typed.specs.Elaborated as elaborated
use Rattle.rx_typed.specs.Elaborated.{Met, Assigned, met, kind_in, has_several}
use Rattle.rx_typed.specs.Tree as tree
use Rattle.rx_typed.specs.Tree.{Temporary}
use Rattle.rx_typeck_solver.specs.declared.facts.Subject.{Subject}
use Rattle.rx_typeck_solver.specs.declared.facts.Passing.{Passing as Gone}
use Rattle.rx_typeck_solver.specs.Facts.{Assignment, KnownItems, names_of, is_among, all_among, exactly}
use Rattle.rx_typeck_typed.specs.Asking.{Asking}
use Rattle.rx_typeck_typed.specs.Demands as rules
use Rattle.rx_meaning.specs.Values.{and_then}
use Rattle.rx_meaning_typed.specs.TypedActs as acts
use Rattle.rx_meaning_typed.specs.TypedActs.{typ_behind, typ_along, parts_behind}
use Rattle.rx_meaning_covered.specs.Fitting.{IsNotAmong, PatternFits, PartsFit}
use Rattle.rx_repair.proofs.Asking.{Asks, asks_map, none, both, then_second, quiet, one_asked}
use Rattle.rx_repair.proofs.Places.{some_same, fixed_same}
use Rattle.rx_repair.proofs.Pieces.{T, own}
use Rattle.rx_meaning_accepted.specs.Fitting.{IsVariant}
use Rattle.rx_meaning_accepted.proofs.Steps.{part_is, field_is, variant_part_is}
use Rattle.rx_meaning_accepted.proofs.Patterns.{truth_behind, bound_given, literal_given, is_item_asks}
use Rattle.rx_meaning_accepted.proofs.Facts.{NamedApart, all_among_at}
use Rattle.rx_meaning_accepted.proofs.Parted.{PatternMeans, PatternsMean, FieldPatternsMean}
use Rattle.rx_meaning_sound.proofs.Counted.{Has, Apart, all_apart}

-- ---- parts by their numbers

-- behind a part come those of higher numbers
later : (A : Assigned) (r : Met) (i j k : ℕ) (ps : Patterns) → k ≡ suc (i + j) → IsNotAmong i (elaborated.subpatterns A r k ps)
later A r i j k named.no_pattern e = tt
later A r i j k (named.pattern_and p ps) e = ((λ q. absurd (omega (arith, q, e))), later A r i (suc j) (suc k) ps (omega (arith, e)))

-- ---- fields by their names

-- the numbers of the fields of a pattern
abbrev field_numbers : List FieldDeclared → FieldPatterns → List ℕ
field_numbers ds named.no_field_pattern = []
field_numbers ds (named.field_pattern_and x p fs) = field_number ds x ∷ field_numbers ds fs

as_many : (ds : List FieldDeclared) (fs : FieldPatterns) → length (field_numbers ds fs) ≡ length (rules.field_names fs)
as_many ds named.no_field_pattern = refl
as_many ds (named.field_pattern_and x p fs) = ap suc (as_many ds fs)

among_numbers : (ds : List FieldDeclared) (x : List ℕ) (fs : FieldPatterns) → is_among x (rules.field_names fs) ≡ true → Has (field_number ds x) (field_numbers ds fs)
among_numbers ds x named.no_field_pattern h = absurd (cc)
among_numbers ds x (named.field_pattern_and y p fs) h = by (bytes_eq y x) refl h (among_numbers ds x fs)
  where
    by : (b : Bool) → bytes_eq y x ≡ b → (b || is_among x (rules.field_names fs)) ≡ true → (is_among x (rules.field_names fs) ≡ true → Has (field_number ds x) (field_numbers ds fs)) → Has (field_number ds x) (field_numbers ds (named.field_pattern_and y p fs))
    by true q h g = inl (ap (λ (z : List ℕ). field_number ds z) (sym ((bytes_eq-Decides y x).0 q)))
    by false q h g = inr (g h)

both_front : (a b : Bool) → (a && b) ≡ true → a ≡ true
both_front true b e = refl
both_front false b e = absurd (cc)

both_behind : (a b : Bool) → (a && b) ≡ true → b ≡ true
both_behind true b e = e
both_behind false b e = absurd (cc)

-- where each of those that are declared is given, and as many are, none is given twice
numbers_apart : (ds : List FieldDeclared) (fs : FieldPatterns) → NamedApart ds → exactly (names_of ds) (rules.field_names fs) ≡ true → Apart (field_numbers ds fs)
numbers_apart ds fs apart h =
    let n = length (names_of ds) in let xs = rules.field_names fs in
    let c : n ≡ length xs = eqb-true n (length xs) (both_front (nat_eq n (length xs)) (all_among (names_of ds) xs) h) in
    all_apart n (field_numbers ds fs) (as_many ds fs ∙ sym c)
    (λ k l. let f = all_among_at ds xs (both_behind (nat_eq n (length xs)) (all_among (names_of ds) xs) h) k l in
    subst (λ (j : ℕ). Has j (field_numbers ds fs)) (apart k f.0 f.1) (among_numbers ds f.0.name fs f.2))

-- ---- the parts of a variant

-- what a variant leads to
variant_is : (D : Declarations) (i v : ℕ) → IsVariant D i v → (u : Typ) × (typ_behind D (types.named i) (step.Variant v) ≡ Some u)
variant_is D i v w = (tuple_of (shapes_of w.3.parts), ap (λ (o : Option Declared). acts.item_behind o (step.Variant v)) w.4 ∙ ap (λ (o : Option VariantDeclared). parts_behind o) w.5)

whole_same : (o : Option Typ) (u : Typ) → and_then o (λ w. Some w) ≡ Some u → o ≡ Some u
whole_same None u e = absurd (cc)
whole_same (Some w) u e = e

step_in : (D : Declarations) (t u : Typ) (k : ℕ) (o : Option Typ) → o ≡ Some t → and_then o (λ w. typ_along D w (step.Field k ∷ [])) ≡ Some u → typ_behind D t (step.Field k) ≡ Some u
step_in D t u k None q e = absurd (cc)
step_in D t u k (Some w) q e = whole_same (typ_behind D t (step.Field k)) u (subst (λ (z : Typ). typ_along D z (step.Field k ∷ []) ≡ Some u) (some_same w t q) e)

-- ---- patterns

module _ (K : KnownItems) (A : Assignment) (U : Temporary → Typ) (R : Typ) (apart : (i : ℕ) → NamedApart (fields_declared (slice_get K.items i))) where
  abbrev Wants : Type 0 → Asking → Type 0
  Wants r a = Asks K A r a

  abbrev OfNode : Node → Typ
  OfNode n = own K A n

  behind_fits : (t : Typ) (q : tree.Pattern) → PatternFits K.items (peeled t) q → PatternFits K.items t (elaborated.behind_all t q)
  behind_fits (integer k) q h = h
  behind_fits boolean q h = h
  behind_fits (tuple_of ts) q h = h
  behind_fits (reference m t) q h = (t, refl, behind_fits t q h)
  behind_fits (types.named i) q h = h

  abbrev Numbers : ℕ → FieldPatterns → List ℕ
  Numbers i fs = field_numbers (fields_declared (slice_get K.items i)) fs

  not_among : (r : Met) (i k : ℕ) (fs : FieldPatterns) → (Has k (Numbers i fs) → ⊥) → IsNotAmong k (elaborated.field_patterns (T K A) r i fs)
  not_among r i k named.no_field_pattern n = tt
  not_among r i k (named.field_pattern_and y p fs) n = ((λ q. n (inl q)), not_among r i k fs (λ h. n (inr h)))

  mutual
    pattern_fits : (s : rules.Matched) (anc : List Gone) (p : Pattern) → PatternMeans K.items p → Wants ((r : Met) → PatternFits K.items (OfNode (pattern_node p)) (elaborated.pattern (T K A) r p)) (rules.of_pattern s anc p)
    pattern_fits s anc (named.wild n) w = asks_map (λ _ r. tt) none
    pattern_fits s anc (named.bind n x m) w = asks_map (λ _ r. tt) (bound_given K A U R s anc n x m)
    pattern_fits s anc (named.whole_number n g v k) w =
        asks_map (λ e r. behind_fits (OfNode n) (tree.exactly n.number (tree.whole_number (kind_in (peeled (OfNode n))) (elaborated.with_sign g v))) e) (literal_given K A U R n g v k)
    pattern_fits s anc (named.truth n b) w = asks_map (λ h r. behind_fits (OfNode n) (tree.exactly n.number (tree.truth b)) (truth_behind (OfNode n) h.0)) (one_asked n _ _ _)
    pattern_fits s anc (named.tuple_pattern n ps) w =
        asks_map (λ f r. behind_fits (OfNode n) (tree.parts (elaborated.subpatterns (T K A) (met (OfNode n) r) 0 ps)) (f (met (OfNode n) r))) (then_second (quiet n _ _ _) (parts_fit s (rules.under n anc) n 0 ps w))
    pattern_fits s anc (named.variant_pattern n i v ps) w =
        let q = variant_is K.items i v w.0 in
        asks_map (λ f r. behind_fits (OfNode n) (tree.variant n.number i (has_several K.items i) v (elaborated.subpatterns (T K A) (met (OfNode n) r) 0 ps)) (f.0, refl, (q.0, ap (λ (z : Typ). typ_behind K.items z (step.Variant v)) f.0 ∙ q.1, f.1 (met (OfNode n) r))))
        (both (is_item_asks K A U R n i) (then_second (quiet n _ _ _) (variant_parts_fit s (rules.under n anc) i v q.0 q.1 0 ps w.1)))
    pattern_fits s anc (named.struct_pattern n i fs) w =
        asks_map (λ f r. behind_fits (OfNode n) (tree.parts (elaborated.field_patterns (T K A) (met (OfNode n) r) i fs))
        (subst (λ (t : Typ). PartsFit K.items t (elaborated.field_patterns (T K A) (met (OfNode n) r) i fs)) (sym f.0) (f.1.1 (numbers_apart (fields_declared (slice_get K.items i)) fs (apart i) f.1.0.0) (met (OfNode n) r))))
        (both (is_item_asks K A U R n i) (both (one_asked n _ _ _) (fields_fit s (rules.under n anc) i fs w)))

    parts_fit : (s : rules.Matched) (anc : List Gone) (n : Node) (k : ℕ) (ps : Patterns) → PatternsMean K.items ps
        → Wants ((r : Met) → PartsFit K.items (peeled (OfNode n)) (elaborated.subpatterns (T K A) r k ps)) (rules.of_parts s anc n k ps)
    parts_fit s anc n k named.no_pattern w = asks_map (λ _ r. tt) none
    parts_fit s anc n k (named.pattern_and p ps) w =
        asks_map (λ f r. (later (T K A) r k 0 (suc k) ps (omega arith), (OfNode (pattern_node p), part_is K.items (peeled (OfNode n)) k (OfNode (pattern_node p)) f.0.0, f.1.0 r), f.1.1 r))
        (both (one_asked (pattern_node p) _ _ _) (both (pattern_fits s anc p w.0) (parts_fit s anc n (suc k) ps w.1)))

    variant_parts_fit : (s : rules.Matched) (anc : List Gone) (i v : ℕ) (t : Typ) → typ_behind K.items (types.named i) (step.Variant v) ≡ Some t → (k : ℕ) (ps : Patterns) → PatternsMean K.items ps
        → Wants ((r : Met) → PartsFit K.items t (elaborated.subpatterns (T K A) r k ps)) (rules.of_variant_parts s anc i v k ps)
    variant_parts_fit s anc i v t q k named.no_pattern w = asks_map (λ _ r. tt) none
    variant_parts_fit s anc i v t q k (named.pattern_and p ps) w =
        asks_map (λ f r. (
          later (T K A) r k 0 (suc k) ps (omega arith),
          (
            OfNode (pattern_node p),
            step_in K.items t (OfNode (pattern_node p)) k (typ_behind K.items (types.named i) (step.Variant v)) q (variant_part_is K.items i v k (OfNode (pattern_node p)) f.0.0),
            f.1.0 r,
          ),
          f.1.1 r,
        ))
        (both (one_asked (pattern_node p) _ _ _) (both (pattern_fits s anc p w.0) (variant_parts_fit s anc i v t q (suc k) ps w.1)))

    fields_fit : (s : rules.Matched) (anc : List Gone) (i : ℕ) (fs : FieldPatterns) → FieldPatternsMean K.items fs
        → Wants (Apart (Numbers i fs) → (r : Met) → PartsFit K.items (types.named i) (elaborated.field_patterns (T K A) r i fs)) (rules.of_field_patterns s anc i fs)
    fields_fit s anc i named.no_field_pattern w = asks_map (λ _ a r. tt) none
    fields_fit s anc i (named.field_pattern_and x p fs) w =
        asks_map (λ f a r. (
          not_among r i (field_number (fields_declared (slice_get K.items i)) x) fs a.0,
          (OfNode (pattern_node p), field_is K.items (types.named i) x (OfNode (pattern_node p)) f.0.0, f.1.0 r),
          f.1.1 a.1 r,
        ))
        (both (one_asked (pattern_node p) _ _ _) (both (pattern_fits s anc p w.0) (fields_fit s anc i fs w.1)))

  -- a whole pattern, where what is matched has the type of a subject
  pub whole_fits : (s : rules.Matched) (x : Subject) (p : Pattern) → PatternMeans K.items p → Wants (PatternFits K.items (A x) (elaborated.pattern (T K A) None p)) (rules.whole_pattern s x p)
  whole_fits s x p w =
      asks_map (λ f. subst (λ (t : Typ). PatternFits K.items t (elaborated.pattern (T K A) None p)) (sym (some_same (A x) (OfNode (pattern_node p)) f.0.0)) (f.1 None)) (both (one_asked (pattern_node p) _ _ _) (pattern_fits s [] p w))
