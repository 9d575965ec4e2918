-- What is read from behind a reference is Copy, by the rules of types; and which references a place goes through.
use Rattle.std.proofs.Common.{◌≡◌, ◌⊎◌, inl, inr, ℕ, Bool, true, false, ◌&&◌, ◌||◌, List, [], ◌∷◌, ◌++◌, Some, None, IsTrue, refl, sym, ap, ◌∙◌, true≢false}
use Rattle.rx_core.specs.declared.types.Kind.{Kind}
use Rattle.rx_core.specs.declared.types.Step.{Step}
use Rattle.rx_core.specs.declared.types.Step.TheVariants as step
use Rattle.rx_typed.specs.declared.nodes.Node.{Node}
use Rattle.rx_typed.specs.declared.nodes.Site.{Site}
use Rattle.rx_typed.specs.Types as types
use Rattle.rx_typed.specs.Types.{Shapes, Typ, integer, boolean, tuple_of, reference, no_shape, shape_and, shapes_map, outline, references, outermost, Declarations, copies, all_copy}
use Rattle.rx_typed.specs.Named as named
use Rattle.rx_typed.specs.Named.{Exp, node_of}
use Rattle.rx_typed.specs.Elaborated as elaborated
use Rattle.rx_typed.specs.Elaborated.{Assigned, Met, dereferences, dereference}
use Rattle.rx_facts_tables.specs.Setting.{is_behind}
use Rattle.rx_typeck_solver.specs.declared.facts.Subject.TheVariants as subject
use Rattle.rx_typeck_solver.specs.declared.facts.Passing.{Passing}
use Rattle.rx_typeck_solver.specs.Facts.{Assignment, KnownItems, coerced, passed, is_none, is_mutable_reference, binding_kept, gone_through}
use Rattle.rx_typeck_typed.specs.Demands as rules
use Rattle.rx_typeck_typed.specs.Demands.{through}
use Rattle.rx_meaning_accepted.proofs.Asking.{Asks, asks_map, none, both, then_first, one_asked, quiet}
use Rattle.rx_meaning_accepted.proofs.Facts.{some_same}

-- ---- steps

one_of : {B C D : Type 0} → B ⊎ C → (B → D) → (C → D) → D
one_of (inl b) f g = f b
one_of (inr c) f g = g c

pub either_behind : (a b : List Step) → is_behind (a ++ b) ≡ true → (is_behind a ≡ true) ⊎ (is_behind b ≡ true)
either_behind [] b h = inr h
either_behind (step.Field i ∷ a) b h = either_behind a b h
either_behind (step.Variant v ∷ a) b h = either_behind a b h
either_behind (step.Deref m ∷ a) b h = inl refl

pub not_behind : (a b : List Step) → is_behind a ≡ false → is_behind b ≡ false → is_behind (a ++ b) ≡ false
not_behind [] b h g = g
not_behind (step.Field i ∷ a) b h g = not_behind a b h g
not_behind (step.Variant v ∷ a) b h g = not_behind a b h g
not_behind (step.Deref m ∷ a) b h g = absurd (true≢false h)

some_more : (l q : List Bool) → is_none q ≡ false → is_none (l ++ q) ≡ false
some_more [] q h = h
some_more (m ∷ l) q h = refl

none_both : (l q : List Bool) → is_none l ≡ true → is_none q ≡ true → is_none (l ++ q) ≡ true
none_both [] q h g = g
none_both (m ∷ l) q h g = absurd (true≢false (sym h))

through_all : (t : Typ) (i : Step) (q : List Bool) → is_behind (i ∷ []) ≡ false → is_behind (dereferences t ++ i ∷ []) ≡ true → is_none (references t ++ q) ≡ false
through_all (integer k) i q f h = absurd (true≢false (sym h ∙ f))
through_all boolean i q f h = absurd (true≢false (sym h ∙ f))
through_all (tuple_of ts) i q f h = absurd (true≢false (sym h ∙ f))
through_all (reference m t) i q f h = refl
through_all (types.named n) i q f h = absurd (true≢false (sym h ∙ f))

through_one : (t : Typ) (q : List Bool) → is_behind (dereference t) ≡ true → is_none (outermost t ++ q) ≡ false
through_one (integer k) q h = absurd (true≢false (sym h))
through_one boolean q h = absurd (true≢false (sym h))
through_one (tuple_of ts) q h = absurd (true≢false (sym h))
through_one (reference m t) q h = refl
through_one (types.named n) q h = absurd (true≢false (sym h))

-- ---- patterns go through references

meet_some : (m : Bool) (r : Met) → elaborated.meet m r ≡ None → ⊥
meet_some m None q = absurd (cc)
meet_some m (Some k) q = absurd (cc)

pub met_none : (t : Typ) (r : Met) → elaborated.met t r ≡ None → (r ≡ None) × (is_none (references t) ≡ true)
met_none (integer k) r q = (q, refl)
met_none boolean r q = (q, refl)
met_none (tuple_of ts) r q = (q, refl)
met_none (reference m t) r q = absurd (meet_some m r (met_none t (elaborated.meet m r) q).0)
met_none (types.named n) r q = (q, refl)

pub meets_some : {X : Type 0} (m : Bool) (r : Met) → elaborated.meet m r ≡ None → X
meets_some m r q = absurd (meet_some m r q)

-- ---- Copy, whatever integers are

mutual
  pub copies_outline : (D : Declarations) (t : Typ) → copies D (outline t) ≡ copies D t
  copies_outline D (integer k) = refl
  copies_outline D boolean = refl
  copies_outline D (tuple_of ts) = all_outline D ts
  copies_outline D (reference m t) = refl
  copies_outline D (types.named i) = refl

  all_outline : (D : Declarations) (ts : Shapes Kind) → all_copy D (shapes_map (λ k. tt {0}) ts) ≡ all_copy D ts
  all_outline D no_shape = refl
  all_outline D (shape_and t ts) = ap (λ b. b && all_copy D (shapes_map (λ k. tt {0}) ts)) (copies_outline D t) ∙ ap (λ b. copies D t && b) (all_outline D ts)

or_first : (a b : Bool) → IsTrue (a || b) → b ≡ false → a ≡ true
or_first true b h e = refl
or_first false b h e = absurd (true≢false (sym h ∙ e))

or_second : (a b : Bool) → IsTrue (a || b) → a ≡ false → IsTrue b
or_second true b h e = absurd (true≢false e)
or_second false b h e = h

-- a mutable reference is asked for again, or shared, where one is expected
pub expected_one : (t u : Typ) → coerced t u ≡ t → elaborated.coercion t u ≡ elaborated.plain → is_mutable_reference (outline t) ≡ false
expected_one (integer k) u h q = refl
expected_one boolean u h q = refl
expected_one (tuple_of ts) u h q = refl
expected_one (reference false t) u h q = refl
expected_one (reference true t) (reference true u) h q = absurd (cc)
expected_one (reference true t) (reference false u) h q = absurd (cc)
expected_one (reference true t) (integer k) h q = absurd (cc)
expected_one (reference true t) boolean h q = absurd (cc)
expected_one (reference true t) (tuple_of us) h q = absurd (cc)
expected_one (reference true t) (types.named i) h q = absurd (cc)
expected_one (types.named i) u h q = refl

own_one : (t : Typ) → elaborated.coercion t t ≡ elaborated.plain → is_mutable_reference (outline t) ≡ false
own_one (integer k) q = refl
own_one boolean q = refl
own_one (tuple_of ts) q = refl
own_one (reference false t) q = refl
own_one (reference true t) q = absurd (cc)
own_one (types.named i) q = refl

binding_copies : (D : Declarations) (t : Typ) (ms qs : List Bool) → IsTrue (binding_kept D (outline t) ms qs) → is_none ms ≡ true → is_none qs ≡ false → copies D t ≡ true
binding_copies D t [] qs h m q = sym (copies_outline D t) ∙ or_first (copies D (outline t)) (is_none qs) h q
binding_copies D t (m ∷ ms) qs h n q = absurd (true≢false (sym n))

-- a place as a value stands there
abbrev pub IsValue : Site → Type 0
IsValue Site.Value = Unit {0}
IsValue Site.Place = ⊥
IsValue Site.Scrutinee = ⊥
IsValue Site.Expects = Unit {0}
IsValue Site.Initialises = ⊥
IsValue Site.Reborrows = Unit {0}

module _ (K : KnownItems) (A : Assignment) where
  abbrev T : Assigned
  T = record { items = K.items; typ = λ n. A (subject.Node n); expected = λ n. A (subject.Expected n) }

  -- a place that is behind a dereference goes through some reference
  pub goes_through : (e : Exp) → is_behind (elaborated.place T e).steps ≡ true → is_none (passed A (through e)) ≡ false
  goes_through (named.field n e x) h =
      let t = A (subject.Node (node_of e).number) in
      let i = step.Field (elaborated.field_in K.items (types.peeled t) x) in
      one_of (either_behind (elaborated.place T e).steps (dereferences t ++ i ∷ []) h) (λ g. some_more (references t) (passed A (through e)) (goes_through e g)) (λ g. through_all t i (passed A (through e)) refl g)
  goes_through (named.part n e i) h =
      let t = A (subject.Node (node_of e).number) in
      one_of (either_behind (elaborated.place T e).steps (dereferences t ++ step.Field i ∷ []) h) (λ g. some_more (references t) (passed A (through e)) (goes_through e g)) (λ g. through_all t (step.Field i) (passed A (through e)) refl g)
  goes_through (named.deref n e) h =
      let t = A (subject.Node (node_of e).number) in
      one_of (either_behind (elaborated.place T e).steps (dereference t) h) (λ g. some_more (outermost t) (passed A (through e)) (goes_through e g)) (λ g. through_one t (passed A (through e)) g)
  goes_through _ h = absurd (true≢false (sym h))

  abbrev Typed : Node → Typ
  Typed n = A (subject.Node n.number)

  -- where it is read as it is, it is Copy, or goes through no reference
  abbrev pub KeptAt : Node → List Passing → Site → Type 0
  KeptAt n ps t = IsValue t → elaborated.coercion_in T n.number t ≡ elaborated.plain → is_none (passed A ps) ≡ false → copies K.items (Typed n) ≡ true

  kept_or : (n : Node) (ps : List Passing) → IsTrue (copies K.items (outline (Typed n)) || is_mutable_reference (outline (Typed n)) || is_none (passed A ps)) → is_mutable_reference (outline (Typed n)) ≡ false → is_none (passed A ps) ≡ false → copies K.items (Typed n) ≡ true
  kept_or n ps h m q = sym (copies_outline K.items (Typed n)) ∙ either (copies K.items (outline (Typed n))) (is_mutable_reference (outline (Typed n))) (is_none (passed A ps)) h m q
    where
      either : (a b c : Bool) → IsTrue (a || b || c) → b ≡ false → c ≡ false → a ≡ true
      either true b c h e f = refl
      either false true c h e f = absurd (true≢false e)
      either false false c h e f = absurd (true≢false (sym h ∙ f))

  pub kept_asks : (n : Node) (x : ℕ) (ps : List Passing) (t : Site) → Asks K A (KeptAt n ps t) (rules.place_in n x ps t)
  kept_asks n x ps Site.Value = asks_map (λ h v q r. sym (copies_outline K.items (Typed n)) ∙ or_first (copies K.items (outline (Typed n))) (is_none (passed A ps)) h.0 r) (one_asked n _ _ _)
  kept_asks n x ps Site.Place = asks_map (λ h v q r. absurd v) none
  kept_asks n x ps Site.Scrutinee = asks_map (λ h v q r. absurd v) none
  kept_asks n x ps Site.Expects = asks_map (λ h v q r. kept_or n ps h.1.0.0 (expected_one (Typed n) (A (subject.Expected n.number)) (some_same _ _ h.0.0) q) r) (both (one_asked n _ _ _) (both (one_asked n _ _ _) (quiet n _ _ _)))
  kept_asks n x ps Site.Initialises = asks_map (λ h v q r. absurd v) (then_first (one_asked n _ _ _) (quiet n _ _ _))
  kept_asks n x ps Site.Reborrows = asks_map (λ h v q r. kept_or n ps h.1.0.0 (own_one (Typed n) (ap (λ (u : Typ). elaborated.coercion (Typed n) u) (some_same _ _ h.0.0) ∙ q)) r) (both (one_asked n _ _ _) (both (one_asked n _ _ _) (quiet n _ _ _)))

  -- the same of what a pattern binds by value, unless the pattern goes through a reference
  abbrev pub KeptBinding : rules.Matched → List Passing → Node → Type 0
  KeptBinding rules.a_value anc n = Unit {0}
  KeptBinding (rules.a_place x qs) anc n = is_none (passed A anc) ≡ true → is_none (passed A qs) ≡ false → copies K.items (Typed n) ≡ true
  KeptBinding (rules.an_initialiser e x qs) anc n = is_mutable_reference (outline (Typed e)) ≡ false → is_none (passed A anc) ≡ true → is_none (passed A qs) ≡ false → copies K.items (Typed n) ≡ true

  pub binding_asks : (s : rules.Matched) (anc : List Passing) (n : Node) → Asks K A (KeptBinding s anc n) (rules.binding_of n anc s)
  binding_asks rules.a_value anc n = none
  binding_asks (rules.a_place x qs) anc n = asks_map (λ h m q. binding_copies K.items (Typed n) (passed A anc) (passed A qs) h.0 m q) (then_first (one_asked n _ _ _) (quiet n _ _ _))
  binding_asks (rules.an_initialiser e x qs) anc n =
      asks_map (λ h r m q. binding_copies K.items (Typed n) (passed A anc) (passed A qs) (or_second (is_mutable_reference (outline (Typed e))) (binding_kept K.items (outline (Typed n)) (passed A anc) (passed A qs)) h.0 r) m q) (then_first (one_asked n _ _ _) (quiet n _ _ _))

  -- a further pattern around
  pub none_passed : (anc : List Passing) (n : Node) → is_none (passed A anc) ≡ true → is_none (references (Typed n)) ≡ true → is_none (passed A (rules.under n anc)) ≡ true
  none_passed [] n h g = none_both (references (Typed n)) [] g refl
  none_passed (p ∷ anc) n h g = by (gone_through p.all (A (subject.Node p.node))) h (λ q. none_passed anc n q g)
    where
      by : (l : List Bool) → is_none (l ++ passed A anc) ≡ true → (is_none (passed A anc) ≡ true → is_none (passed A (rules.under n anc)) ≡ true) → is_none (l ++ passed A (rules.under n anc)) ≡ true
      by [] q f = f q
      by (m ∷ l) q f = absurd (true≢false (sym q))
