-- What facts mean of an assignment of types.
use Rattle.std.specs.Prelude.{◌≡◌, ℕ, nat_eq, Bool, true, false, not, ◌&&◌, ◌||◌, IsTrue, if◌then◌else◌, List, [], ◌∷◌, ◌++◌, map, length, Option, Some, None, option_map, slice_get}
use Rattle.std.specs.Str.{bytes_eq}
use Rattle.rx_core.specs.declared.types.Kind.{Kind}
use Rattle.rx_typed.specs.Types.{no_shape, Shape, integer, boolean, tuple_of, reference, named, Typ, Outline, unit_shape, shape_map, outline, shapes_listed, shapes_of, peeled, references, outermost, FieldDeclared, Declarations, fields_declared, parameters_declared, result_declared, lifetimes_declared, field_typ, variant_parts, copies, keeps_limits}
use Rattle.rx_typeck_solver.specs.declared.facts.Kinds.{Kinds}
use Rattle.rx_typeck_solver.specs.declared.facts.Subject.{Subject}
use Rattle.rx_typeck_solver.specs.declared.facts.Subject.TheVariants as subject
use Rattle.rx_typeck_solver.specs.declared.facts.Passing.{Passing}
use Rattle.rx_typeck_solver.specs.declared.facts.Op.{Op}
use Rattle.rx_typeck_solver.specs.declared.facts.Op.TheVariants as op
use Rattle.rx_typeck_solver.specs.declared.facts.Test.{Test}
use Rattle.rx_typeck_solver.specs.declared.facts.Test.TheVariants as test
use Rattle.rx_typeck_solver.specs.declared.facts.Fact.{Fact}
use Rattle.rx_typeck_solver.specs.declared.facts.Fact.TheVariants as fact
use Rattle.rx_typeck_solver.specs.declared.facts.Demand.{Demand}

-- an assignment gives each variable, each node and each expectation a type
abbrev pub Assignment : Type 0
Assignment = Subject → Typ

-- what is declared, and how many parts each struct and enum has
pub record KnownItems : Type 0 where
  pub items : Declarations
  pub sizes : ℕ → ℕ

-- ---- sets of integer types

abbrev pub has : Kinds → Kind → Bool
has s Kind.U8 = s.u8
has s Kind.U32 = s.u32
has s Kind.U64 = s.u64
has s Kind.I32 = s.i32
has s Kind.I64 = s.i64

-- ---- types made of others. `K` may be any way to tell integer types, in which `fix` tells one that is known

-- whether references were gone through, and if so, whether all were mutable (Rust Reference, "Binding modes")
abbrev pub all_mutable : List Bool → Bool
all_mutable [] = true
all_mutable (m ∷ ms) = m && all_mutable ms

abbrev pub is_none : List Bool → Bool
is_none [] = true
is_none (m ∷ ms) = false

abbrev pub bound : {K : Type 0} → List Bool → Shape K → Shape K
bound [] t = t
bound (m ∷ ms) t = reference (m && all_mutable ms) t

-- a value of type `&mut T` where `&T` is expected becomes one by a shared reborrow (Rust Reference, "Coercion types")
abbrev pub coerced : {K : Type 0} → Shape K → Shape K → Shape K
coerced (reference true t) (reference false u) = reference true u
coerced t u = u

abbrev pub fixed : {K : Type 0} → (Kind → K) → Option Typ → Option (Shape K)
fixed fix t = option_map (shape_map fix) t

abbrev pub field_of : {K : Type 0} → (Kind → K) → Declarations → List ℕ → Shape K → Option (Shape K)
field_of fix D x (named i) = fixed fix (field_typ (fields_declared (slice_get D i)) x)
field_of fix D x _ = None

abbrev pub part_of : {K : Type 0} → ℕ → Shape K → Option (Shape K)
part_of k (tuple_of ts) = slice_get (shapes_listed ts) k
part_of k _ = None

abbrev pub pointee : {K : Type 0} → Shape K → Option (Shape K)
pointee (reference m t) = Some t
pointee _ = None

-- the types given, one, two, or none
abbrev pub of_one : {K : Type 0} → (Shape K → Option (Shape K)) → List (Shape K) → Option (Shape K)
of_one f (t ∷ []) = f t
of_one f _ = None

abbrev pub of_two : {K : Type 0} → (Shape K → Shape K → Option (Shape K)) → List (Shape K) → Option (Shape K)
of_two f (t ∷ u ∷ []) = f t u
of_two f _ = None

abbrev pub made : {K : Type 0} → (Kind → K) → Declarations → Op → List (Shape K) → List Bool → Option (Shape K)
made fix D op.Same ts ms = of_one (λ t. Some t) ts
made fix D op.Pointee ts ms = of_one pointee ts
made fix D (op.Referring m) ts ms = of_one (λ t. Some (reference m t)) ts
made fix D op.Tuple ts ms = Some (tuple_of (shapes_of ts))
made fix D (op.Field x) ts ms = of_one (λ t. field_of fix D x (peeled t)) ts
made fix D (op.Part k) ts ms = of_one (λ t. part_of k (peeled t)) ts
made fix D (op.Integer k) ts ms = Some (integer (fix k))
made fix D op.Truth ts ms = Some boolean
made fix D op.Unit ts ms = Some unit_shape
made fix D (op.Item i) ts ms = Some (named i)
made fix D (op.Parameter f k) ts ms = fixed fix (slice_get (parameters_declared (slice_get D f)) k)
made fix D (op.Result f) ts ms = fixed fix (result_declared (slice_get D f))
made fix D (op.FieldOf i x) ts ms = fixed fix (field_typ (fields_declared (slice_get D i)) x)
made fix D (op.PartOf i v k) ts ms = fixed fix (slice_get (variant_parts D i v) k)
made fix D op.Bound ts ms = of_one (λ t. Some (bound ms t)) ts
made fix D op.Coerced ts ms = of_two (λ t u. Some (coerced t u)) ts

-- ---- tests, which need no integer type

abbrev pub is_plain : Outline → Bool
is_plain (integer k) = true
is_plain boolean = true
is_plain _ = false

abbrev pub is_integer : Outline → Bool
is_integer (integer k) = true
is_integer _ = false

abbrev pub is_truth : Outline → Bool
is_truth boolean = true
is_truth _ = false

abbrev pub is_tuple : ℕ → Outline → Bool
is_tuple n (tuple_of ts) = nat_eq (length (shapes_listed ts)) n
is_tuple n _ = false

abbrev pub is_item : ℕ → Outline → Bool
is_item i (named j) = nat_eq i j
is_item i _ = false

abbrev pub is_mutable_reference : Outline → Bool
is_mutable_reference (reference m t) = m
is_mutable_reference _ = false

-- what is reborrowed mutably: `&mut` where `&mut` is expected
abbrev pub is_lent : Outline → Outline → Bool
is_lent (reference true t) (reference true u) = true
is_lent _ _ = false

-- a binding of this type, with the dereferences of its pattern and of the place that is matched
abbrev pub binding_kept : Declarations → Outline → List Bool → List Bool → Bool
binding_kept D t [] qs = copies D t || is_none qs
binding_kept D t (m ∷ ms) qs = true

abbrev pub binding_writable : List Bool → List Bool → Bool
binding_writable [] qs = true
binding_writable (m ∷ ms) qs = not (m && all_mutable ms) || all_mutable qs

abbrev pub test_one : (Outline → Bool) → List Outline → Bool
test_one f (t ∷ []) = f t
test_one f _ = false

abbrev pub test_two : (Outline → Outline → Bool) → List Outline → Bool
test_two f (t ∷ u ∷ []) = f t u
test_two f _ = false

abbrev pub names_of : List FieldDeclared → List (List ℕ)
names_of [] = []
names_of (f ∷ fs) = f.name ∷ names_of fs

abbrev pub is_among : List ℕ → List (List ℕ) → Bool
is_among x [] = false
is_among x (y ∷ ys) = bytes_eq y x || is_among x ys

abbrev pub all_among : List (List ℕ) → List (List ℕ) → Bool
all_among [] ys = true
all_among (x ∷ xs) ys = is_among x ys && all_among xs ys

-- the names are those that are declared, each once: as many, and each of those that are declared
abbrev pub exactly : List (List ℕ) → List (List ℕ) → Bool
exactly ds xs = nat_eq (length ds) (length xs) && all_among ds xs

abbrev pub is_unit_typ : Typ → Bool
is_unit_typ (tuple_of no_shape) = true
is_unit_typ _ = false

abbrev pub is_unit : Option Typ → Bool
is_unit None = false
is_unit (Some t) = is_unit_typ t

-- the types, the dereferences of a pattern (`ms`), those of a place (`qs`)
abbrev pub holds : KnownItems → Test → List Outline → List Bool → List Bool → Bool
holds D test.Plain ts ms qs = test_one is_plain ts
holds D test.IntegerBehind ts ms qs = test_one (λ t. is_integer (peeled t)) ts
holds D test.TruthBehind ts ms qs = test_one (λ t. is_truth (peeled t)) ts
holds D (test.TupleBehind n) ts ms qs = test_one (λ t. is_tuple n (peeled t)) ts
holds D (test.ItemBehind i) ts ms qs = test_one (λ t. is_item i (peeled t)) ts
holds D test.Kept ts ms qs = test_one (λ t. copies D.items t || is_none qs) ts
holds D test.KeptOrLent ts ms qs = test_one (λ t. copies D.items t || is_mutable_reference t || is_none qs) ts
holds D (test.Writable own) ts ms qs = all_mutable qs && (own || not (is_none qs))
holds D test.Lendable ts ms qs = test_two (λ t u. not (is_lent t u) || all_mutable qs) ts
holds D test.Direct ts ms qs = is_none ms
holds D test.BindingKept ts ms qs = test_one (λ t. binding_kept D.items t ms qs) ts
holds D test.BindingWritable ts ms qs = binding_writable ms qs
holds D test.BindingKeptOrLent ts ms qs = test_two (λ t e. is_mutable_reference e || binding_kept D.items t ms qs) ts
holds D test.BindingWritableOrLent ts ms qs = test_one (λ e. is_mutable_reference e || binding_writable ms qs) ts
holds D test.Limits ts ms qs = test_one (keeps_limits D.sizes) ts
holds D (test.Takes f n) ts ms qs = nat_eq (length (parameters_declared (slice_get D.items f))) n
holds D (test.Holds i v n) ts ms qs = nat_eq (length (variant_parts D.items i v)) n
holds D (test.HasFields i xs) ts ms qs = exactly (names_of (fields_declared (slice_get D.items i))) xs
holds D (test.HasLifetimes i n) ts ms qs = nat_eq (lifetimes_declared (slice_get D.items i)) n
holds D (test.GivesUnit f) ts ms qs = is_unit (result_declared (slice_get D.items f))

-- ---- facts

-- whether each reference that is gone through is mutable: all of a type, or the outermost alone
abbrev pub gone_through : {K : Type 0} → Bool → Shape K → List Bool
gone_through all t = if all then references t else outermost t

abbrev pub passed : Assignment → List Passing → List Bool
passed A [] = []
passed A (p ∷ ps) = gone_through p.all (A (subject.Node p.node)) ++ passed A ps

abbrev pub types_at : Assignment → List Subject → List Typ
types_at A xs = map A xs

abbrev pub outlines_at : Assignment → List Subject → List Outline
outlines_at A xs = map (λ x. outline (A x)) xs

abbrev pub AnInteger : Kinds → Typ → Type 0
AnInteger s t = (k : Kind) × (t ≡ integer k) × IsTrue (has s k)

abbrev pub Meets : KnownItems → Assignment → Fact → Type 0
Meets D A (fact.Equals x o xs ps) = made (λ k. k) D.items o (types_at A xs) (passed A ps) ≡ Some (A x)
Meets D A (fact.Integer n s) = AnInteger s (A (subject.Node n))
Meets D A (fact.IntegerBehind n s) = AnInteger s (peeled (A (subject.Node n)))
Meets D A (fact.Passes t xs ps qs) = IsTrue (holds D t (outlines_at A xs) (passed A ps) (passed A qs))
Meets D A fact.Never = ⊥

abbrev pub MeetsAll : KnownItems → Assignment → List Fact → Type 0
MeetsAll D A [] = Unit {0}
MeetsAll D A (f ∷ fs) = Meets D A f × MeetsAll D A fs

abbrev pub MeetsEach : KnownItems → Assignment → List Demand → Type 0
MeetsEach D A [] = Unit {0}
MeetsEach D A (d ∷ ds) = MeetsAll D A d.facts × MeetsEach D A ds
