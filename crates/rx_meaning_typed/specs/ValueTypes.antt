-- What values have a type, by the types of the slots of memory (Rust Reference, "Types"; "Pointer types").
use Rattle.std.specs.Prelude.{◌≡◌, ℕ, ℤ, Bool, true, false, List, [], ◌∷◌, Some, slice_get}
use Rattle.rx_core.specs.declared.types.Kind.{Kind}
use Rattle.rx_core.specs.declared.types.Step.{Step}
use Rattle.rx_typed.specs.Types.{Typ, Shapes, integer, boolean, tuple_of, reference, named, no_shape, shape_and, shapes_of, FieldDeclared, VariantDeclared, Declarations, struct_declared, enum_declared}
use Rattle.rx_meaning.specs.Values.{Value, Values, number, truth, whole, tagged, pointer, lacking, no_value, value_and, Lack, element}
use Rattle.rx_meaning.specs.Places.{Spot, in_slot, in_value}
use Rattle.rx_meaning_typed.specs.TypedActs.{types_of_fields, typ_along}

-- the types of the slots of a memory
abbrev pub Store : Type 0
Store = List Typ

-- what is of a mutable reference's type may be written through
abbrev pub Lends : Bool → Bool → Bool → Type 0
Lends false k m = Unit {0}
Lends true k m = k ≡ true → m ≡ true

-- Whatever stands there, a reference leads to a part of a slot that is of the type that it refers to, also where the part is of
-- another variant than the one that is there. A part without a value is of any type. `L` says whether mutability is told too.
mutual
  pub data HasType (L : Bool) (D : Declarations) (S : Store) : Value → Typ → Type 0 where
    of_number : {k : Kind} {z : ℤ} → HasType L D S (number k z) (integer k)
    of_truth : {b : Bool} → HasType L D S (truth b) boolean
    of_tuple : {vs : Values} {ts : Shapes Kind} → HaveTypes L D S vs ts → HasType L D S (whole vs) (tuple_of ts)
    of_struct : {i l : ℕ} {c : Bool} {fs : List FieldDeclared} {vs : Values} → slice_get D i ≡ Some (struct_declared c l fs)
        → HaveTypes L D S vs (shapes_of (types_of_fields fs)) → HasType L D S (whole vs) (named i)
    of_enum : {i v l : ℕ} {c : Bool} {ds : List VariantDeclared} {d : VariantDeclared} {vs : Values} → slice_get D i ≡ Some (enum_declared c l ds)
        → slice_get ds v ≡ Some d → HaveTypes L D S vs (shapes_of d.parts) → HasType L D S (tagged v vs) (named i)
    of_reference : {i : ℕ} {ps : List Step} {m k : Bool} {t u : Typ} → element S i ≡ Some t → typ_along D t ps ≡ Some u → Lends L k m → HasType L D S (pointer i ps m) (reference k u)
    of_lack : {l : Lack} {t : Typ} → HasType L D S (lacking l) t

  pub data HaveTypes (L : Bool) (D : Declarations) (S : Store) : Values → Shapes Kind → Type 0 where
    none_typed : HaveTypes L D S no_value no_shape
    each_typed : {v : Value} {vs : Values} {t : Typ} {ts : Shapes Kind} → HasType L D S v t → HaveTypes L D S vs ts → HaveTypes L D S (value_and v vs) (shape_and t ts)

-- the values of a list, each of its type
pub data AllTyped (L : Bool) (D : Declarations) (S : Store) : List Value → List Typ → Type 0 where
  no_typed : AllTyped L D S [] []
  typed_and : {v : Value} {vs : List Value} {t : Typ} {ts : List Typ} → HasType L D S v t → AllTyped L D S vs ts → AllTyped L D S (v ∷ vs) (t ∷ ts)

-- a memory whose slots hold values of their types
abbrev pub MemoryTyped : Bool → Declarations → Store → List Value → Type 0
MemoryTyped L D S M = AllTyped L D S M S

-- slots keep their types
abbrev pub Extends : Store → Store → Type 0
Extends S Z = (i : ℕ) (t : Typ) → element S i ≡ Some t → element Z i ≡ Some t

-- what stands at a spot is to be of this type
abbrev pub SpotTyped : Bool → Declarations → Store → Spot → Typ → Type 0
SpotTyped L D S (in_slot i ps w) u = (t : Typ) × (element S i ≡ Some t) × (typ_along D t ps ≡ Some u)
SpotTyped L D S (in_value v) u = HasType L D S v u
