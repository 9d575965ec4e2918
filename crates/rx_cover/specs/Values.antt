-- Values, and what values a type has (Rust Reference, "Types"). A reference is a value with what it leads to.
use Rattle.std.specs.Prelude.{◌≡◌, ℕ, ◌<◌, ◌≤◌, ℤ, pos, negsuc, Bool, true, false, List, [], ◌∷◌, length, Option, Some, slice_get}
use Rattle.rx_core.specs.declared.types.Kind.{Kind}
use Rattle.rx_typed.specs.Types.{Typ, integer, boolean, tuple_of, reference, named, shapes_listed, Declared, struct_declared}
use Rattle.rx_typed.specs.Types.{Declarations, fields_declared, variants_declared, variant_parts}
use Rattle.rx_typed_declarations.specs.Held.{field_types}

mutual
  pub data Value : Type 0 where
    number : ℤ → Value
    truth : Bool → Value
    tuple : Values → Value
    -- a struct, by its item; its fields in order
    made : ℕ → Values → Value
    -- the enum's item, the variant
    variant : ℕ → ℕ → Values → Value
    -- a reference, by what it leads to
    pointing : Value → Value

  pub data Values : Type 0 where
    no_value : Values
    value_and : Value → Values → Values

-- ---- integers (Rust Reference, "Numeric types")

abbrev pub greatest : Kind → ℕ
greatest Kind.U8 = 255
greatest Kind.U32 = 4294967295
greatest Kind.U64 = 18446744073709551615
greatest Kind.I32 = 2147483647
greatest Kind.I64 = 9223372036854775807

-- how many integers below 0 there are
abbrev pub below_zero : Kind → ℕ
below_zero Kind.U8 = 0
below_zero Kind.U32 = 0
below_zero Kind.U64 = 0
below_zero Kind.I32 = 2147483648
below_zero Kind.I64 = 9223372036854775808

abbrev pub InKind : Kind → ℤ → Type 0
InKind k (pos n) = n ≤ greatest k
InKind k (negsuc n) = n < below_zero k

-- ---- what values a type has

abbrev pub is_struct : Option Declared → Bool
is_struct (Some (struct_declared c l fs)) = true
is_struct _ = false

abbrev mutual
  pub IsOfType : Declarations → Typ → Value → Type 0
  IsOfType D (integer k) (number n) = InKind k n
  IsOfType D boolean (truth b) = Unit {0}
  IsOfType D (tuple_of ts) (tuple vs) = AreOfTypes D (shapes_listed ts) vs
  IsOfType D (reference m t) (pointing v) = IsOfType D t v
  IsOfType D (named i) (made j vs) =
      (i ≡ j) × (is_struct (slice_get D i) ≡ true) × AreOfTypes D (field_types (fields_declared (slice_get D i))) vs
  IsOfType D (named i) (variant j k vs) =
      (i ≡ j) × (k < length (variants_declared (slice_get D i))) × AreOfTypes D (variant_parts D i k) vs
  IsOfType D _ _ = ⊥

  pub AreOfTypes : Declarations → List Typ → Values → Type 0
  AreOfTypes D [] no_value = Unit {0}
  AreOfTypes D (t ∷ ts) (value_and v vs) = IsOfType D t v × AreOfTypes D ts vs
  AreOfTypes D _ _ = ⊥
