-- Typed programs without references: no type of a field, a part of a variant, a parameter, a result, a node, an expectation or a variable
-- has one; each is made of integers, truth values, tuples, structs, and enums of a variant at least (Rust Reference, "Types"; "Pointer
-- types").
use Rattle.std.specs.Prelude.{List, [], ◌∷◌, Option, Some, None, slice_get}
use Rattle.rx_core.specs.declared.types.Kind.{Kind}
use Rattle.rx_core.specs.declared.types.Ty.{Ty}
use Rattle.rx_typed.specs.Types.{Typ, Shapes, integer, boolean, tuple_of, reference, named, no_shape, shape_and, VariantDeclared, Declared, Declarations, struct_declared, enum_declared, function_declared}
use Rattle.rx_typed.specs.PlainTypes.{plain-Ty, declarations}
use Rattle.rx_typeck_typed.specs.declared.typed.Typed.{Typed}
use Rattle.rx_typeck_typed.specs.declared.typed.TypedFn.{TypedFn}
use Rattle.rx_meaning_typed.specs.TypedActs.{types_of_fields}

-- a struct, or an enum of a variant at least
abbrev pub HasAlternative : Option Declared → Type 0
HasAlternative (Some (struct_declared c l fs)) = Unit {0}
HasAlternative (Some (enum_declared c l (v ∷ vs))) = Unit {0}
HasAlternative _ = ⊥

abbrev mutual
  pub IsPlain : Declarations → Typ → Type 0
  IsPlain D (integer k) = Unit {0}
  IsPlain D boolean = Unit {0}
  IsPlain D (tuple_of ts) = ArePlain D ts
  IsPlain D (reference m t) = ⊥
  IsPlain D (named i) = HasAlternative (slice_get D i)

  pub ArePlain : Declarations → Shapes Kind → Type 0
  ArePlain D no_shape = Unit {0}
  ArePlain D (shape_and t ts) = IsPlain D t × ArePlain D ts

abbrev pub EachPlain : Declarations → List Typ → Type 0
EachPlain D [] = Unit {0}
EachPlain D (t ∷ ts) = IsPlain D t × EachPlain D ts

-- ---- what is declared

abbrev pub VariantsPlain : Declarations → List VariantDeclared → Type 0
VariantsPlain D [] = Unit {0}
VariantsPlain D (v ∷ vs) = EachPlain D v.parts × VariantsPlain D vs

abbrev pub ItemPlain : Declarations → Declared → Type 0
ItemPlain D (struct_declared c l fs) = EachPlain D (types_of_fields fs)
ItemPlain D (enum_declared c l vs) = VariantsPlain D vs
ItemPlain D (function_declared ps t) = EachPlain D ps × IsPlain D t
ItemPlain D _ = Unit {0}

abbrev pub ItemsPlain : Declarations → List Declared → Type 0
ItemsPlain D [] = Unit {0}
ItemsPlain D (d ∷ ds) = ItemPlain D d × ItemsPlain D ds

-- ---- the types of a function

abbrev pub TablePlain : Declarations → List (Option Ty) → Type 0
TablePlain D [] = Unit {0}
TablePlain D (None ∷ ts) = TablePlain D ts
TablePlain D (Some t ∷ ts) = IsPlain D (plain-Ty t) × TablePlain D ts

abbrev pub FunctionPlain : Declarations → TypedFn → Type 0
FunctionPlain D f = TablePlain D f.variables × TablePlain D f.types.nodes × TablePlain D f.types.expected

abbrev pub FunctionsPlain : Declarations → List TypedFn → Type 0
FunctionsPlain D [] = Unit {0}
FunctionsPlain D (f ∷ fs) = FunctionPlain D f × FunctionsPlain D fs

pub record WithoutReferences (t : Typed) : Type 0 where
  pub declared : ItemsPlain (declarations t.decls.items) (declarations t.decls.items)
  pub functions : FunctionsPlain (declarations t.decls.items) t.functions
