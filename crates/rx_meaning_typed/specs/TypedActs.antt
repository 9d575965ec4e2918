-- What the actions of a function make and take, by types without lifetimes (Rust Reference, "Types"; "Place expressions and value
-- expressions"; "Operator expressions"; "Patterns").
use Rattle.std.specs.Prelude.{◌≡◌, ℕ, zero, suc, List, [], ◌∷◌, ◌++◌, length, map, Option, Some, None, slice_get}
use Rattle.rx_core.specs.declared.types.Kind.{Kind}
use Rattle.rx_core.specs.declared.types.Step.{Step}
use Rattle.rx_tree.specs.declared.tree.BinaryOp.{BinaryOp}
use Rattle.rx_typed.specs.Types.{Typ, Shapes, integer, boolean, tuple_of, reference, named, no_shape, shape_and, shapes_of, FieldDeclared, VariantDeclared, Declared, Declarations, struct_declared, enum_declared, parameters_declared, result_declared}
use Rattle.rx_typed.specs.Tree.{Root, variable, temporary, Temporary, Place, Constant, whole_number, Making, constant, negation, inversion, operation, lazy, tuple, struct, variant_of, Parameter, Function}
use Rattle.rx_typed.specs.Tree as tree
use Rattle.rx_lower_walks.specs.Matching.{Check, has_tag, equals}
use Rattle.rx_lower_walks.specs.Actions.{Act, Declare, Dead, Read, Write, Borrow, Test, Call, Build, Input, Print, Give, Action}
use Rattle.rx_lower_walks.specs.Orders.{argument}
use Rattle.rx_lower_walks.specs.Walks.{IsWalk}
use Rattle.rx_meaning.specs.Values.{and_then}

-- The types of a function. A temporary that gets no value may have any.
pub record Typing : Type 0 where
  -- of the program's items
  pub declared : Declarations
  pub variables : ℕ → Typ
  pub temporaries : Temporary → Typ
  pub result : Typ

-- ---- types of parts and places

abbrev pub shape_at : Shapes Kind → ℕ → Option Typ
shape_at no_shape i = None
shape_at (shape_and t ts) zero = Some t
shape_at (shape_and t ts) (suc i) = shape_at ts i

abbrev pub types_of_fields : List FieldDeclared → List Typ
types_of_fields fs = map (λ f. f.typ) fs

-- the parts of a variant are seen as those of a tuple
abbrev pub parts_behind : Option VariantDeclared → Option Typ
parts_behind None = None
parts_behind (Some v) = Some (tuple_of (shapes_of v.parts))

abbrev pub item_behind : Option Declared → Step → Option Typ
item_behind (Some (struct_declared c l fs)) (Step.Field i) = shape_at (shapes_of (types_of_fields fs)) i
item_behind (Some (enum_declared c l vs)) (Step.Variant v) = parts_behind (slice_get vs v)
item_behind _ _ = None

-- what a step leads to from a type
abbrev pub typ_behind : Declarations → Typ → Step → Option Typ
typ_behind D (tuple_of ts) (Step.Field i) = shape_at ts i
typ_behind D (reference m t) (Step.Deref k) = Some t
typ_behind D (named i) s = item_behind (slice_get D i) s
typ_behind D _ _ = None

abbrev pub typ_along : Declarations → Typ → List Step → Option Typ
typ_along D t [] = Some t
typ_along D t (s ∷ ss) = and_then (typ_behind D t s) (λ u. typ_along D u ss)

abbrev pub root_typ : Typing → Root → Typ
root_typ T (variable x) = T.variables x
root_typ T (temporary t) = T.temporaries t

abbrev pub place_typ : Typing → Place → Option Typ
place_typ T p = typ_along T.declared (root_typ T p.root) p.steps

-- ---- operators and what is made

-- operands and what it gives; `&&` and `||` are none
pub data Operates : BinaryOp → Typ → Typ → Typ → Type 0 where
  adds : {k : Kind} → Operates BinaryOp.Add (integer k) (integer k) (integer k)
  subtracts : {k : Kind} → Operates BinaryOp.Sub (integer k) (integer k) (integer k)
  multiplies : {k : Kind} → Operates BinaryOp.Mul (integer k) (integer k) (integer k)
  divides : {k : Kind} → Operates BinaryOp.Div (integer k) (integer k) (integer k)
  leaves : {k : Kind} → Operates BinaryOp.Rem (integer k) (integer k) (integer k)
  equal_numbers : {k : Kind} → Operates BinaryOp.Eq (integer k) (integer k) boolean
  equal_truths : Operates BinaryOp.Eq boolean boolean boolean
  unequal_numbers : {k : Kind} → Operates BinaryOp.Ne (integer k) (integer k) boolean
  unequal_truths : Operates BinaryOp.Ne boolean boolean boolean
  less : {k : Kind} → Operates BinaryOp.Lt (integer k) (integer k) boolean
  at_most : {k : Kind} → Operates BinaryOp.Le (integer k) (integer k) boolean
  greater : {k : Kind} → Operates BinaryOp.Gt (integer k) (integer k) boolean
  at_least : {k : Kind} → Operates BinaryOp.Ge (integer k) (integer k) boolean

abbrev pub constant_typ : Constant → Typ
constant_typ (whole_number k z) = integer k
constant_typ (tree.truth b) = boolean

-- operands, each with the number of its field, of the types of these fields
pub data Fill (ts : List Typ) : List ℕ → List Typ → Type 0 where
  no_field : Fill ts [] []
  field_and : {i : ℕ} {is : List ℕ} {u : Typ} {us : List Typ} → shape_at (shapes_of ts) i ≡ Some u → Fill ts is us → Fill ts (i ∷ is) (u ∷ us)

-- what is made of operands of these types, each with the number of its field
pub data Makes (D : Declarations) : Making → List ℕ → List Typ → Typ → Type 0 where
  constants : (c : Constant) {is : List ℕ} → Makes D (constant c) is [] (constant_typ c)
  negates : {k : Kind} {is : List ℕ} → Makes D negation is (integer k ∷ []) (integer k)
  inverts : {is : List ℕ} → Makes D inversion is (boolean ∷ []) boolean
  operates : {o : BinaryOp} {is : List ℕ} {t u r : Typ} → Operates o t u r → Makes D (operation o) is (t ∷ u ∷ []) r
  -- one of two operands, which have no fields; the right one may never go on, and is of any type then
  joins : {t : Typ} → Makes D lazy [] (boolean ∷ t ∷ []) boolean
  tuples : (ts : List Typ) {is : List ℕ} {us : List Typ} → length us ≡ length ts → Fill ts is us → Makes D tuple is us (tuple_of (shapes_of ts))
  structs : (i : ℕ) {c : _} {l : ℕ} {fs : List FieldDeclared} {is : List ℕ} {us : List Typ} → slice_get D i ≡ Some (struct_declared c l fs)
      → length us ≡ length (types_of_fields fs) → Fill (types_of_fields fs) is us → Makes D (struct i) is us (named i)
  variants : (i v : ℕ) {c : _} {l : ℕ} {vs : List VariantDeclared} {d : VariantDeclared} {is : List ℕ} {us : List Typ} → slice_get D i ≡ Some (enum_declared c l vs)
      → slice_get vs v ≡ Some d → length us ≡ length d.parts → Fill d.parts is us → Makes D (variant_of i v) is us (named i)

-- ---- what is tested and printed

abbrev pub IsEnum : Option Declared → Type 0
IsEnum (Some (enum_declared c l vs)) = Unit {0}
IsEnum _ = ⊥

abbrev pub HasTags : Declarations → Typ → Type 0
HasTags D (named i) = IsEnum (slice_get D i)
HasTags D _ = ⊥

abbrev pub Checks : Declarations → Check → Typ → Type 0
Checks D (has_tag v) t = HasTags D t
Checks D (equals c) t = t ≡ constant_typ c

-- numbers and truth values
abbrev pub IsShown : Typ → Type 0
IsShown (integer k) = Unit {0}
IsShown boolean = Unit {0}
IsShown _ = ⊥

-- ---- actions

abbrev pub ActTyped : Typing → Act → Type 0
ActTyped T (Declare x) = Unit {0}
ActTyped T (Dead x) = Unit {0}
ActTyped T (Read m p d) = place_typ T p ≡ Some (T.temporaries d)
ActTyped T (Write p t ss) = (u : Typ) × (place_typ T p ≡ Some u) × (typ_along T.declared (T.temporaries t) ss ≡ Some u)
ActTyped T (Borrow k p d) = (u : Typ) × (place_typ T p ≡ Some u) × (T.temporaries d ≡ reference k u)
ActTyped T (Test p c) = (u : Typ) × (place_typ T p ≡ Some u) × Checks T.declared c u
ActTyped T (Call f ts d) = (map T.temporaries ts ≡ parameters_declared (slice_get T.declared f)) × (result_declared (slice_get T.declared f) ≡ Some (T.temporaries d))
ActTyped T (Build w is ts d) = Makes T.declared w is (map T.temporaries ts) (T.temporaries d)
ActTyped T (Input d) = T.temporaries d ≡ integer Kind.I64
ActTyped T (Print t) = IsShown (T.temporaries t)
ActTyped T (Give t) = T.temporaries t ≡ T.result

-- each action of a function's walks is so
abbrev pub ActsTyped : Typing → Function → Type 0
ActsTyped T F = (w : List Action) (a : Action) → IsWalk F (w ++ a ∷ []) → ActTyped T a.act

-- the function of an item takes and gives what this declares
pub record IsSigned (T : Typing) (f : ℕ) (F : Function) : Type 0 where
  pub takes : map (λ p. T.temporaries (argument p)) F.params ≡ parameters_declared (slice_get T.declared f)
  pub gives : result_declared (slice_get T.declared f) ≡ Some T.result
