-- The types of variables and temporaries. A temporary has the type of the value that the first action which fills it makes
-- (the rvalues of the MIR, RFC 2094, "Reborrow constraints" and "Subtyping"), with lifetimes of its own: so those that stand
-- in a type here say nothing.
use Rattle.std.specs.Prelude.{ℕ, ◌==◌, ◌&&◌, Bool, true, false, if◌then◌else◌, List, [], ◌∷◌, ◌++◌, map, get_or, replicate, Option, Some, None, slice_get}
use Rattle.rx_core.specs.declared.types.Kind.{Kind}
use Rattle.rx_core.specs.declared.types.Ty.{Ty}
use Rattle.rx_tree.specs.declared.tree.BinaryOp.{BinaryOp}
use Rattle.rx_typed.specs.declared.declarations.Decl.{Decl}
use Rattle.rx_typed.specs.declared.declarations.Decl.TheVariants as decl
use Rattle.rx_typed.specs.Regions.{RegionTyp, region_integer, region_boolean, region_tuple, region_reference, region_named, regions_of, region-Ty}
use Rattle.rx_typed.specs.Tree.{Temporary, Root, variable, temporary, Place, Constant, whole_number, truth, Making, constant, negation, inversion, operation, lazy, tuple, struct, variant_of}
use Rattle.rx_lower_walks.specs.Actions.{Act, Read, Borrow, Call, Build, Input, Action, filled}
use Rattle.rx_typed.specs.Renaming.{unit_region}
use Rattle.rx_typed.specs.Places.{place_type}

-- how many lifetimes an item has
abbrev pub lifetimes_of : Option Decl → ℕ
lifetimes_of (Some (decl.Struct c l vs fs)) = l
lifetimes_of (Some (decl.Enum c l vs ds)) = l
lifetimes_of (Some (decl.Func l ps t bs)) = l
lifetimes_of _ = 0

-- a type, in which each lifetime from a number on is open
pub record Open : Type 0 where
  pub typ : RegionTyp
  pub from : ℕ

-- what is declared, and the types of the variables by their numbers
pub record KnownTypes : Type 0 where
  pub items : List Decl
  pub variables : List Open

-- a temporary that is filled, and its type
pub record Held : Type 0 where
  pub temporary : Temporary
  pub typ : RegionTyp

-- ---- what stands at a place

abbrev pub same : Temporary → Temporary → Bool
same s t = (s.node == t.node) && (s.which == t.which)

abbrev pub is_held : List Held → Temporary → Bool
is_held [] t = false
is_held (h ∷ hs) t = if same h.temporary t then true else is_held hs t

-- one that no action fills is the unit
abbrev pub held_type : List Held → Temporary → RegionTyp
held_type [] t = unit_region
held_type (h ∷ hs) t = if same h.temporary t then h.typ else held_type hs t

abbrev pub open_unit : Open
open_unit = record { typ = unit_region; from = 0 }

abbrev pub root_type : KnownTypes → List Held → Root → RegionTyp
root_type K H (variable x) = (get_or K.variables x open_unit).typ
root_type K H (temporary t) = held_type H t

abbrev pub type_in : KnownTypes → List Held → Place → RegionTyp
type_in K H p = place_type K.items (root_type K H p.root) p.steps

-- ---- what an action makes

abbrev pub constant_type : Constant → RegionTyp
constant_type (whole_number k z) = region_integer k
constant_type (truth b) = region_boolean

-- comparisons
abbrev pub compares : BinaryOp → Bool
compares BinaryOp.Eq = true
compares BinaryOp.Ne = true
compares BinaryOp.Lt = true
compares BinaryOp.Le = true
compares BinaryOp.Gt = true
compares BinaryOp.Ge = true
compares _ = false

abbrev pub first : List RegionTyp → RegionTyp
first [] = unit_region
first (t ∷ ts) = t

-- a struct or enum
abbrev pub made_item : List Decl → ℕ → RegionTyp
made_item D i = region_named i (replicate (lifetimes_of (slice_get D i)) 0)

-- by the types of the operands
abbrev pub made_type : List Decl → Making → List RegionTyp → RegionTyp
made_type D (constant c) ts = constant_type c
made_type D negation ts = first ts
made_type D inversion ts = region_boolean
made_type D (operation o) ts = if compares o then region_boolean else first ts
made_type D lazy ts = region_boolean
made_type D tuple ts = region_tuple (regions_of ts)
made_type D (struct i) ts = made_item D i
made_type D (variant_of i v) ts = made_item D i

abbrev pub result_type : Option Decl → RegionTyp
result_type (Some (decl.Func l ps t bs)) = region-Ty t
result_type _ = unit_region

abbrev pub value_type : KnownTypes → List Held → Act → RegionTyp
value_type K H (Read m p d) = type_in K H p
value_type K H (Borrow k p d) = region_reference k 0 (type_in K H p)
value_type K H (Call f ts d) = result_type (slice_get K.items f)
value_type K H (Build w is ts d) = made_type K.items w (map (held_type H) ts)
value_type K H (Input d) = region_integer Kind.I64
value_type K H _ = unit_region

-- ---- the temporaries that actions fill, each where it is filled first

abbrev pub hold : List Held → Option Temporary → RegionTyp → List Held
hold H None t = H
hold H (Some d) t = if is_held H d then H else H ++ record { temporary = d; typ = t } ∷ []

abbrev pub held_by : KnownTypes → List Held → List Action → List Held
held_by K H [] = H
held_by K H (a ∷ us) = held_by K (hold H (filled a.act) (value_type K H a.act)) us

-- the type that is found, the unit where none is
abbrev pub type_found : Option Ty → RegionTyp
type_found (Some t) = region-Ty t
type_found None = unit_region
