-- The head of a pattern or value, and its parts.
use Rattle.std.specs.Prelude.{◌≡◌, ℕ, suc, ◌<◌, nat_eq, nat_le, nat_lt, ℤ, pos, negsuc, Bool, true, false, ◌&&◌, ◌||◌, if◌then◌else◌, List, [], ◌∷◌, ◌++◌, length, Option, Some, None, slice_get}
use Rattle.rx_core.specs.declared.types.Kind.{Kind}
use Rattle.rx_typed.specs.Types.{Typ, integer, boolean, tuple_of, reference, named, shapes_listed, Declared, Declarations}
use Rattle.rx_typed.specs.Types.{fields_declared, variants_declared, parts_declared}
use Rattle.rx_typed_declarations.specs.Held.{field_types}
use Rattle.rx_typed.specs.Tree as tree
use Rattle.rx_typed.specs.Tree.{Pattern, any, bind, exactly, parts, behind, Subpatterns, no_part, part_and, whole_number}
use Rattle.rx_cover.specs.Values as value
use Rattle.rx_cover.specs.Values.{Value, Values, number, tuple, made, pointing, no_value, value_and, InKind, is_struct, greatest, below_zero}

pub data Head : Type 0 where
  whole : ℤ → Head
  truth : Bool → Head
  -- of a tuple or struct
  composed : Head
  -- the enum's item, the variant
  chosen : ℕ → ℕ → Head
  -- of a reference
  pointed : Head

-- a pattern that asks for nothing has none
abbrev pub head_in : Pattern → Option Head
head_in any = None
head_in (bind n x m) = None
head_in (exactly n (whole_number k i)) = Some (whole i)
head_in (exactly n (tree.truth b)) = Some (truth b)
head_in (parts ps) = Some composed
head_in (tree.variant n i b k ps) = Some (chosen i k)
head_in (behind m p) = Some pointed

abbrev pub parts_in : Pattern → Subpatterns
parts_in any = no_part
parts_in (bind n x m) = no_part
parts_in (exactly n c) = no_part
parts_in (parts ps) = ps
parts_in (tree.variant n i b k ps) = ps
parts_in (behind m p) = part_and 0 p no_part

abbrev pub head_of : Value → Head
head_of (number n) = whole n
head_of (value.truth b) = truth b
head_of (tuple vs) = composed
head_of (made i vs) = composed
head_of (value.variant i k vs) = chosen i k
head_of (pointing v) = pointed

abbrev pub parts_of : Value → Values
parts_of (number n) = no_value
parts_of (value.truth b) = no_value
parts_of (tuple vs) = vs
parts_of (made i vs) = vs
parts_of (value.variant i k vs) = vs
parts_of (pointing v) = value_and v no_value

-- values of the type have this head
abbrev pub IsHead : Declarations → Typ → Head → Type 0
IsHead D (integer k) (whole n) = InKind k n
IsHead D boolean (truth b) = Unit {0}
IsHead D (tuple_of ts) composed = Unit {0}
IsHead D (reference m t) pointed = Unit {0}
IsHead D (named i) composed = is_struct (slice_get D i) ≡ true
IsHead D (named i) (chosen j k) = (i ≡ j) × (k < length (variants_declared (slice_get D i)))
IsHead D _ _ = ⊥

-- not so far below 0 that the magnitude has no 64 bits
abbrev pub IsNear : Head → Type 0
IsNear (whole (negsuc n)) = n < 18446744073709551615
IsNear _ = Unit {0}

-- the types of its parts
abbrev pub item_types : Option Declared → Head → List Typ
item_types o (chosen j k) = parts_declared (slice_get (variants_declared o) k)
item_types o _ = field_types (fields_declared o)

abbrev pub types_under : Declarations → Typ → Head → List Typ
types_under D (integer k) h = []
types_under D boolean h = []
types_under D (tuple_of ts) h = shapes_listed ts
types_under D (reference m t) h = t ∷ []
types_under D (named i) h = item_types (slice_get D i) h

abbrev pub pointed_value : Values → Value
pointed_value no_value = tuple no_value
pointed_value (value_and v no_value) = pointing v
pointed_value (value_and v (value_and w vs)) = pointed_value (value_and w vs)

-- the value of a type with this head and these parts
abbrev pub with_head : Typ → Head → Values → Value
with_head t (whole n) vs = number n
with_head t (truth b) vs = value.truth b
with_head (named i) composed vs = made i vs
with_head t composed vs = tuple vs
with_head t (chosen i k) vs = value.variant i k vs
with_head t pointed vs = pointed_value vs

abbrev pub same_bool : Bool → Bool → Bool
same_bool true true = true
same_bool false false = true
same_bool _ _ = false

abbrev pub same_integer : ℤ → ℤ → Bool
same_integer (pos n) (pos m) = nat_eq n m
same_integer (negsuc n) (negsuc m) = nat_eq n m
same_integer _ _ = false

abbrev pub same_head : Head → Head → Bool
same_head (whole n) (whole m) = same_integer n m
same_head (truth b) (truth c) = same_bool b c
same_head composed composed = true
same_head (chosen i k) (chosen j l) = nat_eq i j && nat_eq k l
same_head pointed pointed = true
same_head _ _ = false

-- a head is one of these
abbrev pub has : List Head → Head → Bool
has [] h = false
has (g ∷ gs) h = same_head g h || has gs h

-- its place among these; of another head, how many these are
abbrev pub place : List Head → Head → ℕ
place [] h = 0
place (g ∷ gs) h = if same_head g h then 0 else suc (place gs h)

-- these and this one, once
abbrev pub with_one : List Head → Head → List Head
with_one hs h = if has hs h then hs else hs ++ h ∷ []

-- ---- as tests

abbrev pub in_kind : Kind → ℤ → Bool
in_kind k (pos n) = nat_le n (greatest k)
in_kind k (negsuc n) = nat_lt n (below_zero k)

abbrev pub integer_head : Kind → Head → Bool
integer_head k (whole n) = in_kind k n
integer_head k _ = false

abbrev pub truth_head : Head → Bool
truth_head (truth b) = true
truth_head _ = false

abbrev pub composed_head : Head → Bool
composed_head composed = true
composed_head _ = false

abbrev pub pointed_head : Head → Bool
pointed_head pointed = true
pointed_head _ = false

abbrev pub item_head : Option Declared → ℕ → Head → Bool
item_head o i composed = is_struct o
item_head o i (chosen j k) = nat_eq i j && nat_lt k (length (variants_declared o))
item_head o i _ = false

abbrev pub is_head : Declarations → Typ → Head → Bool
is_head D (integer k) h = integer_head k h
is_head D boolean h = truth_head h
is_head D (tuple_of ts) h = composed_head h
is_head D (reference m t) h = pointed_head h
is_head D (named i) h = item_head (slice_get D i) i h
