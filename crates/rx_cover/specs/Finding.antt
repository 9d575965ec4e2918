-- What the private functions find.
use Rattle.std.specs.Prelude.{◌≡◌, ℕ, suc, pos, negsuc, ◌<◌, ◌≤◌, Bool, true, false, List, [], ◌∷◌, ◌++◌, length, Option, Some, None, slice_get}
use Rattle.rx_typed.specs.Types.{Typ, named, Declared, Declarations, FieldDeclared, VariantDeclared, struct_declared, enum_declared, variants_declared}
use Rattle.rx_typed.specs.Elaborated.{with_sign}
use Rattle.rx_cover.specs.Values as plain
use Rattle.rx_cover.specs.Values.{Values, no_value, value_and, IsOfType, AreOfTypes}
use Rattle.rx_typed.specs.Tree.{Pattern}
use Rattle.rx_cover.specs.Matching.{SomeMatches, Covers}
use Rattle.rx_cover.specs.Causes.{CoversTyp, MissesTyp}
use Rattle.rx_cover.specs.Heads.{Head, whole, truth, composed, chosen, pointed, head_of, has, IsHead, types_under, with_head}
use Rattle.rx_cover.specs.Matrices.{Row, CoversAll, Misses, CoversHead, MissesHead, CoversRange, MissesRange, CoversHeads, Distinct, kept_values}
use Rattle.rx_cover.specs.declared.value.Value.{Value}
use Rattle.rx_cover.specs.declared.node.Node.{Node}
use Rattle.rx_cover.specs.declared.matrix.Column.{Column}
use Rattle.rx_cover.specs.PlainCells.{plain-Column}
use Rattle.rx_cover.specs.PlainValue.{plain-Value, plain_values, nodes_of}

-- the variants of each enum have numbers of 32 bits
pub record Numbered (D : Declarations) : Type 0 where
  pub each : (i : ℕ) → length (variants_declared (slice_get D i)) < 4294967296

-- a value of the type whose head is none of these, where there is one
abbrev pub Apart : Declarations → Typ → List Head → Option plain.Value → Type 0
Apart D t hs None = (v : plain.Value) → IsOfType D t v → has hs (head_of v) ≡ true
Apart D t hs (Some v) = IsOfType D t v × (has hs (head_of v) ≡ false)

-- a head of the type that is none of these; where a value has another, one has this
pub record HeadFound (D : Declarations) (t : Typ) (hs : List Head) (h : Head) : Type 0 where
  pub fits : IsHead D t h
  pub apart : has hs h ≡ false
  pub begins : (v : plain.Value) → IsOfType D t v → has hs (head_of v) ≡ false → (vs : Values) × AreOfTypes D (types_under D t h) vs

abbrev pub HeadApart : Declarations → Typ → List Head → Option Head → Type 0
HeadApart D t hs None = (v : plain.Value) → IsOfType D t v → has hs (head_of v) ≡ true
HeadApart D t hs (Some h) = HeadFound D t hs h

-- a type has this head alone
abbrev pub Sole : Declarations → Typ → Head → Type 0
Sole D t g = IsHead D t g × ((h : Head) → IsHead D t h → g ≡ h)

-- the magnitude of an integer has 64 bits
abbrev pub Bounded : Head → Type 0
Bounded (whole (negsuc n)) = suc n < 18446744073709551616
Bounded _ = Unit {0}

-- a variant that is none of these has values
abbrev pub VariantFree : Declarations → ℕ → ℕ → List Typ → List Head → Bool → Type 0
VariantFree D i k ts hs true = (has hs (chosen i k) ≡ false) × ((vs : Values) × AreOfTypes D ts vs)
VariantFree D i k ts hs false = (vs : Values) → AreOfTypes D ts vs → has hs (chosen i k) ≡ true

-- a value of the type with this head, where there is one
abbrev pub Headed : Declarations → Typ → Head → Option plain.Value → Type 0
Headed D t h None = (vs : Values) → AreOfTypes D (types_under D t h) vs → ⊥
Headed D t h (Some v) = IsOfType D t v × (head_of v ≡ h)

-- ---- values that are written, node by node

-- the node of a value with this head, and how many parts it has
abbrev pub node_of : Typ → Head → ℕ → Node
node_of t (whole (pos n)) k = Node.Int false n
node_of t (whole (negsuc n)) k = Node.Int true (suc n)
node_of t (truth b) k = Node.Bool b
node_of (named i) composed k = Node.Made i k
node_of t composed k = Node.Tuple k
node_of t (chosen i j) k = Node.Variant i j k
node_of t pointed k = Node.Reference

-- the types of columns from a list's end
abbrev pub awaited_onto : List Typ → List Column → List Typ
awaited_onto ts [] = ts
awaited_onto ts (c ∷ cs) = awaited_onto (plain-Column c ∷ ts) cs

abbrev pub awaited : List Column → List Typ
awaited cs = awaited_onto [] cs

-- a node is written, and its parts are awaited
pub record Begun (D : Declarations) (t : Typ) (h : Head) (pending awaiting : List Column) (old new : List Node) : Type 0 where
  pub awaits : awaited awaiting ≡ types_under D t h ++ awaited pending
  pub written : new ≡ old ++ node_of t h (length (types_under D t h)) ∷ []

-- a value of the type is begun, or there is none
abbrev pub Begins : Declarations → Typ → List Column → List Column → List Node → List Node → Bool → Type 0
Begins D t pending awaiting old new true = (h : Head) × HeadFound D t [] h × Begun D t h pending awaiting old new
Begins D t pending awaiting old new false = HeadApart D t [] None

-- values of these types are written, or there are none
abbrev pub Writes : Declarations → List Typ → List Node → List Node → Bool → Type 0
Writes D ts old new true = (vs : Values) × AreOfTypes D ts vs × (new ≡ old ++ nodes_of vs)
Writes D ts old new false = (vs : Values) → AreOfTypes D ts vs → ⊥

-- what stands at an item's number
pub data IsStruct : Option Declared → List FieldDeclared → Type 0 where
  a_struct : {c : Bool} {l : ℕ} {fs : List FieldDeclared} → IsStruct (Some (struct_declared c l fs)) fs

pub data IsEnum : Option Declared → List VariantDeclared → Type 0 where
  an_enum : {c : Bool} {l : ℕ} {vs : List VariantDeclared} → IsEnum (Some (enum_declared c l vs)) vs

-- an integer up to this magnitude that is none of these
abbrev pub Free : List Head → Bool → ℕ → Option ℕ → Type 0
Free hs g most None = (m : ℕ) → m ≤ most → has hs (whole (with_sign g m)) ≡ true
Free hs g most (Some m) = (m ≤ most) × (has hs (whole (with_sign g m)) ≡ false)

-- a list has values of these types more, or there are none
pub record Added (D : Declarations) (ts : List Typ) (old new : List Value) : Type 0 where
  pub more : List Value
  pub is : new ≡ old ++ more
  pub typed : AreOfTypes D ts (plain_values more)

abbrev pub Adds : Declarations → List Typ → List Value → List Value → Bool → Type 0
Adds D ts old new true = Added D ts old new
Adds D ts old new false = (vs : Values) → AreOfTypes D ts vs → ⊥

-- the values of a list from its end
abbrev pub stacked_onto : Values → List Value → Values
stacked_onto ws [] = ws
stacked_onto ws (v ∷ vs) = stacked_onto (value_and (plain-Value v) ws) vs

abbrev pub stacked : List Value → Values
stacked vs = stacked_onto no_value vs

-- values that no row matches, from a list's end, where there are such
abbrev pub Settles : Declarations → List Typ → List Row → Option (List Value) → Type 0
Settles D ts rows None = CoversAll D ts rows
Settles D ts rows (Some vs) = Misses D ts rows (stacked vs)

-- the parts of a first value with this head are filled in
pub record Rebuilt (D : Declarations) (t : Typ) (h : Head) (mask : List Bool) (us ts : List Typ) (stack all : List Value) : Type 0 where
  pub parts : Values
  pub others : Values
  pub typed : AreOfTypes D us parts
  pub rest : AreOfTypes D ts others
  pub kept : kept_values mask parts others ≡ stacked stack
  pub is : stacked all ≡ value_and (with_head t h parts) others

abbrev pub Rebuilds : Declarations → Typ → Head → List Bool → List Typ → List Typ → List Value → Option (List Value) → Type 0
Rebuilds D t h mask us ts stack None = (vs : Values) → AreOfTypes D us vs → ⊥
Rebuilds D t h mask us ts stack (Some all) = Rebuilt D t h mask us ts stack all

-- the same for the values whose first has this head
abbrev pub SettlesHead : Declarations → Typ → List Typ → Head → List Row → Option (List Value) → Type 0
SettlesHead D t ts h rows None = CoversHead D t ts h rows
SettlesHead D t ts h rows (Some vs) = MissesHead D t ts h rows (stacked vs)

-- one of the heads from one place to before another
abbrev pub SettlesRange : Declarations → Typ → List Typ → List Head → ℕ → ℕ → List Row → Option (List Value) → Type 0
SettlesRange D t ts hs low high rows None = CoversRange D t ts hs low high rows
SettlesRange D t ts hs low high rows (Some vs) = MissesRange D t ts hs low high rows (stacked vs)

-- one of these heads
abbrev pub SettlesHeads : Declarations → Typ → List Typ → List Head → List Row → Option (List Value) → Type 0
SettlesHeads D t ts hs rows None = CoversHeads D t ts hs rows
SettlesHeads D t ts hs rows (Some vs) = Misses D (t ∷ ts) rows (stacked vs)

-- the marked parts are taken from the end of a list, the others found
pub record Refilled (D : Declarations) (mask : List Bool) (us ts : List Typ) (stack parts left new : List Value) : Type 0 where
  pub more : List Value
  pub is : new ≡ parts ++ more
  pub typed : AreOfTypes D us (plain_values more)
  pub rest : AreOfTypes D ts (stacked left)
  pub kept : kept_values mask (plain_values more) (stacked left) ≡ stacked stack

abbrev pub Refills : Declarations → List Bool → List Typ → List Typ → List Value → List Value → List Value → List Value → Bool → Type 0
Refills D mask us ts stack parts left new true = Refilled D mask us ts stack parts left new
Refills D mask us ts stack parts left new false = (vs : Values) → AreOfTypes D us vs → ⊥

-- the last value of a list is moved to the end of another
pub data Takes : List Value → List Value → List Value → List Value → Bool → Type 0 where
  takes : {stack parts left new : List Value} (v : Value) → stack ≡ left ++ v ∷ [] → new ≡ parts ++ v ∷ [] → Takes stack parts left new true
  takes_none : {stack parts left new : List Value} → stack ≡ [] → Takes stack parts left new false

-- a value at the end of a list
pub data Finished : List Value → plain.Value → List Value → Type 0 where
  at_end : {stack new : List Value} {w : plain.Value} (v : Value) → new ≡ stack ++ v ∷ [] → plain-Value v ≡ w → Finished stack w new

-- a stack has values of these types, and more
pub record Stacked (D : Declarations) (ts : List Typ) (stack : List Value) : Type 0 where
  pub typed : AreOfTypes D ts (stacked stack)

-- all are heads of the type
abbrev pub AllHeads : Declarations → Typ → List Head → Type 0
AllHeads D t [] = Unit {0}
AllHeads D t (h ∷ hs) = IsHead D t h × AllHeads D t hs

-- heads of the type, each once
pub record HeadsOf (D : Declarations) (t : Typ) (hs : List Head) : Type 0 where
  pub fit : AllHeads D t hs
  pub distinct : Distinct hs

-- the stack with a value apart from these heads at its end, where there is one
abbrev pub Besides : Declarations → Typ → List Head → List Value → Option (List Value) → Type 0
Besides D t hs stack None = (v : plain.Value) → IsOfType D t v → has hs (head_of v) ≡ true
Besides D t hs stack (Some all) = (v : plain.Value) × IsOfType D t v × (has hs (head_of v) ≡ false) × (stacked all ≡ value_and v (stacked stack))

-- a value that no pattern matches, where there is one
abbrev pub Missed : Declarations → Typ → List Pattern → Option plain.Value → Type 0
Missed D t ps None = Covers D t ps
Missed D t ps (Some v) = IsOfType D t v × (SomeMatches ps v → ⊥)

-- the last of a list
abbrev pub IsLast : List Value → Option Value → Type 0
IsLast stack None = stack ≡ []
IsLast stack (Some v) = (rest : List Value) × (stack ≡ rest ++ v ∷ [])

abbrev pub MissedTyp : Declarations → Option Typ → List Pattern → Option plain.Value → Type 0
MissedTyp D o ps None = CoversTyp D o ps
MissedTyp D o ps (Some v) = MissesTyp D o ps v
