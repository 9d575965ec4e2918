-- Matrices of patterns: rows of patterns for a list of values.
use Rattle.std.specs.Prelude.{◌≡◌, ℕ, suc, ◌+◌, ◌<◌, ◌≤◌, nat_le, nat_lt, not, Bool, true, false, ◌&&◌, ◌||◌, if◌then◌else◌, ◌⊎◌, List, [], ◌∷◌, ◌++◌, Option, Some, None, slice_set}
use Rattle.rx_typed.specs.Types.{Typ, Declarations}
use Rattle.rx_typed.specs.Tree.{Pattern, any, bind, exactly, parts, variant, behind, Subpatterns, no_part, part_and}
use Rattle.rx_cover.specs.Values.{Value, Values, no_value, value_and, IsOfType, AreOfTypes}
use Rattle.rx_cover.specs.Matching.{part_of, Matches}
use Rattle.rx_cover.specs.Heads.{Head, head_in, parts_in, head_of, same_head, has, place, with_one, IsHead, is_head}

abbrev pub Row : Type 0
Row = List Pattern

-- what is past the end of either is free
abbrev pub MatchRow : Row → Values → Type 0
MatchRow [] vs = Unit {0}
MatchRow (p ∷ ps) no_value = Unit {0}
MatchRow (p ∷ ps) (value_and v vs) = Matches p v × MatchRow ps vs

abbrev pub SomeRow : List Row → Values → Type 0
SomeRow [] vs = ⊥
SomeRow (r ∷ rs) vs = MatchRow r vs ⊎ SomeRow rs vs

-- every list of values of these types matches some row
pub record CoversAll (D : Declarations) (ts : List Typ) (rows : List Row) : Type 0 where
  pub each : (vs : Values) → AreOfTypes D ts vs → SomeRow rows vs

-- values of these types that no row matches
pub record Misses (D : Declarations) (ts : List Typ) (rows : List Row) (vs : Values) : Type 0 where
  pub typed : AreOfTypes D ts vs
  pub apart : SomeRow rows vs → ⊥

-- every such list whose first value has this head
pub record CoversHead (D : Declarations) (t : Typ) (ts : List Typ) (h : Head) (rows : List Row) : Type 0 where
  pub each : (v : Value) (vs : Values) → IsOfType D t v → AreOfTypes D ts vs → head_of v ≡ h → SomeRow rows (value_and v vs)

-- such a list that no row matches, whose first value has this head
pub record MissesHead (D : Declarations) (t : Typ) (ts : List Typ) (h : Head) (rows : List Row) (vs : Values) : Type 0 where
  pub misses : Misses D (t ∷ ts) rows vs
  pub first : Value
  pub others : Values
  pub is : vs ≡ value_and first others
  pub headed : head_of first ≡ h

-- the same of the heads from one place of a list to before another
pub record CoversRange (D : Declarations) (t : Typ) (ts : List Typ) (heads : List Head) (low high : ℕ) (rows : List Row) : Type 0 where
  pub each : (v : Value) (vs : Values) → IsOfType D t v → AreOfTypes D ts vs → low ≤ place heads (head_of v) → place heads (head_of v) < high → SomeRow rows (value_and v vs)

pub record MissesRange (D : Declarations) (t : Typ) (ts : List Typ) (heads : List Head) (low high : ℕ) (rows : List Row) (vs : Values) : Type 0 where
  pub misses : Misses D (t ∷ ts) rows vs
  pub first : Value
  pub others : Values
  pub is : vs ≡ value_and first others
  pub from : low ≤ place heads (head_of first)
  pub before : place heads (head_of first) < high

-- every such list whose first value has one of these heads
pub record CoversHeads (D : Declarations) (t : Typ) (ts : List Typ) (heads : List Head) (rows : List Row) : Type 0 where
  pub each : (v : Value) (vs : Values) → IsOfType D t v → AreOfTypes D ts vs → has heads (head_of v) ≡ true → SomeRow rows (value_and v vs)

-- ---- what a head leaves of a matrix

abbrev pub asks : Pattern → Bool
asks any = false
asks (bind n x m) = false
asks _ = true

-- marks the parts of which something is asked
abbrev pub mark_parts : List Bool → Subpatterns → List Bool
mark_parts mask no_part = mask
mark_parts mask (part_and i p ps) = mark_parts (if asks p then slice_set mask i true else mask) ps

-- a head is this one
abbrev pub is_it : Option Head → Head → Bool
is_it None h = false
is_it (Some g) h = same_head g h

-- what is asked of a value with this head may hold
abbrev pub admits : Option Head → Head → Bool
admits None h = true
admits (Some g) h = same_head g h

abbrev pub mark_row : Head → List Bool → Row → List Bool
mark_row h mask [] = mask
mark_row h mask (p ∷ ps) = if is_it (head_in p) h then mark_parts mask (parts_in p) else mask

abbrev pub mark_rows : Head → List Bool → List Row → List Bool
mark_rows h mask [] = mask
mark_rows h mask (r ∷ rs) = mark_rows h (mark_row h mask r) rs

-- the marked parts, from a number on, in front of a row
abbrev pub kept_parts : List Bool → ℕ → Subpatterns → Row → Row
kept_parts [] k ps rest = rest
kept_parts (true ∷ mask) k ps rest = part_of ps k ∷ kept_parts mask (suc k) ps rest
kept_parts (false ∷ mask) k ps rest = kept_parts mask (suc k) ps rest

abbrev pub row_under : Head → List Bool → Row → List Row
row_under h mask [] = [] ∷ []
row_under h mask (p ∷ ps) = if admits (head_in p) h then kept_parts mask 0 (parts_in p) ps ∷ [] else []

-- what the rows ask of the marked parts of a first value with this head, and of the other values
abbrev pub rows_under : Head → List Bool → List Row → List Row
rows_under h mask [] = []
rows_under h mask (r ∷ rs) = row_under h mask r ++ rows_under h mask rs

abbrev pub row_beside : Row → List Row
row_beside [] = [] ∷ []
row_beside (p ∷ ps) = if asks p then [] else ps ∷ []

-- the rows that ask nothing of the first value, without it
abbrev pub rows_beside : List Row → List Row
rows_beside [] = []
rows_beside (r ∷ rs) = row_beside r ++ rows_beside rs

abbrev pub kept_types : List Bool → List Typ → List Typ → List Typ
kept_types (true ∷ mask) (u ∷ us) ts = u ∷ kept_types mask us ts
kept_types (false ∷ mask) (u ∷ us) ts = kept_types mask us ts
kept_types _ _ ts = ts

abbrev pub kept_values : List Bool → Values → Values → Values
kept_values (true ∷ mask) (value_and v vs) ws = value_and v (kept_values mask vs ws)
kept_values (false ∷ mask) (value_and v vs) ws = kept_values mask vs ws
kept_values _ _ ws = ws

-- the heads in a column
abbrev pub add_head_in : Option Head → List Head → List Head
add_head_in None hs = hs
add_head_in (Some h) hs = h ∷ hs

abbrev pub column_heads : List Row → List Head
column_heads [] = []
column_heads ([] ∷ rs) = column_heads rs
column_heads ((p ∷ ps) ∷ rs) = add_head_in (head_in p) (column_heads rs)

-- a row that asks nothing
abbrev pub is_open : Row → Bool
is_open [] = true
is_open (p ∷ ps) = not (asks p) && is_open ps

abbrev pub some_open : List Row → Bool
some_open [] = false
some_open (r ∷ rs) = is_open r || some_open rs

-- these are all heads of the type that the column has
pub record AreHeads (D : Declarations) (t : Typ) (rows : List Row) (hs : List Head) : Type 0 where
  pub all : (h : Head) → IsHead D t h → has hs h ≡ false → has (column_heads rows) h ≡ false

-- ---- how much is asked

abbrev mutual
  pub weight : Pattern → ℕ
  weight any = 0
  weight (bind n x m) = 0
  weight (exactly n c) = 1
  weight (parts ps) = suc (weight_parts ps)
  weight (variant n i b k ps) = suc (weight_parts ps)
  weight (behind m p) = 2 + weight p

  pub weight_parts : Subpatterns → ℕ
  weight_parts no_part = 0
  weight_parts (part_and i p ps) = suc (weight p) + weight_parts ps

abbrev pub row_weight : Row → ℕ
row_weight [] = 0
row_weight (p ∷ ps) = weight p + row_weight ps

abbrev pub rows_weight : List Row → ℕ
rows_weight [] = 0
rows_weight (r ∷ rs) = row_weight r + rows_weight rs

-- ---- the heads of a type that a column has, each once

abbrev pub row_head : Row → Option Head
row_head [] = None
row_head (p ∷ ps) = head_in p

abbrev pub with_head_in : Declarations → Typ → List Head → Option Head → List Head
with_head_in D t hs None = hs
with_head_in D t hs (Some h) = if is_head D t h then with_one hs h else hs

abbrev pub gather : Declarations → Typ → List Head → List Row → List Head
gather D t hs [] = hs
gather D t hs (r ∷ rs) = gather D t (with_head_in D t hs (row_head r)) rs

-- no two are the same
abbrev pub Distinct : List Head → Type 0
Distinct [] = Unit {0}
Distinct (h ∷ hs) = (has hs h ≡ false) × Distinct hs

-- ---- the rows that ask for one of the heads from one place to before another, or for none

abbrev pub head_within : List Head → ℕ → ℕ → Option Head → Bool
head_within hs low high None = true
head_within hs low high (Some h) = nat_le low (place hs h) && nat_lt (place hs h) high

abbrev pub rows_within : List Head → ℕ → ℕ → List Row → List Row
rows_within hs low high [] = []
rows_within hs low high (r ∷ rs) = if head_within hs low high (row_head r) then r ∷ rows_within hs low high rs else rows_within hs low high rs

abbrev pub mark_one : List Bool → ℕ → Bool → List Bool
mark_one mask i b = if b then slice_set mask i true else mask

abbrev pub rest_of : Row → Row
rest_of [] = []
rest_of (p ∷ ps) = ps

-- one column of patterns
abbrev pub single_rows : List Pattern → List Row
single_rows [] = []
single_rows (p ∷ ps) = (p ∷ []) ∷ single_rows ps
