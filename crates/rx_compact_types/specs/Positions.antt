-- The lifetimes of a type in a function by its text: one for each that is written or left out, in the order of the text, and the numbers
-- that they have (Rust Reference, "Lifetime elision", "Type expressions").
use Rattle.std.specs.Prelude.{◌≡◌, ℕ, suc, List, [], ◌∷◌, ◌++◌, map, Option, Some, None, slice_get}
use Rattle.rx_tree.specs.declared.tree.Ident.{Ident}
use Rattle.rx_tree.specs.Plain as plain
use Rattle.rx_tree.specs.Plain.{TypeTree, TypeTrees, Parameter, ProgramTree}
use Rattle.rx_resolve_names.specs.Scopes.{DeclaredNames}
use Rattle.rx_resolve_names.specs.Meant.{type_name, item_named, as_type, number_in}
use Rattle.rx_typed.specs.Regions.{RegionTyp, region_integer, region_boolean, region_tuple, region_reference, region_named, RegionTyps, no_region, region_and}
use Rattle.rx_typeck_typed.specs.Written.{lifetimes_of}

-- a lifetime where it stands, by its name; `None` is one that is left out
abbrev pub Position : Type 0
Position = Option (List ℕ)

abbrev pub position : Option Ident → Position
position None = None
position (Some x) = Some x.name

abbrev pub or_zero : Option ℕ → ℕ
or_zero None = 0
or_zero (Some n) = n

-- the struct or enum of a name
abbrev pub item_of : ProgramTree → Ident → ℕ
item_of p x = or_zero (as_type (item_named type_name 0 p x.name))

-- a list that is not written leaves out each lifetime that is declared
abbrev pub all_left_out : List Ident → List Position
all_left_out [] = []
all_left_out (d ∷ ds) = None ∷ all_left_out ds

abbrev pub listed_at : ProgramTree → Ident → Option (List (Option Ident)) → List Position
listed_at p x None = all_left_out (lifetimes_of (slice_get p (item_of p x)))
listed_at p x (Some ls) = map position ls

abbrev mutual
  pub positions : ProgramTree → TypeTree → List Position
  positions p (plain.kind_type s k) = []
  positions p (plain.bool_type s) = []
  positions p (plain.tuple_type s ts) = all_positions p ts
  positions p (plain.ref_type s l m t) = position l ∷ positions p t
  positions p (plain.named_type s x ls) = listed_at p x ls

  pub all_positions : ProgramTree → TypeTrees → List Position
  all_positions p plain.no_type = []
  all_positions p (plain.type_and t ts) = positions p t ++ all_positions p ts

abbrev pub parameter_positions : ProgramTree → List Parameter → List Position
parameter_positions p [] = []
parameter_positions p (x ∷ xs) = positions p x.typ ++ parameter_positions p xs

abbrev pub optional_positions : ProgramTree → Option TypeTree → List Position
optional_positions p None = []
optional_positions p (Some t) = positions p t

-- ---- numbers

-- where a type stands: in a parameter, in a result, with the only lifetime of the parameters, where there is one, or in a `let`, in which
-- what is left out has this number
pub data Standing : Type 0 where
  as_parameter : Standing
  as_result : Option ℕ → Standing
  as_let : ℕ → Standing

abbrev pub number_of : DeclaredNames → List ℕ → ℕ
number_of L x = or_zero (number_in L x)

-- of one that is left out, where the next that has one of its own would have this; and the next behind it
abbrev pub given : Standing → ℕ → ℕ
given as_parameter k = k
given (as_result l) k = or_zero l
given (as_let l) k = l

abbrev pub after : Standing → ℕ → ℕ
after as_parameter k = suc k
after _ k = k

abbrev pub numbers : Standing → DeclaredNames → ℕ → List Position → List ℕ
numbers e L k [] = []
numbers e L k (None ∷ xs) = given e k ∷ numbers e L (after e k) xs
numbers e L k (Some x ∷ xs) = number_of L x ∷ numbers e L k xs

abbrev pub ends : Standing → ℕ → List Position → ℕ
ends e k [] = k
ends e k (None ∷ xs) = ends e (after e k) xs
ends e k (Some x ∷ xs) = ends e k xs

-- what may be left out is: in a result, where the parameters have one lifetime
abbrev pub NoneLeftOut : List Position → Type 0
NoneLeftOut [] = Unit {0}
NoneLeftOut (None ∷ xs) = ⊥
NoneLeftOut (Some x ∷ xs) = NoneLeftOut xs

abbrev pub MayLeaveOut : Standing → List Position → Type 0
MayLeaveOut as_parameter xs = Unit {0}
MayLeaveOut (as_result None) xs = NoneLeftOut xs
MayLeaveOut (as_result (Some l)) xs = Unit {0}
MayLeaveOut (as_let l) xs = Unit {0}

-- each that is written is declared
abbrev pub AllMeant : DeclaredNames → List Position → Type 0
AllMeant L [] = Unit {0}
AllMeant L (None ∷ xs) = AllMeant L xs
AllMeant L (Some x ∷ xs) = ((n : ℕ) × (number_in L x ≡ Some n)) × AllMeant L xs

-- ---- the type without numbers: each lifetime has the number 0

abbrev pub zero_each : List Position → List ℕ
zero_each xs = map (λ (x : Position). 0) xs

abbrev mutual
  pub unnumbered_type : ProgramTree → TypeTree → RegionTyp
  unnumbered_type p (plain.kind_type s k) = region_integer k
  unnumbered_type p (plain.bool_type s) = region_boolean
  unnumbered_type p (plain.tuple_type s ts) = region_tuple (unnumbered_types p ts)
  unnumbered_type p (plain.ref_type s l m t) = region_reference m 0 (unnumbered_type p t)
  unnumbered_type p (plain.named_type s x ls) = region_named (item_of p x) (zero_each (listed_at p x ls))

  pub unnumbered_types : ProgramTree → TypeTrees → RegionTyps
  unnumbered_types p plain.no_type = no_region
  unnumbered_types p (plain.type_and t ts) = region_and (unnumbered_type p t) (unnumbered_types p ts)

abbrev pub unnumbered_parameters : ProgramTree → List Parameter → RegionTyps
unnumbered_parameters p [] = no_region
unnumbered_parameters p (x ∷ xs) = region_and (unnumbered_type p x.typ) (unnumbered_parameters p xs)

abbrev pub no_number : ℕ → ℕ
no_number l = 0
