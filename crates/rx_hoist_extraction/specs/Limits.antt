-- How great an extraction is: the parameters and lifetimes of the new function, and the levels and parts of the types that are made
-- (Rust Reference, "Types"). What passes a limit first, in the order of the text, is what a refusal tells.
use Rattle.std.specs.Prelude.{ℕ, suc, ◌+◌, nat_lt, if◌then◌else◌, List, [], ◌∷◌, ◌++◌, length, map, Option, Some, None}
use Rattle.rx_tree.specs.Plain.{ProgramTree}
use Rattle.rx_typed.specs.Types.{Typ, shapes_of, levels, parts, sum_of_parts}
use Rattle.rx_hoist_extraction.specs.Run.{Parts}
use Rattle.rx_hoist_extraction.specs.Plan.{Plan, has_enum}
use Rattle.rx_hoist_extraction.specs.Values.{next_values, types_of}
use Rattle.rx_hoist_extraction.specs.NewEnum.{all_fields}
use Rattle.rx_hoist_extraction.specs.NewFunction.{joined_type, passed_types, copied_lifetimes, signature_positions}

-- the first number past a limit
abbrev pub first_past : ℕ → List ℕ → Option ℕ
first_past limit [] = None
first_past limit (n ∷ ns) = if nat_lt limit n then Some n else first_past limit ns

-- ---- counts

abbrev pub count_parameters : Plan → ℕ
count_parameters pl = length pl.params

-- `run` is the run as it stands in its function, pinned
abbrev pub count_lifetimes : ProgramTree → Plan → Parts → ℕ
count_lifetimes P pl run = length (copied_lifetimes run) + signature_positions P pl

-- ---- types

abbrev pub type_if_any : Option Typ → List Typ
type_if_any None = []
type_if_any (Some t) = t ∷ []

-- the value, or the tuple of the values, that the end hands out: the result, or with an enum what the match on the call is
abbrev pub end_types : Plan → List Typ
end_types pl = type_if_any (joined_type (types_of (next_values pl)))

abbrev pub made_levels : Plan → List ℕ
made_levels pl = map levels ((if has_enum pl.exits then all_fields pl pl.exits else []) ++ (passed_types pl.params ++ end_types pl))

-- `Z` tells the parts of the program's structs and enums; an enum has one and those of all its fields
abbrev pub enum_parts : (ℕ → ℕ) → Plan → ℕ
enum_parts Z pl = suc (sum_of_parts Z (shapes_of (all_fields pl pl.exits)))

abbrev pub made_parts : (ℕ → ℕ) → Plan → List ℕ
made_parts Z pl =
    if has_enum pl.exits then enum_parts Z pl ∷ map (parts Z) (passed_types pl.params)
    else map (parts Z) (passed_types pl.params ++ end_types pl)
