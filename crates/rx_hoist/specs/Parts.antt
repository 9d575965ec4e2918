-- The first number of parts past the limit, in 64 bits (Rust Reference, "Types").
use Rattle.std.specs.Prelude.{ℕ, nat_lt, if◌then◌else◌, List, ◌∷◌, ◌++◌, length, map, Option, Some, None}
use Rattle.rx_typed.specs.Types.{Typ, parts, sum_of_parts, at_least_one, shapes_of}
use Rattle.rx_hoist_extraction.specs.Plan.{Plan}
use Rattle.rx_hoist_extraction.specs.NewFunction.{passed_types}
use Rattle.rx_hoist_extraction.specs.Limits.{end_types, enum_parts, first_past}
use Rattle.rx_hoist_made.specs.Counts.{capped}

abbrev pub past : ℕ → Option ℕ
past n = if nat_lt 4096 n then Some n else None

abbrev pub first : (ℕ → ℕ) → List Typ → Option ℕ
first Z ts = first_past 4096 (map (λ t. capped (parts Z t)) ts)

-- those of the one type, or of the tuple; none of nothing
abbrev pub together_parts : (ℕ → ℕ) → List Typ → ℕ
together_parts Z ts =
    if nat_lt (length ts) 2 then capped (sum_of_parts Z (shapes_of ts)) else capped (at_least_one (sum_of_parts Z (shapes_of ts)))

abbrev pub signature_types : Plan → List Typ
signature_types pl = passed_types pl.params ++ end_types pl

abbrev pub enum_past : (ℕ → ℕ) → Plan → Option ℕ
enum_past Z pl = first_past 4096 (capped (enum_parts Z pl) ∷ map (λ t. capped (parts Z t)) (passed_types pl.params))
