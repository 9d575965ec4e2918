-- The first number of levels past the limit, in 64 bits (Rust Reference, "Types").
use Rattle.std.specs.Prelude.{ℕ, suc, nat_lt, if◌then◌else◌, List, [], ◌++◌, length, map, Option, Some, None}
use Rattle.rx_typed.specs.Types.{Typ, levels, most_levels, shapes_of}
use Rattle.rx_hoist_extraction.specs.Plan.{Plan, has_enum}
use Rattle.rx_hoist_extraction.specs.NewEnum.{all_fields}
use Rattle.rx_hoist_extraction.specs.NewFunction.{passed_types}
use Rattle.rx_hoist_extraction.specs.Limits.{end_types, first_past}
use Rattle.rx_hoist_made.specs.Counts.{capped}

abbrev pub past : ℕ → Option ℕ
past n = if nat_lt 128 n then Some n else None

abbrev pub first : List Typ → Option ℕ
first ts = first_past 128 (map (λ t. capped (levels t)) ts)

-- those of the one type, or of the tuple; none of nothing
abbrev pub together_levels : List Typ → ℕ
together_levels ts = if nat_lt (length ts) 2 then capped (most_levels (shapes_of ts)) else capped (suc (most_levels (shapes_of ts)))

abbrev pub enum_types : Plan → List Typ
enum_types pl = if has_enum pl.exits then all_fields pl pl.exits else []

abbrev pub signature_types : Plan → List Typ
signature_types pl = passed_types pl.params ++ end_types pl
