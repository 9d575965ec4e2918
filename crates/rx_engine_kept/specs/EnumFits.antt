-- The enum of exits keeps the limits of a declaration: so many parts at most, by the parts of the program's structs and enums, and so many levels
-- of each field (REM, "Extract function"; Rust Reference, "Enumerations").
use Rattle.std.specs.Prelude.{◌≡◌, ℕ, ◌≤◌, true}
use Rattle.rx_tree.specs.Lists.{Every}
use Rattle.rx_typed.specs.Types.{Typ, Declarations, levels}
use Rattle.rx_typed_declarations.specs.Sizes.{Sized}
use Rattle.rx_hoist_extraction.specs.Plan.{Plan, has_enum}
use Rattle.rx_hoist_extraction.specs.NewEnum.{all_fields}
use Rattle.rx_hoist_extraction.specs.Limits.{enum_parts}

abbrev pub EnumFits : Declarations → Plan → Type 0
EnumFits D pl = has_enum pl.exits ≡ true → ((Z : ℕ → ℕ) → Sized D Z → enum_parts Z pl ≤ 4096) × Every (λ (t : Typ). levels t ≤ 128) (all_fields pl pl.exits)
