-- The enum of exits, where there is an exit other than Next (REM, "Extract function", control flow as values; Rust Reference,
-- "Enumerations"). Each exit is a variant whose fields are the types of what it hands out. The enum has one lifetime parameter
-- for each lifetime position of these types.
use Rattle.std.specs.Prelude.{ℕ, ◌+◌, List, [], ◌∷◌, ◌++◌}
use Rattle.rx_core.specs.declared.types.Span.{Span}
use Rattle.rx_tree.specs.Plain.{VariantOf, Enumeration, ProgramTree}
use Rattle.rx_typed.specs.Types.{Typ}
use Rattle.rx_hoist_extraction.specs.Plan.{Leaving, Plan, enum_name, exit_name}
use Rattle.rx_hoist_extraction.specs.Values.{values_of, types_of}
use Rattle.rx_hoist_extraction.specs.Fresh.{fresh_lifetime}
use Rattle.rx_hoist_extraction.specs.Made.{ident}
use Rattle.rx_hoist_extraction.specs.WrittenTypes.{positions_of, lifetimes_from, each_full}

abbrev pub fields_at : Plan → Leaving → List Typ
fields_at pl x = types_of (values_of pl x)

abbrev pub all_fields : Plan → List Leaving → List Typ
all_fields pl [] = []
all_fields pl (x ∷ xs) = fields_at pl x ++ all_fields pl xs

abbrev pub enum_positions : ProgramTree → Plan → ℕ
enum_positions P pl = positions_of P (all_fields pl pl.exits)

-- the next lifetime has number n
abbrev pub variants : ProgramTree → Plan → Span → ℕ → List Leaving → List VariantOf
variants P pl r n [] = []
variants P pl r n (x ∷ xs) = let ts = fields_at pl x in
    record { name = ident r (exit_name x.exit); types = each_full P r (fresh_lifetime pl.lifetimes) n ts }
    ∷ variants P pl r (n + positions_of P ts) xs

abbrev pub new_enum : ProgramTree → Plan → Span → Enumeration
new_enum P pl r = record {
  name = ident r (enum_name pl);
  derives = [];
  lifetimes = lifetimes_from r (fresh_lifetime pl.lifetimes) 0 (enum_positions P pl);
  variants = variants P pl r 0 pl.exits;
}
