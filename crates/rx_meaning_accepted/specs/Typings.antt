-- The types by which a function acts: those of its variables are the assignment's, and a temporary has the type that what fills it gets
-- there (Rust Reference, "Expressions", "Temporaries"; "Type coercions").
use Rattle.std.specs.Prelude.{ℕ, Option, Some, None, slice_get}
use Rattle.rx_typed.specs.Types.{Typ, unit_shape, result_declared}
use Rattle.rx_typed.specs.Named.{Function}
use Rattle.rx_typed.specs.Elaborated.{Assigned}
use Rattle.rx_meaning_typed.specs.TypedActs.{Typing}
use Rattle.rx_repair.specs.TemporaryTypes.{temporary_types}

-- of what is no function, the unit
abbrev pub result_or : Option Typ → Typ
result_or None = unit_shape
result_or (Some t) = t

abbrev pub typing_of : Assigned → (ℕ → Typ) → Function → Typing
typing_of T variables f = record {
  declared = T.items;
  variables = variables;
  temporaries = temporary_types T variables f;
  result = result_or (result_declared (slice_get T.items f.item));
}
