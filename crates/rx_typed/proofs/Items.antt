-- What is declared at an item's number, plainly.
use Rattle.std.proofs.Common.{◌≡◌, ℕ, List, Option, option_map, slice_get}
use Rattle.std.proofs.lemmas.Option.{slice_get-map}
use Rattle.rx_typed.specs.declared.declarations.Decl.{Decl}
use Rattle.rx_typed.specs.PlainTypes.{plain-Decl, declarations}

pub declared_at : (ds : List Decl) (i : ℕ) → slice_get (declarations ds) i ≡ option_map plain-Decl (slice_get ds i)
declared_at ds i = slice_get-map plain-Decl ds i
