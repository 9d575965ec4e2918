-- What is looked up of plain declarations.
use Rattle.std.proofs.Common.{◌≡◌, ℕ, List, slice_get}
use Rattle.std.specs.Prelude.{option_map}
use Rattle.std.proofs.lemmas.Option.{slice_get-map}
use Rattle.rx_typed.specs.declared.declarations.Decl.{Decl}
use Rattle.rx_typed.specs.PlainTypes.{plain-Decl, declarations}

pub declared_is : (ds : List Decl) (i : ℕ) → slice_get (declarations ds) i ≡ option_map plain-Decl (slice_get ds i)
declared_is ds i = slice_get-map plain-Decl ds i

pub ruleset lookup_rules = (declared_is, slice_get-map)
