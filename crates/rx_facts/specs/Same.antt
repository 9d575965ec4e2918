-- What two typed programs of one text share: their declarations but for the polarities that are recorded, and of each function
-- its places, its tree and the types of its variables.
use Rattle.std.specs.Prelude.{◌≡◌, map, option_map}
use Rattle.rx_typed.specs.Regions.{region-Ty}
use Rattle.rx_typed_declarations.specs.Variance.{unrecorded}
use Rattle.rx_typeck_typed.specs.declared.typed.Typed.{Typed}
use Rattle.rx_typeck_typed.specs.declared.typed.TypedFn.{TypedFn}
use Rattle.rx_lower.specs.Functions.{trimmed, written}
use Rattle.rx_facts.specs.Passing.{Each}
use Rattle.rx_facts.specs.Functions.{body}

pub record SameFunction (f g : TypedFn) : Type 0 where
  pub item : f.item ≡ g.item
  pub names : f.names ≡ g.names
  pub spans : f.spans ≡ g.spans
  pub mutable : f.mutable ≡ g.mutable
  pub bodies : body f ≡ body g
  pub types : map (option_map region-Ty) (trimmed f.variables) ≡ map (option_map region-Ty) (trimmed g.variables)
  pub annotated : map written f.annotations ≡ map written g.annotations

pub record AreSame (t u : Typed) : Type 0 where
  pub items : map unrecorded t.decls.items ≡ map unrecorded u.decls.items
  pub functions : Each SameFunction t.functions u.functions
