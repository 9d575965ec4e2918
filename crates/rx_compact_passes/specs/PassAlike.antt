-- Two typed programs that the passes up to initialisation accept alike: matches are covered in the one exactly where they are in the
-- other, functions have as many sites, and are initialised exactly where they were (Rust Reference, "Match expressions"; "Variables").
use Rattle.std.specs.Prelude.{◌≡◌, ◌↔◌, ℕ}
use Rattle.rx_typed.specs.PlainTypes.{declarations}
use Rattle.rx_typeck_typed.specs.declared.typed.Typed.{Typed}
use Rattle.rx_typeck_typed.specs.declared.typed.TypedFn.{TypedFn}
use Rattle.rx_facts.specs.Functions.{IsInitialised, sites_of}
use Rattle.rx_facts.specs.Passing.{AllAre, Each}
use Rattle.rx_check.specs.Passes.{FunctionsCovered}

-- the sites are the same
pub record SameSites (f g : TypedFn) : Type 0 where
  pub sites : sites_of g ≡ sites_of f

pub record PassAlike (t u : Typed) : Type 0 where
  pub declared : declarations u.decls.items ≡ declarations t.decls.items
  pub covered : FunctionsCovered (declarations t.decls.items) t.functions ↔ FunctionsCovered (declarations u.decls.items) u.functions
  pub sites : Each SameSites t.functions u.functions
  pub initialised : (parts : ℕ → ℕ) → AllAre (IsInitialised (declarations t.decls.items) parts) t.functions ↔ AllAre (IsInitialised (declarations u.decls.items) parts) u.functions
