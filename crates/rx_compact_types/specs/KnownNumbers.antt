-- The numbers that the lifetimes of a function get where it has a short signature: they are the new function's, which has no more, and
-- several get one only where they are known to outlive each other (Rust Reference, "Lifetime bounds").
use Rattle.std.specs.Prelude.{◌≡◌, ℕ, ◌<◌, ◌≤◌, List, Option}
use Rattle.rx_typed.specs.declared.declarations.Decl.{Decl}
use Rattle.rx_typeck_typed.specs.Bindings.{lifetimes}
use Rattle.rx_compact.specs.Outliving.{Outlives}

pub record AreKnownNumbers (D : List Decl) (d e : Option Decl) (f : ℕ → ℕ) : Type 0 where
  pub within : (l : ℕ) → l < lifetimes d → f l < lifetimes e
  pub known : (l k : ℕ) → l < lifetimes d → k < lifetimes d → f l ≡ f k → Outlives D d l k
  pub fewer : lifetimes e ≤ lifetimes d
