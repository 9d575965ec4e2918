-- Other bounds for a function: what is declared, with these bounds in the signature of one function and nothing else changed (Rust
-- Reference, "Lifetime bounds").
use Rattle.std.specs.Prelude.{◌≡◌, ℕ, zero, suc, List, [], ◌∷◌, Option, Some}
use Rattle.rx_core.specs.declared.types.Bound.{Bound}
use Rattle.rx_core.specs.declared.types.Ty.{Ty}
use Rattle.rx_typed.specs.declared.declarations.Decl.{Decl}
use Rattle.rx_typed.specs.declared.declarations.Decl.TheVariants as decl
use Rattle.rx_typeck_typed.specs.declared.typed.Typed.{Typed}

-- a function with these bounds in place of its own
abbrev pub bounded : List Bound → Decl → Decl
bounded bs decl.Rt = decl.Rt
bounded bs (decl.Struct c l vs fs) = decl.Struct c l vs fs
bounded bs (decl.Enum c l vs ds) = decl.Enum c l vs ds
bounded bs (decl.Func l ps t old) = decl.Func l ps t bs

-- the item of this number with these
abbrev pub with_bounds : List Decl → ℕ → List Bound → List Decl
with_bounds [] i bs = []
with_bounds (d ∷ ds) zero bs = bounded bs d ∷ ds
with_bounds (d ∷ ds) (suc i) bs = d ∷ with_bounds ds i bs

-- an item that is a function
pub record IsFunction (o : Option Decl) : Type 0 where
  pub lifetimes : ℕ
  pub params : List Ty
  pub answer : Ty
  pub bounds : List Bound
  pub is : o ≡ Some (decl.Func lifetimes params answer bounds)

-- the second typed program is the first, but that the function of an item has these bounds
pub record IsBounded (t : Typed) (i : ℕ) (bs : List Bound) (u : Typed) : Type 0 where
  pub functions : u.functions ≡ t.functions
  pub items : u.decls.items ≡ with_bounds t.decls.items i bs
