-- The unit is the tuple without parts.
use Rattle.std.proofs.Common.{◌≡◌, ℕ, suc, ne_eqb, Bool, true, false, List, [], ◌∷◌, length, map, nat_eq, refl, arith}
use Rattle.rx_core.specs.declared.types.Ty.{Ty}
use Rattle.rx_typed.specs.Types.{tuple_of, shapes_of}
use Rattle.rx_typed.specs.PlainTypes.{plain-Ty}
use Rattle.rx_typeck_solver.specs.Facts.{is_unit_typ}

pub unit_tuple : (ts : List Ty) → nat_eq (length ts) 0 ≡ is_unit_typ (tuple_of (shapes_of (map plain-Ty ts)))
unit_tuple [] = refl
unit_tuple (t ∷ ts) = ne_eqb (suc (length ts)) 0 (λ e. omega arith)
