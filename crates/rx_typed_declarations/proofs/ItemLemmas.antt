-- What stands at an item's number, plainly.
use Rattle.std.proofs.Common.{◌≡◌, ℕ, zero, suc, ◌+◌, ◌<◌, List, [], ◌∷◌, length, drop, get_or, slice_get, Option, Some}
use Rattle.std.proofs.Common.{None, option_map, refl, ap, sym, ◌∙◌}
use Rattle.std.proofs.lemmas.List.{at_drop_more}
use Rattle.rx_typed.specs.declared.declarations.Decl.{Decl}
use Rattle.rx_graph_cycles.specs.Reaches.{targets}
use Rattle.rx_typed.specs.Types.{Declared, Declarations}
use Rattle.rx_typed.specs.PlainTypes.{plain-Decl, declarations}
use Rattle.rx_typed_declarations.specs.Held.{held_by, held_by_each}

-- a function of what is left of a list, where the next element is known
pub at_next : {X Y : Type 0} (F : List X → Y) (xs : List X) (i : ℕ) (x : X) → i < length xs → x ≡ get_or xs i x
    → F (drop i xs) ≡ F (x ∷ drop (i + 1) xs)
at_next F xs i x less is = at_drop_more F xs i x less ∙ ap (λ y. F (y ∷ drop (i + 1) xs)) (sym is)

-- what stands at a number holds what the number leads to
abbrev pub held_of : Option Declared → List ℕ
held_of None = []
held_of (Some d) = held_by d

pub targets_held : (D : Declarations) (n : ℕ) → targets (held_by_each D) n ≡ held_of (slice_get D n)
targets_held [] n = refl
targets_held (d ∷ D) zero = refl
targets_held (d ∷ D) (suc n) = targets_held D n
