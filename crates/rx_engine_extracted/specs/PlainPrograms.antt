-- Typed programs, as those of the code stand for them.
use Rattle.std.specs.Prelude.{ℕ, nat_eq, Bool, ◌||◌, List, drop, Option, Some, map, option_map}
use Rattle.std.proofs.Common.{Bor}
use Rattle.rx_typed.specs.Tree.{Function}
use Rattle.rx_typed.specs.PlainTree.{plain-TypedTree}
use Rattle.rx_typed.specs.declared.tree.TypedTree.{TypedTree}
use Rattle.rx_meaning.specs.Expressions.{Functions}
use Rattle.rx_meaning.specs.Programs.{Program}
use Rattle.rx_meaning.specs.Values.{element}
use Rattle.rx_engine_alike.specs.Functions.{same_item}
use Rattle.rx_engine_extracted.specs.Told.{Told}
use Rattle.rx_engine_extracted.specs.Programs.{others_stay}
use Rattle.rx_engine_extracted.specs.declared.programs.Whole.{Whole}

-- the function of an item, or none
abbrev pub plain-Tree : Option (Bor TypedTree) → Option Function
plain-Tree o = option_map (λ t. plain-TypedTree t.now) o

abbrev pub plain-Functions : List (Option (Bor TypedTree)) → Functions
plain-Functions l = map (λ o. plain-Tree o) l

abbrev pub plain-Whole : Whole → Program
plain-Whole p = record { functions = plain-Functions p.functions.now; main = p.main }

-- an item is this one, or stays
abbrev pub stays_of : (ℕ → ℕ) → ℕ → Functions → ℕ → Option Function → Bool
stays_of items item Q f o = nat_eq f item || same_item items (Some o) (element Q (items f))

-- from this item on
abbrev pub others_from : Told → ℕ → List (Option (Bor TypedTree)) → List (Option (Bor TypedTree)) → ℕ → Bool
others_from T item Q P f = others_stay T item (plain-Functions Q) f (plain-Functions (drop f P))
